-- A seed has one summary, and each answer tells it, or that there is none, or leaves this open.
use Rattle.std.proofs.Common.{◌∙◌, inl, inr, ℕ, List, sym, ap}
use Rattle.rr_made_input.specs.Made.{made_design, made_table}
use Rattle.rr_endings.specs.Found.{Answer}
use Rattle.rr_repair.specs.Repairs.{Counts}
use Rattle.rr_outcomes.proofs.Alike.{counts_mend, one_counts}
use Rattle.rr_outcomes.proofs.Once.{mendable_or_not}
use Rattle.rr_make.specs.Makes.{EachMake, IsNeverMade, IsUnmade, OneSummary, SummaryOrNone, made_request, summary}

pub one_summary : OneSummary
one_summary seed cert text other (k, (t, p)) (n, (u, q)) =
    t ∙ ap (λ (m : Counts). summary seed m) (one_counts (made_request cert) (made_design seed) (made_table seed) k n p q) ∙ sym u

pub summary_or_none : SummaryOrNone
summary_or_none seed cert text (k, (t, p)) none =
    mendable_or_not (made_request cert) (made_design seed) (made_table seed) (counts_mend (made_request cert) (made_design seed) (made_table seed) k p) none

never_made : (seed : ℕ) (cert : List ℕ) (answer : Answer) → IsUnmade seed cert answer → IsNeverMade seed cert
never_made seed cert answer u = record { file = u.file; sites = u.sites; rows = u.rows; taken = u.taken; none = u.is.none }

pub each_make : EachMake
each_make seed cert answer (inl m) = inl (m, ((m.counts, (m.printed, m.are)), m.status))
each_make seed cert answer (inr (inl u)) = inr (inl (u, (never_made seed cert answer u, u.is.status)))
each_make seed cert answer (inr (inr o)) = inr (inr (o, o.status))
