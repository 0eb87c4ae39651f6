-- whether the instance of one choice matches
use Rattle.std.proofs.Common.{◌≡◌, ◌↔◌, Bool, true, List, All, length, subst, ◌∙◌}
use Rattle.rr_choice.specs.Choices.{decode}
use Rattle.rr_choice.specs.Sites.{Site}
use Rattle.rr_trace.specs.Tables.{Table}
use Rattle.rr_transition.specs.Cycles.{Cycle, Design, instance_design}
use Rattle.rr_transition.specs.Transitions.{Transition}
use Rattle.rr_unroll.specs.Matches.{FitsOutputs, Matches}
use Rattle.rr_unroll.specs.Questions.{judged}
use Rattle.rr_unroll.proofs.FaithfulLaws.{instance_judged}
use Rattle.rr_unroll.proofs.MatchLaws.{matches_there, matches_back}

pub instance_matches : (t : Transition) (table : Table) (bits : List Bool) (r : Bool) → length bits ≡ t.choice_bits →
    ((r ≡ true) ↔ All (λ (b : Bool). b ≡ true) (judged t bits t.start table.inputs table.expected)) →
    (j : Design) (sites : List Site) → Cycle j sites t → FitsOutputs t.output_widths table → (r ≡ true) ↔ Matches (instance_design sites (decode sites bits) j) table
instance_matches t table bits r l all j sites stands fits =
    let h = instance_judged t table j sites stands bits (l ∙ stands.choice_bits) in
    let own = subst (λ ws. FitsOutputs ws table) h.widths fits in
    let made : Design = instance_design sites (decode sites bits) j in
    let verdicts : List Bool = judged t bits t.start table.inputs table.expected in
    (λ e. matches_there made table verdicts h.judged own (all.0 e), λ m. all.1 (matches_back made table verdicts h.judged own m))
