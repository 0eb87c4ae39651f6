-- What an answer tells.
use Rattle.std.proofs.Common.{◌≡◌, ◌⊎◌, inl, inr, ℕ, ◌+◌, ◌*◌, ◌^◌, ◌<◌, ◌≤◌, List, [], length, subst, arith}
use Rattle.rr_kept.specs.Read.{SourceFile}
use Rattle.rr_choice.specs.Choices.{total_bits}
use Rattle.rr_choice.specs.Sites.{Site}
use Rattle.rr_trace.specs.Tables.{Table}
use Rattle.rr_unroll.specs.Matches.{Matches}
use Rattle.rr_endings.specs.Found.{Answer}
use Rattle.rr_repair.specs.Repairs.{IsAnswer, IsBeyond, IsFound, IsNothingFound, IsOpen, IsRepaired, IsTaken, IsUnchanged, PlainRequest, design_of}
use Rattle.rr_outcomes.specs.Outcomes.{IsAsItWas, IsMatchingSource}
use Rattle.rr_outcomes.specs.Laws.{AmpleSettles, EachAnswer, MatchingStays, PrintedIsMendable, PrintsFound, TellsOutcome}
use Rattle.rr_outcomes.proofs.Once.{matching_mends, moved_matches, one_taking}

module _ (w : PlainRequest) (design table : List ℕ) (answer : Answer) (a : SourceFile) (ss : List Site) (x : Table) (taken : IsTaken w design table a ss x) where
  of_unchanged : IsUnchanged w design a.source x answer → TellsOutcome w design table answer
  of_unchanged u = inl (
    record { file = a; sites = ss; rows = x; taken = taken; is = inl u },
    (matching_mends w design table (record { file = a; sites = ss; rows = x; taken = taken; matches = u.matches }), u.status),
  )

  of_repaired : IsRepaired w design a ss x answer → TellsOutcome w design table answer
  of_repaired r = inl (
    record { file = a; sites = ss; rows = x; taken = taken; is = inr r },
    (record { file = a; sites = ss; rows = x; taken = taken; choice = r.choice; chosen = r.chosen; matches = r.matches }, r.status),
  )

  of_beyond : IsBeyond w a.source ss x answer → TellsOutcome w design table answer
  of_beyond b = inr (inl (
    record { file = a; sites = ss; rows = x; taken = taken; is = b },
    (record { file = a; sites = ss; rows = x; taken = taken; none = b.none }, b.status),
  ))

  of_open : IsOpen w design a ss x answer → TellsOutcome w design table answer
  of_open o = inr (inr (record { file = a; sites = ss; rows = x; taken = taken; is = o }, o.status))

  of_answer : IsAnswer w design a ss x answer → TellsOutcome w design table answer
  of_answer (inl u) = of_unchanged u
  of_answer (inr (inl r)) = of_repaired r
  of_answer (inr (inr (inl b))) = of_beyond b
  of_answer (inr (inr (inr o))) = of_open o

  -- what was found is printed, and matches
  of_found : (bound : ℕ) → IsNothingFound w ss bound answer ⊎ IsFound w design a ss x bound answer →
      ((bound ≡ length ss) × (answer.out ≡ [])) ⊎ ((bound < length ss) × IsMatchingSource w design table (bound + 1) answer.out)
  of_found bound (inl n) = inl (n.all, n.printed)
  of_found bound (inr f) = inr (
    f.below,
    record {
      file = a;
      sites = ss;
      rows = x;
      taken = taken;
      choice = f.choice;
      chosen = f.chosen;
      costs = f.costs;
      matches = f.matches;
      printed = f.printed;
      tree = f.tree;
    },
  )

  -- no other answer has a design that matches
  stays : Matches (design_of w a.source) x → IsAnswer w design a ss x answer → IsAsItWas design answer
  stays matches (inl u) = record { files = u.files; printed = u.printed; notes = u.notes; status = u.status }
  stays matches (inr (inl r)) = absurd (r.faulty matches)
  stays matches (inr (inr (inl b))) = absurd (b.faulty matches)
  stays matches (inr (inr (inr o))) = absurd (o.faulty matches)

  -- a member that has learned its budget has few lines
  settles : total_bits ss * 3 ^ total_bits ss < w.budget → IsAnswer w design a ss x answer → answer.status ≡ 2 → ⊥
  settles more (inl u) two = omega (arith, u.status, two)
  settles more (inr (inl r)) two = omega (arith, r.status, two)
  settles more (inr (inr (inl b))) two = omega (arith, b.status, two)
  settles more (inr (inr (inr o))) two =
      let few : w.budget ≤ total_bits ss * 3 ^ total_bits ss = subst (λ (n : ℕ). w.budget ≤ n * 3 ^ n) o.faithful.inputs o.spent.few in
      omega (arith, more, few)

pub each_answer : EachAnswer
each_answer w design table answer a = of_answer w design table answer a.file a.sites a.rows a.taken a.is

pub prints_found : PrintsFound
prints_found w design table answer o = of_found w design table answer o.file o.sites o.rows o.taken o.is.bound o.is.found

pub printed_is_mendable : PrintedIsMendable
printed_is_mendable w design table answer o = elim (prints_found w design table answer o) [
  | inl n ↦ inl n.1
  | inr f ↦ inr (record { file = f.1.file; sites = f.1.sites; rows = f.1.rows; taken = f.1.taken; choice = f.1.choice; chosen = f.1.chosen; matches = f.1.matches })
]

pub matching_stays : MatchingStays
matching_stays w design table answer m a =
    let one = one_taking w design table m.file a.file m.sites a.sites m.rows a.rows m.taken a.taken in
    stays w design table answer a.file a.sites a.rows a.taken (moved_matches w one m.matches) a.is

pub ample_settles : AmpleSettles
ample_settles w design table answer m a two =
    let one = one_taking w design table m.file a.file m.sites a.sites m.rows a.rows m.taken a.taken in
    settles w design table answer a.file a.sites a.rows a.taken (subst (λ (ss : List Site). total_bits ss * 3 ^ total_bits ss < w.budget) one.sites m.ample) a.is two
