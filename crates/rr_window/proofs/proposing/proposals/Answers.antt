use Rattle.std.proofs.Common.{◌≡◌, ◌∙◌, ℕ, Bool, List, Option, subst}
use Rattle.rr_trace.specs.Tables.{Table}
use Rattle.rr_trace.specs.View.{plain_table}
use Rattle.rr_unroll.specs.Walking.{IsFirstMissed}
use Rattle.rr_unroll.proofs.WalkingLaws.{missed_once}
use Rattle.rr_window.specs.Windows.{off}
use Rattle.rr_window.proofs.proposing.proposals.Goals as goal

-- a row is missed there
pub returns-clause-none : goal.returns-clause-none
returns-clause-none g c =
    let t = c.args.transition.now in
    let rows : Table = plain_table c.args.table.now in
    let bits : c.as_slice.result.now ≡ off t = c.as_slice.ensures.value ∙ c.in_ok-bits.ensures.off in
    let first = subst (λ (bs : List Bool). IsFirstMissed t bs rows c.in_ok-miss.field-0) bits c.in_ok-miss.ensures.first in
    λ none. absurd (missed_once t (off t) rows c.in-Some.miss (subst (λ (o : Option ℕ). IsFirstMissed t (off t) rows o) c.in-Some.is first) none)
