use Rattle.std.proofs.Common.{◌≡◌, drop}
use Rattle.std.specs.Prelude.{flat_map}
use Rattle.rr_flat.specs.View.{plain_flat}
use Rattle.rr_text_names.specs.Firsts.{earliest}
use Rattle.rr_text_names.specs.Names.{entry, is_the}
use Rattle.rr_clock.specs.Clock.{all_uses, uses_of_part}
use Rattle.rr_clock.proofs.uses.first_use_in_walk.Given as goal

abbrev pub invariant-loop-part : goal.invariant-loop-part
invariant-loop-part l =
    earliest (flat_map (uses_of_part (plain_flat l.flat) (λ x. is_the l.clock (entry l.table x))) (drop l.part-index l.walk)) ≡ earliest (all_uses (plain_flat l.flat) (λ x. is_the l.clock (entry l.table x)))
