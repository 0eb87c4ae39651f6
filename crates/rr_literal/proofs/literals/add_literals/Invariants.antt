use Rattle.std.proofs.Common.{◌≡◌, ◌++◌, drop}
use Rattle.std.specs.Prelude.{flat_map}
use Rattle.rr_choice.specs.View.{plain_sites}
use Rattle.rr_change_places.specs.View.{plain_spot}
use Rattle.rr_literal.specs.Literals.{literal_at}
use Rattle.rr_literal.proofs.literals.add_literals.Given as goal

abbrev pub invariant-loop-spot : goal.invariant-loop-spot
invariant-loop-spot l =
    plain_sites l.list.items ++ flat_map (λ x. literal_at (plain_spot x)) (drop l.spot-index l.spots) ≡ plain_sites l.fn.list.items ++ flat_map (λ x. literal_at (plain_spot x)) l.spots
