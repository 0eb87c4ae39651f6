use Rattle.std.proofs.Common.{◌≡◌, ◌++◌, map, drop}
use Rattle.std.specs.Prelude.{flat_map}
use Rattle.rr_syntax.specs.View.{plain_identifier}
use Rattle.rr_choice.specs.View.{plain_sites}
use Rattle.rr_change_places.specs.View.{plain_spot}
use Rattle.rr_guard.specs.Guards.{guard_of}
use Rattle.rr_guard.specs.Names.{first_names}
use Rattle.rr_guard.proofs.guards.add_guards.Given as goal

abbrev pub invariant-loop-spot : goal.invariant-loop-spot
invariant-loop-spot l =
    plain_sites l.list.items ++ flat_map (λ x. guard_of l.«module» (first_names (map plain_identifier l.names)) (plain_spot x)) (drop l.spot-index l.spots)
    ≡ plain_sites l.fn.list.items ++ flat_map (λ x. guard_of l.«module» (first_names (map plain_identifier l.names)) (plain_spot x)) l.spots
