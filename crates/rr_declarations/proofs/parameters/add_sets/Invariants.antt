use Rattle.std.proofs.Common.{◌≡◌, map, drop}
use Rattle.rr_flat.specs.Faults.{each}
use Rattle.rr_declarations.specs.Sound.{ArePlaces}
use Rattle.rr_syntax.specs.View.{plain_assignment, plain_parameter}
use Rattle.rr_declarations.specs.Parameters.{add_parameter}
use Rattle.rr_declarations.proofs.parameters.add_sets.Given as goal

abbrev pub invariant-loop-set : goal.invariant-loop-set
invariant-loop-set l = record { walked : each (add_parameter l.given (plain_parameter l.one) l.range) (map plain_assignment (drop l.set-index l.set-items)) l.names ≡ each (add_parameter l.given (plain_parameter l.one) l.range) (map plain_assignment l.set-items) l.fn.names; constants : ArePlaces 0 l.fn.names → ArePlaces 0 l.names }
