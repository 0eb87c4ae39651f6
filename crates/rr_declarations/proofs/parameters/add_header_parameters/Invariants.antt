use Rattle.std.proofs.Common.{◌≡◌, map, drop}
use Rattle.rr_flat.specs.Faults.{each}
use Rattle.rr_declarations.specs.Sound.{ArePlaces}
use Rattle.rr_syntax.specs.View.{plain_parameter}
use Rattle.rr_declarations.specs.Parameters.{add_parameters}
use Rattle.rr_declarations.proofs.parameters.add_header_parameters.Given as goal

abbrev pub invariant-loop-one : goal.invariant-loop-one
invariant-loop-one l = record { walked : each (add_parameters l.given) (map plain_parameter (drop l.one-index l.params)) l.names ≡ each (add_parameters l.given) (map plain_parameter l.params) l.fn.names; constants : ArePlaces 0 l.fn.names → ArePlaces 0 l.names }
