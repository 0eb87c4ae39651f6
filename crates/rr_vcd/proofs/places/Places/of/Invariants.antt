use Rattle.std.proofs.Common.{map, take}
use Rattle.rr_vcd_text.specs.View.{plain_variable}
use Rattle.rr_vcd.specs.View.{ArePlaces}
use Rattle.rr_vcd.proofs.places.Places.of.Given as goal

abbrev pub invariant-loop-variable : goal.invariant-loop-variable
invariant-loop-variable l = ArePlaces (map plain_variable (take l.variable-index l.variables)) l.places
