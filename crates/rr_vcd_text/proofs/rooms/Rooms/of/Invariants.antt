use Rattle.rr_vcd_text.proofs.Sizing.{Sizes}
use Rattle.rr_vcd_text.proofs.rooms.Rooms.of.Given as goal

abbrev pub invariant-loop-variable : goal.invariant-loop-variable
invariant-loop-variable l = Sizes l.variables l.variable-index l.rooms
