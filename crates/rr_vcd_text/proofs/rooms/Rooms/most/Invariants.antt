use Rattle.rr_vcd_text.proofs.Sizing.{Most}
use Rattle.rr_vcd_text.proofs.rooms.Rooms.most.Given as goal

abbrev pub invariant-loop-variable : goal.invariant-loop-variable
invariant-loop-variable l = Most l.self l.variables l.variable-index l.most
