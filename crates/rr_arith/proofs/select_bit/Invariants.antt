use Rattle.rr_arith.proofs.SelectLaws.{Selected}
use Rattle.rr_arith.proofs.select_bit.Given as goal

abbrev pub invariant-loop-i : goal.invariant-loop-i
invariant-loop-i l = Selected l.fn.b l.b l.x l.at l.wires.items l.i
