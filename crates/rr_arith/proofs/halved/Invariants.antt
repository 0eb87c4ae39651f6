use Rattle.rr_arith.proofs.ShiftLaws.{Filled}
use Rattle.rr_arith.proofs.SelectLaws.{halved_bit}
use Rattle.rr_arith.proofs.halved.Given as goal

abbrev pub invariant-loop-i : goal.invariant-loop-i
invariant-loop-i l = Filled l.fn.b l.b (halved_bit l.fn.b l.x l.fn.test l.none) l.wires.items l.i
