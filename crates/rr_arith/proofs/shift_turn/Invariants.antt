use Rattle.rr_arith.proofs.ShiftLaws.{Filled, turned_bit}
use Rattle.rr_arith.proofs.shift_turn.Given as goal

abbrev pub invariant-loop-i : goal.invariant-loop-i
invariant-loop-i l = Filled l.fn.b l.b (turned_bit l.fn.b l.x l.fn.test l.fn.by l.fn.fill) l.wires.items l.i
