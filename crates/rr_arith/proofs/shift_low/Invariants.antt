use Rattle.rr_arith.proofs.ShiftLaws.{Shifted}
use Rattle.rr_arith.proofs.shift_low.Given as goal

abbrev pub invariant-loop-i : goal.invariant-loop-i
invariant-loop-i l = Shifted l.fn.b l.b l.x l.by l.wires.items l.fn.fill l.step l.i
