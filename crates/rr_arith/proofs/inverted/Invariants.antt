use Rattle.rr_arith.proofs.Ripple.{Inverted}
use Rattle.rr_arith.proofs.inverted.Given as goal

abbrev pub invariant-loop-i : goal.invariant-loop-i
invariant-loop-i l = Inverted l.b l.x l.wires.items l.i
