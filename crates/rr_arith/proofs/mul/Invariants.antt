use Rattle.rr_arith.proofs.ProductLaws.{Multiplied}
use Rattle.rr_arith.proofs.mul.Given as goal

abbrev pub invariant-loop-i : goal.invariant-loop-i
invariant-loop-i l = Multiplied l.fn.b l.b l.x l.y l.product.items l.i
