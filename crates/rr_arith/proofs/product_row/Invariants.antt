use Rattle.rr_arith.proofs.ShiftLaws.{Filled}
use Rattle.rr_arith.proofs.ProductLaws.{row_value}
use Rattle.rr_arith.proofs.product_row.Given as goal

abbrev pub invariant-loop-i : goal.invariant-loop-i
invariant-loop-i l = Filled l.fn.b l.b (row_value l.fn.b l.x l.fn.test l.fn.by) l.wires.items l.i
