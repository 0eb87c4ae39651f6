use Rattle.rr_order.proofs.Readings.{BodyLeft, ArmsLeft}
use Rattle.rr_order.proofs.reading.+reading.Given as goal

abbrev pub invariant-add_read_by_all-loop-stmt : goal.invariant-add_read_by_all-loop-stmt
invariant-add_read_by_all-loop-stmt l = BodyLeft l.names l.body l.stmt-index l.fn.list.items l.list.items

abbrev pub invariant-add_read_by_arms-loop-arm : goal.invariant-add_read_by_arms-loop-arm
invariant-add_read_by_arms-loop-arm l = ArmsLeft l.names l.arms l.arm-index l.fn.list.items l.list.items
