use Rattle.rr_writers.proofs.Statements.{AssignsLeft, ArmsLeft}
use Rattle.rr_writers.proofs.assigned.+assigned.Given as goal

abbrev pub invariant-add_assigned_by_all-loop-stmt : goal.invariant-add_assigned_by_all-loop-stmt
invariant-add_assigned_by_all-loop-stmt l = AssignsLeft l.later l.names l.body l.stmt-index l.fn.list.items l.list.items

abbrev pub invariant-add_assigned_by_arms-loop-arm : goal.invariant-add_assigned_by_arms-loop-arm
invariant-add_assigned_by_arms-loop-arm l = ArmsLeft l.later l.names l.arms l.arm-index l.fn.list.items l.list.items
