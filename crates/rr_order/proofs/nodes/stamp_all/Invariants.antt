use Rattle.std.proofs.Common.{take}
use Rattle.rr_order.specs.Nodes.{Stamped}
use Rattle.rr_order.proofs.nodes.stamp_all.Given as goal

abbrev pub invariant-loop-node : goal.invariant-loop-node
invariant-loop-node l = Stamped l.fn.own.items l.own.items (take l.node-index l.nodes) l.stamp
