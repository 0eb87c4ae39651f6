use Rattle.std.proofs.Common.{◌≡◌, ◌++◌, drop}
use Rattle.rr_order.specs.Nodes.{bits_among}
use Rattle.rr_order.proofs.order.bits_among.Given as goal

abbrev pub invariant-loop-node : goal.invariant-loop-node
invariant-loop-node l = l.bits.items ++ bits_among l.table (drop l.node-index l.cycle) ≡ bits_among l.table l.cycle
