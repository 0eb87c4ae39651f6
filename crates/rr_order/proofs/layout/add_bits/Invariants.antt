use Rattle.rr_order.specs.Nodes.{MoreBits}
use Rattle.rr_order.proofs.layout.add_bits.Given as goal

abbrev pub invariant-loop-place : goal.invariant-loop-place
invariant-loop-place l = MoreBits l.fn.table.items l.table.items l.signal l.place
