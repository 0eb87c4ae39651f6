use Rattle.rr_named_bits.proofs.Writing.{WritesLeft}
use Rattle.rr_named_bits.proofs.writes.+writes.Given as goal

abbrev pub invariant-add_writes_of_all-loop-target : goal.invariant-add_writes_of_all-loop-target
invariant-add_writes_of_all-loop-target l = WritesLeft l.scope l.targets l.target-index l.fn.list.items l.list.items
