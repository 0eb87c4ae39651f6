use Rattle.std.proofs.Common.{length}
use Rattle.rr_count.proofs.Adders.{Summed}
use Rattle.rr_count.proofs.binary.sum.Given as goal

abbrev pub invariant-loop-alloc : goal.invariant-loop-alloc
invariant-loop-alloc l = Summed l.fn.b l.b l.wires l.word.items l.rest.items

abbrev pub decreases-loop-alloc : goal.decreases-loop-alloc
decreases-loop-alloc l = length l.rest.items
