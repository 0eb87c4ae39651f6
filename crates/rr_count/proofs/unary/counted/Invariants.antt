use Rattle.rr_count.proofs.Counters.{Built}
use Rattle.rr_count.proofs.unary.counted.Given as goal

abbrev pub invariant-loop-number : goal.invariant-loop-number
invariant-loop-number l = Built l.fn.b l.b l.counts.wires.items l.counts.first l.first l.fn.x l.next.items l.number
