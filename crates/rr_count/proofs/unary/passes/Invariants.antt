use Rattle.rr_count.proofs.Counters.{Counted}
use Rattle.rr_count.proofs.unary.passes.Given as goal

abbrev pub invariant-loop-i : goal.invariant-loop-i
invariant-loop-i l = Counted l.fn.b l.b l.wires l.counts.wires.items l.counts.first l.bound l.i
