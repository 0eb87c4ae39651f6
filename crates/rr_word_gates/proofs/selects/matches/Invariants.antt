use Rattle.rr_word_gates.proofs.SelectLaws.{Matched}
use Rattle.rr_word_gates.proofs.selects.matches.Given as goal

abbrev pub invariant-loop-i : goal.invariant-loop-i
invariant-loop-i l = Matched l.fn.b l.b l.ys l.bits l.same l.i
