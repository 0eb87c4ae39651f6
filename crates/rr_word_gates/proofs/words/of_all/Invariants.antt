use Rattle.rr_word_gates.proofs.WordLaws.{Joined}
use Rattle.rr_word_gates.proofs.words.of_all.Given as goal

abbrev pub invariant-loop-i : goal.invariant-loop-i
invariant-loop-i l = Joined l.op l.fn.b l.b l.xs l.all l.i
