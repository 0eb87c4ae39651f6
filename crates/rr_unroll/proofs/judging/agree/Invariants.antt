use Rattle.std.proofs.Common.{◌≡◌, drop}
use Rattle.rr_unroll.specs.Questions.{agree}
use Rattle.rr_unroll.proofs.JudgedLaws.{all_true}
use Rattle.rr_unroll.proofs.judging.agree.Given as goal

abbrev pub invariant-loop-i : goal.invariant-loop-i
invariant-loop-i l = all_true (agree (drop l.i l.known) (drop l.i l.expected) (drop l.i l.found)) ≡ all_true (agree l.known l.expected l.found)
