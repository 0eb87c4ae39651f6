use Rattle.std.proofs.Common.{◌≡◌, ◌-◌, ◌≤◌}
use Rattle.rr_word_gates.proofs.Copying.{copied}
use Rattle.rr_word_gates.proofs.words.repeated.Given as goal

abbrev pub invariant-loop-done : goal.invariant-loop-done
invariant-loop-done l = (l.out.items ≡ copied l.done l.word) × (l.done ≤ l.copies)

abbrev pub decreases-loop-done : goal.decreases-loop-done
decreases-loop-done l = l.copies - l.done
