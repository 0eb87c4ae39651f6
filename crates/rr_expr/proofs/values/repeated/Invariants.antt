use Rattle.std.proofs.Common.{◌-◌, ◌≡◌, ◌≤◌}
use Rattle.rr_expr.specs.Selects.{repeated}
use Rattle.rr_expr.proofs.values.repeated.Given as goal

abbrev pub invariant-loop-done : goal.invariant-loop-done
invariant-loop-done l = (l.whole ≡ repeated l.done l.word) × (1 ≤ l.done) × (l.done ≤ l.copies)

abbrev pub decreases-loop-done : goal.decreases-loop-done
decreases-loop-done l = l.copies - l.done
