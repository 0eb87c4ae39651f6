use Rattle.std.proofs.Common.{◌<◌}
use Rattle.rr_expr.proofs.notes.least_at.Given as goal

abbrev pub invariant-loop-place : goal.invariant-loop-place
invariant-loop-place l = l.least < 16
