use Rattle.std.proofs.Common.{◌≤◌}
use Rattle.rr_proof_tests.proofs.helpers.first_failing_line.Given as goal

abbrev pub invariant-loop-index : goal.invariant-loop-index
invariant-loop-index l = l.formula.vars ≤ l.work
