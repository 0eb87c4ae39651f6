use Rattle.std.proofs.Common.{◌≡◌}
use Rattle.rr_proof_tests.proofs.solver.follow.Given as goal

abbrev pub invariant-loop-place : goal.invariant-loop-place
invariant-loop-place l = l.solver.formula.vars ≡ l.vars
