use Rattle.std.proofs.Common.{◌≡◌}
use Rattle.rr_proof_tests.proofs.solver.refutes_by_restarts.Given as goal

abbrev pub invariant-loop : goal.invariant-loop
invariant-loop l = l.solver.formula ≡ l.initial.solver.formula
