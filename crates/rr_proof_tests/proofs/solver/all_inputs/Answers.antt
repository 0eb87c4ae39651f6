use Rattle.std.proofs.Common.{arith}
use Rattle.rr_proof_tests.proofs.solver.all_inputs.Goals as goal

pub returns-clause-determined : goal.returns-clause-determined
returns-clause-determined c = λ held quiet inputs v low high. inputs v low (omega (arith, c.vars.ensures))
