use Rattle.std.proofs.Common.{arith}
use Rattle.rr_member_tests.proofs.members.all_inputs.Goals as goal

pub returns-clause-determined : goal.returns-clause-determined
returns-clause-determined c = λ held quiet inputs v low high. inputs v low (omega (arith, c.vars.ensures))
