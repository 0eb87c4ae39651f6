use Rattle.rr_syntax.specs.View.{plain}
use Rattle.rr_cycle_tests.proofs.Declaring.{no_fault}
use Rattle.rr_cycle_tests.proofs.statements.has_shape.Goals as goal

pub returns-in-Ok : goal.returns-in-Ok
returns-in-Ok c = λ h. no_fault c.args.scope.now (plain c.args.expr.now) c.in-Ok.ensures.none
