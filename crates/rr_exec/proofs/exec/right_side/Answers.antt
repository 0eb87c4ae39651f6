use Rattle.rr_syntax.specs.View.{plain}
use Rattle.rr_flat.proofs.Shaping.{clear}
use Rattle.rr_exec.proofs.exec.right_side.Goals as goal

pub value-requires-clause-none : goal.value-requires-clause-none
value-requires-clause-none c = clear c.args.scope.now (plain c.args.expr.now) c.requires.value
