use Rattle.rr_syntax.specs.View.{plain}
use Rattle.rr_flat.proofs.Shaping.{clear}
use Rattle.rr_exec.proofs.cases.own_shape.Goals as goal

pub shape_of-requires : goal.shape_of-requires
shape_of-requires c = record { none = clear c.args.scope.now (plain c.args.expr.now) c.requires }
