use Rattle.rr_syntax.specs.View.{plain}
use Rattle.rr_expr.proofs.Sound.{fits_without_fault}
use Rattle.rr_expr.proofs.shape_of.Goals as goal

pub own_shape-requires-clause-fits : goal.own_shape-requires-clause-fits
own_shape-requires-clause-fits c = fits_without_fault c.args.scope.now _ (plain c.args.expr.now) c.requires.none
