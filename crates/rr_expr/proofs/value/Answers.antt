use Rattle.std.proofs.Common.{arith}
use Rattle.rr_syntax.specs.View.{plain}
use Rattle.rr_expr.proofs.Sound.{fits_without_fault, width_positive}
use Rattle.rr_expr.proofs.value.Goals as goal

pub value_in-requires-clause-fits : goal.value_in-requires-clause-fits
value_in-requires-clause-fits c = fits_without_fault c.args.scope.now _ (plain c.args.expr.now) c.requires.none

pub value_in-requires-clause-positive : goal.value_in-requires-clause-positive
value_in-requires-clause-positive c =
    let p = width_positive c.args.scope.now (plain c.args.expr.now) (fits_without_fault c.args.scope.now _ (plain c.args.expr.now) c.requires.none) in
    omega (arith, p, c.requires.low)
