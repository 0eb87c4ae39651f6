use Rattle.std.proofs.Common.{◌≡◌, ap, arith}
use Rattle.rr_syntax.specs.View.{plain}
use Rattle.rr_expr.specs.declared.types.Shape.{Shape}
use Rattle.rr_expr.specs.Values.{form}
use Rattle.rr_expr.proofs.Sound.{fits_without_fault, width_positive}
use Rattle.rr_blast_expr.proofs.Bounds.{width_narrow}
use Rattle.rr_blast_expr.proofs.shapes.own_shape.Goals as goal

pub returns-clause-low : goal.returns-clause-low
returns-clause-low c =
    let p = width_positive c.args.scope.now (plain c.args.expr.now) (fits_without_fault c.args.scope.now _ (plain c.args.expr.now) c.requires.none) in
    let e : c.own_form.result.width ≡ (form c.args.scope.now (plain c.args.expr.now)).width = ap (λ (a : Shape). a.width) c.own_form.ensures in
    omega (arith, p, e)

pub returns-clause-high : goal.returns-clause-high
returns-clause-high c =
    let p = width_narrow c.args.scope.now (plain c.args.expr.now) (fits_without_fault c.args.scope.now _ (plain c.args.expr.now) c.requires.none) in
    let e : c.own_form.result.width ≡ (form c.args.scope.now (plain c.args.expr.now)).width = ap (λ (a : Shape). a.width) c.own_form.ensures in
    omega (arith, p, e)
