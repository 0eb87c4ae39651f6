use Rattle.std.proofs.Common.{◌≡◌, ◌∙◌, ap, arith}
use Rattle.rr_syntax.specs.View.{plain}
use Rattle.rr_expr.specs.declared.types.Shape.{Shape}
use Rattle.rr_expr.specs.Operators.{joined}
use Rattle.rr_expr.specs.Values.{form}
use Rattle.rr_exec.proofs.Loops.{label_shaped, join_more, join_done}
use Rattle.rr_exec.proofs.cases.joined_all.Goals as goal

pub own_shape-requires : goal.own_shape-requires
own_shape-requires c = label_shaped c.args.scope.now c.args.labels.now c.loop-label.label-index c.label-item.result c.loop-label-test.true c.label-item.is c.requires.shaped

pub loop-label-preserved : goal.loop-label-preserved
loop-label-preserved c =
    let e : c.joined-all.result ≡ joined c.loop-label.all (form c.args.scope.now (plain c.label-item.result)) = c.joined-all.ensures ∙ ap (joined c.loop-label.all) c.own_shape.ensures.value in
    let w = ap (λ (s : Shape). s.width) c.joined-all.ensures in
    record {
      shape = rw e (join_more c.args.scope.now c.args.labels.now c.loop-label.label-index c.label-item.result c.loop-label.all _ c.loop-label-test.true c.label-item.is c.loop-label.invariant.shape);
      low = omega (arith, w);
      high = omega (arith, w);
    }

pub returns-clause-value : goal.returns-clause-value
returns-clause-value c = join_done c.args.scope.now c.args.labels.now c.loop-label.label-index c.loop-label.all _ c.loop-label-test.false c.loop-label.invariant.shape
