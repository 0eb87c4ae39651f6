use Rattle.std.proofs.Common.{◌≡◌, refl, rules, true}
use Rattle.rr_syntax.specs.View.{plain_list}
use Rattle.rr_flat.specs.Shapes.{list_faults}
use Rattle.rr_cycle_tests.proofs.Declaring.{labels_more}
use Rattle.rr_cycle_tests.proofs.statements.have_shapes.Goals as goal

pub loop-expr-init : goal.loop-expr-init
unfolding plain_list list_faults
loop-expr-init c = refl

pub loop-expr-preserved : goal.loop-expr-preserved
loop-expr-preserved c =
    let h : c.has_shape.result ≡ true = search rules in
    labels_more c.args.scope.now c.args.list.now c.loop-expr.expr-index c.expr-item.result c.loop-expr-test.true c.expr-item.is c.loop-expr.invariant (c.has_shape.ensures h)
