use Rattle.std.proofs.Common.{ap}
use Rattle.rr_syntax.specs.View.{plain}
use Rattle.rr_expr.specs.declared.types.Shape.{Shape}
use Rattle.rr_signal_wires.specs.Words.{carried}
use Rattle.rr_blast_terms.specs.Choosing.{picks_of}
use Rattle.rr_blast_stmt.proofs.ShapeLaws.{right_is}
use Rattle.rr_blast_stmt.proofs.statements.right_side.Goals as goal

pub returns-clause-value : goal.returns-clause-value
returns-clause-value c = λ env.
    right_is c.args.scope.now c.args.choice.now.sites.now (picks_of c.args.b.now env c.args.choice.now) (plain c.args.target.now) (plain c.args.expr.now) (carried c.args.b.now env c.args.words.now) _ _ _ _
    c.max.ensures (ap (λ (a : Shape). a.width) c.shape_of-width.ensures.value) c.shape_of-own.ensures.value (c.in_ok-bits.ensures.value env)
