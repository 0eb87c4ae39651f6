use Rattle.std.proofs.Common.{refl, ap, ◌∙◌}
use Rattle.rr_syntax.specs.declared.tree.Expr.{Expr}
use Rattle.rr_syntax.specs.Tree.{Unary}
use Rattle.rr_syntax.specs.View.{plain}
use Rattle.rr_syntax.proofs.Rows.{plain_unary}
use denote.MutBor.{as_bor}
use Rattle.rr_parse_expr.proofs.nodes.unary.Goals as goal

pub returns : goal.returns
returns c = record {
  tree = plain_unary c.args.op (as_bor c.in_ok-of.of) ∙ ap (λ (x : Expr). Unary c.args.op.0 (plain x)) c.in_ok-of.ensures;
  next_is = refl;
  depth_is = refl;
}
