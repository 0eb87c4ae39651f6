use Rattle.std.proofs.Common.{refl, ap, ◌∙◌}
use Rattle.rr_syntax.specs.declared.tree.Expr.{Expr}
use Rattle.rr_syntax.specs.Tree.{Cast}
use Rattle.rr_syntax.specs.View.{plain}
use Rattle.rr_syntax.proofs.Rows.{plain_cast}
use denote.MutBor.{as_bor}
use Rattle.rr_parse_expr.proofs.nodes.cast.Goals as goal

pub returns : goal.returns
returns c = record {
  tree = plain_cast c.args.signed (as_bor c.in_ok-of.of) ∙ ap (λ (x : Expr). Cast c.args.signed (plain x)) c.in_ok-of.ensures;
  next_is = refl;
  depth_is = refl;
}
