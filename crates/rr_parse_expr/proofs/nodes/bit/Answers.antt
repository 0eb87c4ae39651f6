use Rattle.std.proofs.Common.{refl, ap, ◌∙◌}
use Rattle.rr_syntax.specs.declared.tree.Expr.{Expr}
use Rattle.rr_syntax.specs.Tree.{Bit}
use Rattle.rr_syntax.specs.View.{plain}
use Rattle.rr_syntax.proofs.Rows.{plain_bit}
use denote.MutBor.{as_bor}
use Rattle.rr_parse_expr.proofs.nodes.bit.Goals as goal

pub returns : goal.returns
returns c = record {
  tree = plain_bit c.args.token c.args.name (as_bor c.in_ok-index.index) ∙ ap (λ (x : Expr). Bit c.args.token c.args.name.now (plain x)) c.in_ok-index.ensures;
  next_is = refl;
  depth_is = refl;
}
