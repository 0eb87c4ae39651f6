use Rattle.std.proofs.Common.{refl, ap, ◌∙◌, arith}
use Rattle.rr_syntax.specs.declared.tree.Expr.{Expr}
use Rattle.rr_syntax.specs.Tree.{Cond}
use Rattle.rr_syntax.specs.View.{plain}
use Rattle.rr_syntax.proofs.Rows.{plain_cond}
use denote.MutBor.{as_bor}
use Rattle.rr_parse_expr.proofs.nodes.cond.Goals as goal

pub returns : goal.returns
returns c = record {
  tree = plain_cond (as_bor c.in_ok-test.test) (as_bor c.in_ok-yes.yes) (as_bor c.in_ok-no.no) ∙ ap (λ (x : Expr). Cond (plain x) (plain c.in_ok-yes.yes.now) (plain c.in_ok-no.no.now)) c.in_ok-test.ensures ∙
      ap (λ (x : Expr). Cond (plain c.args.left.expr) (plain x) (plain c.in_ok-no.no.now)) c.in_ok-yes.ensures ∙
      ap (λ (x : Expr). Cond (plain c.args.left.expr) (plain c.args.middle.expr) (plain x)) c.in_ok-no.ensures;
  next_is = refl;
  depth_is = omega arith;
}
