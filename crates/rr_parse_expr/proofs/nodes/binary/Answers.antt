use Rattle.std.proofs.Common.{refl, ap, ◌∙◌, arith}
use Rattle.rr_syntax.specs.declared.tree.Expr.{Expr}
use Rattle.rr_syntax.specs.Tree.{Binary}
use Rattle.rr_syntax.specs.View.{plain}
use Rattle.rr_syntax.proofs.Rows.{plain_binary}
use denote.MutBor.{as_bor}
use Rattle.rr_parse_expr.proofs.nodes.binary.Goals as goal

pub returns : goal.returns
returns c = record {
  tree = plain_binary c.args.op (as_bor c.in_ok-first.first) (as_bor c.in_ok-second.second) ∙ ap (λ (x : Expr). Binary c.args.op.0 (plain x) (plain c.in_ok-second.second.now)) c.in_ok-first.ensures ∙
      ap (λ (x : Expr). Binary c.args.op.0 (plain c.args.left.expr) (plain x)) c.in_ok-second.ensures;
  next_is = refl;
  depth_is = omega arith;
}
