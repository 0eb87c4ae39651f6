use Rattle.std.proofs.Common.{refl, ap, ◌∙◌, arith}
use Rattle.rr_syntax.specs.declared.tree.Expr.{Expr}
use Rattle.rr_syntax.specs.Tree.{Repeat}
use Rattle.rr_syntax.specs.View.{plain, plain_list}
use Rattle.rr_syntax.proofs.Rows.{plain_repeat}
use denote.MutBor.{as_bor}
use Rattle.rr_parse_expr.proofs.nodes.repeat.Goals as goal

pub returns : goal.returns
returns c = record {
  tree = plain_repeat (as_bor c.in_ok-times.times) c.args.parts ∙ ap (λ (x : Expr). Repeat (plain x) (plain_list c.args.parts.now)) c.in_ok-times.ensures;
  next_is = refl;
  depth_is = omega arith;
}
