use Rattle.std.proofs.Common.{refl, ap, ◌∙◌}
use Rattle.rr_syntax.specs.declared.tree.Stmt.{Stmt}
use Rattle.rr_syntax.specs.Tree.{If}
use Rattle.rr_syntax.specs.View.{plain, plain_statement}
use Rattle.rr_syntax.proofs.Rows.{plain_if_none}
use denote.MutBor.{as_bor}
use Rattle.rr_parse_stmt.proofs.nodes.if_alone.Goals as goal

pub returns : goal.returns
returns c = record { tree = plain_if_none c.args.test.expr (as_bor c.in_ok-yes.yes) ∙ ap (λ (x : Stmt). If (plain c.args.test.expr.now) (plain_statement x)) c.in_ok-yes.ensures; next_is = refl }
