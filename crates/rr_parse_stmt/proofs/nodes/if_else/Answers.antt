use Rattle.std.proofs.Common.{refl, ap, ◌∙◌}
use Rattle.rr_syntax.specs.declared.tree.Stmt.{Stmt}
use Rattle.rr_syntax.specs.Tree.{IfElse}
use Rattle.rr_syntax.specs.View.{plain, plain_statement}
use Rattle.rr_syntax.proofs.Rows.{plain_if_some}
use denote.MutBor.{as_bor}
use Rattle.rr_parse_stmt.proofs.nodes.if_else.Goals as goal

pub returns : goal.returns
returns c = record { tree = plain_if_some c.args.test.expr (as_bor c.in_ok-yes.yes) (as_bor c.in_ok-other.other) ∙ ap (λ (x : Stmt). IfElse (plain c.args.test.expr.now) (plain_statement x) (plain_statement c.in_ok-other.other.now)) c.in_ok-yes.ensures ∙ ap (λ (x : Stmt). IfElse (plain c.args.test.expr.now) (plain_statement c.args.first.stmt) (plain_statement x)) c.in_ok-other.ensures; next_is = refl }
