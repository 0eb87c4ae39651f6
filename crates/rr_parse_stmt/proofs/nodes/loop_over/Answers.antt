use Rattle.std.proofs.Common.{refl, ap, ◌∙◌}
use Rattle.rr_syntax.specs.declared.tree.Stmt.{Stmt}
use Rattle.rr_syntax.specs.Tree.{For}
use Rattle.rr_syntax.specs.View.{plain_loop, plain_statement}
use Rattle.rr_syntax.proofs.Rows.{plain_for}
use denote.MutBor.{as_bor}
use Rattle.rr_parse_stmt.proofs.nodes.loop_over.Goals as goal

pub returns : goal.returns
returns c = record { tree = plain_for c.args.found.head (as_bor c.in_ok-body.body) ∙ ap (λ (x : Stmt). For (plain_loop c.args.found.head) (plain_statement x)) c.in_ok-body.ensures; next_is = refl }
