use Rattle.std.proofs.Common.{refl, ap, ◌∙◌}
use Rattle.rr_syntax.specs.declared.tree.Stmt.{Stmt}
use Rattle.rr_syntax.specs.Tree.{CaseItem}
use Rattle.rr_syntax.specs.View.{plain_list, plain_statement}
use Rattle.rr_parse_stmt.proofs.Choices.{case_item_is}
use denote.MutBor.{as_bor}
use Rattle.rr_parse_stmt.proofs.nodes.case_item.Goals as goal

pub returns : goal.returns
returns c = record { tree = case_item_is c.args.labels c.args.colon (as_bor c.in_ok-place.place) ∙ ap (λ (x : Stmt). CaseItem (plain_list c.args.labels.now) c.args.colon (plain_statement x)) c.in_ok-place.ensures; next_is = refl }
