use Rattle.rr_syntax.specs.Items.{spell_item}
use Rattle.rr_syntax.specs.View.{plain_item}
use Rattle.rr_patch.specs.Changes.{plain_changes}
use Rattle.rr_patch.specs.Walks.{ItemAt}
use Rattle.rr_patch.proofs.ListWalks.{AllTo}
use Rattle.rr_lint_print.specs.Pieces.{item_pieces}
use Rattle.rr_lint_names.specs.Latched.{marks}
use Rattle.rr_lint.proofs.Items.{item_size}
use Rattle.rr_lint.proofs.changes.items.Given as goal

abbrev pub invariant-loop-one : goal.invariant-loop-one
invariant-loop-one l = record {
  done : AllTo (item_pieces (marks l.noted)) spell_item plain_item (item_size (marks l.noted)) ItemAt (plain_changes l.initial.out.items) (plain_changes l.out.items) l.entries l.one-index;
}
