use Rattle.rr_syntax.specs.Items.{spell_declarator}
use Rattle.rr_syntax.specs.View.{plain_declarator}
use Rattle.rr_respell.specs.Printing.{net_pieces}
use Rattle.rr_patch.specs.Changes.{plain_changes}
use Rattle.rr_patch.specs.Walks.{NetAt}
use Rattle.rr_patch.proofs.ListWalks.{EachTo}
use Rattle.rr_patch.proofs.Sizes.{net_size}
use Rattle.rr_patch.proofs.item.nets.Given as goal

abbrev pub invariant-loop-one : goal.invariant-loop-one
invariant-loop-one l = record {
  done : EachTo (net_pieces l.list l.choice.picks.items) spell_declarator plain_declarator (net_size l.list l.choice.picks.items) NetAt (plain_changes l.initial.out.items) (plain_changes l.out.items) l.entries l.one-index;
}
