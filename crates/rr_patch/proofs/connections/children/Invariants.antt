use Rattle.rr_syntax.specs.Items.{spell_instance, NumberedInstance}
use Rattle.rr_syntax.specs.View.{plain_instance}
use Rattle.rr_respell.specs.Printing.{child_pieces}
use Rattle.rr_patch.specs.Changes.{plain_changes}
use Rattle.rr_patch.proofs.ListWalks.{EachTo}
use Rattle.rr_patch.proofs.Sizes.{child_size}
use Rattle.rr_patch.proofs.connections.children.Given as goal

abbrev pub invariant-loop-one : goal.invariant-loop-one
invariant-loop-one l = record {
  done : EachTo (child_pieces l.list l.choice.picks.items) spell_instance plain_instance (child_size l.list l.choice.picks.items) NumberedInstance (plain_changes l.initial.out.items) (plain_changes l.out.items) l.entries l.one-index;
}
