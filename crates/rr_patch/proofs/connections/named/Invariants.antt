use Rattle.rr_syntax.specs.Items.{spell_connection, NumberedConnection}
use Rattle.rr_syntax.specs.View.{plain_connection}
use Rattle.rr_respell.specs.Printing.{connection_pieces}
use Rattle.rr_patch.specs.Changes.{plain_changes}
use Rattle.rr_patch.proofs.ListWalks.{EachTo}
use Rattle.rr_patch.proofs.Sizes.{connection_size}
use Rattle.rr_patch.proofs.connections.named.Given as goal

abbrev pub invariant-loop-one : goal.invariant-loop-one
invariant-loop-one l = record {
  done : EachTo (connection_pieces l.list l.choice.picks.items) spell_connection plain_connection (connection_size l.list l.choice.picks.items) NumberedConnection (plain_changes l.initial.out.items) (plain_changes l.out.items) l.entries l.one-index;
}
