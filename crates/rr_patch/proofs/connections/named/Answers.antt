use Rattle.std.proofs.Common.{[], None, arith}
use Rattle.rr_syntax.specs.Items.{spell_connection, NumberedConnection}
use Rattle.rr_syntax.specs.View.{plain_connection}
use Rattle.rr_respell.specs.Printing.{connection_pieces}
use Rattle.rr_patch.specs.Changes.{plain_changes}
use Rattle.rr_patch.proofs.ListWalks.{each_none, each_more, each_full, each_short}
use Rattle.rr_patch.proofs.Sizes.{connection_size}
use Rattle.rr_patch.proofs.connections.named.Goals as goal

pub loop-one-init : goal.loop-one-init
loop-one-init c = record { done = each_none (connection_pieces c.args.list.now c.args.choice.now.picks.items) spell_connection plain_connection (connection_size c.args.list.now c.args.choice.now.picks.items) NumberedConnection (plain_changes c.args.out.now.items) c.args.entries.now }

pub connection-requires : goal.connection-requires
connection-requires c = let f = c.requires.fits in let w = each_short spell_connection plain_connection c.args.entries.now c.loop-one.one-index (record { token = 0; name = (record { ref_ptr = (0, 0); now = [] }); value = None }) c.loop-one-test.true in record { fits = omega (arith, f, w) }

pub loop-one-preserved : goal.loop-one-preserved
loop-one-preserved c = record {
  done = each_more (connection_pieces c.args.list.now c.args.choice.now.picks.items) spell_connection plain_connection (connection_size c.args.list.now c.args.choice.now.picks.items) NumberedConnection (plain_changes c.args.out.now.items) (plain_changes c.loop-one.out.items) (plain_changes c.connection.new.out.items) c.args.entries.now c.loop-one.one-index (record { token = 0; name = (record { ref_ptr = (0, 0); now = [] }); value = None }) c.loop-one-test.true c.loop-one.invariant.done c.in_ok-connection.ensures;
}

pub returns : goal.returns
returns c = each_full (connection_pieces c.args.list.now c.args.choice.now.picks.items) spell_connection plain_connection (connection_size c.args.list.now c.args.choice.now.picks.items) NumberedConnection (plain_changes c.args.out.now.items) (plain_changes c.loop-one.out.items) c.args.entries.now c.loop-one.one-index c.loop-one-test.false c.loop-one.invariant.done
