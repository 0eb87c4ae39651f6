use Rattle.std.proofs.Common.{[], None, arith}
use Rattle.rr_syntax.specs.Items.{spell_declarator}
use Rattle.rr_syntax.specs.View.{plain_declarator}
use Rattle.rr_respell.specs.Printing.{net_pieces}
use Rattle.rr_patch.specs.Changes.{plain_changes}
use Rattle.rr_patch.specs.Walks.{NetAt}
use Rattle.rr_patch.proofs.ListWalks.{each_none, each_more, each_full, each_short}
use Rattle.rr_patch.proofs.Sizes.{net_size}
use Rattle.rr_patch.proofs.item.nets.Goals as goal

pub loop-one-init : goal.loop-one-init
loop-one-init c = record { done = each_none (net_pieces c.args.list.now c.args.choice.now.picks.items) spell_declarator plain_declarator (net_size c.args.list.now c.args.choice.now.picks.items) NetAt (plain_changes c.args.out.now.items) c.args.entries.now }

pub net-requires : goal.net-requires
net-requires c = let f = c.requires.fits in let w = each_short spell_declarator plain_declarator c.args.entries.now c.loop-one.one-index (record { token = 0; name = (record { ref_ptr = (0, 0); now = [] }); words = None; value = None }) c.loop-one-test.true in record { fits = omega (arith, f, w) }

pub loop-one-preserved : goal.loop-one-preserved
loop-one-preserved c = record {
  done = each_more (net_pieces c.args.list.now c.args.choice.now.picks.items) spell_declarator plain_declarator (net_size c.args.list.now c.args.choice.now.picks.items) NetAt (plain_changes c.args.out.now.items) (plain_changes c.loop-one.out.items) (plain_changes c.net.new.out.items) c.args.entries.now c.loop-one.one-index (record { token = 0; name = (record { ref_ptr = (0, 0); now = [] }); words = None; value = None }) c.loop-one-test.true c.loop-one.invariant.done c.in_ok-net.ensures;
}

pub returns : goal.returns
returns c = each_full (net_pieces c.args.list.now c.args.choice.now.picks.items) spell_declarator plain_declarator (net_size c.args.list.now c.args.choice.now.picks.items) NetAt (plain_changes c.args.out.now.items) (plain_changes c.loop-one.out.items) c.args.entries.now c.loop-one.one-index c.loop-one-test.false c.loop-one.invariant.done
