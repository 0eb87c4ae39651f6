use Rattle.std.proofs.Common.{[], arith}
use Rattle.rr_syntax.specs.declared.tree.Conns.TheVariants as conns
use Rattle.rr_syntax.specs.Items.{spell_instance, NumberedInstance}
use Rattle.rr_syntax.specs.View.{plain_instance}
use Rattle.rr_respell.specs.Printing.{child_pieces}
use Rattle.rr_patch.specs.Changes.{plain_changes}
use Rattle.rr_patch.proofs.ListWalks.{each_none, each_more, each_full, each_short}
use Rattle.rr_patch.proofs.Sizes.{child_size}
use Rattle.rr_patch.proofs.connections.children.Goals as goal

pub loop-one-init : goal.loop-one-init
loop-one-init c = record { done = each_none (child_pieces c.args.list.now c.args.choice.now.picks.items) spell_instance plain_instance (child_size c.args.list.now c.args.choice.now.picks.items) NumberedInstance (plain_changes c.args.out.now.items) c.args.entries.now }

pub child-requires : goal.child-requires
child-requires c = let f = c.requires.fits in let w = each_short spell_instance plain_instance c.args.entries.now c.loop-one.one-index (record { token = 0; name = (record { ref_ptr = (0, 0); now = [] }); conns = conns.Positions (record { ref_ptr = (0, 0); now = [] }) }) c.loop-one-test.true in record { fits = omega (arith, f, w) }

pub loop-one-preserved : goal.loop-one-preserved
loop-one-preserved c = record {
  done = each_more (child_pieces c.args.list.now c.args.choice.now.picks.items) spell_instance plain_instance (child_size c.args.list.now c.args.choice.now.picks.items) NumberedInstance (plain_changes c.args.out.now.items) (plain_changes c.loop-one.out.items) (plain_changes c.child.new.out.items) c.args.entries.now c.loop-one.one-index (record { token = 0; name = (record { ref_ptr = (0, 0); now = [] }); conns = conns.Positions (record { ref_ptr = (0, 0); now = [] }) }) c.loop-one-test.true c.loop-one.invariant.done c.in_ok-child.ensures;
}

pub returns : goal.returns
returns c = each_full (child_pieces c.args.list.now c.args.choice.now.picks.items) spell_instance plain_instance (child_size c.args.list.now c.args.choice.now.picks.items) NumberedInstance (plain_changes c.args.out.now.items) (plain_changes c.loop-one.out.items) c.args.entries.now c.loop-one.one-index c.loop-one-test.false c.loop-one.invariant.done
