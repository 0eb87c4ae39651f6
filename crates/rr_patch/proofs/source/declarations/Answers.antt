use Rattle.std.proofs.Common.{[], None, arith}
use Rattle.rr_syntax.specs.Items.{spell_module}
use Rattle.rr_syntax.specs.View.{plain_module}
use Rattle.rr_respell.specs.Printing.{module_pieces}
use Rattle.rr_patch.specs.Changes.{plain_changes}
use Rattle.rr_patch.specs.Walks.{ModuleAt}
use Rattle.rr_patch.proofs.ListWalks.{all_none, all_more, all_full, all_short}
use Rattle.rr_patch.proofs.Sizes.{module_size}
use Rattle.rr_patch.proofs.source.declarations.Goals as goal

pub loop-one-init : goal.loop-one-init
loop-one-init c = record { done = all_none (module_pieces c.args.list.now c.args.choice.now.picks.items) spell_module plain_module (module_size c.args.list.now c.args.choice.now.picks.items) ModuleAt (plain_changes c.args.out.now.items) c.args.entries.now }

pub declaration-requires : goal.declaration-requires
declaration-requires c = let f = c.requires.fits in let w = all_short spell_module plain_module c.args.entries.now c.loop-one.one-index (record { name = (record { ref_ptr = (0, 0); now = [] }); token = 0; params = (record { ref_ptr = (0, 0); now = [] }); header = None; groups = (record { ref_ptr = (0, 0); now = [] }); items = (record { ref_ptr = (0, 0); now = [] }) }) c.loop-one-test.true in record { fits = omega (arith, f, w) }

pub loop-one-preserved : goal.loop-one-preserved
loop-one-preserved c = record {
  done = all_more (module_pieces c.args.list.now c.args.choice.now.picks.items) spell_module plain_module (module_size c.args.list.now c.args.choice.now.picks.items) ModuleAt (plain_changes c.args.out.now.items) (plain_changes c.loop-one.out.items) (plain_changes c.declaration.new.out.items) c.args.entries.now c.loop-one.one-index (record { name = (record { ref_ptr = (0, 0); now = [] }); token = 0; params = (record { ref_ptr = (0, 0); now = [] }); header = None; groups = (record { ref_ptr = (0, 0); now = [] }); items = (record { ref_ptr = (0, 0); now = [] }) }) c.loop-one-test.true c.loop-one.invariant.done c.in_ok-declaration.ensures;
}

pub returns : goal.returns
returns c = all_full (module_pieces c.args.list.now c.args.choice.now.picks.items) spell_module plain_module (module_size c.args.list.now c.args.choice.now.picks.items) ModuleAt (plain_changes c.args.out.now.items) (plain_changes c.loop-one.out.items) c.args.entries.now c.loop-one.one-index c.loop-one-test.false c.loop-one.invariant.done
