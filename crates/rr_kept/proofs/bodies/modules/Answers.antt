use Rattle.std.proofs.Common.{[], None, get_or, nat_eq, arith}
use Rattle.indexmap.specs.IndexMap.{get}
use Rattle.rr_syntax.specs.declared.tree.Module.{Module}
use Rattle.rr_syntax.specs.Items.{spell_module}
use Rattle.rr_syntax.specs.View.{plain_module}
use Rattle.rr_patch.proofs.ListWalks.{all_short}
use Rattle.rr_kept.proofs.BodyTable.{adds_none, modules_more, modules_full, items_fit}
use Rattle.rr_kept.proofs.bodies.modules.Goals as goal

abbrev no_module : Module
no_module = record { name = (record { ref_ptr = (0, 0); now = [] }); token = 0; params = (record { ref_ptr = (0, 0); now = [] }); header = None; groups = (record { ref_ptr = (0, 0); now = [] }); items = (record { ref_ptr = (0, 0); now = [] }) }

pub loop-one-init : goal.loop-one-init
loop-one-init c = record { done = adds_none (get nat_eq c.args.bodies.now) }

pub items-requires : goal.items-requires
items-requires c =
    let f = c.requires.fits in
    let w = all_short spell_module plain_module c.args.entries.now c.loop-one.one-index no_module c.loop-one-test.true in
    let q = items_fit (get_or c.args.entries.now c.loop-one.one-index no_module) in record { fits = omega (arith, f, w, q) }

pub loop-one-preserved : goal.loop-one-preserved
loop-one-preserved c = record {
  done = modules_more (get nat_eq c.args.bodies.now) (get nat_eq c.loop-one.bodies) (get nat_eq c.items.new.bodies) c.args.entries.now c.loop-one.one-index no_module c.loop-one-test.true c.loop-one.invariant.done c.in_ok-items.ensures;
}

pub returns : goal.returns
returns c = modules_full (get nat_eq c.args.bodies.now) (get nat_eq c.loop-one.bodies) c.args.entries.now c.loop-one.one-index c.loop-one-test.false c.loop-one.invariant.done
