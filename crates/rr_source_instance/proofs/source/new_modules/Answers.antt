use Rattle.std.proofs.Common.{[], None, arith}
use Rattle.rr_syntax.specs.Items.{spell_module}
use Rattle.rr_syntax.specs.View.{plain_module}
use Rattle.rr_instance.specs.Instances.{instance_module}
use Rattle.rr_source_instance.proofs.Items.{all_at, map_none, map_next_at}
use Rattle.rr_source_instance.proofs.source.new_modules.Goals as goal

pub loop-one-init : goal.loop-one-init
loop-one-init c = map_none plain_module (instance_module c.args.sites.now c.args.choice.now.picks.items) c.new-list.result.items c.new-list.ensures.items

pub new_module-requires : goal.new_module-requires
new_module-requires c =
    let f = c.requires.fits in let w = all_at spell_module plain_module c.args.old.now c.loop-one.one-index (record { name = (record { ref_ptr = (0, 0); now = [] }); token = 0; params = (record { ref_ptr = (0, 0); now = [] }); header = None; groups = (record { ref_ptr = (0, 0); now = [] }); items = (record { ref_ptr = (0, 0); now = [] }) }) c.loop-one-test.true in record { fits = omega (arith, f, w) }

pub loop-one-preserved : goal.loop-one-preserved
loop-one-preserved c =
    map_next_at plain_module (instance_module c.args.sites.now c.args.choice.now.picks.items) c.loop-one.list.items c.push.new.self.items c.args.old.now c.loop-one.one-index (record { name = (record { ref_ptr = (0, 0); now = [] }); token = 0; params = (record { ref_ptr = (0, 0); now = [] }); header = None; groups = (record { ref_ptr = (0, 0); now = [] }); items = (record { ref_ptr = (0, 0); now = [] }) }) c.in_ok-new.new
    c.loop-one-test.true c.loop-one.invariant c.in_ok-new.ensures c.in_ok-push.ensures.items
