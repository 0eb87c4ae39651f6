use Rattle.std.proofs.Common.{[], None, arith}
use Rattle.rr_syntax.specs.Items.{spell_declarator}
use Rattle.rr_syntax.specs.View.{plain_declarator}
use Rattle.rr_instance.specs.Instances.{instance_net}
use Rattle.rr_source_instance.proofs.Items.{each_at, map_none, map_next_at}
use Rattle.rr_source_instance.proofs.source.new_nets.Goals as goal

pub loop-one-init : goal.loop-one-init
loop-one-init c = map_none plain_declarator (instance_net c.args.sites.now c.args.choice.now.picks.items) c.new-list.result.items c.new-list.ensures.items

pub new_net-requires : goal.new_net-requires
new_net-requires c =
    let f = c.requires.fits in let w = each_at spell_declarator plain_declarator c.args.old.now c.loop-one.one-index (record { token = 0; name = (record { ref_ptr = (0, 0); now = [] }); words = None; value = None }) c.loop-one-test.true in record { fits = omega (arith, f, w) }

pub loop-one-preserved : goal.loop-one-preserved
loop-one-preserved c =
    map_next_at plain_declarator (instance_net c.args.sites.now c.args.choice.now.picks.items) c.loop-one.list.items c.push.new.self.items c.args.old.now c.loop-one.one-index (record { token = 0; name = (record { ref_ptr = (0, 0); now = [] }); words = None; value = None }) c.in_ok-new.new
    c.loop-one-test.true c.loop-one.invariant c.in_ok-new.ensures c.in_ok-push.ensures.items
