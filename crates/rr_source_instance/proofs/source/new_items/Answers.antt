use Rattle.std.proofs.Common.{length, ap, arith}
use Rattle.rr_syntax.specs.declared.tree.Item.{Item}
use Rattle.rr_syntax.specs.Items.{spell_item}
use Rattle.rr_syntax.specs.View.{plain_item}
use Rattle.rr_instance.specs.Instances.{instance_item}
use Rattle.rr_source_instance.proofs.Items.{all_at, map_none, map_next}
use Rattle.rr_source_instance.proofs.source.new_items.Goals as goal

pub loop-one-init : goal.loop-one-init
loop-one-init c = map_none plain_item (instance_item c.args.sites.now c.args.choice.now.picks.items) c.new-list.result.items c.new-list.ensures.items

pub new_item-requires : goal.new_item-requires
new_item-requires c =
    let f = c.requires.fits in let w = all_at spell_item plain_item c.args.old.now c.loop-one.one-index c.one-item.result c.loop-one-test.true in let e = ap (λ (x : Item). length (spell_item (plain_item x))) c.one-item.is in record { fits = omega (arith, f, w, e) }

pub loop-one-preserved : goal.loop-one-preserved
loop-one-preserved c =
    map_next plain_item (instance_item c.args.sites.now c.args.choice.now.picks.items) c.loop-one.list.items c.push.new.self.items c.args.old.now c.loop-one.one-index c.one-item.result c.in_ok-new.new
    c.loop-one-test.true c.one-item.is c.loop-one.invariant c.in_ok-new.ensures c.in_ok-push.ensures.items
