use Rattle.std.proofs.Common.{length, nat_eq, ap, subst, arith}
use Rattle.indexmap.specs.IndexMap.{get}
use Rattle.rr_syntax.specs.declared.tree.Item.{Item}
use Rattle.rr_syntax.specs.Items.{spell_item}
use Rattle.rr_syntax.specs.View.{plain_item}
use Rattle.rr_patch.proofs.ListWalks.{all_short}
use Rattle.rr_kept.proofs.BodyTable.{AddsItem, adds_none, items_more, items_full}
use Rattle.rr_kept.proofs.bodies.items.Goals as goal

pub loop-one-init : goal.loop-one-init
loop-one-init c = record { done = adds_none (get nat_eq c.args.bodies.now) }

pub item-requires : goal.item-requires
item-requires c =
    let f = c.requires.fits in
    let w = all_short spell_item plain_item c.args.entries.now c.loop-one.one-index c.one-item.result c.loop-one-test.true in
    let q = ap (λ (x : Item). length (spell_item (plain_item x))) c.one-item.is in record { fits = omega (arith, f, w, q) }

pub loop-one-preserved : goal.loop-one-preserved
loop-one-preserved c = record {
  done = items_more (get nat_eq c.args.bodies.now) (get nat_eq c.loop-one.bodies) (get nat_eq c.item.new.bodies) c.args.entries.now c.loop-one.one-index c.one-item.result c.loop-one-test.true c.loop-one.invariant.done
      (subst (AddsItem (get nat_eq c.loop-one.bodies) (get nat_eq c.item.new.bodies)) c.one-item.is c.in_ok-item.ensures);
}

pub returns : goal.returns
returns c = items_full (get nat_eq c.args.bodies.now) (get nat_eq c.loop-one.bodies) c.args.entries.now c.loop-one.one-index c.loop-one-test.false c.loop-one.invariant.done
