use Rattle.std.proofs.Common.{arith, ap, length, subst}
use Rattle.rr_syntax.specs.declared.tree.Item.{Item}
use Rattle.rr_syntax.specs.Items.{spell_item}
use Rattle.rr_syntax.specs.View.{plain_item}
use Rattle.rr_patch.specs.Changes.{plain_changes}
use Rattle.rr_patch.specs.Walks.{ItemAt, Adds}
use Rattle.rr_patch.proofs.ListWalks.{all_none, all_more, all_full, all_short}
use Rattle.rr_lint_print.specs.Pieces.{item_pieces}
use Rattle.rr_lint_names.specs.Latched.{marks}
use Rattle.rr_lint.proofs.Items.{item_size}
use Rattle.rr_lint.proofs.changes.items.Goals as goal

pub loop-one-init : goal.loop-one-init
loop-one-init c = record { done = all_none (item_pieces (marks c.args.noted.now)) spell_item plain_item (item_size (marks c.args.noted.now)) ItemAt (plain_changes c.args.out.now.items) c.args.entries.now }

pub item-requires : goal.item-requires
item-requires c =
    let f = c.requires.fits in
    let w = all_short spell_item plain_item c.args.entries.now c.loop-one.one-index c.one-item.result c.loop-one-test.true in
    let q = ap (λ (x : Item). length (spell_item (plain_item x))) c.one-item.is in
    record { fits = omega (arith, f, w, q) }

pub loop-one-preserved : goal.loop-one-preserved
loop-one-preserved c = record {
  done = all_more (item_pieces (marks c.args.noted.now)) spell_item plain_item (item_size (marks c.args.noted.now)) ItemAt (plain_changes c.args.out.now.items) (plain_changes c.loop-one.out.items) (plain_changes c.item.new.out.items) c.args.entries.now
      c.loop-one.one-index c.one-item.result c.loop-one-test.true c.loop-one.invariant.done
      (subst (λ (x : Item). Adds (plain_changes c.loop-one.out.items) (plain_changes c.item.new.out.items) (ItemAt (plain_item x)) (item_pieces (marks c.args.noted.now) (plain_item x))) c.one-item.is c.in_ok-item.ensures);
}

pub returns : goal.returns
returns c =
    all_full (item_pieces (marks c.args.noted.now)) spell_item plain_item (item_size (marks c.args.noted.now)) ItemAt (plain_changes c.args.out.now.items) (plain_changes c.loop-one.out.items) c.args.entries.now c.loop-one.one-index c.loop-one-test.false
    c.loop-one.invariant.done
