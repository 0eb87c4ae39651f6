use Rattle.std.proofs.Common.{◌∙◌, [], sym, ap, drop, fold}
use Rattle.std.specs.Prelude.{flat_map}
use Rattle.rr_syntax.specs.View.{plain_item}
use Rattle.rr_loop_rules.specs.Rules.{with_integer, integers_of_item}
use Rattle.rr_loop_rules.proofs.Folds.{fold_more, fold_done, flat_map_map}
use Rattle.rr_loop_rules.proofs.names.integers_of_items.Goals as goal

pub loop-item-init : goal.loop-item-init
loop-item-init c = ap (λ z. fold (with_integer c.args.loops.now) z (flat_map (λ x. integers_of_item (plain_item x)) (drop 0 c.args.items.now))) c.new-names.ensures

pub loop-item-preserved : goal.loop-item-preserved
loop-item-preserved c =
    fold_more (λ x. integers_of_item (plain_item x)) (with_integer c.args.loops.now) c.loop-item.names c.add_item_integers.new.names c.args.items.now c.loop-item.item-index c.item-item.result
    c.loop-item-test.true c.item-item.is c.in_ok-add_item_integers.ensures
    ∙ c.loop-item.invariant

pub returns : goal.returns
returns c =
    sym (fold_done (λ x. integers_of_item (plain_item x)) (with_integer c.args.loops.now) c.loop-item.names c.args.items.now c.loop-item.item-index c.loop-item-test.false)
    ∙ (c.loop-item.invariant ∙ ap (fold (with_integer c.args.loops.now) []) (flat_map_map integers_of_item plain_item c.args.items.now))
