use Rattle.std.proofs.Common.{◌≡◌, [], drop, fold}
use Rattle.std.specs.Prelude.{flat_map}
use Rattle.rr_syntax.specs.View.{plain_item}
use Rattle.rr_loop_rules.specs.Rules.{with_new, loops_of_item}
use Rattle.rr_loop_rules.proofs.names.loops_of_items.Given as goal

abbrev pub invariant-loop-item : goal.invariant-loop-item
invariant-loop-item l = fold with_new l.loops (flat_map (λ x. loops_of_item (plain_item x)) (drop l.item-index l.items)) ≡ fold with_new [] (flat_map (λ x. loops_of_item (plain_item x)) l.items)
