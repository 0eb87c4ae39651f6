use Rattle.std.proofs.Common.{◌∙◌, sym, ap, ◌++◌, ◌+◌, map, drop}
use Rattle.std.specs.Prelude.{flat_map}
use Rattle.rr_syntax.specs.View.{plain}
use Rattle.rr_flat.specs.Reads.{assigned_parts}
use Rattle.rr_flat.specs.Targets.{target_parts}
use Rattle.rr_text_names.specs.View.{plain_target}
use Rattle.rr_text_names.proofs.Walks.{add_more, add_done}
use Rattle.rr_text_names.proofs.PartsOfNodes.{targets_list}
use Rattle.rr_text_names.proofs.lists.+parts.Goals as goal

pub add_parts_of_all-loop-target-preserved : goal.add_parts_of_all-loop-target-preserved
add_parts_of_all-loop-target-preserved t c =
    ap (λ z. z ++ flat_map (λ x. assigned_parts c.args.now (target_parts (plain x))) (drop (c.loop-target.target-index + 1) c.args.targets.now)) c.in_ok-add_parts.ensures
    ∙ (add_more (λ x. assigned_parts c.args.now (target_parts (plain x))) (map plain_target c.loop-target.list.items) c.args.targets.now c.loop-target.target-index c.target-item.result c.loop-target-test.true c.target-item.is
    ∙ c.loop-target.invariant)

pub add_parts_of_all-returns : goal.add_parts_of_all-returns
add_parts_of_all-returns t c =
    sym (add_done (λ x. assigned_parts c.args.now (target_parts (plain x))) (map plain_target c.loop-target.list.items) c.args.targets.now c.loop-target.target-index c.loop-target-test.false)
    ∙ (c.loop-target.invariant ∙ ap (λ z. map plain_target c.args.list.now.items ++ z) (sym (targets_list c.args.now c.args.targets.now)))
