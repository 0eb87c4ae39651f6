use Rattle.std.proofs.Common.{◌∙◌, sym, ap, ◌++◌, ◌+◌, map, drop}
use Rattle.std.specs.Prelude.{flat_map}
use Rattle.rr_syntax.specs.View.{plain, plain_identifier}
use Rattle.rr_flat.specs.Reads.{index_names}
use Rattle.rr_text_names.proofs.Walks.{add_more, add_done}
use Rattle.rr_text_names.proofs.NamesOfNodes.{index_list}
use Rattle.rr_text_names.proofs.lists.+indices.Goals as goal

pub add_index_names_of_all-loop-target-preserved : goal.add_index_names_of_all-loop-target-preserved
add_index_names_of_all-loop-target-preserved t c =
    ap (λ z. z ++ flat_map (λ x. index_names (plain x)) (drop (c.loop-target.target-index + 1) c.args.targets.now)) c.in_ok-add_index_names.ensures
    ∙ (add_more (λ x. index_names (plain x)) (map plain_identifier c.loop-target.list.items) c.args.targets.now c.loop-target.target-index c.target-item.result c.loop-target-test.true c.target-item.is
    ∙ c.loop-target.invariant)

pub add_index_names_of_all-returns : goal.add_index_names_of_all-returns
add_index_names_of_all-returns t c =
    sym (add_done (λ x. index_names (plain x)) (map plain_identifier c.loop-target.list.items) c.args.targets.now c.loop-target.target-index c.loop-target-test.false)
    ∙ (c.loop-target.invariant ∙ ap (λ z. map plain_identifier c.args.list.now.items ++ z) (sym (index_list c.args.targets.now)))
