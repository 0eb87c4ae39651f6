use Rattle.std.proofs.Common.{◌∙◌, sym, ap, ◌++◌, ◌+◌, map, drop, append_assoc}
use Rattle.std.specs.Prelude.{flat_map}
use Rattle.rr_syntax.specs.View.{plain_identifier, plain_list, plain_statement}
use Rattle.rr_flat.specs.Reads.{names_in_parts, names_of}
use Rattle.rr_text_names.proofs.Walks.{add_more, add_done}
use Rattle.rr_text_names.proofs.NamesOfNodes.{named_list, named_arms, arm_names}
use Rattle.rr_text_names.proofs.lists.+named.Goals as goal

pub add_named_in_all-loop-stmt-preserved : goal.add_named_in_all-loop-stmt-preserved
add_named_in_all-loop-stmt-preserved t c =
    ap (λ z. z ++ flat_map (λ x. names_of (plain_statement x)) (drop (c.loop-stmt.stmt-index + 1) c.args.body.now)) c.in_ok-add_statement_names.ensures
    ∙ (add_more (λ x. names_of (plain_statement x)) (map plain_identifier c.loop-stmt.list.items) c.args.body.now c.loop-stmt.stmt-index c.stmt-item.result c.loop-stmt-test.true c.stmt-item.is
    ∙ c.loop-stmt.invariant)

pub add_named_in_all-returns : goal.add_named_in_all-returns
add_named_in_all-returns t c =
    sym (add_done (λ x. names_of (plain_statement x)) (map plain_identifier c.loop-stmt.list.items) c.args.body.now c.loop-stmt.stmt-index c.loop-stmt-test.false)
    ∙ (c.loop-stmt.invariant ∙ ap (λ z. map plain_identifier c.args.list.now.items ++ z) (sym (named_list c.args.body.now)))

pub add_named_in_arms-loop-arm-preserved : goal.add_named_in_arms-loop-arm-preserved
add_named_in_arms-loop-arm-preserved t c =
    let x = c.arm-item.result in
    let start = map plain_identifier c.loop-arm.list.items in
    ap (λ z. z ++ flat_map arm_names (drop (c.loop-arm.arm-index + 1) c.args.arms.now))
    (c.in_ok-add_statement_names.ensures ∙ (ap (λ z. z ++ names_of (plain_statement x.body.now)) c.in_ok-add_names_of_all.ensures
    ∙ append_assoc start (names_in_parts (plain_list x.labels.now)) (names_of (plain_statement x.body.now))))
    ∙ (add_more arm_names start c.args.arms.now c.loop-arm.arm-index x c.loop-arm-test.true c.arm-item.is ∙ c.loop-arm.invariant)

pub add_named_in_arms-returns : goal.add_named_in_arms-returns
add_named_in_arms-returns t c =
    sym (add_done arm_names (map plain_identifier c.loop-arm.list.items) c.args.arms.now c.loop-arm.arm-index c.loop-arm-test.false)
    ∙ (c.loop-arm.invariant ∙ ap (λ z. map plain_identifier c.args.list.now.items ++ z) (sym (named_arms c.args.arms.now)))
