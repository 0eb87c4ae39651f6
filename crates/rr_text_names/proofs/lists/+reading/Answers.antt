use Rattle.std.proofs.Common.{◌∙◌, sym, ap, ◌++◌, ◌+◌, map, drop, append_assoc}
use Rattle.std.specs.Prelude.{flat_map}
use Rattle.rr_syntax.specs.View.{plain_identifier, plain_list, plain_statement}
use Rattle.rr_flat.specs.Reads.{names_in_parts, names_read}
use Rattle.rr_text_names.proofs.Walks.{add_more, add_done}
use Rattle.rr_text_names.proofs.NamesOfNodes.{read_list, read_arms, arm_reads}
use Rattle.rr_text_names.proofs.lists.+reading.Goals as goal

pub add_read_by_all-loop-stmt-preserved : goal.add_read_by_all-loop-stmt-preserved
add_read_by_all-loop-stmt-preserved t c =
    ap (λ z. z ++ flat_map (λ x. names_read (plain_statement x)) (drop (c.loop-stmt.stmt-index + 1) c.args.body.now)) c.in_ok-add_read_names.ensures
    ∙ (add_more (λ x. names_read (plain_statement x)) (map plain_identifier c.loop-stmt.list.items) c.args.body.now c.loop-stmt.stmt-index c.stmt-item.result c.loop-stmt-test.true c.stmt-item.is
    ∙ c.loop-stmt.invariant)

pub add_read_by_all-returns : goal.add_read_by_all-returns
add_read_by_all-returns t c =
    sym (add_done (λ x. names_read (plain_statement x)) (map plain_identifier c.loop-stmt.list.items) c.args.body.now c.loop-stmt.stmt-index c.loop-stmt-test.false)
    ∙ (c.loop-stmt.invariant ∙ ap (λ z. map plain_identifier c.args.list.now.items ++ z) (sym (read_list c.args.body.now)))

pub add_read_by_arms-loop-arm-preserved : goal.add_read_by_arms-loop-arm-preserved
add_read_by_arms-loop-arm-preserved t c =
    let x = c.arm-item.result in
    let start = map plain_identifier c.loop-arm.list.items in
    ap (λ z. z ++ flat_map arm_reads (drop (c.loop-arm.arm-index + 1) c.args.arms.now))
    (c.in_ok-add_read_names.ensures ∙ (ap (λ z. z ++ names_read (plain_statement x.body.now)) c.in_ok-add_names_of_all.ensures
    ∙ append_assoc start (names_in_parts (plain_list x.labels.now)) (names_read (plain_statement x.body.now))))
    ∙ (add_more arm_reads start c.args.arms.now c.loop-arm.arm-index x c.loop-arm-test.true c.arm-item.is ∙ c.loop-arm.invariant)

pub add_read_by_arms-returns : goal.add_read_by_arms-returns
add_read_by_arms-returns t c =
    sym (add_done arm_reads (map plain_identifier c.loop-arm.list.items) c.args.arms.now c.loop-arm.arm-index c.loop-arm-test.false)
    ∙ (c.loop-arm.invariant ∙ ap (λ z. map plain_identifier c.args.list.now.items ++ z) (sym (read_arms c.args.arms.now)))
