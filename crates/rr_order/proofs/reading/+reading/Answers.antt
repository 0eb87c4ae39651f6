use Rattle.std.proofs.Common.{rules}
use Rattle.std.proofs.lemmas.Result.{on_ok_weaker}
use Rattle.rr_syntax.specs.declared.tree.Stmt.{the_lemmas}
use Rattle.rr_writers.proofs.Statements.{shaped-Block, shaped-Yes, shaped-No, shaped-Case, shaped-Assign}
use Rattle.rr_order.proofs.Readings.{shaped-Test, reads-Null, reads-For, reads-Block, reads-Alone, reads-Both, reads-Case, reads-Assign, body_start, body_here, body_more, body_done, arms_start, arms_here, arms_more, arms_done}
use Rattle.rr_order.proofs.reading.+reading.Goals as goal

pub add_read_bits-add_read_by_all-requires : goal.add_read_bits-add_read_by_all-requires
add_read_bits-add_read_by_all-requires t c = (search (rules, the_lemmas), shaped-Block _ _ _ (rw c.in-Block.is at c.requires))

pub add_read_bits-add_named_bits-requires : goal.add_read_bits-add_named_bits-requires
add_read_bits-add_named_bits-requires t c = shaped-Test _ _ _ _ (rw c.in-If.is at c.requires)

pub add_read_bits-add_read_bits-requires : goal.add_read_bits-add_read_bits-requires
add_read_bits-add_read_bits-requires t c = (search (rules, the_lemmas), shaped-Yes _ _ _ _ (rw c.in-If.is at c.requires))

pub add_read_bits-add_read_bits-requires-in-Some : goal.add_read_bits-add_read_bits-requires-in-Some
add_read_bits-add_read_bits-requires-in-Some t c = (search (rules, the_lemmas), shaped-No _ _ _ c.in-Some.other _ c.in-Some.is (rw c.in-If.is at c.requires))

pub add_read_bits-add_named_bits-requires-in-Case : goal.add_read_bits-add_named_bits-requires-in-Case
add_read_bits-add_named_bits-requires-in-Case t c = (shaped-Case _ _ _ _ (rw c.in-Case.is at c.requires)).0

pub add_read_bits-add_read_by_arms-requires : goal.add_read_bits-add_read_by_arms-requires
add_read_bits-add_read_by_arms-requires t c = (search (rules, the_lemmas), (shaped-Case _ _ _ _ (rw c.in-Case.is at c.requires)).1)

pub add_read_bits-add_target_reads-requires : goal.add_read_bits-add_target_reads-requires
add_read_bits-add_target_reads-requires t c = (shaped-Assign _ _ _ _ (rw c.in-Assign.is at c.requires)).0

pub add_read_bits-add_named_bits-requires-in-Assign : goal.add_read_bits-add_named_bits-requires-in-Assign
add_read_bits-add_named_bits-requires-in-Assign t c = (shaped-Assign _ _ _ _ (rw c.in-Assign.is at c.requires)).1

pub add_read_bits-returns-in-Null : goal.add_read_bits-returns-in-Null
add_read_bits-returns-in-Null t c = rw c.in-Null.is (reads-Null _ _)

pub add_read_bits-returns-in-For : goal.add_read_bits-returns-in-For
add_read_bits-returns-in-For t c = rw c.in-For.is (reads-For _ _ _ _)

pub add_read_bits-returns-in-Block : goal.add_read_bits-returns-in-Block
add_read_bits-returns-in-Block t c = on_ok_weaker c.add_read_by_all.result (λ g. rw c.in-Block.is (reads-Block _ _ _ _ _ g)) c.add_read_by_all.ensures

pub add_read_bits-returns-in-Some : goal.add_read_bits-returns-in-Some
add_read_bits-returns-in-Some t c = on_ok_weaker c.add_read_bits-in-Some.result (λ g. rw c.in-If.is (reads-Both _ _ _ c.in-Some.other _ _ _ _ _ c.in-Some.is c.in_ok-add_named_bits-in-If.ensures c.in_ok-add_read_bits-in-If.ensures g)) c.add_read_bits-in-Some.ensures

pub add_read_bits-returns-in-None : goal.add_read_bits-returns-in-None
add_read_bits-returns-in-None t c = rw c.in-If.is (reads-Alone _ _ _ _ _ _ _ c.in-None.is c.in_ok-add_named_bits-in-If.ensures c.in_ok-add_read_bits-in-If.ensures)

pub add_read_bits-returns-in_ok-add_named_bits-in-Case : goal.add_read_bits-returns-in_ok-add_named_bits-in-Case
add_read_bits-returns-in_ok-add_named_bits-in-Case t c = on_ok_weaker c.add_read_by_arms.result (λ g. rw c.in-Case.is (reads-Case _ _ _ _ _ _ _ c.in_ok-add_named_bits-in-Case.ensures g)) c.add_read_by_arms.ensures

pub add_read_bits-returns-in_ok-add_target_reads-in-Assign : goal.add_read_bits-returns-in_ok-add_target_reads-in-Assign
add_read_bits-returns-in_ok-add_target_reads-in-Assign t c = on_ok_weaker c.add_named_bits-in-Assign.result (λ g. rw c.in-Assign.is (reads-Assign _ _ _ _ _ _ _ c.in_ok-add_target_reads-in-Assign.ensures g)) c.add_named_bits-in-Assign.ensures

pub add_read_by_all-loop-stmt-init : goal.add_read_by_all-loop-stmt-init
add_read_by_all-loop-stmt-init t c = body_start c.args.names.now c.args.body.now c.args.list.now.items c.requires

pub add_read_by_all-add_read_bits-requires : goal.add_read_by_all-add_read_bits-requires
add_read_by_all-add_read_bits-requires t c =
    (search (rules, the_lemmas), body_here c.args.names.now c.args.body.now c.loop-stmt.stmt-index c.stmt-item.result c.args.list.now.items c.loop-stmt.list.items c.loop-stmt-test.true c.stmt-item.is c.loop-stmt.invariant)

pub add_read_by_all-loop-stmt-preserved : goal.add_read_by_all-loop-stmt-preserved
add_read_by_all-loop-stmt-preserved t c =
    body_more c.args.names.now c.args.body.now c.loop-stmt.stmt-index c.stmt-item.result c.args.list.now.items c.loop-stmt.list.items _ c.loop-stmt-test.true c.stmt-item.is c.loop-stmt.invariant c.in_ok-add_read_bits.ensures

pub add_read_by_all-returns : goal.add_read_by_all-returns
add_read_by_all-returns t c = body_done c.args.names.now c.args.body.now c.loop-stmt.stmt-index c.args.list.now.items c.loop-stmt.list.items c.loop-stmt-test.false c.loop-stmt.invariant

pub add_read_by_arms-loop-arm-init : goal.add_read_by_arms-loop-arm-init
add_read_by_arms-loop-arm-init t c = arms_start c.args.names.now c.args.arms.now c.args.list.now.items c.requires

pub add_read_by_arms-add_labels-requires : goal.add_read_by_arms-add_labels-requires
add_read_by_arms-add_labels-requires t c =
    (arms_here c.args.names.now c.args.arms.now c.loop-arm.arm-index c.arm-item.result c.args.list.now.items c.loop-arm.list.items c.loop-arm-test.true c.arm-item.is c.loop-arm.invariant).0

pub add_read_by_arms-add_read_bits-requires : goal.add_read_by_arms-add_read_bits-requires
add_read_by_arms-add_read_bits-requires t c =
    (search (rules, the_lemmas), (arms_here c.args.names.now c.args.arms.now c.loop-arm.arm-index c.arm-item.result c.args.list.now.items c.loop-arm.list.items c.loop-arm-test.true c.arm-item.is c.loop-arm.invariant).1)

pub add_read_by_arms-loop-arm-preserved : goal.add_read_by_arms-loop-arm-preserved
add_read_by_arms-loop-arm-preserved t c =
    arms_more c.args.names.now c.args.arms.now c.loop-arm.arm-index c.arm-item.result c.args.list.now.items c.loop-arm.list.items _ _ c.loop-arm-test.true c.arm-item.is c.loop-arm.invariant c.in_ok-add_labels.ensures c.in_ok-add_read_bits.ensures

pub add_read_by_arms-returns : goal.add_read_by_arms-returns
add_read_by_arms-returns t c = arms_done c.args.names.now c.args.arms.now c.loop-arm.arm-index c.args.list.now.items c.loop-arm.list.items c.loop-arm-test.false c.loop-arm.invariant
