use Rattle.std.proofs.Common.{◌∙◌, sym, rules}
use Rattle.std.proofs.lemmas.Result.{on_ok_weaker}
use Rattle.rr_syntax.specs.declared.tree.Stmt.{the_lemmas}
use Rattle.rr_named_bits.specs.Lists.{may}
use Rattle.rr_writers.proofs.Statements.{shaped-Block, shaped-Yes, shaped-No, shaped-Case, shaped-Assign, adds-Null, adds-For, adds-Block, adds-Alone, adds-Both, adds-Case, adds-Assign, skips-Assign, assigns_here, assigns_more, assigns_done, arms_here, arms_more, arms_done}
use Rattle.rr_writers.proofs.assigned.+assigned.Goals as goal

pub add_assigned_bits-add_assigned_by_all-requires : goal.add_assigned_bits-add_assigned_by_all-requires
add_assigned_bits-add_assigned_by_all-requires t c = (search (rules, the_lemmas), shaped-Block _ _ _ (rw c.in-Block.is at c.requires))

pub add_assigned_bits-add_assigned_bits-requires : goal.add_assigned_bits-add_assigned_bits-requires
add_assigned_bits-add_assigned_bits-requires t c = (search (rules, the_lemmas), shaped-Yes _ _ _ _ (rw c.in-If.is at c.requires))

pub add_assigned_bits-add_assigned_bits-requires-in-Some : goal.add_assigned_bits-add_assigned_bits-requires-in-Some
add_assigned_bits-add_assigned_bits-requires-in-Some t c = (search (rules, the_lemmas), shaped-No _ _ _ c.in-Some.other _ c.in-Some.is (rw c.in-If.is at c.requires))

pub add_assigned_bits-add_assigned_by_arms-requires : goal.add_assigned_bits-add_assigned_by_arms-requires
add_assigned_bits-add_assigned_by_arms-requires t c = (search (rules, the_lemmas), (shaped-Case _ _ _ _ (rw c.in-Case.is at c.requires)).1)

pub add_assigned_bits-add_writes-requires : goal.add_assigned_bits-add_writes-requires
add_assigned_bits-add_writes-requires t c = (shaped-Assign _ _ _ _ (rw c.in-Assign.is at c.requires)).0

pub add_assigned_bits-returns-in-Null : goal.add_assigned_bits-returns-in-Null
add_assigned_bits-returns-in-Null t c = λ b. rw c.in-Null.is (adds-Null (may c.args.list.now.items b) c.args.later c.args.names.now b)

pub add_assigned_bits-returns-in-For : goal.add_assigned_bits-returns-in-For
add_assigned_bits-returns-in-For t c = λ b. rw c.in-For.is (adds-For (may c.args.list.now.items b) c.args.later c.args.names.now _ _ b)

pub add_assigned_bits-returns-in-Block : goal.add_assigned_bits-returns-in-Block
add_assigned_bits-returns-in-Block t c =
    on_ok_weaker c.add_assigned_by_all.result (λ e b. e b ∙ rw c.in-Block.is (adds-Block (may c.args.list.now.items b) c.args.later c.args.names.now _ c.in-Block.body b)) c.add_assigned_by_all.ensures

pub add_assigned_bits-returns-in-Some : goal.add_assigned_bits-returns-in-Some
add_assigned_bits-returns-in-Some t c =
    on_ok_weaker c.add_assigned_bits-in-Some.result
    (λ e b.
    rw c.in-If.is (adds-Both (may c.args.list.now.items b) _ _ c.args.later c.args.names.now c.in-If.test c.in-If.yes c.in-Some.other c.in-If.no b c.in-Some.is (c.in_ok-add_assigned_bits-in-If.ensures b) (e b)))
    c.add_assigned_bits-in-Some.ensures

pub add_assigned_bits-returns-in-None : goal.add_assigned_bits-returns-in-None
add_assigned_bits-returns-in-None t c = λ b. c.in_ok-add_assigned_bits-in-If.ensures b ∙ rw c.in-If.is (adds-Alone (may c.args.list.now.items b) c.args.later c.args.names.now c.in-If.test c.in-If.yes c.in-If.no b c.in-None.is)

pub add_assigned_bits-returns-in-Case : goal.add_assigned_bits-returns-in-Case
add_assigned_bits-returns-in-Case t c =
    on_ok_weaker c.add_assigned_by_arms.result (λ e b. e b ∙ rw c.in-Case.is (adds-Case (may c.args.list.now.items b) c.args.later c.args.names.now _ c.in-Case.on c.in-Case.arms b)) c.add_assigned_by_arms.ensures

pub add_assigned_bits-returns-then-counts : goal.add_assigned_bits-returns-then-counts
add_assigned_bits-returns-then-counts t c =
    on_ok_weaker c.add_writes.result
    (λ e b. e b ∙ rw c.in-Assign.is (adds-Assign (may c.args.list.now.items b) c.args.later c.args.names.now c.in-Assign.target c.in-Assign.now c.in-Assign.value b (sym c.counts.ensures ∙ c.if-counts.true)))
    c.add_writes.ensures.may

pub add_assigned_bits-returns-else-counts : goal.add_assigned_bits-returns-else-counts
add_assigned_bits-returns-else-counts t c =
    λ b. rw c.in-Assign.is (skips-Assign (may c.args.list.now.items b) c.args.later c.args.names.now c.in-Assign.target c.in-Assign.now c.in-Assign.value b (sym c.counts.ensures ∙ c.if-counts.false))

pub add_assigned_by_all-add_assigned_bits-requires : goal.add_assigned_by_all-add_assigned_bits-requires
add_assigned_by_all-add_assigned_bits-requires t c =
    (search (rules, the_lemmas), assigns_here c.args.later c.args.names.now c.args.body.now c.loop-stmt.stmt-index c.stmt-item.result c.args.list.now.items c.loop-stmt.list.items c.loop-stmt-test.true c.stmt-item.is c.loop-stmt.invariant)

pub add_assigned_by_all-loop-stmt-preserved : goal.add_assigned_by_all-loop-stmt-preserved
add_assigned_by_all-loop-stmt-preserved t c =
    assigns_more c.args.later c.args.names.now c.args.body.now c.loop-stmt.stmt-index c.stmt-item.result c.args.list.now.items c.loop-stmt.list.items _ c.loop-stmt-test.true c.stmt-item.is c.loop-stmt.invariant c.in_ok-add_assigned_bits.ensures

pub add_assigned_by_all-returns : goal.add_assigned_by_all-returns
add_assigned_by_all-returns t c = assigns_done c.args.later c.args.names.now c.args.body.now c.loop-stmt.stmt-index c.args.list.now.items c.loop-stmt.list.items c.loop-stmt-test.false c.loop-stmt.invariant

pub add_assigned_by_arms-add_assigned_bits-requires : goal.add_assigned_by_arms-add_assigned_bits-requires
add_assigned_by_arms-add_assigned_bits-requires t c =
    (search (rules, the_lemmas), arms_here c.args.later c.args.names.now c.args.arms.now c.loop-arm.arm-index c.arm-item.result c.args.list.now.items c.loop-arm.list.items c.loop-arm-test.true c.arm-item.is c.loop-arm.invariant)

pub add_assigned_by_arms-loop-arm-preserved : goal.add_assigned_by_arms-loop-arm-preserved
add_assigned_by_arms-loop-arm-preserved t c =
    arms_more c.args.later c.args.names.now c.args.arms.now c.loop-arm.arm-index c.arm-item.result c.args.list.now.items c.loop-arm.list.items _ c.loop-arm-test.true c.arm-item.is c.loop-arm.invariant c.in_ok-add_assigned_bits.ensures

pub add_assigned_by_arms-returns : goal.add_assigned_by_arms-returns
add_assigned_by_arms-returns t c = arms_done c.args.later c.args.names.now c.args.arms.now c.loop-arm.arm-index c.args.list.now.items c.loop-arm.list.items c.loop-arm-test.false c.loop-arm.invariant
