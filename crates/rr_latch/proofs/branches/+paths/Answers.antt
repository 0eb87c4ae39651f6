use Rattle.std.proofs.Common.{◌≡◌, ◌∙◌, ap, rules, length, drop, not, ◌&&◌, ◌||◌, List}
use Rattle.std.proofs.lemmas.Result.{on_ok_weaker}
use Rattle.rr_syntax.specs.declared.tree.Stmt.{the_lemmas}
use Rattle.rr_syntax.specs.View.{plain_statement}
use Rattle.rr_expr.specs.declared.types.Bit.{Bit}
use Rattle.rr_latch.specs.Paths.{assigned, counted, listed}
use Rattle.rr_latch.proofs.Branching.{test_shaped, counted-Null, counted-Block, counted-If, counted-IfElse, counted-Case, counted-Assign, counted-For, ran-Null, noted-Null, ran-For, noted-For, ran-Block, noted-Block, ran-If, noted-If, ran-IfElse, noted-IfElse, ran-Case, noted-Case, branch_left, if_ran, if_else_ran, if_else_noted, all_start, all_here, all_more, all_ran, all_noted, arms_start, arms_here, arms_more, arms_ran, arms_noted}
use Rattle.rr_writers.proofs.Statements.{shaped-Block, shaped-If, shaped-IfElse, shaped-Case, shaped-Assign}
use Rattle.rr_latch.proofs.branches.+paths.Goals as goal

-- a statement

pub run-run_all-requires : goal.run-run_all-requires
run-run_all-requires t c = (search (rules, the_lemmas), shaped-Block _ _ _ (rw c.in-Block.is at c.requires))

pub run-read-requires : goal.run-read-requires
run-read-requires t c = test_shaped c.args.names.now c.in-If.test c.in-If.yes c.in-If.no (rw c.in-If.is at c.requires)

pub run-run_if-requires : goal.run-run_if-requires
run-run_if-requires t c = (search (rules, the_lemmas), (shaped-If c.args.names.now c.in-If.test c.in-If.yes (rw (c.in-If.is, c.in-None.is) at c.requires)).1)

pub run-run_if_else-requires : goal.run-run_if_else-requires
run-run_if_else-requires t c =
    let r = shaped-IfElse c.args.names.now c.in-If.test c.in-If.yes c.in-Some.other (rw (c.in-If.is, c.in-Some.is) at c.requires) in
    (search (rules, the_lemmas), (r.1, r.2))

pub run-read-requires-in-Case : goal.run-read-requires-in-Case
run-read-requires-in-Case t c = (shaped-Case _ _ _ _ (rw c.in-Case.is at c.requires)).0

pub run-run_arms-requires : goal.run-run_arms-requires
run-run_arms-requires t c = (search (rules, the_lemmas), (shaped-Case _ _ _ _ (rw c.in-Case.is at c.requires)).1)

pub run-run_assign-requires-clause-target : goal.run-run_assign-requires-clause-target
run-run_assign-requires-clause-target t c = (shaped-Assign _ _ _ _ (rw c.in-Assign.is at c.requires)).0

pub run-run_assign-requires-clause-value : goal.run-run_assign-requires-clause-value
run-run_assign-requires-clause-value t c = (shaped-Assign _ _ _ _ (rw c.in-Assign.is at c.requires)).1

pub run-returns-in-Null-clause-ran : goal.run-returns-in-Null-clause-ran
run-returns-in-Null-clause-ran t c = rw (c.in-Null.is, counted-Null) (ran-Null c.args.names.now (assigned c.args.path.now.unassigned) c.args.path.now.log.items)

pub run-returns-in-Null-clause-noted : goal.run-returns-in-Null-clause-noted
run-returns-in-Null-clause-noted t c = rw (c.in-Null.is, counted-Null) (noted-Null c.args.names.now (assigned c.args.path.now.unassigned) c.args.early.now)

pub run-returns-in-For-clause-ran : goal.run-returns-in-For-clause-ran
run-returns-in-For-clause-ran t c = rw (c.in-For.is, counted-For) (ran-For c.args.names.now _ _ (assigned c.args.path.now.unassigned) c.args.path.now.log.items)

pub run-returns-in-For-clause-noted : goal.run-returns-in-For-clause-noted
run-returns-in-For-clause-noted t c = rw (c.in-For.is, counted-For) (noted-For c.args.names.now _ _ (assigned c.args.path.now.unassigned) c.args.early.now)

pub run-returns-in-Block-clause-ran : goal.run-returns-in-Block-clause-ran
run-returns-in-Block-clause-ran t c = on_ok_weaker c.run_all.result (λ h. rw (c.in-Block.is, counted-Block) (ran-Block c.args.names.now _ _ _ _ _ _ h)) c.run_all.ensures.ran

pub run-returns-in-Block-clause-noted : goal.run-returns-in-Block-clause-noted
run-returns-in-Block-clause-noted t c = on_ok_weaker c.run_all.result (λ h. rw (c.in-Block.is, counted-Block) (noted-Block c.args.names.now _ _ _ _ _ h)) c.run_all.ensures.noted

pub run-returns-in-None-clause-ran : goal.run-returns-in-None-clause-ran
run-returns-in-None-clause-ran t c = on_ok_weaker c.run_if.result (λ h. rw (c.in-If.is, c.in-None.is, counted-If) (ran-If c.args.names.now _ _ _ _ _ _ h)) c.run_if.ensures.ran

pub run-returns-in-None-clause-noted : goal.run-returns-in-None-clause-noted
run-returns-in-None-clause-noted t c =
    on_ok_weaker c.run_if.result
    (λ h. rw (c.in-If.is, c.in-None.is, counted-If) (noted-If c.args.names.now _ _ c.args.path.now.unassigned c.args.early.now c.read.new.early c.run_if.new.early c.in_ok-read-in-If.ensures h)) c.run_if.ensures.noted

pub run-returns-in-Some-clause-ran : goal.run-returns-in-Some-clause-ran
run-returns-in-Some-clause-ran t c = on_ok_weaker c.run_if_else.result (λ h. rw (c.in-If.is, c.in-Some.is, counted-IfElse) (ran-IfElse c.args.names.now _ _ _ _ _ _ _ h)) c.run_if_else.ensures.ran

pub run-returns-in-Some-clause-noted : goal.run-returns-in-Some-clause-noted
run-returns-in-Some-clause-noted t c =
    on_ok_weaker c.run_if_else.result
    (λ h. rw (c.in-If.is, c.in-Some.is, counted-IfElse) (noted-IfElse c.args.names.now _ _ _ c.args.path.now.unassigned c.args.early.now c.read.new.early c.run_if_else.new.early c.in_ok-read-in-If.ensures h)) c.run_if_else.ensures.noted

pub run-returns-in_ok-read-in-Case-clause-ran : goal.run-returns-in_ok-read-in-Case-clause-ran
run-returns-in_ok-read-in-Case-clause-ran t c = on_ok_weaker c.run_arms.result (λ h. rw (c.in-Case.is, counted-Case) (ran-Case c.args.names.now _ _ _ _ _ _ _ h)) c.run_arms.ensures.ran

pub run-returns-in_ok-read-in-Case-clause-noted : goal.run-returns-in_ok-read-in-Case-clause-noted
run-returns-in_ok-read-in-Case-clause-noted t c =
    on_ok_weaker c.run_arms.result
    (λ h. rw (c.in-Case.is, counted-Case) (noted-Case c.args.names.now _ _ _ c.args.path.now.unassigned c.args.early.now c.read-in-Case.new.early c.run_arms.new.early c.in_ok-read-in-Case.ensures h)) c.run_arms.ensures.noted

pub run-returns-in-Assign-clause-ran : goal.run-returns-in-Assign-clause-ran
run-returns-in-Assign-clause-ran t c =
    on_ok_weaker c.run_assign.result (λ h. rw (c.in-Assign.is, counted-Assign) (rw c.counts.ensures at h)) c.run_assign.ensures.ran

pub run-returns-in-Assign-clause-noted : goal.run-returns-in-Assign-clause-noted
run-returns-in-Assign-clause-noted t c =
    on_ok_weaker c.run_assign.result (λ h. rw (c.in-Assign.is, counted-Assign) (rw c.counts.ensures at h)) c.run_assign.ensures.noted

-- the statements of a block

pub run_all-loop-stmt-init : goal.run_all-loop-stmt-init
run_all-loop-stmt-init t c = all_start c.args.later c.args.names.now (assigned c.args.path.now.unassigned) c.args.body.now c.args.path.now.log.items c.args.early.now c.requires

pub run_all-run-requires : goal.run_all-run-requires
run_all-run-requires t c = (
  search (rules, the_lemmas),
  all_here c.args.later c.args.names.now (assigned c.args.path.now.unassigned) c.args.body.now c.loop-stmt.stmt-index c.stmt-item.result (assigned c.loop-stmt.path.unassigned)
      c.args.path.now.log.items c.loop-stmt.path.log.items c.args.early.now c.loop-stmt.early c.loop-stmt-test.true c.stmt-item.is c.loop-stmt.invariant,
)

pub run_all-loop-stmt-preserved : goal.run_all-loop-stmt-preserved
run_all-loop-stmt-preserved t c =
    all_more c.args.later c.args.names.now (assigned c.args.path.now.unassigned) c.args.body.now c.loop-stmt.stmt-index c.stmt-item.result (assigned c.loop-stmt.path.unassigned) (assigned c.run.new.path.unassigned)
    c.args.path.now.log.items c.loop-stmt.path.log.items c.run.new.path.log.items c.args.early.now c.loop-stmt.early c.run.new.early c.loop-stmt-test.true c.stmt-item.is c.loop-stmt.invariant
    c.in_ok-run.ensures.ran c.in_ok-run.ensures.noted

pub run_all-returns-clause-ran : goal.run_all-returns-clause-ran
run_all-returns-clause-ran t c =
    all_ran c.args.later c.args.names.now (assigned c.args.path.now.unassigned) c.args.body.now c.loop-stmt.stmt-index (assigned c.loop-stmt.path.unassigned)
    c.args.path.now.log.items c.loop-stmt.path.log.items c.args.early.now c.loop-stmt.early c.loop-stmt-test.false c.loop-stmt.invariant

pub run_all-returns-clause-noted : goal.run_all-returns-clause-noted
run_all-returns-clause-noted t c =
    all_noted c.args.later c.args.names.now (assigned c.args.path.now.unassigned) c.args.body.now c.loop-stmt.stmt-index (assigned c.loop-stmt.path.unassigned)
    c.args.path.now.log.items c.loop-stmt.path.log.items c.args.early.now c.loop-stmt.early c.loop-stmt-test.false c.loop-stmt.invariant

-- the arms of a `case`

pub run_arms-loop-arm-init : goal.run_arms-loop-arm-init
run_arms-loop-arm-init t c = arms_start c.args.later c.args.names.now (assigned c.args.path.now.unassigned) c.args.arms.now c.args.path.now.log.items c.args.early.now c.requires

pub run_arms-read_labels-requires : goal.run_arms-read_labels-requires
run_arms-read_labels-requires t c =
    (arms_here c.args.later c.args.names.now (assigned c.args.path.now.unassigned) c.args.arms.now c.loop-arm.arm-index c.arm-item.result c.loop-arm.common (assigned c.loop-arm.path.unassigned)
    c.args.path.now.log.items c.loop-arm.path.log.items c.args.early.now c.loop-arm.early c.loop-arm-test.true c.arm-item.is c.loop-arm.invariant).0

pub run_arms-branch-alloc-requires : goal.run_arms-branch-alloc-requires
run_arms-branch-alloc-requires t c = (
  search (rules, the_lemmas),
  (arms_here c.args.later c.args.names.now (assigned c.args.path.now.unassigned) c.args.arms.now c.loop-arm.arm-index c.arm-item.result c.loop-arm.common (assigned c.loop-arm.path.unassigned)
      c.args.path.now.log.items c.loop-arm.path.log.items c.args.early.now c.loop-arm.early c.loop-arm-test.true c.arm-item.is c.loop-arm.invariant).1,
)

pub run_arms-loop-arm-preserved : goal.run_arms-loop-arm-preserved
run_arms-loop-arm-preserved t c =
    arms_more c.args.later c.args.names.now (assigned c.args.path.now.unassigned) c.args.arms.now c.loop-arm.arm-index c.arm-item.result c.loop-arm.common c.loop-arm.path.unassigned (assigned c.branch-alloc.new.path.unassigned)
    c.args.path.now.log.items c.loop-arm.path.log.items c.branch-alloc.new.path.log.items c.in_ok-branch.field-0 c.args.early.now c.loop-arm.early c.read_labels.new.early c.branch-alloc.new.early
    c.loop-arm-test.true c.arm-item.is c.loop-arm.invariant c.in_ok-read_labels.ensures c.in_ok-branch.ensures.bits c.in_ok-branch.ensures.set c.in_ok-branch.ensures.log c.in_ok-branch.ensures.noted

pub run_arms-returns-clause-ran : goal.run_arms-returns-clause-ran
run_arms-returns-clause-ran t c =
    arms_ran c.args.later c.args.names.now (assigned c.args.path.now.unassigned) c.args.arms.now c.loop-arm.arm-index c.loop-arm.common (assigned c.loop-arm.path.unassigned) (assigned c.assign_common.new.path.unassigned)
    c.args.path.now.log.items c.loop-arm.path.log.items c.assign_common.new.path.log.items c.args.early.now c.loop-arm.early c.has_default.result c.loop-arm-test.false c.loop-arm.invariant
    c.has_default.ensures c.in_ok-assign_common.ensures.set c.in_ok-assign_common.ensures.log

pub run_arms-returns-clause-noted : goal.run_arms-returns-clause-noted
run_arms-returns-clause-noted t c =
    arms_noted c.args.later c.args.names.now (assigned c.args.path.now.unassigned) c.args.arms.now c.loop-arm.arm-index c.loop-arm.common (assigned c.loop-arm.path.unassigned)
    c.args.path.now.log.items c.loop-arm.path.log.items c.args.early.now c.loop-arm.early c.loop-arm-test.false c.loop-arm.invariant

-- the branches of an `if`

pub run_if-returns-clause-ran : goal.run_if-returns-clause-ran
run_if-returns-clause-ran t c =
    let a = c.args.path.now in
    let b = c.branch-alloc.new.path in
    if_ran c.args.names.now (counted c.args.later (plain_statement c.args.yes.now)) (assigned a.unassigned) (assigned b.unassigned) a.log.items b.log.items c.in_ok-branch.ensures.set c.in_ok-branch.ensures.log

pub run_if_else-returns-clause-ran : goal.run_if_else-returns-clause-ran
run_if_else-returns-clause-ran t c =
    let a = c.args.path.now in
    let b = c.branch-alloc.new.path in
    let d = c.branch-alloc-2.new.path in
    let e = c.assign_bits.new.path in
    if_else_ran c.args.names.now (counted c.args.later (plain_statement c.args.yes.now)) (counted c.args.later (plain_statement c.args.no.now))
    (assigned a.unassigned) (assigned b.unassigned) (assigned d.unassigned) (assigned e.unassigned) a.log.items d.log.items e.log.items c.in_ok-first.first c.in_ok-both.both
    c.in_ok-first.ensures.bits c.in_ok-first.ensures.set c.in_ok-both.ensures.bits c.in_ok-both.ensures.set (c.in_ok-both.ensures.log ∙ c.in_ok-first.ensures.log)
    (λ x. c.in_ok-assign_bits.ensures.set x ∙ ap (λ (z : List Bit). assigned d.unassigned x || listed z x) c.as_slice.ensures.value)
    c.in_ok-assign_bits.ensures.log

pub run_if_else-returns-clause-noted : goal.run_if_else-returns-clause-noted
run_if_else-returns-clause-noted t c =
    if_else_noted c.args.names.now (counted c.args.later (plain_statement c.args.yes.now)) (counted c.args.later (plain_statement c.args.no.now))
    (assigned c.args.path.now.unassigned) (assigned c.branch-alloc.new.path.unassigned) c.args.early.now c.branch-alloc.new.early c.branch-alloc-2.new.early
    c.in_ok-first.ensures.set c.in_ok-first.ensures.noted c.in_ok-both.ensures.noted

-- a branch

pub branch-returns-clause-set : goal.branch-returns-clause-set
branch-returns-clause-set t c =
    let a = c.args.path.now in
    let b = c.run.new.path in
    let n : c.len-before.result ≡ length a.log.items = c.len-before.ensures ∙ a.log.ok.0 in
    branch_left c.args.names.now (assigned a.unassigned) (assigned b.unassigned) (assigned c.undo.new.path.unassigned) (counted c.args.later (plain_statement c.args.stmt.now)) a.log.items b.log.items
    c.in_ok-run.ensures.ran
    (λ x. c.in_ok-undo.ensures.set x ∙ ap (λ z. assigned b.unassigned x && not (listed (drop z b.log.items) x)) n)
