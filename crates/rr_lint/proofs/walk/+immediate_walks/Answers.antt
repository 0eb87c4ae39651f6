use Rattle.std.proofs.Common.{None, Some, rules, arith, ◌≡◌, ◌+◌, ◌++◌}
use Rattle.rr_syntax.specs.declared.tree.Stmt.{the_lemmas}
use Rattle.rr_syntax.specs.declared.tree.Stmt.TheVariants as stmt
use Rattle.rr_syntax.specs.View.{plain_statement}
use Rattle.rr_syntax.proofs.Lengths.{body_len, stmt_len, body_sum, cases_len, case_len, cases_sum}
use Rattle.rr_syntax.proofs.Sums.{sum_within, sum_next}
use Rattle.rr_patch.specs.Changes.{changes, plain_changes}
use Rattle.rr_lint_print.specs.Pieces.{immediate_pieces}
use Rattle.rr_lint.proofs.Walking.{made_Null, made_Block, made_If, made_IfElse, made_Case, made_Assign, made_For, statements_none, statements_next, arms_none, arms_next}
use Rattle.rr_lint.proofs.walk.+immediate_walks.Goals as goal

pub statement-returns-in-Null-clause-made : goal.statement-returns-in-Null-clause-made
statement-returns-in-Null-clause-made t c = made_Null (plain_changes c.args.out.now.items) c.args.at c.args.stmt.now c.in-Null.is

pub statement-returns-in_ok-end-in-Block-clause-made : goal.statement-returns-in_ok-end-in-Block-clause-made
statement-returns-in_ok-end-in-Block-clause-made t c =
    let e = c.label_len.ensures in
    made_Block (plain_changes c.args.out.now.items) (plain_changes c.statements.new.out.items) c.args.at (c.args.at + 1 + c.label_len.result) c.args.stmt.now c.in-Block.label c.in-Block.body c.in-Block.is (omega (arith, e)) c.in_ok-end-in-Block.ensures.made

pub statement-returns-in_ok-next-in-If-default-default-None-clause-made : goal.statement-returns-in_ok-next-in-If-default-default-None-clause-made
statement-returns-in_ok-next-in-If-default-default-None-clause-made t c =
    let e = c.expression_len.ensures in
    made_If (plain_changes c.args.out.now.items) (plain_changes c.statement.new.out.items) c.args.at (c.args.at + 3 + c.expression_len.result) c.args.stmt.now c.in-If-default-default-None.test c.in-If-default-default-None.yes
    (let is : c.args.stmt.now ≡ stmt.If c.in-If-default-default-None.test c.in-If-default-default-None.yes None = search (rules, the_lemmas) in is)
    (omega (arith, e)) c.in_ok-next-in-If-default-default-None.ensures.made

pub statement-returns-in_ok-next-in-If-default-default-Some-clause-made : goal.statement-returns-in_ok-next-in-If-default-default-Some-clause-made
statement-returns-in_ok-next-in-If-default-default-Some-clause-made t c =
    let e = c.expression_len-in-If-default-default-Some.ensures in
    made_IfElse (plain_changes c.args.out.now.items) (plain_changes c.statement-in-If-default-default-Some.new.out.items) (plain_changes c.statement-in-If-default-default-Some-2.new.out.items)
    c.args.at (c.args.at + 3 + c.expression_len-in-If-default-default-Some.result) c.in_ok-middle-in-If-default-default-Some.middle c.args.stmt.now
    c.in-If-default-default-Some.test c.in-If-default-default-Some.yes c.in-If-default-default-Some.other
    (let is : c.args.stmt.now ≡ stmt.If c.in-If-default-default-Some.test c.in-If-default-default-Some.yes (Some c.in-If-default-default-Some.other) = search (rules, the_lemmas) in is)
    (omega (arith, e)) c.in_ok-middle-in-If-default-default-Some.ensures.made c.in_ok-middle-in-If-default-default-Some.ensures.next
    (let last : plain_changes c.statement-in-If-default-default-Some-2.new.out.items ≡
    plain_changes c.statement-in-If-default-default-Some.new.out.items ++
    changes (c.in_ok-middle-in-If-default-default-Some.middle + 1) (immediate_pieces (plain_statement c.in-If-default-default-Some.other.now)) =
    search (rules, the_lemmas) in last)

pub statement-returns-in_ok-end-in-Case-clause-made : goal.statement-returns-in_ok-end-in-Case-clause-made
statement-returns-in_ok-end-in-Case-clause-made t c =
    let e = c.expression_len-in-Case.ensures in
    made_Case (plain_changes c.args.out.now.items) (plain_changes c.case_arms.new.out.items) c.args.at (c.args.at + 3 + c.expression_len-in-Case.result) c.args.stmt.now c.in-Case.kind c.in-Case.on c.in-Case.arms c.in-Case.is (omega (arith, e))
    c.in_ok-end-in-Case.ensures.made

pub statement-returns-in_ok-assignment-in-Assign-clause-made : goal.statement-returns-in_ok-assignment-in-Assign-clause-made
statement-returns-in_ok-assignment-in-Assign-clause-made t c =
    let e = c.expression_len-in-Assign.ensures in
    made_Assign (plain_changes c.args.out.now.items) (plain_changes c.assignment.new.out.items) c.args.at (c.args.at + c.expression_len-in-Assign.result) c.args.stmt.now c.in-Assign.target c.in-Assign.now c.in-Assign.value c.in-Assign.is
    (omega (arith, e)) c.in_ok-assignment-in-Assign.ensures

pub statement-returns-in_ok-next-in-For-clause-made : goal.statement-returns-in_ok-next-in-For-clause-made
statement-returns-in_ok-next-in-For-clause-made t c =
    let e = c.loop_len.ensures in
    made_For (plain_changes c.args.out.now.items) (plain_changes c.statement-in-For.new.out.items) c.args.at (c.args.at + 1 + c.loop_len.result) c.args.stmt.now c.in-For.head c.in-For.body c.in-For.is (omega (arith, e)) c.in_ok-next-in-For.ensures.made

pub statements-loop-stmt-init : goal.statements-loop-stmt-init
statements-loop-stmt-init t c = (let e = body_sum.none in omega (arith, e), statements_none (plain_changes c.args.out.now.items) c.args.at)

pub statements-statement-requires : goal.statements-statement-requires
statements-statement-requires t c = (
  search (rules, the_lemmas),
  let f = c.requires.fits in
      let i = c.loop-stmt.invariant.0 in
      let w = sum_within body_len stmt_len body_sum c.args.body.now c.loop-stmt.stmt-index c.stmt-item.result c.loop-stmt-test.true c.stmt-item.is in
      omega (arith, f, i, w),
)

pub statements-loop-stmt-preserved : goal.statements-loop-stmt-preserved
statements-loop-stmt-preserved t c = (
  let i = c.loop-stmt.invariant.0 in
      let n = c.in_ok-next.ensures.next in
      let w = sum_next body_len stmt_len body_sum c.args.body.now c.loop-stmt.stmt-index c.stmt-item.result c.loop-stmt-test.true c.stmt-item.is in
      omega (arith, i, n, w),
  statements_next (plain_changes c.args.out.now.items) (plain_changes c.loop-stmt.out.items) (plain_changes c.statement.new.out.items) c.args.body.now c.loop-stmt.stmt-index
      c.stmt-item.result c.args.at c.loop-stmt.place c.loop-stmt-test.true c.stmt-item.is c.loop-stmt.invariant.0 c.loop-stmt.invariant.1 c.in_ok-next.ensures.made,
)

pub case_arms-loop-arm-init : goal.case_arms-loop-arm-init
case_arms-loop-arm-init t c = (let e = cases_sum.none in omega (arith, e), arms_none (plain_changes c.args.out.now.items) c.args.at)

pub case_arms-labels_len-requires : goal.case_arms-labels_len-requires
case_arms-labels_len-requires t c =
    let f = c.requires.fits in
    let i = c.loop-arm.invariant.0 in
    let w = sum_within cases_len case_len cases_sum c.args.arms.now c.loop-arm.arm-index c.arm-item.result c.loop-arm-test.true c.arm-item.is in
    omega (arith, f, i, w)

pub case_arms-overflow_add-colon : goal.case_arms-overflow_add-colon
case_arms-overflow_add-colon t c =
    let f = c.requires.fits in
    let i = c.loop-arm.invariant.0 in
    let e = c.labels_len.ensures in
    let w = sum_within cases_len case_len cases_sum c.args.arms.now c.loop-arm.arm-index c.arm-item.result c.loop-arm-test.true c.arm-item.is in
    omega (arith, f, i, e, w)

pub case_arms-statement-requires : goal.case_arms-statement-requires
case_arms-statement-requires t c = (
  search (rules, the_lemmas),
  let f = c.requires.fits in
      let i = c.loop-arm.invariant.0 in
      let e = c.labels_len.ensures in
      let w = sum_within cases_len case_len cases_sum c.args.arms.now c.loop-arm.arm-index c.arm-item.result c.loop-arm-test.true c.arm-item.is in
      omega (arith, f, i, e, w),
)

pub case_arms-loop-arm-preserved : goal.case_arms-loop-arm-preserved
case_arms-loop-arm-preserved t c =
    let i = c.loop-arm.invariant.0 in
    let e = c.labels_len.ensures in
    let n = c.in_ok-next.ensures.next in
    let w = sum_next cases_len case_len cases_sum c.args.arms.now c.loop-arm.arm-index c.arm-item.result c.loop-arm-test.true c.arm-item.is in (
      omega (arith, i, e, n, w),
      arms_next (plain_changes c.args.out.now.items) (plain_changes c.loop-arm.out.items) (plain_changes c.statement.new.out.items) c.args.arms.now
          c.loop-arm.arm-index c.arm-item.result c.args.at c.loop-arm.place (c.loop-arm.place + c.labels_len.result) c.loop-arm-test.true c.arm-item.is c.loop-arm.invariant.0 c.loop-arm.invariant.1 (omega (arith, e))
          c.in_ok-next.ensures.made,
    )
