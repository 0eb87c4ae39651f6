use Rattle.std.proofs.Common.{None, Some, rules, arith, ◌≡◌, ◌+◌, ◌++◌, ap, ◌∙◌}
use Rattle.rr_syntax.specs.declared.tree.Stmt.{the_lemmas}
use Rattle.rr_syntax.specs.declared.tree.Stmt.TheVariants as stmt
use Rattle.rr_syntax.specs.View.{plain, plain_statement, plain_statements}
use Rattle.rr_syntax.proofs.Lengths.{body_len, stmt_len, body_sum, cases_len, case_len, cases_sum}
use Rattle.rr_syntax.proofs.Sums.{sum_within, sum_next}
use Rattle.rr_patch.specs.Changes.{changes, plain_changes}
use Rattle.rr_respell.specs.Printing.{statement_pieces, statements_pieces, tree_pieces}
use Rattle.rr_patch.proofs.StatementWalks.{made_Null, made_Block, made_If, made_IfElse, made_Case, made_Assign, made_For, statements_none, statements_next, arms_none, arms_next}
use Rattle.rr_patch.proofs.statement.+statement_walks.Goals as goal

pub statement-returns-in-Null-clause-made : goal.statement-returns-in-Null-clause-made
statement-returns-in-Null-clause-made t c = made_Null c.args.list.now c.args.choice.now.picks.items (plain_changes c.args.out.now.items) c.args.at c.args.stmt.now c.in-Null.is

pub statement-returns-in_ok-end-in-Block-clause-made : goal.statement-returns-in_ok-end-in-Block-clause-made
statement-returns-in_ok-end-in-Block-clause-made t c =
    made_Block c.args.list.now c.args.choice.now.picks.items (plain_changes c.args.out.now.items) (plain_changes c.statements.new.out.items) c.args.at c.args.stmt.now c.in-Block.label c.in-Block.body c.in-Block.is
    (c.in_ok-end-in-Block.ensures.made
    ∙ ap (λ n. plain_changes c.args.out.now.items ++ changes (c.args.at + 1 + n) (statements_pieces c.args.list.now c.args.choice.now.picks.items (plain_statements c.in-Block.body.now))) c.label_len.ensures)

pub statement-returns-in_ok-next-in-If-default-default-None-clause-made : goal.statement-returns-in_ok-next-in-If-default-default-None-clause-made
statement-returns-in_ok-next-in-If-default-default-None-clause-made t c =
    made_If c.args.list.now c.args.choice.now.picks.items (plain_changes c.args.out.now.items) (plain_changes c.condition.new.out.items) (plain_changes c.statement.new.out.items)
    c.args.at c.in_ok-close-in-If-default-default-None.close c.args.stmt.now c.in-If-default-default-None.test c.in-If-default-default-None.yes
    (let is : c.args.stmt.now ≡ stmt.If c.in-If-default-default-None.test c.in-If-default-default-None.yes None = search (rules, the_lemmas) in is)
    c.in_ok-close-in-If-default-default-None.ensures.made c.in_ok-close-in-If-default-default-None.ensures.next c.in_ok-next-in-If-default-default-None.ensures.made

pub statement-returns-in_ok-next-in-If-default-default-Some-clause-made : goal.statement-returns-in_ok-next-in-If-default-default-Some-clause-made
statement-returns-in_ok-next-in-If-default-default-Some-clause-made t c =
    made_IfElse c.args.list.now c.args.choice.now.picks.items (plain_changes c.args.out.now.items) (plain_changes c.condition-in-If-default-default-Some.new.out.items)
    (plain_changes c.statement-in-If-default-default-Some.new.out.items) (plain_changes c.statement-in-If-default-default-Some-2.new.out.items)
    c.args.at c.in_ok-close-in-If-default-default-Some.close c.in_ok-middle-in-If-default-default-Some.middle c.args.stmt.now
    c.in-If-default-default-Some.test c.in-If-default-default-Some.yes c.in-If-default-default-Some.other
    (let is : c.args.stmt.now ≡ stmt.If c.in-If-default-default-Some.test c.in-If-default-default-Some.yes (Some c.in-If-default-default-Some.other) = search (rules, the_lemmas) in is)
    c.in_ok-close-in-If-default-default-Some.ensures.made c.in_ok-close-in-If-default-default-Some.ensures.next
    c.in_ok-middle-in-If-default-default-Some.ensures.made c.in_ok-middle-in-If-default-default-Some.ensures.next
    (let last : plain_changes c.statement-in-If-default-default-Some-2.new.out.items ≡
    plain_changes c.statement-in-If-default-default-Some.new.out.items ++
    changes (c.in_ok-middle-in-If-default-default-Some.middle + 1) (statement_pieces c.args.list.now c.args.choice.now.picks.items (plain_statement c.in-If-default-default-Some.other.now)) =
    search (rules, the_lemmas) in last)

pub statement-returns-in_ok-end-in-Case-clause-made : goal.statement-returns-in_ok-end-in-Case-clause-made
statement-returns-in_ok-end-in-Case-clause-made t c =
    made_Case c.args.list.now c.args.choice.now.picks.items (plain_changes c.args.out.now.items) (plain_changes c.expression.new.out.items) (plain_changes c.case_arms.new.out.items)
    c.args.at c.in_ok-close-in-Case.close c.args.stmt.now c.in-Case.kind c.in-Case.on c.in-Case.arms c.in-Case.is
    c.in_ok-close-in-Case.ensures.made c.in_ok-close-in-Case.ensures.next c.in_ok-end-in-Case.ensures.made

pub statement-returns-in_ok-end-in-Assign-clause-made : goal.statement-returns-in_ok-end-in-Assign-clause-made
statement-returns-in_ok-end-in-Assign-clause-made t c =
    made_Assign c.args.list.now c.args.choice.now.picks.items (plain_changes c.args.out.now.items) (plain_changes c.expression-in-Assign.new.out.items) c.args.at c.args.stmt.now c.in-Assign.target c.in-Assign.now c.in-Assign.value
    c.in-Assign.is
    (c.in_ok-end-in-Assign.ensures.made
    ∙ ap (λ n. plain_changes c.args.out.now.items ++ changes (c.args.at + n + 1) (tree_pieces c.args.list.now c.args.choice.now.picks.items (plain c.in-Assign.value.now))) c.expression_len.ensures)

pub statement-returns-in_ok-next-in-For-clause-made : goal.statement-returns-in_ok-next-in-For-clause-made
statement-returns-in_ok-next-in-For-clause-made t c =
    made_For c.args.list.now c.args.choice.now.picks.items (plain_changes c.args.out.now.items) (plain_changes c.statement-in-For.new.out.items) c.args.at c.args.stmt.now c.in-For.head c.in-For.body c.in-For.is
    (c.in_ok-next-in-For.ensures.made
    ∙ ap (λ n. plain_changes c.args.out.now.items ++ changes (c.args.at + 1 + n) (statement_pieces c.args.list.now c.args.choice.now.picks.items (plain_statement c.in-For.body.now))) c.loop_len.ensures)

pub statements-loop-stmt-init : goal.statements-loop-stmt-init
statements-loop-stmt-init t c = (let e = body_sum.none in omega (arith, e), statements_none c.args.list.now c.args.choice.now.picks.items (plain_changes c.args.out.now.items) c.args.at)

pub statements-statement-requires : goal.statements-statement-requires
statements-statement-requires t c = (
  search (rules, the_lemmas),
  let f = c.requires.fits in
      let i = c.loop-stmt.invariant.0 in
      let w = sum_within body_len stmt_len body_sum c.args.body.now c.loop-stmt.stmt-index c.stmt-item.result c.loop-stmt-test.true c.stmt-item.is in
      omega (arith, f, i, w),
)

pub statements-loop-stmt-preserved : goal.statements-loop-stmt-preserved
statements-loop-stmt-preserved t c = (
  let i = c.loop-stmt.invariant.0 in
      let n = c.in_ok-next.ensures.next in
      let w = sum_next body_len stmt_len body_sum c.args.body.now c.loop-stmt.stmt-index c.stmt-item.result c.loop-stmt-test.true c.stmt-item.is in
      omega (arith, i, n, w),
  statements_next c.args.list.now c.args.choice.now.picks.items (plain_changes c.args.out.now.items) (plain_changes c.loop-stmt.out.items) (plain_changes c.statement.new.out.items) c.args.body.now c.loop-stmt.stmt-index
      c.stmt-item.result c.args.at c.loop-stmt.place c.loop-stmt-test.true c.stmt-item.is c.loop-stmt.invariant.0 c.loop-stmt.invariant.1 c.in_ok-next.ensures.made,
)

pub case_arms-loop-arm-init : goal.case_arms-loop-arm-init
case_arms-loop-arm-init t c = (let e = cases_sum.none in omega (arith, e), arms_none c.args.list.now c.args.choice.now.picks.items (plain_changes c.args.out.now.items) c.args.at)

pub case_arms-labels-requires-clause-fits : goal.case_arms-labels-requires-clause-fits
case_arms-labels-requires-clause-fits t c =
    let f = c.requires.fits in
    let i = c.loop-arm.invariant.0 in
    let w = sum_within cases_len case_len cases_sum c.args.arms.now c.loop-arm.arm-index c.arm-item.result c.loop-arm-test.true c.arm-item.is in
    omega (arith, f, i, w)

pub case_arms-statement-requires : goal.case_arms-statement-requires
case_arms-statement-requires t c = (
  search (rules, the_lemmas),
  let f = c.requires.fits in
      let i = c.loop-arm.invariant.0 in
      let n = c.in_ok-colon.ensures.next in
      let w = sum_within cases_len case_len cases_sum c.args.arms.now c.loop-arm.arm-index c.arm-item.result c.loop-arm-test.true c.arm-item.is in
      omega (arith, f, i, n, w),
)

pub case_arms-loop-arm-preserved : goal.case_arms-loop-arm-preserved
case_arms-loop-arm-preserved t c = (
  let i = c.loop-arm.invariant.0 in
      let m = c.in_ok-colon.ensures.next in
      let n = c.in_ok-next.ensures.next in
      let w = sum_next cases_len case_len cases_sum c.args.arms.now c.loop-arm.arm-index c.arm-item.result c.loop-arm-test.true c.arm-item.is in
      omega (arith, i, m, n, w),
  arms_next c.args.list.now c.args.choice.now.picks.items (plain_changes c.args.out.now.items) (plain_changes c.loop-arm.out.items) (plain_changes c.labels.new.out.items) (plain_changes c.statement.new.out.items) c.args.arms.now
      c.loop-arm.arm-index c.arm-item.result c.args.at c.loop-arm.place c.in_ok-colon.colon c.loop-arm-test.true c.arm-item.is c.loop-arm.invariant.0 c.loop-arm.invariant.1 c.in_ok-colon.ensures.made c.in_ok-colon.ensures.next
      c.in_ok-next.ensures.made,
)
