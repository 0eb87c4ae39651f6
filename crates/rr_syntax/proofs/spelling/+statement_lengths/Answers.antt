use Rattle.std.proofs.Common.{rules, arith, sym}
use Rattle.rr_syntax.specs.declared.tree.Stmt.{the_lemmas}
use Rattle.rr_syntax.proofs.Lengths.{body_len, stmt_len, body_sum, cases_len, case_len, cases_sum}
use Rattle.rr_syntax.proofs.Sums.{sum_within, sum_next, sum_full}
use Rattle.rr_syntax.proofs.spelling.+statement_lengths.Goals as goal

pub arms_len-loop-arm-init : goal.arms_len-loop-arm-init
arms_len-loop-arm-init t c = sym cases_sum.none

pub arms_len-labels_len-requires : goal.arms_len-labels_len-requires
arms_len-labels_len-requires t c = omega (arith, sum_within cases_len case_len cases_sum c.args.arms.now c.loop-arm.arm-index c.arm-item.result c.loop-arm-test.true c.arm-item.is)

pub arms_len-statement_len-requires : goal.arms_len-statement_len-requires
arms_len-statement_len-requires t c = (search (rules, the_lemmas), omega (arith, sum_within cases_len case_len cases_sum c.args.arms.now c.loop-arm.arm-index c.arm-item.result c.loop-arm-test.true c.arm-item.is))

pub arms_len-overflow_add-total : goal.arms_len-overflow_add-total
arms_len-overflow_add-total t c = omega (arith, sum_within cases_len case_len cases_sum c.args.arms.now c.loop-arm.arm-index c.arm-item.result c.loop-arm-test.true c.arm-item.is)

pub arms_len-overflow_add-total-in-loop-arm : goal.arms_len-overflow_add-total-in-loop-arm
arms_len-overflow_add-total-in-loop-arm t c = omega (arith, sum_within cases_len case_len cases_sum c.args.arms.now c.loop-arm.arm-index c.arm-item.result c.loop-arm-test.true c.arm-item.is)

pub arms_len-loop-arm-preserved : goal.arms_len-loop-arm-preserved
arms_len-loop-arm-preserved t c = omega (arith, sum_next cases_len case_len cases_sum c.args.arms.now c.loop-arm.arm-index c.arm-item.result c.loop-arm-test.true c.arm-item.is)

pub arms_len-returns : goal.arms_len-returns
arms_len-returns t c = omega (arith, sum_full cases_len c.args.arms.now c.loop-arm.arm-index c.loop-arm-test.false)

pub statements_len-loop-stmt-init : goal.statements_len-loop-stmt-init
statements_len-loop-stmt-init t c = sym body_sum.none

pub statements_len-statement_len-total-requires : goal.statements_len-statement_len-total-requires
statements_len-statement_len-total-requires t c = (search (rules, the_lemmas), omega (arith, sum_within body_len stmt_len body_sum c.args.body.now c.loop-stmt.stmt-index c.stmt-item.result c.loop-stmt-test.true c.stmt-item.is))

pub statements_len-overflow_add-total : goal.statements_len-overflow_add-total
statements_len-overflow_add-total t c = omega (arith, sum_within body_len stmt_len body_sum c.args.body.now c.loop-stmt.stmt-index c.stmt-item.result c.loop-stmt-test.true c.stmt-item.is)

pub statements_len-loop-stmt-preserved : goal.statements_len-loop-stmt-preserved
statements_len-loop-stmt-preserved t c = omega (arith, sum_next body_len stmt_len body_sum c.args.body.now c.loop-stmt.stmt-index c.stmt-item.result c.loop-stmt-test.true c.stmt-item.is)

pub statements_len-returns : goal.statements_len-returns
statements_len-returns t c = omega (arith, sum_full body_len c.args.body.now c.loop-stmt.stmt-index c.loop-stmt-test.false)
