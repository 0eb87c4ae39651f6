use Rattle.std.proofs.Common.{arith}
use Rattle.rr_syntax.proofs.Lengths.{body_len, stmt_len, body_sum, cases_len, case_len, cases_sum}
use Rattle.rr_syntax.proofs.Sums.{sum_next, sum_full}
use Rattle.rr_unfold.proofs.tokens.+statement_tokens.Goals as goal

pub statements_tokens-loop-stmt-init : goal.statements_tokens-loop-stmt-init
statements_tokens-loop-stmt-init t c = let z = body_sum.none in omega (arith, z)

pub statements_tokens-loop-stmt-preserved : goal.statements_tokens-loop-stmt-preserved
statements_tokens-loop-stmt-preserved t c = omega (arith, sum_next body_len stmt_len body_sum c.args.body.now c.loop-stmt.stmt-index c.stmt-item.result c.loop-stmt-test.true c.stmt-item.is)

pub statements_tokens-returns : goal.statements_tokens-returns
statements_tokens-returns t c = omega (arith, sum_full body_len c.args.body.now c.loop-stmt.stmt-index c.loop-stmt-test.false)

pub arms_tokens-loop-arm-init : goal.arms_tokens-loop-arm-init
arms_tokens-loop-arm-init t c = let z = cases_sum.none in omega (arith, z)

pub arms_tokens-loop-arm-preserved : goal.arms_tokens-loop-arm-preserved
arms_tokens-loop-arm-preserved t c = omega (arith, sum_next cases_len case_len cases_sum c.args.arms.now c.loop-arm.arm-index c.arm-item.result c.loop-arm-test.true c.arm-item.is)

pub arms_tokens-returns : goal.arms_tokens-returns
arms_tokens-returns t c = omega (arith, sum_full cases_len c.args.arms.now c.loop-arm.arm-index c.loop-arm-test.false)
