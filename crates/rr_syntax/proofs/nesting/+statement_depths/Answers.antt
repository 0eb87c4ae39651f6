use Rattle.std.proofs.Common.{rules, arith, sym}
use Rattle.std.proofs.lemmas.Bool.Decides.{nat_tests}
use Rattle.rr_syntax.specs.declared.tree.Stmt.{the_lemmas}
use Rattle.rr_syntax.proofs.Depths.{body_height, stmt_height, body_greatest, cases_height, case_height, cases_greatest}
use Rattle.rr_syntax.proofs.Sums.{greatest_within, greatest_next}
use Rattle.rr_syntax.proofs.nesting.+statement_depths.Goals as goal

pub arms_height-loop-arm-init : goal.arms_height-loop-arm-init
arms_height-loop-arm-init t c = sym cases_greatest.none

pub arms_height-parts_height-requires : goal.arms_height-parts_height-requires
arms_height-parts_height-requires t c = omega (arith, greatest_within cases_height case_height cases_greatest c.args.arms.now c.loop-arm.arm-index c.arm-item.result c.loop-arm-test.true c.arm-item.is)

pub arms_height-statement_depth-requires : goal.arms_height-statement_depth-requires
arms_height-statement_depth-requires t c = (search (rules, the_lemmas), omega (arith, greatest_within cases_height case_height cases_greatest c.args.arms.now c.loop-arm.arm-index c.arm-item.result c.loop-arm-test.true c.arm-item.is))

pub arms_height-overflow_add-statement_depth : goal.arms_height-overflow_add-statement_depth
arms_height-overflow_add-statement_depth t c = omega (arith, greatest_within cases_height case_height cases_greatest c.args.arms.now c.loop-arm.arm-index c.arm-item.result c.loop-arm-test.true c.arm-item.is)

pub arms_height-overflow_add-below : goal.arms_height-overflow_add-below
arms_height-overflow_add-below t c = grind (arith, nat_tests, greatest_within cases_height case_height cases_greatest c.args.arms.now c.loop-arm.arm-index c.arm-item.result c.loop-arm-test.true c.arm-item.is)

pub arms_height-loop-arm-preserved : goal.arms_height-loop-arm-preserved
arms_height-loop-arm-preserved t c = grind (arith, nat_tests, greatest_next cases_height case_height cases_greatest c.args.arms.now c.loop-arm.arm-index c.arm-item.result c.loop-arm-test.true c.arm-item.is)

pub statements_height-loop-stmt-init : goal.statements_height-loop-stmt-init
statements_height-loop-stmt-init t c = sym body_greatest.none

pub statements_height-statement_depth-requires : goal.statements_height-statement_depth-requires
statements_height-statement_depth-requires t c = (search (rules, the_lemmas), omega (arith, greatest_within body_height stmt_height body_greatest c.args.body.now c.loop-stmt.stmt-index c.stmt-item.result c.loop-stmt-test.true c.stmt-item.is))

pub statements_height-overflow_add-statement_depth : goal.statements_height-overflow_add-statement_depth
statements_height-overflow_add-statement_depth t c = omega (arith, greatest_within body_height stmt_height body_greatest c.args.body.now c.loop-stmt.stmt-index c.stmt-item.result c.loop-stmt-test.true c.stmt-item.is)

pub statements_height-loop-stmt-preserved : goal.statements_height-loop-stmt-preserved
statements_height-loop-stmt-preserved t c = grind (arith, nat_tests, greatest_next body_height stmt_height body_greatest c.args.body.now c.loop-stmt.stmt-index c.stmt-item.result c.loop-stmt-test.true c.stmt-item.is)
