use Rattle.std.proofs.Common.{arith, sym}
use Rattle.std.proofs.lemmas.Bool.Decides.{nat_tests}
use Rattle.rr_syntax.specs.Items.{depth_assignment}
use Rattle.rr_syntax.specs.View.{plain_assignment}
use Rattle.rr_syntax.proofs.Depths.{all_height, own_height, all_greatest, deep-setting}
use Rattle.rr_syntax.proofs.Sums.{greatest_within_at, greatest_next_at}
use Rattle.rr_syntax.proofs.nesting.settings_height.Goals as goal

pub loop-set-init : goal.loop-set-init
loop-set-init c = sym (all_greatest depth_assignment plain_assignment).none

pub expression_depth-requires : goal.expression_depth-requires
expression_depth-requires c = grind (arith, greatest_within_at (all_height depth_assignment plain_assignment) (own_height depth_assignment plain_assignment) (all_greatest depth_assignment plain_assignment) c.args.sets.now c.loop-set.set-index c.loop-set-test.true, deep-setting)

pub overflow_add-expression_depth : goal.overflow_add-expression_depth
overflow_add-expression_depth c = grind (arith, greatest_within_at (all_height depth_assignment plain_assignment) (own_height depth_assignment plain_assignment) (all_greatest depth_assignment plain_assignment) c.args.sets.now c.loop-set.set-index c.loop-set-test.true, deep-setting)

pub loop-set-preserved : goal.loop-set-preserved
loop-set-preserved c = grind (arith, nat_tests, greatest_next_at (all_height depth_assignment plain_assignment) (own_height depth_assignment plain_assignment) (all_greatest depth_assignment plain_assignment) c.args.sets.now c.loop-set.set-index c.loop-set-test.true, deep-setting)
