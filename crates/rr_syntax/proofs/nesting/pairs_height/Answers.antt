use Rattle.std.proofs.Common.{arith, sym}
use Rattle.std.proofs.lemmas.Bool.Decides.{nat_tests}
use Rattle.rr_syntax.specs.Items.{depth_pair}
use Rattle.rr_syntax.specs.View.{plain_pair}
use Rattle.rr_syntax.proofs.Depths.{all_height, own_height, all_greatest, deep-pair}
use Rattle.rr_syntax.proofs.Sums.{greatest_within_at, greatest_next_at}
use Rattle.rr_syntax.proofs.nesting.pairs_height.Goals as goal

pub loop-pair-init : goal.loop-pair-init
loop-pair-init c = sym (all_greatest depth_pair plain_pair).none

pub expression_depth-requires : goal.expression_depth-requires
expression_depth-requires c = grind (arith, greatest_within_at (all_height depth_pair plain_pair) (own_height depth_pair plain_pair) (all_greatest depth_pair plain_pair) c.args.pairs.now c.loop-pair.pair-index c.loop-pair-test.true, deep-pair)

pub expression_depth-requires-in-loop-pair : goal.expression_depth-requires-in-loop-pair
expression_depth-requires-in-loop-pair c = grind (arith, greatest_within_at (all_height depth_pair plain_pair) (own_height depth_pair plain_pair) (all_greatest depth_pair plain_pair) c.args.pairs.now c.loop-pair.pair-index c.loop-pair-test.true, deep-pair)

pub overflow_add-below : goal.overflow_add-below
overflow_add-below c = grind (arith, greatest_within_at (all_height depth_pair plain_pair) (own_height depth_pair plain_pair) (all_greatest depth_pair plain_pair) c.args.pairs.now c.loop-pair.pair-index c.loop-pair-test.true, deep-pair)

pub loop-pair-preserved : goal.loop-pair-preserved
loop-pair-preserved c = grind (arith, nat_tests, greatest_next_at (all_height depth_pair plain_pair) (own_height depth_pair plain_pair) (all_greatest depth_pair plain_pair) c.args.pairs.now c.loop-pair.pair-index c.loop-pair-test.true, deep-pair)
