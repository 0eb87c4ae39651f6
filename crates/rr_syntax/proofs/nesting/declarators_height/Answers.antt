use Rattle.std.proofs.Common.{arith, sym}
use Rattle.std.proofs.lemmas.Bool.Decides.{nat_tests}
use Rattle.rr_syntax.specs.Items.{depth_declarator}
use Rattle.rr_syntax.specs.View.{plain_declarator}
use Rattle.rr_syntax.proofs.Depths.{all_height, own_height, all_greatest}
use Rattle.rr_syntax.proofs.Sums.{greatest_within_at, greatest_next_at}
use Rattle.rr_syntax.proofs.nesting.declarators_height.Goals as goal

pub loop-declarator-init : goal.loop-declarator-init
loop-declarator-init c = sym (all_greatest depth_declarator plain_declarator).none

pub declarator_height-requires : goal.declarator_height-requires
declarator_height-requires c = grind (arith, greatest_within_at (all_height depth_declarator plain_declarator) (own_height depth_declarator plain_declarator) (all_greatest depth_declarator plain_declarator) c.args.names.now c.loop-declarator.declarator-index c.loop-declarator-test.true)

pub loop-declarator-preserved : goal.loop-declarator-preserved
loop-declarator-preserved c = grind (arith, nat_tests, greatest_next_at (all_height depth_declarator plain_declarator) (own_height depth_declarator plain_declarator) (all_greatest depth_declarator plain_declarator) c.args.names.now c.loop-declarator.declarator-index c.loop-declarator-test.true)
