use Rattle.std.proofs.Common.{arith, sym}
use Rattle.std.proofs.lemmas.Bool.Decides.{nat_tests}
use Rattle.rr_syntax.specs.Items.{depth_instance}
use Rattle.rr_syntax.specs.View.{plain_instance}
use Rattle.rr_syntax.proofs.Depths.{all_height, own_height, all_greatest, deep-instance}
use Rattle.rr_syntax.proofs.Sums.{greatest_within_at, greatest_next_at}
use Rattle.rr_syntax.proofs.nesting.instances_height.Goals as goal

pub loop-instance-init : goal.loop-instance-init
loop-instance-init c = sym (all_greatest depth_instance plain_instance).none

pub connections_height-requires : goal.connections_height-requires
connections_height-requires c = grind (arith, greatest_within_at (all_height depth_instance plain_instance) (own_height depth_instance plain_instance) (all_greatest depth_instance plain_instance) c.args.list.now c.loop-instance.instance-index c.loop-instance-test.true, deep-instance)

pub loop-instance-preserved : goal.loop-instance-preserved
loop-instance-preserved c = grind (arith, nat_tests, greatest_next_at (all_height depth_instance plain_instance) (own_height depth_instance plain_instance) (all_greatest depth_instance plain_instance) c.args.list.now c.loop-instance.instance-index c.loop-instance-test.true, deep-instance)
