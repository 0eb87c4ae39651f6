use Rattle.std.proofs.Common.{arith, sym}
use Rattle.std.proofs.lemmas.Bool.Decides.{nat_tests}
use Rattle.rr_syntax.specs.Items.{depth_port}
use Rattle.rr_syntax.specs.View.{plain_port}
use Rattle.rr_syntax.proofs.Depths.{all_height, own_height, all_greatest}
use Rattle.rr_syntax.proofs.Sums.{greatest_within_at, greatest_next_at}
use Rattle.rr_syntax.proofs.nesting.ports_height.Goals as goal

pub loop-group-init : goal.loop-group-init
loop-group-init c = sym (all_greatest depth_port plain_port).none

pub port_height-requires : goal.port_height-requires
port_height-requires c = grind (arith, greatest_within_at (all_height depth_port plain_port) (own_height depth_port plain_port) (all_greatest depth_port plain_port) c.args.groups.now c.loop-group.group-index c.loop-group-test.true)

pub loop-group-preserved : goal.loop-group-preserved
loop-group-preserved c = grind (arith, nat_tests, greatest_next_at (all_height depth_port plain_port) (own_height depth_port plain_port) (all_greatest depth_port plain_port) c.args.groups.now c.loop-group.group-index c.loop-group-test.true)
