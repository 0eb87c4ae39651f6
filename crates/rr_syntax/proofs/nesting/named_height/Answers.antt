use Rattle.std.proofs.Common.{arith, sym}
use Rattle.std.proofs.lemmas.Bool.Decides.{nat_tests}
use Rattle.rr_syntax.specs.Items.{depth_connection}
use Rattle.rr_syntax.specs.View.{plain_connection}
use Rattle.rr_syntax.proofs.Depths.{all_height, own_height, all_greatest, deep-connection}
use Rattle.rr_syntax.proofs.Sums.{greatest_within_at, greatest_next_at}
use Rattle.rr_syntax.proofs.nesting.named_height.Goals as goal

pub loop-connection-init : goal.loop-connection-init
loop-connection-init c = sym (all_greatest depth_connection plain_connection).none

pub value_height-requires : goal.value_height-requires
value_height-requires c = grind (arith, greatest_within_at (all_height depth_connection plain_connection) (own_height depth_connection plain_connection) (all_greatest depth_connection plain_connection) c.args.list.now c.loop-connection.connection-index c.loop-connection-test.true, deep-connection)

pub loop-connection-preserved : goal.loop-connection-preserved
loop-connection-preserved c = grind (arith, nat_tests, greatest_next_at (all_height depth_connection plain_connection) (own_height depth_connection plain_connection) (all_greatest depth_connection plain_connection) c.args.list.now c.loop-connection.connection-index c.loop-connection-test.true, deep-connection)
