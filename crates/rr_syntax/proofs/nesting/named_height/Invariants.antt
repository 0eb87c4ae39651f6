use Rattle.std.proofs.Common.{◌≡◌, take}
use Rattle.rr_syntax.specs.Items.{depth_connection}
use Rattle.rr_syntax.specs.View.{plain_connection}
use Rattle.rr_syntax.proofs.Depths.{all_height}
use Rattle.rr_syntax.proofs.nesting.named_height.Given as goal

abbrev pub invariant-loop-connection : goal.invariant-loop-connection
invariant-loop-connection l = l.deepest ≡ all_height depth_connection plain_connection (take l.connection-index l.list)
