use Rattle.std.proofs.Common.{◌≡◌, take}
use Rattle.rr_syntax.specs.Items.{depth_instance}
use Rattle.rr_syntax.specs.View.{plain_instance}
use Rattle.rr_syntax.proofs.Depths.{all_height}
use Rattle.rr_syntax.proofs.nesting.instances_height.Given as goal

abbrev pub invariant-loop-instance : goal.invariant-loop-instance
invariant-loop-instance l = l.deepest ≡ all_height depth_instance plain_instance (take l.instance-index l.list)
