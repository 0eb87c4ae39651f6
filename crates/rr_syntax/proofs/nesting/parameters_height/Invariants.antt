use Rattle.std.proofs.Common.{◌≡◌, take}
use Rattle.rr_syntax.specs.Items.{depth_parameter}
use Rattle.rr_syntax.specs.View.{plain_parameter}
use Rattle.rr_syntax.proofs.Depths.{all_height}
use Rattle.rr_syntax.proofs.nesting.parameters_height.Given as goal

abbrev pub invariant-loop-group : goal.invariant-loop-group
invariant-loop-group l = l.deepest ≡ all_height depth_parameter plain_parameter (take l.group-index l.params)
