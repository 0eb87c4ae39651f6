use Rattle.std.proofs.Common.{◌≡◌, take}
use Rattle.rr_syntax.specs.Items.{depth_assignment}
use Rattle.rr_syntax.specs.View.{plain_assignment}
use Rattle.rr_syntax.proofs.Depths.{all_height}
use Rattle.rr_syntax.proofs.nesting.settings_height.Given as goal

abbrev pub invariant-loop-set : goal.invariant-loop-set
invariant-loop-set l = l.deepest ≡ all_height depth_assignment plain_assignment (take l.set-index l.sets)
