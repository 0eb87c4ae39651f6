use Rattle.std.proofs.Common.{◌≡◌, take}
use Rattle.rr_syntax.specs.Items.{depth_pair}
use Rattle.rr_syntax.specs.View.{plain_pair}
use Rattle.rr_syntax.proofs.Depths.{all_height}
use Rattle.rr_syntax.proofs.nesting.pairs_height.Given as goal

abbrev pub invariant-loop-pair : goal.invariant-loop-pair
invariant-loop-pair l = l.deepest ≡ all_height depth_pair plain_pair (take l.pair-index l.pairs)
