use Rattle.std.proofs.Common.{◌≡◌, drop}
use Rattle.rr_syntax.specs.View.{plain_arms}
use Rattle.rr_flat.specs.Latches.{has_default}
use Rattle.rr_latch.proofs.branches.has_default.Given as goal

abbrev pub invariant-loop-arm : goal.invariant-loop-arm
invariant-loop-arm l = has_default (plain_arms (drop l.arm-index l.arms)) ≡ has_default (plain_arms l.arms)
