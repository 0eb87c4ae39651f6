use Rattle.std.proofs.Common.{◌≡◌, length}
use Rattle.rr_plainer.proofs.bringing.give_back.Given as goal

abbrev pub invariant-loop-place : goal.invariant-loop-place
invariant-loop-place l = length l.bits ≡ length l.fn.bits
