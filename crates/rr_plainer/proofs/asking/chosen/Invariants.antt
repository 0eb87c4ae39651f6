use Rattle.std.proofs.Common.{◌≡◌, length}
use Rattle.rr_plainer.proofs.asking.chosen.Given as goal

abbrev pub invariant-loop-k : goal.invariant-loop-k
invariant-loop-k l = length l.bits.items ≡ l.k
