use Rattle.std.proofs.Common.{◌≡◌, length}
use Rattle.rr_choice.specs.Choices.{total_bits}
use Rattle.rr_plainer.proofs.bringing.nearer.Given as goal

abbrev pub invariant-loop-site : goal.invariant-loop-site
invariant-loop-site l = length l.bits.items ≡ total_bits l.list
