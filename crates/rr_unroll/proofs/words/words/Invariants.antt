use Rattle.std.proofs.Common.{◌≡◌, ◌++◌, drop}
use Rattle.rr_transition.specs.Transitions.{words}
use Rattle.rr_unroll.proofs.words.words.Given as goal

abbrev pub invariant-loop-k : goal.invariant-loop-k
invariant-loop-k l = l.out.items ++ words (drop l.k l.widths) (drop l.k l.numbers) ≡ words l.widths l.numbers
