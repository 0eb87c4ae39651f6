use Rattle.std.proofs.Common.{◌≡◌, ◌≤◌, drop, length}
use Rattle.rr_bits.specs.Words.{number}
use Rattle.rr_choice.proofs.reading.number_of.Given as goal

abbrev pub invariant-loop-i : goal.invariant-loop-i
invariant-loop-i l = (l.i ≤ length l.bits) × (l.value ≡ number (drop l.i l.bits))

abbrev pub decreases-loop-i : goal.decreases-loop-i
decreases-loop-i l = l.i
