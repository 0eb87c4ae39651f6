use Rattle.std.proofs.Common.{◌≡◌, true, take}
use Rattle.rr_named_bits.specs.Lists.{covered}
use Rattle.rr_latch.specs.Notes.{Noted, Unassigned}
use Rattle.rr_latch.proofs.early.note_reaches.Given as goal

abbrev pub invariant-loop-reach : goal.invariant-loop-reach
invariant-loop-reach l = Noted (Unassigned l.table (λ b. covered (take l.reach-index l.reaches) b ≡ true)) l.fn.early l.early
