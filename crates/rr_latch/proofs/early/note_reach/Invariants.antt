use Rattle.std.proofs.Common.{◌≡◌, true}
use Rattle.rr_named_bits.specs.Lists.{reaches}
use Rattle.rr_latch.specs.Notes.{Noted, Unassigned}
use Rattle.rr_writers.proofs.Reaching.{first_words}
use Rattle.rr_latch.proofs.early.note_reach.Given as goal

abbrev pub invariant-loop-word : goal.invariant-loop-word
invariant-loop-word l = Noted (Unassigned l.table (λ b. reaches (first_words l.reach l.word) b ≡ true)) l.fn.early l.early
