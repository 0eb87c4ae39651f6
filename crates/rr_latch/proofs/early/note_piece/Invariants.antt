use Rattle.std.proofs.Common.{◌≡◌, true}
use Rattle.rr_writers.proofs.Marking.{below}
use Rattle.rr_latch.specs.Notes.{Noted, Unassigned}
use Rattle.rr_latch.proofs.early.note_piece.Given as goal

abbrev pub invariant-loop-place : goal.invariant-loop-place
invariant-loop-place l = Noted (Unassigned l.table (λ b. below l.piece l.place b ≡ true)) l.fn.early l.early
