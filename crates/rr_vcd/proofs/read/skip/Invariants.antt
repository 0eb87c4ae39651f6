use Rattle.std.proofs.Common.{ℕ, List, []}
use Rattle.rr_vcd_text.specs.Dump.{Declared, Told}
use Rattle.rr_vcd_text.specs.View.{IsReading, bytes_left}
use Rattle.rr_vcd.proofs.read.skip.Given as goal

abbrev pub invariant-loop-changes : goal.invariant-loop-changes
invariant-loop-changes l = (bytes : List ℕ) (d : Declared) → IsReading bytes d [] l.initial.changes → (told : List Told) × IsReading bytes d told l.changes

abbrev pub decreases-loop-changes : goal.decreases-loop-changes
decreases-loop-changes l = bytes_left l.changes
