use Rattle.rr_flat.specs.View.{plain_flat}
use Rattle.rr_transition.specs.Cycles.{widths_of}
use Rattle.rr_repair.proofs.Counting.{Counted}
use Rattle.rr_repair.proofs.working.count_row.Given as goal

abbrev pub invariant-loop-i : goal.invariant-loop-i
invariant-loop-i l = Counted (widths_of (plain_flat l.fn.flat) l.fn.ids) l.bits l.i
