use Rattle.std.proofs.Common.{take, true}
use Rattle.rr_named_bits.specs.Lists.{covered}
use Rattle.rr_writers.specs.Marks.{SetMarked}
use Rattle.rr_writers.specs.Tables.{entry}
use Rattle.rr_writers.proofs.marks.mark_reaches.Given as goal

abbrev pub invariant-loop-reach : goal.invariant-loop-reach
invariant-loop-reach l = SetMarked true l.number (covered (take l.reach-index l.reaches)) (entry l.fn.table) (entry l.table)
