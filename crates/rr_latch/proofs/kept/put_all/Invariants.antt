use Rattle.std.proofs.Common.{take}
use Rattle.rr_named_bits.specs.Lists.{covered}
use Rattle.rr_writers.specs.Tables.{entry}
use Rattle.rr_latch.proofs.Putting.{Put}
use Rattle.rr_latch.proofs.kept.put_all.Given as goal

abbrev pub invariant-loop-reach : goal.invariant-loop-reach
invariant-loop-reach l = Put l.number (covered (take l.reach-index l.reaches)) (entry l.fn.table) (entry l.table)
