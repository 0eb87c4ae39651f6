use Rattle.rr_flat.specs.View.{plain_flat}
use Rattle.rr_writers.specs.Tables.{entry}
use Rattle.rr_writers.proofs.Filling.{Filled}
use Rattle.rr_writers.proofs.doubles.first_two_drivers.Given as goal

abbrev pub invariant-loop-at : goal.invariant-loop-at
invariant-loop-at l = Filled (plain_flat l.flat) l.at (entry l.table)
