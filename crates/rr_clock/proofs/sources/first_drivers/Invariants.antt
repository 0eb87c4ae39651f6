use Rattle.std.proofs.Common.{length}
use Rattle.rr_flat.specs.View.{plain_flat}
use Rattle.rr_clock.proofs.Spreading.{AreFirst}
use Rattle.rr_clock.proofs.sources.first_drivers.Given as goal

abbrev pub invariant-loop-number : goal.invariant-loop-number
invariant-loop-number l = AreFirst (plain_flat l.flat) (length l.flat.signals) l.number l.table.items
