use Rattle.rr_flat.specs.View.{plain_flat}
use Rattle.rr_clock.proofs.Spreading.{AreInputs}
use Rattle.rr_clock.proofs.sources.input_table.Given as goal

abbrev pub invariant-loop-id : goal.invariant-loop-id
invariant-loop-id l = AreInputs (plain_flat l.flat) l.id-index l.table.items
