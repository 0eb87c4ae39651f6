use Rattle.std.proofs.Common.{◌≡◌, ◌++◌, drop}
use Rattle.rr_flat.specs.View.{plain_flat}
use Rattle.rr_blast.specs.Rows.{bits_of_row}
use Rattle.rr_blast.proofs.cycle.row_bits.Given as goal

abbrev pub invariant-loop-id : goal.invariant-loop-id
invariant-loop-id l = l.bits.items ++ bits_of_row (plain_flat l.flat).signals (drop l.id-index l.inputs) ≡ bits_of_row (plain_flat l.flat).signals l.inputs
