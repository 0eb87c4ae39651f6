use Rattle.rr_vcd.proofs.Extending.{Reads}
use Rattle.rr_vcd.proofs.cell.wide_cell.Given as goal

abbrev pub invariant-loop-digit : goal.invariant-loop-digit
invariant-loop-digit l = Reads l.digits l.digit-index l.value l.known
