use Rattle.std.proofs.Common.{◌≡◌, Some, take, fold}
use Rattle.rr_trace.specs.Cells.{Numeral, with_byte}
use Rattle.rr_trace.specs.Numbers.{IsNumeral}
use Rattle.rr_trace.proofs.cell.read_numeral.Given as goal

abbrev pub invariant-loop-byte : goal.invariant-loop-byte
invariant-loop-byte l = (n : Numeral) × ((fold (with_byte l.base) (Some (0, 0)) (take l.byte-index l.text) ≡ Some n) × IsNumeral l.number n)
