use Rattle.rr_vcd_text.proofs.Numerals.{Digits}
use Rattle.rr_vcd_text.proofs.number.number.Given as goal

abbrev pub invariant-loop-byte : goal.invariant-loop-byte
invariant-loop-byte l = Digits l.text l.byte-index l.value
