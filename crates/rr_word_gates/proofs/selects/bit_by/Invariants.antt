use Rattle.std.proofs.Common.{pos, ◌-ℤ◌}
use Rattle.rr_circuit.specs.Values.{wire_values}
use Rattle.rr_bits.specs.Words.{reading}
use Rattle.rr_expr.specs.Selects.{place}
use Rattle.rr_word_gates.proofs.SelectLaws.{Found}
use Rattle.rr_word_gates.proofs.selects.bit_by.Given as goal

abbrev pub invariant-loop-i : goal.invariant-loop-i
invariant-loop-i l = Found l.fn.b l.b l.xs (λ input. place l.range (reading l.signed (wire_values l.fn.b input l.ys))) (pos l.up -ℤ pos l.below) l.any l.i
