use Rattle.std.proofs.Common.{◌≡◌, ◌+◌, length}
use Rattle.rr_expr_gate_tests.proofs.circuits.push_bits.Given as goal

abbrev pub invariant-loop-i : goal.invariant-loop-i
invariant-loop-i l = length l.bits.items ≡ length l.fn.bits.items + l.i
