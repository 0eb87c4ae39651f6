use Rattle.std.proofs.Common.{◌≡◌}
use Rattle.rr_flat.specs.View.{plain_flat}
use Rattle.rr_registers.proofs.ListLaws.{of_signals}
use Rattle.rr_registers.proofs.registers.register_bits.Given as goal

abbrev pub invariant-loop-signal : goal.invariant-loop-signal
invariant-loop-signal l = l.bits.items ≡ of_signals (plain_flat l.flat) l.signal
