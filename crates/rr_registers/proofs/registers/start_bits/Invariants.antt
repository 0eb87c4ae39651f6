use Rattle.std.proofs.Common.{◌≡◌, map, take}
use Rattle.rr_flat.specs.View.{plain_flat}
use Rattle.rr_cycle.specs.Cycles.{beginning}
use Rattle.rr_registers.proofs.registers.start_bits.Given as goal

abbrev pub invariant-loop-bit : goal.invariant-loop-bit
invariant-loop-bit l = l.starts.items ≡ map (beginning (plain_flat l.fn.flat)) (take l.bit-index l.bits)
