use Rattle.std.proofs.Common.{take}
use Rattle.rr_latch.specs.Paths.{assigned, listed}
use Rattle.rr_latch.proofs.Scanning.{Assigning}
use Rattle.rr_latch.proofs.paths.assign_bits.Given as goal

abbrev pub invariant-loop-bit : goal.invariant-loop-bit
invariant-loop-bit l = Assigning (listed (take l.bit-index l.bits)) (assigned l.fn.path.unassigned) (assigned l.path.unassigned) l.fn.path.log.items l.path.log.items
