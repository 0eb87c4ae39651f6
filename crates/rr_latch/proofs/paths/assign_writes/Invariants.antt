use Rattle.std.proofs.Common.{take}
use Rattle.rr_named_bits.specs.Lists.{must}
use Rattle.rr_latch.specs.Paths.{assigned}
use Rattle.rr_latch.proofs.Scanning.{Assigning}
use Rattle.rr_latch.proofs.paths.assign_writes.Given as goal

abbrev pub invariant-loop-write : goal.invariant-loop-write
invariant-loop-write l = Assigning (must (take l.write-index l.writes)) (assigned l.fn.path.unassigned) (assigned l.path.unassigned) l.fn.path.log.items l.path.log.items
