use Rattle.std.proofs.Common.{◌≡◌, take}
use Rattle.rr_expr.specs.declared.types.Bit.{Bit}
use Rattle.rr_named_bits.specs.Lists.{covered, may}
use Rattle.rr_writers.proofs.reaches.distinct_writes.Given as goal

abbrev pub invariant-loop-write : goal.invariant-loop-write
invariant-loop-write l = (b : Bit) → covered l.list.items b ≡ may (take l.write-index l.writes) b
