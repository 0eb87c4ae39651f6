use Rattle.std.proofs.Common.{◌≡◌, take}
use Rattle.rr_expr.specs.declared.types.Bit.{Bit}
use Rattle.rr_named_bits.specs.Lists.{covered}
use Rattle.rr_writers.proofs.reaches.distinct.Given as goal

abbrev pub invariant-loop-reach : goal.invariant-loop-reach
invariant-loop-reach l = (b : Bit) → covered l.list.items b ≡ covered (take l.reach-index l.reaches) b
