use Rattle.std.proofs.Common.{map, take}
use Rattle.rr_unroll.specs.Fixed.{AreFixed}
use Rattle.rr_unroll.proofs.copies.fixed_rows.Given as goal

abbrev pub invariant-loop-r : goal.invariant-loop-r
invariant-loop-r l = AreFixed l.transition (take l.r (map (λ v. v.items) l.rows)) l.circuits.items
