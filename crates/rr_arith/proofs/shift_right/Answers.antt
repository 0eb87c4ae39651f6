use Rattle.std.proofs.Common.{refl}
use Rattle.rr_arith.proofs.ShiftLaws.{Shift-all, logical, arithmetic}
use Rattle.rr_arith.proofs.shift_right.Goals as goal

pub returns-clause-value : goal.returns-clause-value
returns-clause-value c =
    let d = c.distance_bits-low.ensures in
    let m = c.in_ok-moved.ensures in
    Shift-all _ _ _ _ _ _ _ _ _ _ _ _ _ c.as_slice.ensures.value refl d.within d.enough c.requires.by c.requires.fill m.extends c.in_ok-past.ensures.extends m.wires m.value c.in_ok-past.ensures.value c.in_ok-wires.ensures.value

pub returns-clause-logical : goal.returns-clause-logical
returns-clause-logical c = λ env h. logical _ _ _ _ (returns-clause-value c env) h

pub returns-clause-arithmetic : goal.returns-clause-arithmetic
returns-clause-arithmetic c = λ env h. arithmetic _ _ _ _ (returns-clause-value c env) h
