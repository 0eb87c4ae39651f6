use Rattle.std.proofs.Common.{arith, refl, ◌∙◌}
use Rattle.rr_arith.proofs.ShiftLaws.{Shifted-none, Shifted-more, Shifted-all}
use Rattle.rr_arith.proofs.shift_low.Goals as goal

pub loop-i-init : goal.loop-i-init
loop-i-init c = Shifted-none _ _ _ _ _ c.requires.x (c.in_ok-extend_from_slice.ensures.items ∙ rw c.in_ok-wires.ensures.items refl)

pub loop-i-preserved : goal.loop-i-preserved
loop-i-preserved c =
    let e = c.in_ok-wires-2.ensures in
    Shifted-more _ _ _ _ _ _ _ _ _ _ _ _ c.as_slice.ensures.value c.loop-i.invariant (omega arith) c.requires.by c.requires.fill e.extends e.wires e.width e.value

pub returns-clause-value : goal.returns-clause-value
returns-clause-value c = Shifted-all _ _ _ _ _ _ _ _ c.loop-i.invariant (omega arith)
