use Rattle.std.proofs.Common.{arith, rules}
use Rattle.rr_arith.proofs.Ripple.{Rippled-none, Rippled-more, Rippled-all}
use Rattle.rr_arith.proofs.sum.Goals as goal

pub loop-i-init : goal.loop-i-init
loop-i-init c = Rippled-none _ _ _ _ _ c.requires.carry (search rules)

pub loop-i-preserved : goal.loop-i-preserved
loop-i-preserved c =
    let e = c.in_ok-bit.ensures in
    rw c.in_ok-push.ensures.items (Rippled-more _ _ _ _ _ _ _ _ _ _ _ _ c.loop-i.invariant (omega arith) (omega arith) c.requires.x c.requires.y e.extends e.sum e.carry e.value)

pub returns-clause-value : goal.returns-clause-value
returns-clause-value c = Rippled-all _ _ _ _ _ _ _ _ _ c.loop-i.invariant (omega arith) (omega arith) c.requires.widths
