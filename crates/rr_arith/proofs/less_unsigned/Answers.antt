use Rattle.std.proofs.Common.{arith, nat_lt}
use Rattle.rr_arith.proofs.Comparisons.{Compared-none, Less-more, Compared-all}
use Rattle.rr_arith.proofs.less_unsigned.Goals as goal

pub loop-i-init : goal.loop-i-init
loop-i-init c = Compared-none nat_lt _ _ _ _ c.constant-below.ensures.wire c.constant-below.ensures.value

pub loop-i-preserved : goal.loop-i-preserved
loop-i-preserved c =
    let e = c.in_ok-below.ensures in
    Less-more _ _ _ _ _ _ _ _ _ c.loop-i.invariant (omega arith) (omega arith) c.requires.x c.requires.y e.extends e.wire e.value

pub returns-clause-value : goal.returns-clause-value
returns-clause-value c = Compared-all nat_lt _ _ _ _ _ _ c.loop-i.invariant (omega arith) c.requires.widths
