use Rattle.std.proofs.Common.{arith, ◌==◌}
use Rattle.rr_arith.proofs.Comparisons.{Compared-none, Equal-more, Compared-all}
use Rattle.rr_arith.proofs.equal.Goals as goal

pub loop-i-init : goal.loop-i-init
loop-i-init c = Compared-none (λ a b. a == b) _ _ _ _ c.constant-same.ensures.wire c.constant-same.ensures.value

pub loop-i-preserved : goal.loop-i-preserved
loop-i-preserved c =
    let e = c.in_ok-same.ensures in
    Equal-more _ _ _ _ _ _ _ _ _ c.loop-i.invariant (omega arith) (omega arith) c.requires.x c.requires.y e.extends e.wire e.value

pub returns-clause-value : goal.returns-clause-value
returns-clause-value c = Compared-all (λ a b. a == b) _ _ _ _ _ _ c.loop-i.invariant (omega arith) c.requires.widths
