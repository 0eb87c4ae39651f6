use Rattle.std.proofs.Common.{arith}
use Rattle.rr_arith.proofs.ShiftLaws.{Any-none, Any-more, Any-all}
use Rattle.rr_arith.proofs.any.Goals as goal

pub loop-i-init : goal.loop-i-init
loop-i-init c = Any-none _ _ _ c.constant-any.ensures.wire c.constant-any.ensures.value

pub loop-i-preserved : goal.loop-i-preserved
loop-i-preserved c =
    let e = c.in_ok-any.ensures in
    Any-more _ _ _ _ _ _ _ _ c.loop-i.invariant (omega arith) c.requires e.extends e.wire e.value

pub returns-clause-value : goal.returns-clause-value
returns-clause-value c = Any-all _ _ _ _ _ c.loop-i.invariant (omega arith)
