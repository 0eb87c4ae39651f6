use Rattle.std.proofs.Common.{arith}
use Rattle.rr_word_gates.proofs.SelectLaws.{Matched-none, Matched-more, Matched-all}
use Rattle.rr_word_gates.proofs.selects.matches.Goals as goal

pub loop-i-init : goal.loop-i-init
loop-i-init c = Matched-none _ _ _ _ c.requires.width c.constant-same.ensures.wire c.constant-same.ensures.value

pub loop-i-preserved : goal.loop-i-preserved
loop-i-preserved c =
    let e = c.in_ok-same.ensures in
    Matched-more _ _ _ _ _ _ _ _ _ _ _ _ c.loop-i.invariant (omega arith) (omega arith) c.requires.width c.requires.y e.extends c.get.ensures c.matched-bit.ensures e.wire e.value

pub returns-clause-value : goal.returns-clause-value
returns-clause-value c = Matched-all _ _ _ _ _ _ c.loop-i.invariant (omega arith)
