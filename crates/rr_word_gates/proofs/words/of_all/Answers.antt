use Rattle.std.proofs.Common.{arith}
use Rattle.rr_word_gates.proofs.WordLaws.{Joined-none, Joined-more, Joined-all}
use Rattle.rr_word_gates.proofs.words.of_all.Goals as goal

pub loop-i-init : goal.loop-i-init
loop-i-init c = Joined-none _ _ _ _ c.of_none-all.ensures

pub loop-i-preserved : goal.loop-i-preserved
loop-i-preserved c =
    let e = c.in_ok-all.ensures in
    Joined-more _ _ _ _ _ _ _ _ _ c.loop-i.invariant (omega arith) c.requires e.extends e.value

pub returns-clause-value : goal.returns-clause-value
returns-clause-value c = Joined-all _ _ _ _ _ _ c.loop-i.invariant (omega arith)
