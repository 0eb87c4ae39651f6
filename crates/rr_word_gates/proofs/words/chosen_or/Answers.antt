use Rattle.std.proofs.Common.{rules, arith}
use Rattle.rr_arith.proofs.ShiftLaws.{Filled-none}
use Rattle.rr_word_gates.proofs.Carrying.{Filled-bit}
use Rattle.rr_word_gates.proofs.WordLaws.{chosen_or_here, chosen_or_all}
use Rattle.rr_word_gates.proofs.words.chosen_or.Goals as goal

pub loop-i-init : goal.loop-i-init
loop-i-init c = Filled-none _ _ _ (search rules)

pub loop-i-preserved : goal.loop-i-preserved
loop-i-preserved c =
    let e = c.in_ok-bit.ensures in
    rw c.in_ok-push.ensures.items (Filled-bit _ _ _ _ _ _ _ c.loop-i.invariant e.extends (chosen_or_here _ _ _ _ _ _ _ _ _ _ (omega arith) c.get.ensures c.requires.test c.requires.x c.loop-i.invariant.extends e.value))

pub returns-clause-value : goal.returns-clause-value
returns-clause-value c = chosen_or_all _ _ _ _ _ _ _ c.loop-i.invariant (omega arith) c.requires.widths
