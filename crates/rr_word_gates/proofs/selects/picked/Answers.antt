use Rattle.std.proofs.Common.{rules, arith}
use Rattle.std.proofs.lemmas.Int.{ints}
use Rattle.rr_arith.proofs.ShiftLaws.{Filled-none}
use Rattle.rr_word_gates.proofs.SelectLaws.{picked_more, picked_all}
use Rattle.rr_word_gates.proofs.selects.picked.Goals as goal

pub loop-i-init : goal.loop-i-init
loop-i-init c = Filled-none _ _ _ (search rules)

pub loop-i-preserved : goal.loop-i-preserved
loop-i-preserved c = rw c.in_ok-push.ensures.items (picked_more _ _ _ _ _ _ _ c.loop-i.invariant c.bit_at.ensures (omega (arith, ints)))

pub returns-clause-value : goal.returns-clause-value
returns-clause-value c = picked_all _ _ _ _ _ _ _ c.loop-i.invariant (omega (arith, ints)) (omega arith)
