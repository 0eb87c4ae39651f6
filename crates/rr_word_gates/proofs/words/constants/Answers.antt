use Rattle.std.proofs.Common.{rules, arith, ◌∙◌}
use Rattle.rr_circuit.proofs.Netlists.{Extends-refl}
use Rattle.rr_arith.proofs.ShiftLaws.{Filled-none, Filled-more}
use Rattle.rr_word_gates.proofs.WordLaws.{constant_bits}
use Rattle.rr_word_gates.proofs.words.constants.Goals as goal

pub loop-i-init : goal.loop-i-init
loop-i-init c = Filled-none _ _ _ (search rules)

pub loop-i-preserved : goal.loop-i-preserved
loop-i-preserved c = rw c.in_ok-push.ensures.items (Filled-more _ _ _ _ _ _ _ c.loop-i.invariant (Extends-refl _) c.constant.ensures.wire (λ input. c.constant.ensures.value input ∙ c.get.ensures))

pub returns-clause-value : goal.returns-clause-value
returns-clause-value c = constant_bits _ _ _ _ c.loop-i.invariant (omega arith)
