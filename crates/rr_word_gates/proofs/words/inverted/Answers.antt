use Rattle.std.proofs.Common.{rules, arith}
use Rattle.rr_circuit.proofs.Netlists.{Extends-refl}
use Rattle.rr_arith.proofs.ShiftLaws.{Filled-none}
use Rattle.rr_word_gates.proofs.Carrying.{Filled-bit}
use Rattle.rr_word_gates.proofs.WordLaws.{inverted_here, inverted_all}
use Rattle.rr_word_gates.proofs.words.inverted.Goals as goal

pub loop-i-init : goal.loop-i-init
loop-i-init c = Filled-none _ _ _ (search rules)

pub loop-i-preserved : goal.loop-i-preserved
loop-i-preserved c = rw c.in_ok-push.ensures.items (Filled-bit _ _ _ _ _ _ _ c.loop-i.invariant (Extends-refl _) (inverted_here _ c.args.xs.now _ _ c.loop-i.i (omega arith) c.not.ensures.wire c.not.ensures.value))

pub returns-clause-value : goal.returns-clause-value
returns-clause-value c = inverted_all _ _ _ _ c.loop-i.invariant (omega arith)
