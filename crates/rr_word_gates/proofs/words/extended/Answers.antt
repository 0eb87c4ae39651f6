use Rattle.std.proofs.Common.{rules, arith}
use Rattle.rr_circuit.proofs.Netlists.{Extends-refl}
use Rattle.rr_arith.proofs.ShiftLaws.{Filled-none}
use Rattle.rr_word_gates.proofs.Carrying.{Filled-bit, Filled-carries}
use Rattle.rr_word_gates.proofs.WordLaws.{extended_here}
use Rattle.rr_word_gates.proofs.words.extended.Goals as goal

pub loop-i-init : goal.loop-i-init
loop-i-init c = Filled-none _ _ _ (search rules)

pub loop-i-preserved : goal.loop-i-preserved
loop-i-preserved c = rw c.in_ok-push.ensures.items (Filled-bit _ _ _ _ _ _ _ c.loop-i.invariant (Extends-refl _) (extended_here _ _ _ _ _ _ c.requires c.fill_of-fill.ensures c.wire_at.ensures))

pub returns-clause-value : goal.returns-clause-value
returns-clause-value c = Filled-carries _ _ _ _ _ _ c.loop-i.invariant (omega arith)
