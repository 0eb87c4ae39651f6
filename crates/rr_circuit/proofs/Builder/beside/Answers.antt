use Rattle.std.proofs.Common.{◌∙◌, sym}
use Rattle.rr_circuit.proofs.Netlists.{IsWire-flip}
use Rattle.rr_circuit.proofs.Folds.{beside_left, beside_right, low-flip}
use Rattle.rr_circuit.proofs.Builder.beside.Goals as goal

pub returns-then-gate-a-clause-wire : goal.returns-then-gate-a-clause-wire
returns-then-gate-a-clause-wire c = rw c.flipped.ensures (IsWire-flip _ _ c.in-Some.ensures.gate.right)

pub returns-then-gate-a-clause-low : goal.returns-then-gate-a-clause-low
returns-then-gate-a-clause-low c = rw c.flipped.ensures (low-flip _ c.in-Some.ensures.right)

pub returns-then-gate-a-clause-value : goal.returns-then-gate-a-clause-value
returns-then-gate-a-clause-value c = λ env. rw c.flipped.ensures (beside_left _ env _ _ _ c.in-Some.ensures.gate (sym c.is_negated.ensures ∙ c.if-not-is_negated.false) c.if-gate-a.true)

pub returns-then-gate-a-2-clause-wire : goal.returns-then-gate-a-2-clause-wire
returns-then-gate-a-2-clause-wire c = rw c.flipped-then-gate-a-2.ensures (IsWire-flip _ _ c.in-Some.ensures.gate.left)

pub returns-then-gate-a-2-clause-low : goal.returns-then-gate-a-2-clause-low
returns-then-gate-a-2-clause-low c = rw c.flipped-then-gate-a-2.ensures (low-flip _ c.in-Some.ensures.left)

pub returns-then-gate-a-2-clause-value : goal.returns-then-gate-a-2-clause-value
returns-then-gate-a-2-clause-value c = λ env. rw c.flipped-then-gate-a-2.ensures (beside_right _ env _ _ _ c.in-Some.ensures.gate (sym c.is_negated.ensures ∙ c.if-not-is_negated.false) c.if-gate-a-2.true)
