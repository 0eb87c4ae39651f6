use Rattle.std.proofs.Common.{arith, ◌∙◌, sym}
use Rattle.rr_circuit.proofs.Netlists.{IsWire-constant}
use Rattle.rr_circuit.proofs.Folds.{and-inside, and-outside}
use Rattle.rr_circuit.proofs.Builder.absorbed.Goals as goal

pub returns-then-negated-clause-value : goal.returns-then-negated-clause-value
returns-then-negated-clause-value c = λ env.
    and-outside _ env _ _ _ _ c.in_ok-gate.ensures.gate (sym c.is_negated-negated.ensures ∙ c.if-negated.true) (c.not.ensures.value env) (sym c.has_operand.ensures ∙ c.if-has_operand.true)

pub returns-else-negated-clause-wire : goal.returns-else-negated-clause-wire
returns-else-negated-clause-wire c = IsWire-constant _ 0 (omega arith)

pub returns-else-negated-clause-value : goal.returns-else-negated-clause-value
returns-else-negated-clause-value c = λ env.
    and-inside _ env _ _ _ _ c.in_ok-gate.ensures.gate (sym c.is_negated-negated.ensures ∙ c.if-negated.false) (c.not.ensures.value env) (sym c.has_operand.ensures ∙ c.if-has_operand.true)
