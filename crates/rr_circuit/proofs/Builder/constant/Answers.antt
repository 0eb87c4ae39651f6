use Rattle.std.proofs.Common.{arith, sym, ◌∙◌}
use Rattle.rr_circuit.proofs.Netlists.{IsWire-constant, wire_value-false, wire_value-true}
use Rattle.rr_circuit.proofs.Builder.constant.Goals as goal

pub returns-then-value-clause-wire : goal.returns-then-value-clause-wire
returns-then-value-clause-wire c = IsWire-constant _ 1 (omega arith)

pub returns-then-value-clause-value : goal.returns-then-value-clause-value
returns-then-value-clause-value c = λ env. wire_value-true _ env ∙ sym c.if-value.true

pub returns-else-value-clause-wire : goal.returns-else-value-clause-wire
returns-else-value-clause-wire c = IsWire-constant _ 0 (omega arith)

pub returns-else-value-clause-value : goal.returns-else-value-clause-value
returns-else-value-clause-value c = λ env. wire_value-false _ env ∙ sym c.if-value.false
