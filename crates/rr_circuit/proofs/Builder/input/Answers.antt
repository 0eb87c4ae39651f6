use Rattle.rr_circuit.proofs.Netlists.{IsWire-input, wire_value-input}
use Rattle.rr_circuit.proofs.Builder.input.Goals as goal

pub returns-clause-wire : goal.returns-clause-wire
returns-clause-wire c = rw c.from.ensures (IsWire-input _ _ c.requires)

pub returns-clause-value : goal.returns-clause-value
returns-clause-value c = λ env. rw c.from.ensures (wire_value-input _ _ env c.requires)
