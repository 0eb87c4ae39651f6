use Rattle.rr_circuit.proofs.Netlists.{IsWire-flip, wire_value-flip}
use Rattle.rr_circuit.proofs.Builder.not.Goals as goal

pub returns-clause-wire : goal.returns-clause-wire
returns-clause-wire c = rw c.flipped.ensures (IsWire-flip _ _ c.requires)

pub returns-clause-value : goal.returns-clause-value
returns-clause-value c = λ env. rw c.flipped.ensures (wire_value-flip _ env _)
