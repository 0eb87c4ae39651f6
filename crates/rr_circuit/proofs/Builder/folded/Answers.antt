use Rattle.rr_circuit.proofs.Netlists.{IsWire-constant, and-zero_left, and-zero_right, and-flip, and-one_left, and-same, and-one_right}
use Rattle.std.proofs.Common.{arith}
use Rattle.rr_circuit.proofs.Builder.folded.Goals as goal
use Rattle.rr_circuit.proofs.Builder.folded.Goals.{then-a-eq0-via-then-a-eq0, then-a-eq0-via-else-a-eq0+then-b-eq0, then-a-eq0-via-else-a-eq0+else-b-eq0+then-a-b, then-a-eq1-via-then-a-eq1, then-a-eq1-via-else-a-eq1+then-a-b-2}

pub returns-then-a-eq0-clause-wire : goal.returns-then-a-eq0-clause-wire
returns-then-a-eq0-clause-wire c = IsWire-constant _ 0 (omega arith)

pub returns-then-a-eq0-clause-value : goal.returns-then-a-eq0-clause-value
returns-then-a-eq0-clause-value c = λ env.
    elim c.then-a-eq0.branch [
      | then-a-eq0-via-then-a-eq0 w ↦ and-zero_left _ env _ _ w.if-a-eq0.true
      | then-a-eq0-via-else-a-eq0+then-b-eq0 w ↦ and-zero_right _ env _ _ w.if-b-eq0.true
      | then-a-eq0-via-else-a-eq0+else-b-eq0+then-a-b w ↦ and-flip _ env _ _ w.if-a-b.true
    ]

pub returns-then-a-eq1-clause-value : goal.returns-then-a-eq1-clause-value
returns-then-a-eq1-clause-value c = λ env.
    elim c.then-a-eq1.branch [
      | then-a-eq1-via-then-a-eq1 w ↦ and-one_left _ env _ _ w.if-a-eq1.true
      | then-a-eq1-via-else-a-eq1+then-a-b-2 w ↦ and-same _ env _ _ w.if-a-b-2.true
    ]

pub returns-then-b-eq1-clause-value : goal.returns-then-b-eq1-clause-value
returns-then-b-eq1-clause-value c = λ env. and-one_right _ env _ _ c.if-b-eq1.true
