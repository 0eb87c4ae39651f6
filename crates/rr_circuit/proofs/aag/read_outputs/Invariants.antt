use Rattle.rr_circuit.proofs.AagParts.{OutputsRead}
use Rattle.rr_circuit.proofs.aag.read_outputs.Given as goal

abbrev pub invariant-loop-k : goal.invariant-loop-k
invariant-loop-k l = OutputsRead l.counts l.text l.outputs.items l.k l.rest
