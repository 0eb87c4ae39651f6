use Rattle.rr_circuit.proofs.AagParts.{GatesRead}
use Rattle.rr_circuit.proofs.aag.read_gates.Given as goal

abbrev pub invariant-loop-k : goal.invariant-loop-k
invariant-loop-k l = GatesRead l.counts l.text l.gates.items l.k l.rest
