use Rattle.rr_circuit.specs.Sweeps.{AreKept}
use Rattle.rr_circuit.proofs.sweep.kept_gates.Given as goal

abbrev pub invariant-loop-k : goal.invariant-loop-k
invariant-loop-k l = AreKept l.circuit.netlist l.marks l.kept.gates.items l.kept.variables.items l.k
