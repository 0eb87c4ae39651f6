use Rattle.std.proofs.Common.{◌≡◌}
use Rattle.rr_circuit.proofs.Marking.{OutputsMarked}
use Rattle.rr_circuit.proofs.sweep.mark_outputs.Given as goal

abbrev pub invariant-loop-wire : goal.invariant-loop-wire
invariant-loop-wire l = record {
  marked : OutputsMarked l.circuit l.marks l.wire-index;
  items : l.wire-items ≡ l.circuit.outputs;
}
