use Rattle.std.proofs.Common.{◌≤◌, length}
use Rattle.rr_circuit.specs.Sweeps.{AreMarked}
use Rattle.rr_circuit.proofs.sweep.needed.Given as goal

abbrev pub invariant-loop-left : goal.invariant-loop-left
invariant-loop-left l = record {
  left : l.left ≤ length l.circuit.netlist.gates;
  marked : AreMarked l.circuit l.marks.items l.left;
}

abbrev pub decreases-loop-left : goal.decreases-loop-left
decreases-loop-left l = l.left
