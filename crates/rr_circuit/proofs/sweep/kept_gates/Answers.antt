use Rattle.std.proofs.Common.{◌≡◌, ap, subst, length, arith}
use Rattle.rr_circuit.specs.Values.{OutputNetlist}
use Rattle.rr_circuit.specs.Sweeps.{AreKept}
use Rattle.rr_circuit.proofs.sweep.kept_gates.Goals as goal

pub returns : goal.returns
returns c =
    let gates : length c.circuit.inside.gates.items ≡ length c.args.circuit.now.netlist.gates = ap (λ (m : OutputNetlist). length m.netlist.gates) c.circuit.view_is in
    let all : c.loop-k.k ≡ length c.args.circuit.now.netlist.gates = omega arith in
    subst (AreKept c.args.circuit.now.netlist c.args.marks.now _ _) all c.loop-k.invariant
