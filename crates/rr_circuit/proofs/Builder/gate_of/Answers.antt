use Rattle.std.proofs.Common.{◌≡◌, ap, arith}
use Rattle.rr_circuit.specs.Values.{Netlist, IsNetlist}
use Rattle.rr_circuit.proofs.Folds.{is_gate}
use Rattle.rr_circuit.proofs.Builder.gate_of.Goals as goal

pub returns-clause-gate : goal.returns-clause-gate
returns-clause-gate c =
    let n = c.args.self.now in
    let lawful : IsNetlist n.inputs n.gates = rw (← c.self.view_is) c.self.invariant.0 in
    is_gate n _ _ _ lawful c.gate_at.ensures (let e : c.self.inside.inputs ≡ n.inputs = ap (λ (m : Netlist). m.inputs) c.self.view_is in omega arith)
