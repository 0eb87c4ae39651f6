use Rattle.std.proofs.Common.{◌≡◌, map, length, ap, arith, ◌∙◌}
use Rattle.std.proofs.lemmas.List.{take_all}
use Rattle.rr_circuit.specs.Values.{OutputNetlist, AreWires}
use Rattle.rr_circuit.specs.Sweeps.{AreMarked, moved_wire}
use Rattle.rr_circuit.proofs.Keeping.{swept_used, swept_wires, swept_values}
use Rattle.rr_circuit.proofs.Circuit.swept.Goals as goal

pub invariant_of-result : goal.invariant_of-result
invariant_of-result c =
    let v = c.args.self.now in
    let h = c.in_ok-gates.ensures in
    let inputs : c.self.inside.inputs ≡ v.netlist.inputs = ap (λ (m : OutputNetlist). m.netlist.inputs) c.self.view_is in
    let gates : length c.self.inside.gates.items ≡ length v.netlist.gates = ap (λ (m : OutputNetlist). length m.netlist.gates) c.self.view_is in
    let all = c.loop-wire.invariant.outputs ∙ ap (map (moved_wire c.in_ok-gates.field-0.variables.items)) (take_all c.loop-wire.wire-index v.outputs (rw (← c.loop-wire.invariant.items) c.loop-wire-test.false)) in
    rw (inputs, all) (h.lawful, omega (arith, h.count, c.self.invariant.1, inputs, gates), swept_wires _ _ _ _ _ _ h)

pub returns-clause-values : goal.returns-clause-values
returns-clause-values c =
    let v = c.args.self.now in
    let inputs : c.self.inside.inputs ≡ v.netlist.inputs = ap (λ (m : OutputNetlist). m.netlist.inputs) c.self.view_is in
    let all = c.loop-wire.invariant.outputs ∙ ap (map (moved_wire c.in_ok-gates.field-0.variables.items)) (take_all c.loop-wire.wire-index v.outputs (rw (← c.loop-wire.invariant.items) c.loop-wire-test.false)) in
    let marked : AreMarked v c.as_slice.result.now 0 = rw c.as_slice.ensures.value c.in_ok-marks.ensures in
    let lawful : AreWires v.netlist v.outputs = rw (← c.self.view_is) c.self.invariant.2 in
    λ env. rw (inputs, all) (swept_values v.netlist c.as_slice.result.now _ _ v.outputs env c.in_ok-gates.ensures lawful marked.outputs)

pub returns-clause-used : goal.returns-clause-used
returns-clause-used c =
    let v = c.args.self.now in
    let inputs : c.self.inside.inputs ≡ v.netlist.inputs = ap (λ (m : OutputNetlist). m.netlist.inputs) c.self.view_is in
    let all = c.loop-wire.invariant.outputs ∙ ap (map (moved_wire c.in_ok-gates.field-0.variables.items)) (take_all c.loop-wire.wire-index v.outputs (rw (← c.loop-wire.invariant.items) c.loop-wire-test.false)) in
    let marked : AreMarked v c.as_slice.result.now 0 = rw c.as_slice.ensures.value c.in_ok-marks.ensures in
    rw (inputs, all) (swept_used v c.as_slice.result.now _ _ marked c.in_ok-gates.ensures)
