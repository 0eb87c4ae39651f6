use Rattle.std.proofs.Common.{refl, ◌<◌, ◌∙◌, length}
use Rattle.std.proofs.lemmas.List.{map_more}
use Rattle.std.proofs.lemmas.List.Elements.{All-get_or}
use Rattle.rr_circuit.specs.Values.{given, wire_value, IsNetlist, IsWire, AreWires}
use Rattle.rr_circuit.proofs.Netlists.{input_values-given, values-all, wire_in_values, wire_value-read, gate_in_values}
use Rattle.rr_circuit.proofs.Valuations.{solves_its_equations, depends_on_inputs}
use Rattle.rr_circuit.proofs.Circuit.eval.Goals as goal

pub loop-gate-init : goal.loop-gate-init
loop-gate-init c = record {
  values = c.in_ok-extend_from_slice.ensures.items ∙ rw c.in_ok-push.ensures.items (rw c.in_ok-values.ensures.items (input_values-given _ _ c.requires));
  gates = rw (← c.self.view_is) c.deref-gate-items.ensures.value;
}

pub value_of-left-requires : goal.value_of-left-requires
value_of-left-requires c =
    let n = c.args.self.now.netlist in
    let lawful : IsNetlist n.inputs n.gates = rw (← c.self.view_is) c.self.invariant.0 in
    let k : c.loop-gate.gate-index < length n.gates = rw (← c.loop-gate.invariant.gates) c.loop-gate-test.true in
    rw (c.as_slice.ensures.value, c.loop-gate.invariant.values, c.loop-gate.invariant.gates) (gate_in_values n (given c.args.inputs.now) _ _ lawful k).0

pub value_of-right-requires : goal.value_of-right-requires
value_of-right-requires c =
    let n = c.args.self.now.netlist in
    let lawful : IsNetlist n.inputs n.gates = rw (← c.self.view_is) c.self.invariant.0 in
    let k : c.loop-gate.gate-index < length n.gates = rw (← c.loop-gate.invariant.gates) c.loop-gate-test.true in
    rw (c.as_slice-in-loop-gate.ensures.value, c.loop-gate.invariant.values, c.loop-gate.invariant.gates) (gate_in_values n (given c.args.inputs.now) _ _ lawful k).1

pub loop-wire-init : goal.loop-wire-init
loop-wire-init c = record {
  values = c.loop-gate.invariant.values ∙ values-all c.args.self.now.netlist (given c.args.inputs.now) c.loop-gate.gate-index (rw (← c.loop-gate.invariant.gates) c.loop-gate-test.false);
  outputs = c.in_ok-outputs.ensures.items;
  items = rw (← c.self.view_is) c.deref-wire-items.ensures.value;
}

pub value_of-requires : goal.value_of-requires
value_of-requires c =
    let v = c.args.self.now in
    let lawful : AreWires v.netlist v.outputs = rw (← c.self.view_is) c.self.invariant.2 in
    let k : c.loop-wire.wire-index < length v.outputs = rw (← c.loop-wire.invariant.items) c.loop-wire-test.true in
    rw (c.as_slice-in-loop-wire.ensures.value, c.loop-wire.invariant.values, c.loop-wire.invariant.items) (wire_in_values v.netlist (given c.args.inputs.now) _ (All-get_or (IsWire v.netlist) v.outputs _ _ k lawful))

pub loop-wire-preserved : goal.loop-wire-preserved
loop-wire-preserved c =
    let v = c.args.self.now in
    let k : c.loop-wire.wire-index < length v.outputs = rw (← c.loop-wire.invariant.items) c.loop-wire-test.true in
    record {
      values = c.loop-wire.invariant.values;
      outputs = rw (c.in_ok-push-3.ensures.items, c.loop-wire.invariant.outputs, map_more (wire_value v.netlist (given c.args.inputs.now)) v.outputs c.loop-wire.wire-index (record { 0 = 0 }) k, c.value_of.ensures, c.as_slice-in-loop-wire.ensures.value, c.loop-wire.invariant.values, c.loop-wire.invariant.items, wire_value-read) refl;
      items = c.loop-wire.invariant.items;
    }

pub returns-clause-equations : goal.returns-clause-equations
returns-clause-equations c = solves_its_equations c.args.self.now.netlist (rw (← c.self.view_is) c.self.invariant.0)

pub returns-clause-inputs_alone : goal.returns-clause-inputs_alone
returns-clause-inputs_alone c = depends_on_inputs c.args.self.now
