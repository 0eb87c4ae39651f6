use Rattle.std.proofs.Common.{◌<◌, List, length, get_or, ap₂, ◌∙◌, refl}
use Rattle.rr_circuit.specs.declared.Gate.{Gate}
use Rattle.rr_circuit.specs.Values.{IsNetlist, literal_value, wire_values, given}
use Rattle.rr_circuit.proofs.CopyLaws.{Copied-none, Copied-more, copied_room}
use Rattle.rr_circuit.proofs.Netlists.{values-all}
use Rattle.rr_circuit.proofs.gates_copied.Goals as goal

pub loop-gate-init : goal.loop-gate-init
loop-gate-init c = record {
  copied = Copied-none _ _ _ _ _ c.requires.inputs c.constant.ensures.wire c.constant.ensures.value c.requires.count (c.in_ok-extend_from_slice.ensures.items ∙ rw c.in_ok-push.ensures.items (rw c.in_ok-copies.ensures.items refl));
  gates = rw (← c.circuit.view_is) c.deref-gate-items.ensures.value;
}

pub loop-gate-preserved : goal.loop-gate-preserved
loop-gate-preserved c =
    let h = c.loop-gate.invariant in
    let n = c.args.circuit.now.netlist in
    let k : c.loop-gate.gate-index < length n.gates = rw (← h.gates) c.loop-gate-test.true in
    let e = c.in_ok-wire.ensures in
    record {
      copied = rw c.in_ok-push-2.ensures.items (Copied-more _ _ _ _ _ _ _ _ _ _ (record { left = record { 0 = 0 }; right = record { 0 = 0 } }) h.copied k e.extends e.wire
          (λ env. c.literal_copy-left.ensures.value env ∙ ap₂ (λ ws (gs : List Gate). literal_value (wire_values c.loop-gate.b env ws) (get_or gs c.loop-gate.gate-index (record { left = record { 0 = 0 }; right = record { 0 = 0 } })).left.0) c.as_slice.ensures.value h.gates)
          (λ env. c.literal_copy-right.ensures.value env ∙ ap₂ (λ ws (gs : List Gate). literal_value (wire_values c.loop-gate.b env ws) (get_or gs c.loop-gate.gate-index (record { left = record { 0 = 0 }; right = record { 0 = 0 } })).right.0) c.as_slice-in-loop-gate.ensures.value h.gates)
          e.value);
      gates = h.gates;
    }

pub literal_copy-left-requires-clause-room : goal.literal_copy-left-requires-clause-room
literal_copy-left-requires-clause-room c =
    let n = c.args.circuit.now.netlist in
    let lawful : IsNetlist n.inputs n.gates = rw (← c.circuit.view_is) c.circuit.invariant.0 in
    let k : c.loop-gate.gate-index < length n.gates = rw (← c.loop-gate.invariant.gates) c.loop-gate-test.true in
    rw (c.as_slice.ensures.value, c.loop-gate.invariant.gates) (copied_room _ _ _ _ _ _ (record { left = record { 0 = 0 }; right = record { 0 = 0 } }) c.loop-gate.invariant.copied lawful k).0

pub literal_copy-right-requires-clause-room : goal.literal_copy-right-requires-clause-room
literal_copy-right-requires-clause-room c =
    let n = c.args.circuit.now.netlist in
    let lawful : IsNetlist n.inputs n.gates = rw (← c.circuit.view_is) c.circuit.invariant.0 in
    let k : c.loop-gate.gate-index < length n.gates = rw (← c.loop-gate.invariant.gates) c.loop-gate-test.true in
    rw (c.as_slice-in-loop-gate.ensures.value, c.loop-gate.invariant.gates) (copied_room _ _ _ _ _ _ (record { left = record { 0 = 0 }; right = record { 0 = 0 } }) c.loop-gate.invariant.copied lawful k).1

pub returns-clause-value : goal.returns-clause-value
returns-clause-value c = λ env.
    c.loop-gate.invariant.copied.value env ∙ values-all c.args.circuit.now.netlist (given (wire_values c.args.b.now env c.args.inputs.now)) c.loop-gate.gate-index (rw (← c.loop-gate.invariant.gates) c.loop-gate-test.false)
