use Rattle.std.proofs.Common.{ℕ, ◌<◌, Bool, List, length, get_or, ap₂, ◌∙◌}
use Rattle.std.proofs.lemmas.List.Elements.{All-push, All-get_or}
use Rattle.rr_circuit.specs.declared.Wire.{Wire}
use Rattle.rr_circuit.specs.Values.{IsWire, AreWires, literal_value, wire_values, given}
use Rattle.rr_circuit.proofs.CopyLaws.{output_room, output_more}
use Rattle.rr_circuit.proofs.Circuit.copy_onto.Goals as goal

pub literal_copy-requires-clause-room : goal.literal_copy-requires-clause-room
literal_copy-requires-clause-room c =
    let v = c.args.self.now in
    let lawful : AreWires v.netlist v.outputs = rw (← c.self.view_is) c.self.invariant.2 in
    let k : c.loop-wire.wire-index < length v.outputs = rw (← c.loop-wire.invariant.items) c.loop-wire-test.true in
    rw (c.as_slice.ensures.value, c.loop-wire.invariant.items) (output_room c.gates_copied.new.b _ v.netlist (λ (env : ℕ → Bool). given (wire_values c.args.b.now env c.args.inputs.now)) _ c.in_ok-copies.ensures.value (All-get_or (IsWire v.netlist) v.outputs c.loop-wire.wire-index (record { 0 = 0 }) k lawful))

pub loop-wire-preserved : goal.loop-wire-preserved
loop-wire-preserved c =
    let v = c.args.self.now in
    let h = c.loop-wire.invariant in
    let k : c.loop-wire.wire-index < length v.outputs = rw (← h.items) c.loop-wire-test.true in
    record {
      wires = rw c.in_ok-push.ensures.items (All-push (IsWire c.gates_copied.new.b) _ _ h.wires c.literal_copy.ensures.wire);
      value = λ env. rw c.in_ok-push.ensures.items (output_more _ env c.in_ok-copies.copies.items _ v.outputs v.netlist _ _ (record { 0 = 0 }) c.loop-wire.wire-index k (c.in_ok-copies.ensures.value env) (h.value env)
          (c.literal_copy.ensures.value env ∙ ap₂ (λ ws (os : List Wire). literal_value (wire_values c.gates_copied.new.b env ws) (get_or os c.loop-wire.wire-index (record { 0 = 0 })).0) c.as_slice.ensures.value h.items));
      items = h.items;
    }
