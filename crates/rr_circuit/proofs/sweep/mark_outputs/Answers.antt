use Rattle.std.proofs.Common.{◌<◌, length}
use Rattle.std.proofs.lemmas.List.Elements.{All-get_or}
use Rattle.rr_circuit.specs.Values.{IsWire, AreWires}
use Rattle.rr_circuit.proofs.Marking.{OutputsMarked-none, OutputsMarked-more, AreMarked-outputs, variable_within}
use Rattle.rr_circuit.proofs.sweep.mark_outputs.Goals as goal

pub mark-requires : goal.mark-requires
mark-requires c =
    let v = c.args.circuit.now in
    let lawful : AreWires v.netlist v.outputs = rw (← c.circuit.view_is) c.circuit.invariant.2 in
    let k : c.loop-wire.wire-index < length v.outputs = rw (← c.loop-wire.invariant.items) c.loop-wire-test.true in
    rw c.loop-wire.invariant.items (variable_within v _ _ c.loop-wire.invariant.marked.size (All-get_or (IsWire v.netlist) v.outputs _ (record { 0 = 0 }) k lawful))

pub loop-wire-init : goal.loop-wire-init
loop-wire-init c = record { marked = OutputsMarked-none _ _ c.requires; items = rw (← c.circuit.view_is) c.deref-wire-items.ensures.value }

pub loop-wire-preserved : goal.loop-wire-preserved
loop-wire-preserved c =
    let v = c.args.circuit.now in
    let lawful : AreWires v.netlist v.outputs = rw (← c.circuit.view_is) c.circuit.invariant.2 in
    let k : c.loop-wire.wire-index < length v.outputs = rw (← c.loop-wire.invariant.items) c.loop-wire-test.true in
    record {
      marked = rw (c.mark.ensures, c.loop-wire.invariant.items) (OutputsMarked-more v _ _ (record { 0 = 0 }) c.loop-wire.invariant.marked k (variable_within v _ _ c.loop-wire.invariant.marked.size (All-get_or (IsWire v.netlist) v.outputs _ (record { 0 = 0 }) k lawful)));
      items = c.loop-wire.invariant.items;
    }

pub returns : goal.returns
returns c = AreMarked-outputs _ _ _ c.loop-wire.invariant.marked (rw (← c.loop-wire.invariant.items) c.loop-wire-test.false)
