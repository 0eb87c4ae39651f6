use Rattle.std.proofs.Common.{◌∙◌, sym, ap₂, List, take}
use Rattle.std.proofs.lemmas.List.Elements.{All-take}
use Rattle.rr_circuit.specs.declared.Wire.{Wire}
use Rattle.rr_circuit.specs.Values.{IsWire, wire_values}
use Rattle.rr_circuit.proofs.Netlists.{AreWires-extends}
use Rattle.rr_instance_laws.specs.Truth.{name_truth}
use Rattle.rr_blast_sites.specs.Instances.{env_in, place_of}
use Rattle.rr_blast_sites.proofs.GuardLaws.{rest_whole}
use Rattle.rr_blast_body.proofs.LastLaws.{gate-carried, gated_none}
use Rattle.rr_blast_body.proofs.gates.gate_wire.Goals as goal

pub form_gate-requires-clause-form : goal.form_gate-requires-clause-form
form_gate-requires-clause-form c = AreWires-extends _ _ _ c.in_ok-name.ensures.extends (All-take (IsWire c.args.b.now) 2 c.args.bits.now c.requires.bits)

pub returns-then-names-eq0-clause-value : goal.returns-then-names-eq0-clause-value
returns-then-names-eq0-clause-value c = λ W h. record {
  wire = c.constant.ensures.wire;
  value = λ input. c.constant.ensures.value input ∙ sym (gated_none c.args.names.now (wire_values c.args.b.now input c.args.bits.now) (name_truth c.args.inputs.now.scope.now (env_in (place_of c.args.inputs.now W) input)) c.if-names-eq0.true);
}

pub returns-clause-value : goal.returns-clause-value
returns-clause-value c = λ W h.
    gate-carried c.args.inputs.now _ _ _ W c.args.names.now c.args.bits.now _ _ _ (λ q. c.if-names-eq0.false q) (ap₂ (λ k (xs : List Wire). take k xs) c.requires.places (rest_whole c.args.bits.now 2))
    c.in_ok-name.ensures.extends c.requires.bits (c.in_ok-name.ensures.value W h) c.in_ok-out.ensures.value
