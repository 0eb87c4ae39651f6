use Rattle.std.proofs.Common.{List, take, ap₂}
use Rattle.rr_circuit.specs.declared.Wire.{Wire}
use Rattle.std.proofs.lemmas.List.Elements.{All-take}
use Rattle.rr_circuit.specs.Values.{IsWire}
use Rattle.rr_circuit.proofs.Netlists.{AreWires-extends}
use Rattle.rr_blast_sites.proofs.GuardLaws.{changed-carried, rest_whole}
use Rattle.rr_blast_sites.proofs.guards.changed_wire.Goals as goal

pub form_wire-requires-clause-form : goal.form_wire-requires-clause-form
form_wire-requires-clause-form c = AreWires-extends _ _ _ c.in_ok-s.ensures.extends (All-take (IsWire c.args.b.now) 3 c.args.bits.now c.requires.bits)

pub returns-clause-value : goal.returns-clause-value
returns-clause-value c = λ W h. changed-carried c.args.inputs.now _ _ _ W c.args.names.now c.args.bits.now _ _ _ _ (λ q. c.if-names-eq0.false q) (ap₂ (λ k (xs : List Wire). take k xs) c.requires.places (rest_whole c.args.bits.now 3)) c.in_ok-s.ensures.extends c.requires.bits c.requires.e (c.in_ok-s.ensures.value W h) c.in_ok-out.ensures.value
