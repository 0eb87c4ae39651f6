use Rattle.std.proofs.Common.{arith, sym, ◌∙◌, length-append, ◌∷◌, []}
use Rattle.std.proofs.lemmas.List.Elements.{All-contains}
use Rattle.std.proofs.lemmas.Map.Views.{Contains-from_lookup}
use Rattle.rr_circuit.specs.declared.Gate.{Gate}
use Rattle.rr_circuit.specs.Values.{Netlist, IsWire, Computes}
use Rattle.rr_circuit.proofs.Netlists.{Extends-push, IsWire-gate, wire_value-gate, IsNetlist-push, IsWire-less, AreOrdered-push}
use Rattle.rr_circuit.proofs.ShareLaws.{same_gate, AreKnown-extends, AreKnown-push}
use Rattle.rr_circuit.proofs.Builder.push_gate.Goals as goal

known : (c : goal.In-Some) → Computes (record { inputs = c.self.inside.inputs; gates = c.self.inside.gates.items }) (record { left = c.args.left; right = c.args.right }) c.in-Some.wire
known c =
    let g : Gate = record { left = c.args.left; right = c.args.right } in
    let n : Netlist = record { inputs = c.self.inside.inputs; gates = c.self.inside.gates.items } in
    All-contains (λ x. Computes n x.0 x.1) c.self.inside.known.entries (g, c.in-Some.wire) c.self.invariant.3
    (Contains-from_lookup same_gate g c.in-Some.wire c.self.inside.known.entries (sym c.get.ensures.value ∙ sym c.in-Some.ensures))

pub returns-in-Some-clause-wire : goal.returns-in-Some-clause-wire
returns-in-Some-clause-wire c = rw (← c.self.view_is) (known c).wire

pub returns-in-Some-clause-value : goal.returns-in-Some-clause-value
returns-in-Some-clause-value c = λ env. rw (← c.self.view_is) ((known c).value env)

pub returns-in_err-insert-clause-extends : goal.returns-in_err-insert-clause-extends
returns-in_err-insert-clause-extends c = rw (c.in_ok-push.ensures.items, ← c.self.view_is) (Extends-push _ _)

pub invariant_of-self-in_err-insert : goal.invariant_of-self-in_err-insert
invariant_of-self-in_err-insert c =
    let p = length-append c.self.inside.gates.items (record { left = c.args.left; right = c.args.right } ∷ []) in
    rw c.in_ok-push.ensures.items (
      IsNetlist-push _ _ _ c.self.invariant.0 c.requires.low c.requires.order (rw c.self.view_is c.requires.wire),
      omega arith,
      AreOrdered-push _ _ _ c.self.invariant.2 c.requires.order,
      rw c.in_err-insert.ensures.err (AreKnown-extends _ _ _ (Extends-push _ _) c.self.invariant.3),
    )

pub invariant_of-self-2 : goal.invariant_of-self-2
invariant_of-self-2 c =
    let p = length-append c.self.inside.gates.items (record { left = c.args.left; right = c.args.right } ∷ []) in
    let n : Netlist = record { inputs = c.self.inside.inputs; gates = c.self.inside.gates.items } in
    let left : IsWire n c.args.left = rw c.self.view_is c.requires.wire in
    rw (c.in_ok-push.ensures.items, c.in_ok-insert.ensures.entries) (
      IsNetlist-push _ _ _ c.self.invariant.0 c.requires.low c.requires.order left,
      omega arith,
      AreOrdered-push _ _ _ c.self.invariant.2 c.requires.order,
      AreKnown-push n _ same_gate c.self.inside.known.entries (record { left = c.args.left; right = c.args.right }) _ c.self.invariant.3 left (IsWire-less n c.args.left c.args.right c.requires.order left) (omega (arith, c.len.ensures)),
    )

pub returns-clause-extends : goal.returns-clause-extends
returns-clause-extends c = rw (c.in_ok-push.ensures.items, ← c.self.view_is) (Extends-push _ _)

pub returns-clause-wire : goal.returns-clause-wire
returns-clause-wire c = rw c.in_ok-push.ensures.items (IsWire-gate _ _ _ (omega (arith, c.len.ensures)))

pub returns-clause-value : goal.returns-clause-value
returns-clause-value c = λ env. rw (c.in_ok-push.ensures.items, ← c.self.view_is) (wire_value-gate _ _ env _ (omega (arith, c.len.ensures)))
