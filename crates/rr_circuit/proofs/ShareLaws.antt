-- shared gates, through look-ups, insertions and growth
use Rattle.std.proofs.Common.{◌≡◌, ◌⊎◌, inl, inr, ℕ, Bool, true, false, ◌&&◌, eqb, List, [], ◌∷◌, ◌*◌, ◌∙◌, ap, subst}
use Rattle.std.proofs.lemmas.Bool.{and_parts, eqb-true, cases_Bool}
use Rattle.std.proofs.lemmas.List.Elements.{All-cons, All-nil, All-head, All-tail, All-weaker}
use Rattle.indexmap.specs.IndexMap.{insert_entry}
use Rattle.rr_circuit.specs.declared.Wire.{Wire}
use Rattle.rr_circuit.specs.declared.Gate.{Gate}
use Rattle.rr_circuit.specs.Values.{Netlist, variables, IsWire, Extends, Computes, AreKnown}
use Rattle.rr_circuit.proofs.Netlists.{plus_gate, Extends-push, IsWire-gate, wire_value-gate}

pub same_gate : (g h : Gate) → (eqb g.left.0 h.left.0 && eqb g.right.0 h.right.0) ≡ true → g ≡ h
same_gate g h e =
    let p = and_parts (eqb g.left.0 h.left.0) (eqb g.right.0 h.right.0) e in
    let l : g.left.0 ≡ h.left.0 = eqb-true g.left.0 h.left.0 p.0 in
    let r : g.right.0 ≡ h.right.0 = eqb-true g.right.0 h.right.0 p.1 in
    ap (λ x. record { left = record { 0 = x }; right = g.right }) l ∙ ap (λ x. record { left = h.left; right = record { 0 = x } }) r

pub Computes-extends : (n m : Netlist) (g : Gate) (w : Wire) → Extends n m → Computes n g w → Computes m g w
Computes-extends n m g w e c = record {
  left = e.wires g.left c.left;
  right = e.wires g.right c.right;
  wire = e.wires w c.wire;
  value = λ env. rw (e.values env w c.wire, e.values env g.left c.left, e.values env g.right c.right) (c.value env);
}

pub AreKnown-extends : (n m : Netlist) (es : List (Gate × Wire)) → Extends n m → AreKnown n es → AreKnown m es
AreKnown-extends n m es e = All-weaker (λ x. Computes n x.0 x.1) (λ x. Computes m x.0 x.1) (λ x. Computes-extends n m x.0 x.1 e) es

pub AreKnown-insert : (n : Netlist) (eq : Gate → Gate → Bool) → ((g h : Gate) → eq g h ≡ true → g ≡ h) → (es : List (Gate × Wire)) (g : Gate) (w : Wire) → AreKnown n es → Computes n g w → AreKnown n (insert_entry eq es g w)
AreKnown-insert n eq exact [] g w h c = All-cons (λ x. Computes n x.0 x.1) (g, w) [] c (All-nil (λ x. Computes n x.0 x.1))
AreKnown-insert n eq exact (e ∷ es) g w h c = by_cases (AreKnown-insert n eq exact es g w (All-tail (λ x. Computes n x.0 x.1) e es h) c) (cases_Bool (eq g e.0))
  where
    by_cases : AreKnown n (insert_entry eq es g w) → ((eq g e.0 ≡ true) ⊎ (eq g e.0 ≡ false)) → AreKnown n (insert_entry eq (e ∷ es) g w)
    by_cases rest (inl t) = rw t (All-cons (λ x. Computes n x.0 x.1) (e.0, w) es (subst (λ k. Computes n k w) (exact g e.0 t) c) (All-tail (λ x. Computes n x.0 x.1) e es h))
    by_cases rest (inr f) = rw f (All-cons (λ x. Computes n x.0 x.1) e (insert_entry eq es g w) (All-head (λ x. Computes n x.0 x.1) e es h) rest)

-- a gate more, known by its wire
pub AreKnown-push : (n : Netlist) (eq : Gate → Gate → Bool) → ((g h : Gate) → eq g h ≡ true → g ≡ h) → (es : List (Gate × Wire)) (g : Gate) (at : ℕ) → AreKnown n es → IsWire n g.left → IsWire n g.right → at ≡ variables n → AreKnown (plus_gate n g) (insert_entry eq es g (record { 0 = 2 * at }))
AreKnown-push n eq exact es g at h left right e =
    let x = Extends-push n g in
    AreKnown-insert (plus_gate n g) eq exact es g (record { 0 = 2 * at }) (AreKnown-extends n (plus_gate n g) es x h) (record {
      left = x.wires g.left left;
      right = x.wires g.right right;
      wire = IsWire-gate n g at e;
      value = λ env. rw (x.values env g.left left, x.values env g.right right) (wire_value-gate n g env at e);
    })
