-- marks of the variables that outputs need
use Rattle.std.proofs.Common.{◌≡◌, ◌⊎◌, inl, inr, ℕ, ◌+◌, ◌-◌, ◌<◌, ◌≤◌, Bool, true, false, List, ◌++◌, length, get_or, set, replicate, take, sym, ◌∙◌, ap, arith, rules}
use Rattle.std.specs.Prelude.{All, Contains}
use Rattle.std.proofs.lemmas.Bool.{cases_eq, cases_lt, false≢true}
use Rattle.std.proofs.lemmas.List.{get_or_append_left, get_or-append_right, get_or-set_same, get_or-set_other, get_or_past, get_or-replicate, length-set, length-append, length-replicate, take_more, take_all}
use Rattle.std.proofs.lemmas.List.Elements.{All-weaker, All-push, Contains-get_or}
use Rattle.rr_circuit.specs.declared.Wire.{Wire}
use Rattle.rr_circuit.specs.declared.Gate.{Gate}
use Rattle.rr_circuit.specs.Values.{OutputNetlist, IsWire, IsGateAt}
use Rattle.rr_circuit.specs.Sweeps.{variable, gate_at, is_marked, IsUser, AreMarked}

-- ---- one mark more
mark_within : (marks : List Bool) (v : ℕ) → is_marked marks v → v < length marks
mark_within marks v h = by_cases (cases_lt v (length marks))
  where
    by_cases : ((v < length marks) ⊎ (length marks ≤ v)) → v < length marks
    by_cases (inl l) = l
    by_cases (inr l) = absurd (false≢true (sym (get_or_past marks v false l) ∙ h))

mark_here : (marks : List Bool) (i : ℕ) → i < length marks → is_marked (set marks i true) i
mark_here marks i l = get_or-set_same marks i true false l

mark_grows : (marks : List Bool) (i v : ℕ) → is_marked marks v → is_marked (set marks i true) v
mark_grows marks i v h = by_cases (cases_eq v i)
  where
    by_cases : ((v ≡ i) ⊎ (v ≡ i → ⊥)) → is_marked (set marks i true) v
    by_cases (inl e) = rw e (mark_here marks i (let l = mark_within marks v h in omega arith))
    by_cases (inr n) = get_or-set_other marks i v true false n ∙ h

mark_cases : (marks : List Bool) (i v : ℕ) → is_marked (set marks i true) v → (v ≡ i) ⊎ is_marked marks v
mark_cases marks i v h = by_cases (cases_eq v i)
  where
    by_cases : ((v ≡ i) ⊎ (v ≡ i → ⊥)) → (v ≡ i) ⊎ is_marked marks v
    by_cases (inl e) = inl e
    by_cases (inr n) = inr (sym (get_or-set_other marks i v true false n) ∙ h)

-- ---- the outputs
pub variable_within : (c : OutputNetlist) (marks : List Bool) (w : Wire) → length marks ≡ 1 + c.netlist.inputs + length c.netlist.gates → IsWire c.netlist w → variable w < length marks
unfolding IsWire
variable_within c marks w s h = omega arith

pub record OutputsMarked (c : OutputNetlist) (marks : List Bool) (i : ℕ) : Type 0 where
  pub size : length marks ≡ 1 + c.netlist.inputs + length c.netlist.gates
  pub own : (v : ℕ) → v ≤ c.netlist.inputs → is_marked marks v
  pub outputs : All (λ w. is_marked marks (variable w)) (take i c.outputs)
  pub used : (v : ℕ) → c.netlist.inputs < v → is_marked marks v → (w : Wire) × Contains c.outputs w × (variable w ≡ v)

pub OutputsMarked-none : (c : OutputNetlist) (marks : List Bool) → marks ≡ replicate (c.netlist.inputs + 1) true ++ replicate (length c.netlist.gates) false → OutputsMarked c marks 0
OutputsMarked-none c marks e = rw e (record {
  size =
      let l = length-append ones zeros in
      let a = length-replicate (c.netlist.inputs + 1) true in
      let b = length-replicate (length c.netlist.gates) false in
      omega arith;
  own = λ v h. get_or_append_left ones zeros false v (let a = length-replicate (c.netlist.inputs + 1) true in omega arith) ∙ get_or-replicate (c.netlist.inputs + 1) v true false (omega arith);
  outputs = search rules;
  used = λ v h m. absurd (false≢true (sym (none v h) ∙ m));
})
  where
    ones : List Bool
    ones = replicate (c.netlist.inputs + 1) true

    zeros : List Bool
    zeros = replicate (length c.netlist.gates) false

    zero_at : (k n : ℕ) → get_or (replicate n false) k false ≡ false
    zero_at k n = by_cases (cases_lt k n)
      where
        by_cases : ((k < n) ⊎ (n ≤ k)) → get_or (replicate n false) k false ≡ false
        by_cases (inl l) = get_or-replicate n k false false l
        by_cases (inr l) = get_or_past (replicate n false) k false (let b = length-replicate n false in omega arith)

    none : (v : ℕ) → c.netlist.inputs < v → get_or (ones ++ zeros) v false ≡ false
    none v h = get_or-append_right ones zeros (c.netlist.inputs + 1) v false (length-replicate (c.netlist.inputs + 1) true) (omega arith) ∙ zero_at (v - (c.netlist.inputs + 1)) (length c.netlist.gates)

pub OutputsMarked-more : (c : OutputNetlist) (marks : List Bool) (i : ℕ) (d : Wire) → OutputsMarked c marks i → i < length c.outputs → variable (get_or c.outputs i d) < length marks → OutputsMarked c (set marks (variable (get_or c.outputs i d)) true) (i + 1)
OutputsMarked-more c marks i d h l r = record {
  size = length-set marks (variable w) true ∙ h.size;
  own = λ v b. mark_grows marks (variable w) v (h.own v b);
  outputs = rw (take_more c.outputs i d l) (All-push (λ x. is_marked after (variable x)) (take i c.outputs) w (All-weaker (λ x. is_marked marks (variable x)) (λ x. is_marked after (variable x)) (λ x m. mark_grows marks (variable w) (variable x) m) (take i c.outputs) h.outputs) (mark_here marks (variable w) r));
  used = λ v b m. by_cases v b (mark_cases marks (variable w) v m);
}
  where
    w : Wire
    w = get_or c.outputs i d

    after : List Bool
    after = set marks (variable w) true

    by_cases : (v : ℕ) → c.netlist.inputs < v → ((v ≡ variable w) ⊎ is_marked marks v) → (x : Wire) × Contains c.outputs x × (variable x ≡ v)
    by_cases v b (inl e) = (w, Contains-get_or c.outputs i d l, sym e)
    by_cases v b (inr m) = h.used v b m

pub AreMarked-outputs : (c : OutputNetlist) (marks : List Bool) (i : ℕ) → OutputsMarked c marks i → length c.outputs ≤ i → AreMarked c marks (length c.netlist.gates)
AreMarked-outputs c marks i h l = record {
  size = h.size;
  own = h.own;
  outputs = let e = take_all i c.outputs l in rw e at h.outputs;
  operands = λ j a b m. absurd (omega arith);
  used = λ v b m. inl (h.used v b m);
}

-- ---- a gate
pub AreMarked-left_out : (c : OutputNetlist) (marks : List Bool) (k : ℕ) → get_or marks (1 + c.netlist.inputs + k) false ≡ false → AreMarked c marks (k + 1) → AreMarked c marks k
AreMarked-left_out c marks k off h = record {
  size = h.size;
  own = h.own;
  outputs = h.outputs;
  operands = λ j a b m. by_cases j a b m (cases_eq j k);
  used = λ v b m. elim (h.used v b m) [ inl x ↦ inl x | inr x ↦ inr (x.0, omega (arith, x.1), x.2) ];
}
  where
    by_cases : (j : ℕ) → k ≤ j → j < length c.netlist.gates → is_marked marks (1 + c.netlist.inputs + j) → ((j ≡ k) ⊎ (j ≡ k → ⊥)) →
        is_marked marks (variable (gate_at c.netlist j).left) × is_marked marks (variable (gate_at c.netlist j).right)
    by_cases j a b m (inl e) = absurd (false≢true (sym off ∙ ap (λ x. get_or marks (1 + c.netlist.inputs + x) false) (sym e) ∙ m))
    by_cases j a b m (inr n) = h.operands j (omega arith) b m

pub AreMarked-kept : (c : OutputNetlist) (marks : List Bool) (k : ℕ) → IsGateAt c.netlist.inputs k (gate_at c.netlist k) → k < length c.netlist.gates → is_marked marks (1 + c.netlist.inputs + k) → AreMarked c marks (k + 1) →
    AreMarked c (set (set marks (variable (gate_at c.netlist k).left) true) (variable (gate_at c.netlist k).right) true) k
AreMarked-kept c marks k known l mark h = record {
  size = length-set first b true ∙ length-set marks a true ∙ h.size;
  own = λ v z. grows v (h.own v z);
  outputs = All-weaker (λ w. is_marked marks (variable w)) (λ w. is_marked after (variable w)) (λ w m. grows (variable w) m) c.outputs h.outputs;
  operands = λ j low high m. operands_at j low high m (cases_eq j k);
  used = λ v z m. used_at v z (mark_cases first b v m);
}
  where
    g : Gate
    g = gate_at c.netlist k

    a : ℕ
    a = variable g.left

    b : ℕ
    b = variable g.right

    first : List Bool
    first = set marks a true

    after : List Bool
    after = set first b true

    grows : (v : ℕ) → is_marked marks v → is_marked after v
    grows v m = mark_grows first b v (mark_grows marks a v m)

    a_low : a < 1 + c.netlist.inputs + k
    a_low = let here = known.0.1 in omega (arith, here)

    b_low : b < 1 + c.netlist.inputs + k
    b_low = let here = known.1.1 in omega (arith, here)

    a_here : is_marked after a
    a_here = mark_grows first b a (mark_here marks a (let s = h.size in let low = a_low in omega (arith, s, low)))

    b_here : is_marked after b
    b_here = mark_here first b (let s = length-set marks a true ∙ h.size in let low = b_low in omega (arith, s, low))

    old : (j : ℕ) → k < j → is_marked after (1 + c.netlist.inputs + j) → is_marked marks (1 + c.netlist.inputs + j)
    old j high m = elim (mark_cases first b (1 + c.netlist.inputs + j) m) [
      | inl e ↦ absurd (omega (arith, e, b_low, high))
      | inr n ↦ elim (mark_cases marks a (1 + c.netlist.inputs + j) n) [
        | inl e ↦ absurd (omega (arith, e, a_low, high))
        | inr o ↦ o
      ]
    ]

    operands_at : (j : ℕ) → k ≤ j → j < length c.netlist.gates → is_marked after (1 + c.netlist.inputs + j) → ((j ≡ k) ⊎ (j ≡ k → ⊥)) →
        is_marked after (variable (gate_at c.netlist j).left) × is_marked after (variable (gate_at c.netlist j).right)
    operands_at j low high m (inl e) = rw e (a_here, b_here)
    operands_at j low high m (inr n) =
        let up : k < j = omega (arith, low, n) in
        let both = h.operands j (omega (arith, up)) high (old j up m) in
        (grows _ both.0, grows _ both.1)

    used_before : (v : ℕ) → c.netlist.inputs < v → ((v ≡ a) ⊎ is_marked marks v) → ((w : Wire) × Contains c.outputs w × (variable w ≡ v)) ⊎ ((j : ℕ) × (k ≤ j) × IsUser c.netlist after v j)
    used_before v z (inl e) = inr (k, omega arith, (l, grows _ mark, inl (sym e)))
    used_before v z (inr m) = elim (h.used v z m) [ inl x ↦ inl x | inr x ↦ inr (x.0, omega (arith, x.1), (x.2.0, grows _ x.2.1, x.2.2)) ]

    used_at : (v : ℕ) → c.netlist.inputs < v → ((v ≡ b) ⊎ is_marked first v) → ((w : Wire) × Contains c.outputs w × (variable w ≡ v)) ⊎ ((j : ℕ) × (k ≤ j) × IsUser c.netlist after v j)
    used_at v z (inl e) = inr (k, omega arith, (l, grows _ mark, inr (sym e)))
    used_at v z (inr m) = used_before v z (mark_cases marks a v m)
