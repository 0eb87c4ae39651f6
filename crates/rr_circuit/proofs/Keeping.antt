-- the gates that stay, over the variables that stay
use Rattle.std.proofs.Common.{◌≡◌, ◌⊎◌, inl, inr, ℕ, ◌+◌, ◌*◌, ◌%◌, ◌<◌, ◌≤◌, Bool, false, ◌&&◌, List, [], ◌∷◌, ◌++◌, length, get_or, map, take, fold, refl, sym, ◌∙◌, ap, ap₂, subst, arith, length-append}
use Rattle.std.specs.Prelude.{All, Contains}
use Rattle.std.specs.List.{range_with_len}
use Rattle.std.proofs.Math.Seq.{take-length}
use Rattle.std.proofs.lemmas.Bool.{cases_eq, cases_lt, false≢true}
use Rattle.std.proofs.lemmas.List.{get_or_append_left, get_or_push, get_or_past, get_or-map, take_more, length-map}
use Rattle.std.proofs.lemmas.List.Sums.{fold_push}
use Rattle.std.proofs.lemmas.List.FromFn.{length-map-range_with_len, get_or-map-range_with_len}
use Rattle.std.proofs.lemmas.List.Elements.{All-head, All-tail, All-cons, All-nil, Contains-push, Contains-append_left}
use Rattle.rr_circuit.specs.declared.Wire.{Wire}
use Rattle.rr_circuit.specs.declared.Gate.{Gate}
use Rattle.rr_circuit.specs.Values.{Netlist, OutputNetlist, literal_value, with_gate, input_values, variable_values, wire_value, wire_values, IsWire, AreWires, IsGateAt, IsNetlist}
use Rattle.rr_circuit.specs.Sweeps.{variable, gate_at, is_marked, IsUser, IsUsed, AreUsed, AreMarked, moved_wire, moved_gate, values_upto, AreKept}
use Rattle.rr_circuit.proofs.Netlists.{length-fold, length-values_upto}
use Rattle.rr_circuit.proofs.AagParts.{netlist_push}

-- ---- a literal over other variables
moved_variable : (vs : List ℕ) (w : Wire) → variable (moved_wire vs w) ≡ get_or vs (variable w) 0
moved_variable vs w = omega arith

moved_value : (xs ys : List Bool) (vs : List ℕ) (w : Wire) → get_or xs (get_or vs (variable w) 0) false ≡ get_or ys (variable w) false → literal_value xs (moved_wire vs w).0 ≡ literal_value ys w.0
moved_value xs ys vs w h =
    let e : (moved_wire vs w).0 % 2 ≡ w.0 % 2 = omega arith in
    rw (e, moved_variable vs w, h) refl

moved_same : (vs : List ℕ) (x : ℕ) (w : Wire) → variable w < length vs → moved_wire (vs ++ x ∷ []) w ≡ moved_wire vs w
moved_same vs x w h = ap (λ n. record { 0 = 2 * n + w.0 % 2 }) (get_or_append_left vs (x ∷ []) 0 (variable w) h)

moved_gate_same : (vs : List ℕ) (x : ℕ) (g : Gate) → variable g.left < length vs → variable g.right < length vs → moved_gate (vs ++ x ∷ []) g ≡ moved_gate vs g
moved_gate_same vs x g l r = ap₂ (λ a b. record { left = a; right = b }) (moved_same vs x g.left l) (moved_same vs x g.right r)

-- ---- one number more
push_below : (vs : List ℕ) (x v bound : ℕ) → ((k : ℕ) → get_or vs k 0 < bound) → x < bound → get_or (vs ++ x ∷ []) v 0 < bound
push_below vs x v bound h b = by_cases (cases_lt v (length vs)) (cases_eq v (length vs))
  where
    by_cases : ((v < length vs) ⊎ (length vs ≤ v)) → ((v ≡ length vs) ⊎ (v ≡ length vs → ⊥)) → get_or (vs ++ x ∷ []) v 0 < bound
    by_cases (inl l) e = rw (get_or_append_left vs (x ∷ []) 0 v l) (h v)
    by_cases (inr l) (inl e) = rw (get_or_push vs x 0 v (sym e)) b
    by_cases (inr l) (inr n) = let p = length-append vs (x ∷ []) in rw (get_or_past (vs ++ x ∷ []) v 0 (omega arith)) (omega arith)

-- ---- one value more
value_before : (n : Netlist) (env : ℕ → Bool) (k v : ℕ) → k < length n.gates → v < 1 + n.inputs + k → get_or (values_upto n (k + 1) env) v false ≡ get_or (values_upto n k env) v false
value_before n env k v l h =
    let g : Gate = gate_at n k in
    let start : List Bool = input_values n.inputs env in
    let before : List Bool = fold with_gate start (take k n.gates) in
    let size = length-values_upto n env k (omega arith) in
    ap (λ xs. get_or xs v false) (ap (fold with_gate start) (take_more n.gates k (record { left = record { 0 = 0 }; right = record { 0 = 0 } }) l) ∙ fold_push with_gate start (take k n.gates) g)
    ∙ get_or_append_left before _ false v (omega (arith, size, h))

value_last : (n : Netlist) (env : ℕ → Bool) (k : ℕ) → k < length n.gates →
    get_or (values_upto n (k + 1) env) (1 + n.inputs + k) false ≡ (literal_value (values_upto n k env) (gate_at n k).left.0 && literal_value (values_upto n k env) (gate_at n k).right.0)
value_last n env k l =
    let g : Gate = gate_at n k in
    let start : List Bool = input_values n.inputs env in
    let before : List Bool = fold with_gate start (take k n.gates) in
    let size = length-values_upto n env k (omega arith) in
    ap (λ xs. get_or xs (1 + n.inputs + k) false) (ap (fold with_gate start) (take_more n.gates k (record { left = record { 0 = 0 }; right = record { 0 = 0 } }) l) ∙ fold_push with_gate start (take k n.gates) g)
    ∙ get_or_push before _ false (1 + n.inputs + k) size

-- ---- before the first gate
pub AreKept-none : (n : Netlist) (marks : List Bool) (gates : List Gate) (vs : List ℕ) → gates ≡ [] → vs ≡ map (λ v. v) (range_with_len 0 (1 + n.inputs)) → AreKept n marks gates vs 0
AreKept-none n marks gates vs e f = rw (e, f) (record {
  size = let s = length-map-range_with_len (λ v. v) 0 (1 + n.inputs) in omega arith;
  count = omega arith;
  lawful = λ k d l. absurd (omega arith);
  below = λ v. below_at v (cases_lt v (1 + n.inputs));
  above = λ v l h m. rw (number_at v h) l;
  value = λ env v h m. ap (λ k. get_or (input_values n.inputs env) k false) (number_at v h);
  from = λ i l. absurd (omega arith);
  to = λ j l m. absurd (omega arith);
})
  where
    numbers : List ℕ
    numbers = map (λ v. v) (range_with_len 0 (1 + n.inputs))

    number_at : (v : ℕ) → v < 1 + n.inputs + 0 → get_or numbers v 0 ≡ v
    number_at v h = get_or-map-range_with_len (λ k. k) 0 (1 + n.inputs) v v 0 (omega arith) (omega arith)

    below_at : (v : ℕ) → ((v < 1 + n.inputs) ⊎ (1 + n.inputs ≤ v)) → get_or numbers v 0 < 1 + n.inputs + 0
    below_at v (inl l) = rw (number_at v (omega arith)) (omega arith)
    below_at v (inr l) = let s = length-map-range_with_len (λ k. k) 0 (1 + n.inputs) in rw (get_or_past numbers v 0 (omega arith)) (omega arith)

-- ---- a gate that is left out
pub AreKept-left_out : (n : Netlist) (marks : List Bool) (gates : List Gate) (vs : List ℕ) (k : ℕ) → IsNetlist n.inputs n.gates → k < length n.gates → get_or marks (1 + n.inputs + k) false ≡ false → AreKept n marks gates vs k → AreKept n marks gates (vs ++ 0 ∷ []) (k + 1)
AreKept-left_out n marks gates vs k lawful l off h = record {
  size = let p = length-append vs (0 ∷ []) in let s = h.size in omega arith;
  count = let s = h.count in omega arith;
  lawful = h.lawful;
  below = λ v. push_below vs 0 v _ h.below (omega arith);
  above = λ v a b m. rw (same v b m) (h.above v a (before v b m) m);
  value = λ env v b m. ap (λ x. get_or (fold with_gate (input_values n.inputs env) gates) x false) (same v b m) ∙ h.value env v (before v b m) m ∙ sym (value_before n env k v l (before v b m));
  from = λ i b. let f = h.from i b in (f.0, omega (arith, f.1), f.2, get_or_append_left vs (0 ∷ []) 0 (1 + n.inputs + f.0) (omega (arith, f.1, h.size)) ∙ f.3);
  to = λ j b m. let low = earlier j b m in subst (Contains gates) (sym (moved_gate_same vs 0 (gate_at n j) (left_in j low) (right_in j low))) (h.to j low m);
}
  where
    none : Gate
    none = record { left = record { 0 = 0 }; right = record { 0 = 0 } }

    left_in : (j : ℕ) → j < k → variable (gate_at n j).left < length vs
    left_in j b = let here = (lawful j none (omega arith)).0.1 in omega (arith, here, h.size)

    right_in : (j : ℕ) → j < k → variable (gate_at n j).right < length vs
    right_in j b = let here = (lawful j none (omega arith)).1.1 in omega (arith, here, h.size)

    at_end : (j : ℕ) → is_marked marks (1 + n.inputs + j) → (j ≡ k → ⊥)
    at_end j m e = false≢true (sym off ∙ ap (λ x. get_or marks (1 + n.inputs + x) false) (sym e) ∙ m)

    earlier : (j : ℕ) → j < k + 1 → is_marked marks (1 + n.inputs + j) → j < k
    earlier j b m = let e = at_end j m in omega arith

    before : (v : ℕ) → v < 1 + n.inputs + (k + 1) → is_marked marks v → v < 1 + n.inputs + k
    before v b m = by_cases (cases_eq v (1 + n.inputs + k))
      where
        by_cases : ((v ≡ 1 + n.inputs + k) ⊎ (v ≡ 1 + n.inputs + k → ⊥)) → v < 1 + n.inputs + k
        by_cases (inl e) = absurd (false≢true (sym off ∙ ap (λ x. get_or marks x false) (sym e) ∙ m))
        by_cases (inr e) = omega arith

    same : (v : ℕ) → v < 1 + n.inputs + (k + 1) → is_marked marks v → get_or (vs ++ 0 ∷ []) v 0 ≡ get_or vs v 0
    same v b m = get_or_append_left vs (0 ∷ []) 0 v (let low = before v b m in omega (arith, low, h.size))

-- ---- a gate that stays
pub moved_lawful : (n : Netlist) (marks : List Bool) (gates : List Gate) (vs : List ℕ) (k : ℕ) → IsGateAt n.inputs k (gate_at n k) → is_marked marks (variable (gate_at n k).left) → is_marked marks (variable (gate_at n k).right) → AreKept n marks gates vs k → IsGateAt n.inputs (length gates) (moved_gate vs (gate_at n k))
moved_lawful n marks gates vs k known ml mr h =
    let g : Gate = gate_at n k in
    let la = h.above (variable g.left) (omega (arith, known.0.0)) (omega (arith, known.0.1)) ml in
    let ra = h.above (variable g.right) (omega (arith, known.1.0)) (omega (arith, known.1.1)) mr in
    let lb = h.below (variable g.left) in
    let rb = h.below (variable g.right) in
    ((omega (arith, la), omega (arith, lb)), (omega (arith, ra), omega (arith, rb)))

pub AreKept-kept : (n : Netlist) (marks : List Bool) (gates : List Gate) (vs : List ℕ) (k : ℕ) → IsNetlist n.inputs n.gates → k < length n.gates → is_marked marks (variable (gate_at n k).left) → is_marked marks (variable (gate_at n k).right) → is_marked marks (1 + n.inputs + k) → AreKept n marks gates vs k →
    AreKept n marks (gates ++ moved_gate vs (gate_at n k) ∷ []) (vs ++ (n.inputs + (length gates + 1)) ∷ []) (k + 1)
AreKept-kept n marks gates vs k lawful l ml mr mk h = record {
  size = let p = length-append vs (new ∷ []) in let s = h.size in omega arith;
  count = let p = length-append gates (m ∷ []) in let s = h.count in omega arith;
  lawful = netlist_push n.inputs gates m h.lawful (moved_lawful n marks gates vs k known ml mr h);
  below = λ v. let p = length-append gates (m ∷ []) in push_below vs new v _ (λ u. let b = h.below u in omega (arith, b, p)) (omega (arith, p));
  above = λ v a b z. above_at v a z (cases_lt v (1 + n.inputs + k)) b;
  value = λ env v b z. value_at env v z (cases_lt v (1 + n.inputs + k)) b;
  from = λ i b. from_at i b (cases_lt i (length gates));
  to = λ j b z. to_at j z (cases_lt j k) b;
}
  where
    none : Gate
    none = record { left = record { 0 = 0 }; right = record { 0 = 0 } }

    g : Gate
    g = gate_at n k

    m : Gate
    m = moved_gate vs g

    new : ℕ
    new = n.inputs + (length gates + 1)

    known : IsGateAt n.inputs k g
    known = lawful k none l

    left_in : (j : ℕ) → j ≤ k → variable (gate_at n j).left < length vs
    left_in j b = let here = (lawful j none (omega arith)).0.1 in omega (arith, here, h.size)

    right_in : (j : ℕ) → j ≤ k → variable (gate_at n j).right < length vs
    right_in j b = let here = (lawful j none (omega arith)).1.1 in omega (arith, here, h.size)

    number_before : (v : ℕ) → v < 1 + n.inputs + k → get_or (vs ++ new ∷ []) v 0 ≡ get_or vs v 0
    number_before v b = get_or_append_left vs (new ∷ []) 0 v (omega (arith, b, h.size))

    number_last : get_or (vs ++ new ∷ []) (1 + n.inputs + k) 0 ≡ new
    number_last = get_or_push vs new 0 (1 + n.inputs + k) h.size

    above_at : (v : ℕ) → 1 ≤ v → is_marked marks v → ((v < 1 + n.inputs + k) ⊎ (1 + n.inputs + k ≤ v)) → v < 1 + n.inputs + (k + 1) → 1 ≤ get_or (vs ++ new ∷ []) v 0
    above_at v a z (inl b) c = rw (number_before v b) (h.above v a b z)
    above_at v a z (inr b) c = let e : v ≡ 1 + n.inputs + k = omega arith in rw (e, number_last) (omega arith)

    value_at : (env : ℕ → Bool) (v : ℕ) → is_marked marks v → ((v < 1 + n.inputs + k) ⊎ (1 + n.inputs + k ≤ v)) → v < 1 + n.inputs + (k + 1) →
        get_or (fold with_gate (input_values n.inputs env) (gates ++ m ∷ [])) (get_or (vs ++ new ∷ []) v 0) false ≡ get_or (values_upto n (k + 1) env) v false
    value_at env v z (inl b) c =
        let start : List Bool = input_values n.inputs env in
        let size = length-fold start gates in
        let inputs = length-map-range_with_len env 0 n.inputs in
        let low = h.below v in
        ap (λ x. get_or (fold with_gate start (gates ++ m ∷ [])) x false) (number_before v b)
        ∙ ap (λ xs. get_or xs (get_or vs v 0) false) (fold_push with_gate start gates m)
        ∙ get_or_append_left (fold with_gate start gates) _ false (get_or vs v 0) (omega (arith, size, inputs, low))
        ∙ h.value env v b z
        ∙ sym (value_before n env k v l b)
    value_at env v z (inr b) c =
        let start : List Bool = input_values n.inputs env in
        let now : List Bool = fold with_gate start gates in
        let size = length-fold start gates in
        let inputs = length-map-range_with_len env 0 n.inputs in
        let e : v ≡ 1 + n.inputs + k = omega arith in
        ap (λ u. get_or (fold with_gate start (gates ++ m ∷ [])) (get_or (vs ++ new ∷ []) u 0) false) e
        ∙ ap₂ (λ xs x. get_or xs x false) (fold_push with_gate start gates m) number_last
        ∙ get_or_push now _ false new (omega (arith, size, inputs))
        ∙ ap₂ (λ x y. x && y)
        (moved_value now (values_upto n k env) vs g.left (h.value env (variable g.left) (omega (arith, known.0.1)) ml))
        (moved_value now (values_upto n k env) vs g.right (h.value env (variable g.right) (omega (arith, known.1.1)) mr))
        ∙ sym (ap (λ u. get_or (values_upto n (k + 1) env) u false) e ∙ value_last n env k l)

    from_at : (i : ℕ) → i < length (gates ++ m ∷ []) → ((i < length gates) ⊎ (length gates ≤ i)) → (j : ℕ) × (j < k + 1) × is_marked marks (1 + n.inputs + j) × (get_or (vs ++ new ∷ []) (1 + n.inputs + j) 0 ≡ 1 + n.inputs + i)
    from_at i b (inl c) = let f = h.from i c in (f.0, omega (arith, f.1), f.2, number_before (1 + n.inputs + f.0) (omega (arith, f.1)) ∙ f.3)
    from_at i b (inr c) = let p = length-append gates (m ∷ []) in (k, omega arith, mk, number_last ∙ omega (arith, b, c, p))

    to_at : (j : ℕ) → is_marked marks (1 + n.inputs + j) → ((j < k) ⊎ (k ≤ j)) → j < k + 1 → Contains (gates ++ m ∷ []) (moved_gate (vs ++ new ∷ []) (gate_at n j))
    to_at j z (inl b) c = subst (Contains (gates ++ m ∷ [])) (sym (moved_gate_same vs new (gate_at n j) (left_in j (omega arith)) (right_in j (omega arith)))) (Contains-append_left gates (m ∷ []) _ (h.to j b z))
    to_at j z (inr b) c =
        let e : j ≡ k = omega arith in
        rw e (subst (Contains (gates ++ m ∷ [])) (sym (moved_gate_same vs new g (left_in k (omega arith)) (right_in k (omega arith)))) (Contains-push gates m))

pub AreKept-more : (n : Netlist) (marks : List Bool) (gates : List Gate) (vs xs ys : List ℕ) (k new : ℕ) (g : Gate) (left right : Wire) → IsNetlist n.inputs n.gates → k < length n.gates → is_marked marks (variable (gate_at n k).left) → is_marked marks (variable (gate_at n k).right) → is_marked marks (1 + n.inputs + k) →
    xs ≡ vs → ys ≡ vs → g ≡ gate_at n k → left ≡ moved_wire xs g.left → right ≡ moved_wire ys g.right → new ≡ n.inputs + (length gates + 1) → AreKept n marks gates vs k →
    AreKept n marks (gates ++ record { left = left; right = right } ∷ []) (vs ++ new ∷ []) (k + 1)
AreKept-more n marks gates vs xs ys k new g left right lawful l ml mr mk ex ey eg el er en h = rw (el, er, en, ex, ey, eg) (AreKept-kept n marks gates vs k lawful l ml mr mk h)

-- ---- the whole circuit
Contains-map : {X Y : Type 0} (f : X → Y) (xs : List X) (x : X) → Contains xs x → Contains (map f xs) (f x)
Contains-map f xs x c = (c.0, omega (arith, c.1, length-map xs f), get_or-map f xs c.0 x (f x) c.1 ∙ ap f (value_at c))
  where
    value_at : (c : Contains xs x) → get_or xs c.0 x ≡ x
    value_at c = c.2

pub swept_used : (c : OutputNetlist) (marks : List Bool) (gates : List Gate) (vs : List ℕ) → AreMarked c marks 0 → AreKept c.netlist marks gates vs (length c.netlist.gates) →
    AreUsed (record { netlist = record { inputs = c.netlist.inputs; gates = gates }; outputs = map (moved_wire vs) c.outputs })
swept_used c marks gates vs m h = λ k l.
    let f = h.from k l in
    named k f.0 f.3 (m.used (1 + c.netlist.inputs + f.0) (omega arith) f.2)
  where
    named : (k j : ℕ) → get_or vs (1 + c.netlist.inputs + j) 0 ≡ 1 + c.netlist.inputs + k →
        (((w : Wire) × Contains c.outputs w × (variable w ≡ 1 + c.netlist.inputs + j)) ⊎ ((i : ℕ) × (0 ≤ i) × IsUser c.netlist marks (1 + c.netlist.inputs + j) i)) →
        IsUsed (record { netlist = record { inputs = c.netlist.inputs; gates = gates }; outputs = map (moved_wire vs) c.outputs }) (1 + c.netlist.inputs + k)
    named k j e (inl x) = inl (moved_wire vs x.0, Contains-map (moved_wire vs) c.outputs x.0 x.1, moved_variable vs x.0 ∙ ap (λ v. get_or vs v 0) x.2 ∙ e)
    named k j e (inr x) =
        let u = x.2 in
        inr (
          moved_gate vs (gate_at c.netlist x.0),
          h.to x.0 u.0 u.1,
          elim u.2 [
            | inl y ↦ inl (moved_variable vs (gate_at c.netlist x.0).left ∙ ap (λ v. get_or vs v 0) y ∙ e)
            | inr y ↦ inr (moved_variable vs (gate_at c.netlist x.0).right ∙ ap (λ v. get_or vs v 0) y ∙ e)
          ],
        )

pub swept_wires : (n : Netlist) (marks : List Bool) (gates : List Gate) (vs : List ℕ) (ws : List Wire) (k : ℕ) → AreKept n marks gates vs k → AreWires (record { inputs = n.inputs; gates = gates }) (map (moved_wire vs) ws)
unfolding IsWire
swept_wires n marks gates vs [] k h = All-nil (IsWire (record { inputs = n.inputs; gates = gates }))
swept_wires n marks gates vs (w ∷ ws) k h = All-cons (IsWire (record { inputs = n.inputs; gates = gates })) (moved_wire vs w) (map (moved_wire vs) ws) (let b = h.below (variable w) in omega arith) (swept_wires n marks gates vs ws k h)

pub swept_values : (n : Netlist) (marks : List Bool) (gates : List Gate) (vs : List ℕ) (ws : List Wire) (env : ℕ → Bool) → AreKept n marks gates vs (length n.gates) → AreWires n ws → All (λ w. is_marked marks (variable w)) ws →
    wire_values (record { inputs = n.inputs; gates = gates }) env (map (moved_wire vs) ws) ≡ wire_values n env ws
unfolding IsWire wire_value variable_values
swept_values n marks gates vs [] env h w m = refl
swept_values n marks gates vs (x ∷ xs) env h w m =
    let rest = swept_values n marks gates vs xs env h (All-tail (IsWire n) x xs w) (All-tail (λ y. is_marked marks (variable y)) x xs m) in
    let inside : variable x < 1 + n.inputs + length n.gates = let i = All-head (IsWire n) x xs w in omega arith in
    let here = h.value env (variable x) inside (All-head (λ y. is_marked marks (variable y)) x xs m) in
    let all : values_upto n (length n.gates) env ≡ fold with_gate (input_values n.inputs env) n.gates = ap (fold with_gate (input_values n.inputs env)) (take-length n.gates) in
    ap₂ (λ y ys. y ∷ ys) (moved_value _ _ vs x (here ∙ ap (λ ys. get_or ys (variable x) false) all)) rest
