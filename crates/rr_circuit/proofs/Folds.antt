-- the gates of wires, and conjunctions that one of two wires tells
use Rattle.std.proofs.Common.{◌≡◌, ◌⊎◌, inl, inr, ℕ, ◌+◌, ◌*◌, ◌/◌, ◌%◌, ◌<◌, ◌≤◌, Bool, true, false, not, ◌&&◌, ◌||◌, length, get_or, Option, None, Some, refl, sym, ◌∙◌, ap, arith}
use Rattle.std.specs.Prelude.{◌==◌, IfSome, if◌then◌else◌}
use Rattle.std.specs.List.{slice_get}
use Rattle.std.specs.Int.Bits.{bit_xor}
use Rattle.std.proofs.Math.Bool.{not-not, and-true, and_self}
use Rattle.std.proofs.lemmas.Bool.{eqb-true, eqb-false, cases_Bool, not-true}
use Rattle.std.proofs.lemmas.Option.{slice_get_within, get_or_from_slice_get}
use Rattle.rr_circuit.specs.declared.Wire.{Wire}
use Rattle.rr_circuit.specs.declared.Gate.{Gate}
use Rattle.rr_circuit.specs.Values.{xor, Netlist, IsWire, literal_value, variable_values, wire_value, IsNetlist, Computes}
use Rattle.rr_circuit.proofs.Netlists.{xor_one, wire_value-flip, wire_value-false, wire_value-true}
use Rattle.rr_circuit.proofs.Valuations.{gate_equation, literal_value-odd}

abbrev pub plain : Wire → Wire
plain w = record { 0 = 2 * (w.0 / 2) }

-- ---- the gate of a variable
operand_in : (n : Netlist) (k : ℕ) (w : Wire) → w.0 < 2 * (1 + n.inputs + k) → k < length n.gates → IsWire n w
unfolding IsWire
operand_in n k w h l = omega arith

variable_in : (n : Netlist) (k v : ℕ) → k < length n.gates → v ≡ 1 + n.inputs + k → IsWire n (record { 0 = 2 * v })
unfolding IsWire
variable_in n k v l e = omega arith

pub is_gate : (n : Netlist) (k v : ℕ) (o : Option Gate) → IsNetlist n.inputs n.gates → o ≡ slice_get n.gates k → v ≡ 1 + n.inputs + k → IfSome o (λ g. Computes n g (record { 0 = 2 * v }))
is_gate n k v None h e f = tt
is_gate n k v (Some g) h e f =
    let l = slice_get_within n.gates k g (sym e) in
    let same : get_or n.gates k g ≡ g = get_or_from_slice_get n.gates k g g (sym e) in
    let here = rw same at (h k g l) in
    record {
      left = operand_in n k g.left here.0.1 l;
      right = operand_in n k g.right here.1.1 l;
      wire = variable_in n k v l f;
      value = λ env.
          ap (λ x. wire_value n env (record { 0 = 2 * x })) f ∙ gate_equation n env h k g l
          ∙ ap (λ (x : Gate). wire_value n env x.left && wire_value n env x.right) same;
    }

-- ---- a wire, and its variable
pub value_plain : (n : Netlist) (env : ℕ → Bool) (w : Wire) → ((w.0 % 2) == 1) ≡ false → wire_value n env w ≡ wire_value n env (plain w)
value_plain n env w h =
    let odd = eqb-false (w.0 % 2) 1 h in
    let e : w.0 ≡ 2 * (w.0 / 2) = omega arith in
    ap (λ x. wire_value n env (record { 0 = x })) e

pub value_negated : (n : Netlist) (env : ℕ → Bool) (w : Wire) → ((w.0 % 2) == 1) ≡ true → wire_value n env w ≡ not (wire_value n env (plain w))
unfolding wire_value
value_negated n env w h =
    let odd = eqb-true (w.0 % 2) 1 h in
    let e : w.0 ≡ 2 * (w.0 / 2) + 1 = omega arith in
    ap (literal_value (variable_values n env)) e ∙ literal_value-odd (variable_values n env) (w.0 / 2)

-- ---- a wire that carries a gate is false where an operand is
both_left : (l r : Bool) → (l && (l && r)) ≡ (l && r)
both_left true r = refl
both_left false r = refl

both_right : (l r : Bool) → (r && (l && r)) ≡ (l && r)
both_right true true = refl
both_right true false = refl
both_right false true = refl
both_right false false = refl

pub under_operand : (n : Netlist) (env : ℕ → Bool) (g : Gate) (w x : Wire) → Computes n g w → ((g.left.0 == x.0) || (g.right.0 == x.0)) ≡ true → (wire_value n env x && wire_value n env w) ≡ wire_value n env w
under_operand n env g w x h e = by_cases (cases_Bool (g.left.0 == x.0))
  where
    left : g.left.0 ≡ x.0 → (wire_value n env x && wire_value n env w) ≡ wire_value n env w
    left f =
        let same : wire_value n env g.left ≡ wire_value n env x = ap (λ k. wire_value n env (record { 0 = k })) f in
        rw (h.value env, ← same) (both_left (wire_value n env g.left) (wire_value n env g.right))

    right : g.right.0 ≡ x.0 → (wire_value n env x && wire_value n env w) ≡ wire_value n env w
    right f =
        let same : wire_value n env g.right ≡ wire_value n env x = ap (λ k. wire_value n env (record { 0 = k })) f in
        rw (h.value env, ← same) (both_right (wire_value n env g.left) (wire_value n env g.right))

    by_cases : (((g.left.0 == x.0) ≡ true) ⊎ ((g.left.0 == x.0) ≡ false)) → (wire_value n env x && wire_value n env w) ≡ wire_value n env w
    by_cases (inl f) = left (eqb-true g.left.0 x.0 f)
    by_cases (inr f) = right (eqb-true g.right.0 x.0 (rw f at e))

-- ---- a & (a & r) is a & r, a & (!a & r) is false, and a & !(!a & r) is a
inside : (a p x : Bool) → x ≡ not a → (x && p) ≡ p → false ≡ (a && p)
inside true p x e h = rw e at h
inside false p x e h = refl

outside : (a p x : Bool) → x ≡ not a → (x && p) ≡ p → a ≡ (a && not p)
outside true p x e h = let f : false ≡ p = rw e at h in rw (← f) refl
outside false p x e h = refl

pub and-inside : (n : Netlist) (env : ℕ → Bool) (g : Gate) (a b x : Wire) → Computes n g (plain b) → ((b.0 % 2) == 1) ≡ false → wire_value n env x ≡ not (wire_value n env a) → ((g.left.0 == x.0) || (g.right.0 == x.0)) ≡ true → wire_value n env (record { 0 = 0 }) ≡ (wire_value n env a && wire_value n env b)
and-inside n env g a b x h p v e =
    wire_value-false n env
    ∙ inside (wire_value n env a) (wire_value n env (plain b)) (wire_value n env x) v (under_operand n env g (plain b) x h e)
    ∙ ap (λ y. wire_value n env a && y) (sym (value_plain n env b p))

pub and-outside : (n : Netlist) (env : ℕ → Bool) (g : Gate) (a b x : Wire) → Computes n g (plain b) → ((b.0 % 2) == 1) ≡ true → wire_value n env x ≡ not (wire_value n env a) → ((g.left.0 == x.0) || (g.right.0 == x.0)) ≡ true → wire_value n env a ≡ (wire_value n env a && wire_value n env b)
and-outside n env g a b x h p v e =
    outside (wire_value n env a) (wire_value n env (plain b)) (wire_value n env x) v (under_operand n env g (plain b) x h e)
    ∙ ap (λ y. wire_value n env a && y) (sym (value_negated n env b p))

pub and-absorbed : (n : Netlist) (env : ℕ → Bool) (g : Gate) (a b : Wire) → Computes n g (plain b) → ((b.0 % 2) == 1) ≡ false → ((g.left.0 == a.0) || (g.right.0 == a.0)) ≡ true → wire_value n env b ≡ (wire_value n env a && wire_value n env b)
and-absorbed n env g a b h p e =
    value_plain n env b p
    ∙ sym (under_operand n env g (plain b) a h e)
    ∙ ap (λ y. wire_value n env a && y) (sym (value_plain n env b p))

-- ---- a & !(a & r) is a & !r
beside_bits : (a r : Bool) → (a && not r) ≡ (a && not (a && r))
beside_bits true r = refl
beside_bits false r = refl

swapped : (l r : Bool) → (l && r) ≡ (r && l)
swapped true true = refl
swapped true false = refl
swapped false true = refl
swapped false false = refl

pub beside_left : (n : Netlist) (env : ℕ → Bool) (g : Gate) (a b : Wire) → Computes n g (plain b) → ((b.0 % 2) == 1) ≡ true → g.left.0 ≡ a.0 → (wire_value n env a && wire_value n env (record { 0 = bit_xor g.right.0 1 })) ≡ (wire_value n env a && wire_value n env b)
beside_left n env g a b h p e =
    let same : wire_value n env g.left ≡ wire_value n env a = ap (λ k. wire_value n env (record { 0 = k })) e in
    ap (λ y. wire_value n env a && y) (wire_value-flip n env g.right)
    ∙ beside_bits (wire_value n env a) (wire_value n env g.right)
    ∙ ap (λ y. wire_value n env a && y) (sym (value_negated n env b p ∙ ap not (h.value env ∙ ap (λ y. y && wire_value n env g.right) same)))

pub beside_right : (n : Netlist) (env : ℕ → Bool) (g : Gate) (a b : Wire) → Computes n g (plain b) → ((b.0 % 2) == 1) ≡ true → g.right.0 ≡ a.0 → (wire_value n env a && wire_value n env (record { 0 = bit_xor g.left.0 1 })) ≡ (wire_value n env a && wire_value n env b)
beside_right n env g a b h p e =
    let same : wire_value n env g.right ≡ wire_value n env a = ap (λ k. wire_value n env (record { 0 = k })) e in
    ap (λ y. wire_value n env a && y) (wire_value-flip n env g.left)
    ∙ beside_bits (wire_value n env a) (wire_value n env g.left)
    ∙ ap (λ y. wire_value n env a && y) (sym (value_negated n env b p ∙ ap not (h.value env ∙ ap (λ y. wire_value n env g.left && y) same ∙ swapped (wire_value n env g.left) (wire_value n env a))))

pub low-flip : (w : ℕ) → 2 ≤ w → 2 ≤ bit_xor w 1
low-flip w h = let x = xor_one w in omega arith

-- ---- a choice, one side of which is known
pub chosen-or : (t y n : Bool) → (t && y) ≡ t → (t || n) ≡ (if t then y else n)
chosen-or true y n h = sym h
chosen-or false y n h = refl

pub chosen-and : (t y n x f : Bool) → x ≡ not y → f ≡ not t → (t && x) ≡ t → (f && n) ≡ (if t then y else n)
chosen-and true y n x f e g h = let k : not y ≡ true = sym e ∙ h in rw g (sym (not-true y k))
chosen-and false y n x f e g h = rw g refl

pub other-or : (t y n f : Bool) → f ≡ not t → (f && n) ≡ f → (f || y) ≡ (if t then y else n)
other-or true y n f e h = rw e refl
other-or false y n f e h = rw e (sym (rw e at h))

pub other-and : (t y n x f : Bool) → x ≡ not n → f ≡ not t → (f && x) ≡ f → (t && y) ≡ (if t then y else n)
other-and true y n x f e g h = refl
other-and false y n x f e g h = let k : not n ≡ true = sym e ∙ (rw g at h) in sym (not-true n k)

pub chosen-xor : (t y n f : Bool) → f ≡ not t → y ≡ not n → xor f y ≡ (if t then y else n)
chosen-xor true y n f e g = rw e refl
chosen-xor false y n f e g = rw (e, g) (not-not n)

pub implied : (n : Netlist) (env : ℕ → Bool) (t y : Wire) → ((y.0 == 1) || (y.0 == t.0)) ≡ true → (wire_value n env t && wire_value n env y) ≡ wire_value n env t
implied n env t y e = by_cases (cases_Bool (y.0 == 1))
  where
    by_cases : (((y.0 == 1) ≡ true) ⊎ ((y.0 == 1) ≡ false)) → (wire_value n env t && wire_value n env y) ≡ wire_value n env t
    by_cases (inl f) = ap (λ k. wire_value n env t && wire_value n env (record { 0 = k })) (eqb-true y.0 1 f) ∙ ap (λ z. wire_value n env t && z) (wire_value-true n env) ∙ and-true (wire_value n env t)
    by_cases (inr f) = ap (λ k. wire_value n env t && wire_value n env (record { 0 = k })) (eqb-true y.0 t.0 (rw f at e)) ∙ and_self (wire_value n env t)
