-- how many fresh lines there can be
use Rattle.std.specs.Prelude.{◌≡◌, ℕ, zero, suc, ◌+◌, ◌-◌, ◌*◌, ◌^◌, ◌<◌, ◌≤◌, ◌⊎◌, Bool, true, false, not, eqb, List, [], ◌∷◌, length, map, All, Contains, refl}
use Rattle.std.specs.List.{AllByRecursion as ByRecursion, IsDistinct, list_any}
use Rattle.std.proofs.Common.{inl, inr, sym, ◌∙◌, ap, subst, arith}
use Rattle.std.proofs.Math.Nat.{mul-le-mul_left}
use Rattle.std.proofs.lemmas.Bool.{cases_eq, cases_order, cases_Bool, true≢false, false≢true, ne_eqb, eqb-true, or_cases}
use Rattle.std.proofs.lemmas.List.{length-map}
use Rattle.std.proofs.lemmas.Map.Steps.{length-le_from_distinct_below}
use native.Mathlib.Numerals.{unary_clauses}
use Rattle.rr_cnf.specs.Clauses.{Literal, negated}
use Rattle.rr_derive.specs.Fresh.{Entry}
use Rattle.rr_derive.proofs.Trails.{Holds, Decided, IsOpen, IsTrail}
use Rattle.rr_derive.proofs.FreshLaws.{same_or_not, negated-negated, not_twice}
use Rattle.rr_derive.proofs.Trails.{Line, IsFresh, Before, InOrder}

-- the digit of a variable: not decided, decided true, decided false
decided_or_not : (t : List Entry) (l : Literal) → Decided t l ⊎ (Decided t l → ⊥)
decided_or_not [] l = inr (λ h. h)
decided_or_not (e ∷ t) l = by_cases (same_or_not e.lit l) (cases_Bool e.decided) (decided_or_not t l)
  where
    by_cases : ((e.lit ≡ l) ⊎ (e.lit ≡ l → ⊥)) → ((e.decided ≡ true) ⊎ (e.decided ≡ false)) → (Decided t l ⊎ (Decided t l → ⊥)) → Decided (e ∷ t) l ⊎ (Decided (e ∷ t) l → ⊥)
    by_cases a b (inl r) = inl (inr r)
    by_cases (inl a) (inl b) (inr r) = inl (inl (a, b))
    by_cases (inr a) b (inr r) = inr (λ h. elim h [ inl x ↦ a x.0 | inr x ↦ r x ])
    by_cases (inl a) (inr b) (inr r) = inr (λ h. elim h [ inl x ↦ true≢false (sym x.1 ∙ b) | inr x ↦ r x ])

choose : {P : Type 0} → P ⊎ (P → ⊥) → ℕ → ℕ → ℕ
choose (inl p) x y = x
choose (inr p) x y = y

with_decision : List Entry → Literal → List Entry
with_decision t d = record { lit = d; decided = true } ∷ t

pos : ℕ → Literal
pos v = record { var = v; negative = false }

neg : ℕ → Literal
neg v = record { var = v; negative = true }

digit : List Entry → ℕ → ℕ
digit t v = choose (decided_or_not t (pos v)) 1 (choose (decided_or_not t (neg v)) 2 0)

digits : List Entry → ℕ → ℕ
digits t zero = 0
digits t (suc n) = digits t n + 3 ^ n * digit t (suc n)

digit-le : (t : List Entry) (v : ℕ) → digit t v ≤ 2
unfolding digit choose
digit-le t v = go (decided_or_not t (pos v)) (decided_or_not t (neg v))
  where
    go : (a : Decided t (pos v) ⊎ (Decided t (pos v) → ⊥)) (b : Decided t (neg v) ⊎ (Decided t (neg v) → ⊥)) → choose a 1 (choose b 2 0) ≤ 2
    go (inl p) b = omega arith
    go (inr p) (inl q) = omega arith
    go (inr p) (inr q) = omega arith

pow_next : (n : ℕ) → 3 ^ suc n ≡ 3 ^ n * 3
pow_next n = simp unary_clauses (omega arith)

digits-lt : (t : List Entry) (n : ℕ) → digits t n < 3 ^ n
unfolding digits
digits-lt t zero = omega arith
digits-lt t (suc n) =
    let h = digits-lt t n in
    let d = mul-le-mul_left (3 ^ n) (digit-le t (suc n)) in
    let p = pow_next n in
    omega arith

-- one digit before another number
split : (p a b x y : ℕ) → a < p → b < p → a + p * x ≡ b + p * y → (a ≡ b) × (x ≡ y)
split p a b x y ha hb e = by_cases (cases_order x y)
  where
    by_cases : ((x ≡ y) ⊎ ((x < y) ⊎ (y < x))) → (a ≡ b) × (x ≡ y)
    by_cases (inl q) = let m = ap (λ k. p * k) q in (omega arith, q)
    by_cases (inr (inl l)) = absurd (let k : x + 1 ≤ y = omega arith in let m = mul-le-mul_left p k in omega arith)
    by_cases (inr (inr l)) = absurd (let k : y + 1 ≤ x = omega arith in let m = mul-le-mul_left p k in omega arith)

digits-same : (t u : List Entry) (n : ℕ) → digits t n ≡ digits u n → (v : ℕ) → 1 ≤ v → v ≤ n → digit t v ≡ digit u v
unfolding digits
digits-same t u zero e v low high = absurd (omega arith)
digits-same t u (suc n) e v low high =
    let s = split (3 ^ n) (digits t n) (digits u n) (digit t (suc n)) (digit u (suc n)) (digits-lt t n) (digits-lt u n) e in
    by_cases s.1 (digits-same t u n s.0 v low) (cases_eq v (suc n))
  where
    by_cases : digit t (suc n) ≡ digit u (suc n) → (v ≤ n → digit t v ≡ digit u v) → ((v ≡ suc n) ⊎ (v ≡ suc n → ⊥)) → digit t v ≡ digit u v
    by_cases here rest (inl q) = subst (λ k. digit t k ≡ digit u k) (sym q) here
    by_cases here rest (inr q) = rest (omega arith)

decided_holds : (t : List Entry) (l : Literal) → Decided t l → Holds t l
decided_holds [] l h = absurd h
decided_holds (e ∷ t) l h = elim h [ inl x ↦ inl x.0 | inr x ↦ inr (decided_holds t l x) ]

negated-other : (l : Literal) → negated l ≡ l → ⊥
negated-other l e = flip l.negative (ap (λ x. x.negative) e)
  where
    flip : (b : Bool) → not b ≡ b → ⊥
    flip true q = false≢true q
    flip false q = true≢false q

trail_apart : (hand : List (List Literal)) (i : ℕ) (t : List Entry) → IsTrail hand i t → (l : Literal) → Holds t l → Holds t (negated l) → ⊥
trail_apart hand i [] tr l h k = absurd h
trail_apart hand i (e ∷ t) tr l h k = by_cases h k (trail_apart hand i t tr.0 l)
  where
    by_cases : Holds (e ∷ t) l → Holds (e ∷ t) (negated l) → (Holds t l → Holds t (negated l) → ⊥) → ⊥
    by_cases (inl a) (inl b) rest = negated-other l (sym b ∙ a)
    by_cases (inl a) (inr b) rest = tr.1.0.1 (subst (λ x. Holds t (negated x)) (sym a) b)
    by_cases (inr a) (inl b) rest = tr.1.0.1 (subst (Holds t) (sym (negated-negated l) ∙ ap negated (sym b)) a)
    by_cases (inr a) (inr b) rest = rest a b

decided_range : (hand : List (List Literal)) (i : ℕ) (t : List Entry) → IsTrail hand i t → (l : Literal) → Decided t l → (1 ≤ l.var) × (l.var ≤ i)
decided_range hand i [] tr l h = absurd h
decided_range hand i (e ∷ t) tr l h = by_cases h tr.1.1 (decided_range hand i t tr.0 l)
  where
    by_cases : Decided (e ∷ t) l → (((e.decided ≡ true) × (1 ≤ e.lit.var) × (e.lit.var ≤ i)) ⊎ ((e.decided ≡ false) × ((c : List Literal) × (Contains hand c × Contains c e.lit × All (λ m. (m ≡ e.lit) ⊎ Holds t (negated m)) c)))) → (Decided t l → (1 ≤ l.var) × (l.var ≤ i)) → (1 ≤ l.var) × (l.var ≤ i)
    by_cases (inr d) w rest = rest d
    by_cases (inl d) (inl w) rest = let v = ap (λ x. x.var) d.0 in (omega (arith, w.1, v), omega (arith, w.2, v))
    by_cases (inl d) (inr w) rest = absurd (true≢false (sym d.1 ∙ w.0))

-- equal digits, equal decisions
transfer : (t u : List Entry) → ((l : Literal) → Holds t l → Holds t (negated l) → ⊥) → (v : ℕ) → digit t v ≡ digit u v → (b : Bool) → Decided t (record { var = v; negative = b }) → Decided u (record { var = v; negative = b })
unfolding digit choose pos neg
transfer t u apart v e b h = go b h (decided_or_not t (pos v)) (decided_or_not t (neg v)) (decided_or_not u (pos v)) (decided_or_not u (neg v)) e
  where
    go : (b : Bool) → Decided t (record { var = v; negative = b }) → (p : Decided t (pos v) ⊎ (Decided t (pos v) → ⊥)) (n : Decided t (neg v) ⊎ (Decided t (neg v) → ⊥)) (q : Decided u (pos v) ⊎ (Decided u (pos v) → ⊥)) (m : Decided u (neg v) ⊎ (Decided u (neg v) → ⊥)) → choose p 1 (choose n 2 0) ≡ choose q 1 (choose m 2 0) → Decided u (record { var = v; negative = b })
    go false h p n (inl q) m e = q
    go false h (inr p) n (inr q) m e = absurd (p h)
    go false h (inl p) n (inr q) (inl m) e = absurd (let k : 1 ≡ 2 = e in omega arith)
    go false h (inl p) n (inr q) (inr m) e = absurd (let k : 1 ≡ 0 = e in omega arith)
    go true h p n q (inl m) e = m
    go true h (inl p) n q (inr m) e = absurd (apart (pos v) (decided_holds t (pos v) p) (decided_holds t (neg v) h))
    go true h (inr p) (inr n) q (inr m) e = absurd (n h)
    go true h (inr p) (inl n) (inl q) (inr m) e = absurd (let k : 2 ≡ 1 = e in omega arith)
    go true h (inr p) (inl n) (inr q) (inr m) e = absurd (let k : 2 ≡ 0 = e in omega arith)

code : ℕ → Line → ℕ
code i r = digits (with_decision r.trail r.decision) i + 3 ^ i * (r.decision.var - 1)

code-lt : (i : ℕ) (r : Line) → IsFresh i r → code i r < i * 3 ^ i
unfolding code
code-lt i r f =
    let d = digits-lt (with_decision r.trail r.decision) i in
    let k : r.decision.var - 1 + 1 ≤ i = omega (arith, f.low, f.high) in
    let m = mul-le-mul_left (3 ^ i) k in
    omega arith

signs : (a b : Bool) → (a ≡ b) ⊎ (a ≡ not b)
signs true true = inl refl
signs true false = inr refl
signs false true = inr refl
signs false false = inl refl

open_var : (t : List Entry) (d l : Literal) → IsOpen t d → l.var ≡ d.var → Holds t l → ⊥
open_var t d l o e h = by_sign (signs l.negative d.negative)
  where
    by_sign : ((l.negative ≡ d.negative) ⊎ (l.negative ≡ not d.negative)) → ⊥
    by_sign (inl s) = o.0 (subst (Holds t) (ap (λ x. record { var = x; negative = l.negative }) e ∙ ap (λ x. record { var = d.var; negative = x }) s) h)
    by_sign (inr s) = o.1 (subst (Holds t) (ap (λ x. record { var = x; negative = l.negative }) e ∙ ap (λ x. record { var = d.var; negative = x }) s) h)

codes_differ : (i : ℕ) (r s : Line) → IsFresh i r → IsFresh i s → Before r s → code i r ≡ code i s → ⊥
unfolding code with_decision
codes_differ i r s f g b e =
    let u = with_decision r.trail r.decision in
    let w = with_decision s.trail s.decision in
    let q = split (3 ^ i) (digits u i) (digits w i) (r.decision.var - 1) (s.decision.var - 1) (digits-lt u i) (digits-lt w i) e in
    let vars : r.decision.var ≡ s.decision.var = omega (arith, q.1, f.low, g.low) in
    let tr : IsTrail r.hand i u = (f.trail, (f.open_decision, inl (refl, f.low, f.high))) in
    let moved : (l : Literal) → Decided u l → Decided w l = λ l h.
    let k = decided_range r.hand i u tr l h in
    transfer u w (trail_apart r.hand i u tr) l.var (digits-same u w i q.0 l.var k.0 k.1) l.negative h in
    let same_decision : s.decision ≡ r.decision = elim (moved r.decision (inl (refl, refl))) [ inl x ↦ x.0 | inr x ↦ absurd (open_var s.trail s.decision r.decision g.open_decision vars (decided_holds s.trail r.decision x)) ] in
    let same : (l : Literal) → Decided r.trail l → Holds s.trail l = λ l h.
    elim (moved l (inr h)) [ inl x ↦ absurd (f.open_decision.0 (subst (Holds r.trail) (sym x.0 ∙ same_decision) (decided_holds r.trail l h))) | inr x ↦ decided_holds s.trail l x ] in
    not_twice r.hand s.hand b.0 i s.trail g.quiet r.trail r.decision r.clause r.clause f b.1 same (subst (IsOpen s.trail) same_decision g.open_decision)

differ_from : (i : ℕ) (r : Line) (rs : List Line) → IsFresh i r → ByRecursion (IsFresh i) rs → ByRecursion (Before r) rs → ByRecursion (λ y. eqb (code i r) y ≡ false) (map (code i) rs)
differ_from i r [] f fs b = tt
differ_from i r (s ∷ rs) f fs b = (ne_eqb (code i r) (code i s) (codes_differ i r s f fs.0 b.0), differ_from i r rs f fs.1 b.1)

distinct : (i : ℕ) (rs : List Line) → ByRecursion (IsFresh i) rs → InOrder rs → IsDistinct eqb (map (code i) rs)
unfolding IsDistinct
distinct i [] f o = tt
distinct i (r ∷ rs) f o = (differ_from i r rs f.0 f.1 o.0, distinct i rs f.1 o.1)

below : (i : ℕ) (rs : List Line) → ByRecursion (IsFresh i) rs → (q : ℕ) → list_any (eqb q) (map (code i) rs) ≡ true → q < i * 3 ^ i
below i [] f q e = absurd (false≢true e)
below i (r ∷ rs) f q e =
    let rest = below i rs f.1 q in
    let here = code-lt i r f.0 in
    elim (or_cases (eqb q (code i r)) (list_any (eqb q) (map (code i) rs)) e) [ inl t ↦ (let k = eqb-true q (code i r) t in omega arith) | inr t ↦ rest t ]

-- fresh lines over i inputs are at most i * 3 ^ i
pub few_fresh_lines : (i : ℕ) (rs : List Line) → ByRecursion (IsFresh i) rs → InOrder rs → length rs ≤ i * 3 ^ i
few_fresh_lines i rs f o =
    let h = length-le_from_distinct_below (map (code i) rs) (i * 3 ^ i) (distinct i rs f o) (below i rs f) in
    omega (arith, length-map rs (code i))
