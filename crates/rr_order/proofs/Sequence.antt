-- The steps in an order of the nodes.
use Rattle.std.proofs.Common.{◌≡◌, ℕ, zero, suc, ◌+◌, ◌-◌, ◌≤◌, ◌<◌, inl, inr, List, [], ◌∷◌, length, get_or, refl, ap, sym, ◌∙◌, arith, true, false, nat_lt}
use Rattle.std.proofs.lemmas.Bool.{cases_lt, cases_order}
use Rattle.rr_expr.specs.declared.types.Bit.{Bit}
use Rattle.rr_sort.specs.Graphs.{Graph, IsGraph, IsOrder, IsRanked}
use Rattle.rr_sort.proofs.Sorting.{place, order_ranks}
use Rattle.rr_order.specs.Nodes.{total, IsBit, bit_node, signal_node, step_node, IsGraphOf, steps_in}
use Rattle.rr_order.proofs.Layouts.{node_below}

pub lt_true : (a b : ℕ) → a < b → nat_lt a b ≡ true
lt_true a b l = grind arith

pub lt_false : (a b : ℕ) → b ≤ a → nat_lt a b ≡ false
lt_false a b l = grind arith

dropped : {A : Type 0} → (d : A) (first : ℕ) (steps : List A) (n : ℕ) (ns : List ℕ) → n < first → steps_in d first steps (n ∷ ns) ≡ steps_in d first steps ns
unfolding steps_in
dropped d first steps n ns l = rw (lt_true n first l)

kept : {A : Type 0} → (d : A) (first : ℕ) (steps : List A) (n : ℕ) (ns : List ℕ) → first ≤ n → steps_in d first steps (n ∷ ns) ≡ get_or steps (n - first) d ∷ steps_in d first steps ns
unfolding steps_in
kept d first steps n ns l = rw (lt_false n first l)

-- an entry is the step of some place
abbrev At : {A : Type 0} → A → ℕ → List A → List ℕ → A → ℕ → Type 0
At d first steps order s p = (p < length order) × ((first ≤ get_or order p 0) × (get_or steps (get_or order p 0 - first) d ≡ s))

later : {A : Type 0} → (d : A) (first : ℕ) (steps : List A) (n : ℕ) (ns : List ℕ) (s : A) (p : ℕ) → At d first steps ns s p → At d first steps (n ∷ ns) s (suc p)
later d first steps n ns s p (a, (b, c)) = (omega (arith, a), (b, c))

one_here : {A : Type 0} → (d : A) (first : ℕ) (steps : List A) (n : ℕ) (ns : List ℕ) → ((k : ℕ) → k < length (steps_in d first steps ns) → (p : ℕ) × At d first steps ns (get_or (steps_in d first steps ns) k d) p)
    → (k : ℕ) → k < suc (length (steps_in d first steps ns)) → first ≤ n → (p : ℕ) × At d first steps (n ∷ ns) (get_or (get_or steps (n - first) d ∷ steps_in d first steps ns) k d) p
one_here d first steps n ns f zero o m = (0, (omega arith, (m, refl)))
one_here d first steps n ns f (suc k) o m = let r = f k (omega arith) in (suc r.0, later d first steps n ns (get_or (steps_in d first steps ns) k d) r.0 r.1)

one : {A : Type 0} → (d : A) (first : ℕ) (steps : List A) (order : List ℕ) (i : ℕ) → i < length (steps_in d first steps order) → (p : ℕ) × At d first steps order (get_or (steps_in d first steps order) i d) p
unfolding steps_in
one d first steps [] i l = absurd (omega arith)
one d first steps (n ∷ ns) i l = elim (cases_lt n first) [
  | inl m ↦
      let e = dropped d first steps n ns m in
      let r = one d first steps ns i (omega (arith, l, ap length e)) in
      rw e (suc r.0, later d first steps n ns (get_or (steps_in d first steps ns) i d) r.0 r.1)
  | inr m ↦
      let e = kept d first steps n ns m in
      rw e (one_here d first steps n ns (λ k o. one d first steps ns k o) i (omega (arith, l, ap length e)) m)
]

abbrev Two : {A : Type 0} → A → ℕ → List A → List ℕ → A → A → Type 0
Two d first steps order s t = (p : ℕ) × ((q : ℕ) × ((p < q) × (At d first steps order s p × At d first steps order t q)))

two_later : {A : Type 0} → (d : A) (first : ℕ) (steps : List A) (n : ℕ) (ns : List ℕ) (s t : A) → Two d first steps ns s t → Two d first steps (n ∷ ns) s t
two_later d first steps n ns s t (p, (q, (l, (a, b)))) = (suc p, (suc q, (omega (arith, l), (later d first steps n ns s p a, later d first steps n ns t q b))))

two_here : {A : Type 0} → (d : A) (first : ℕ) (steps : List A) (n : ℕ) (ns : List ℕ)
    → ((a b : ℕ) → a < b → b < length (steps_in d first steps ns) → Two d first steps ns (get_or (steps_in d first steps ns) a d) (get_or (steps_in d first steps ns) b d))
    → (a b : ℕ) → a < b → b < suc (length (steps_in d first steps ns)) → first ≤ n
    → Two d first steps (n ∷ ns) (get_or (get_or steps (n - first) d ∷ steps_in d first steps ns) a d) (get_or (get_or steps (n - first) d ∷ steps_in d first steps ns) b d)
two_here d first steps n ns f a zero x y m = absurd (omega arith)
two_here d first steps n ns f zero (suc b) x y m =
    let r = one d first steps ns b (omega arith) in
    (0, (suc r.0, (omega arith, ((omega arith, (m, refl)), later d first steps n ns (get_or (steps_in d first steps ns) b d) r.0 r.1))))
two_here d first steps n ns f (suc a) (suc b) x y m = two_later d first steps n ns (get_or (steps_in d first steps ns) a d) (get_or (steps_in d first steps ns) b d) (f a b (omega arith) (omega arith))

two : {A : Type 0} → (d : A) (first : ℕ) (steps : List A) (order : List ℕ) (i k : ℕ) → i < k → k < length (steps_in d first steps order)
    → Two d first steps order (get_or (steps_in d first steps order) i d) (get_or (steps_in d first steps order) k d)
unfolding steps_in
two d first steps [] i k o l = absurd (omega arith)
two d first steps (n ∷ ns) i k o l = elim (cases_lt n first) [
  | inl m ↦
      let e = dropped d first steps n ns m in
      rw e (two_later d first steps n ns (get_or (steps_in d first steps ns) i d) (get_or (steps_in d first steps ns) k d) (two d first steps ns i k o (omega (arith, l, ap length e))))
  | inr m ↦
      let e = kept d first steps n ns m in
      rw e (two_here d first steps n ns (λ a b x y. two d first steps ns a b x y) i k o (omega (arith, l, ap length e)) m)
]

found : {A : Type 0} → (d : A) (first : ℕ) (steps : List A) (order : List ℕ) (p : ℕ) → p < length order → first ≤ get_or order p 0
    → (i : ℕ) × ((i < length (steps_in d first steps order)) × (get_or (steps_in d first steps order) i d ≡ get_or steps (get_or order p 0 - first) d))
found d first steps [] p l f = absurd (omega arith)
found d first steps (n ∷ ns) zero l f = rw (kept d first steps n ns f) (0, (omega arith, refl))
found d first steps (n ∷ ns) (suc p) l f =
    let r = found d first steps ns p (omega arith) f in
    elim (cases_lt n first) [
      | inl m ↦ rw (dropped d first steps n ns m) r
      | inr m ↦ rw (kept d first steps n ns m) (suc r.0, (omega (arith, r.1.0), r.1.1))
    ]

-- the steps, each once
pub record AreSteps {A : Type 0} (d : A) (S : A → Type 0) (steps : List A) : Type 0 where
  pub each : (i : ℕ) → i < length steps → S (get_or steps i d)
  pub all : (s : A) → S s → (i : ℕ) × ((i < length steps) × (get_or steps i d ≡ s))
  pub once : (i j : ℕ) → i < length steps → j < length steps → get_or steps i d ≡ get_or steps j d → i ≡ j

abbrev pub After : {A : Type 0} → A → (A → Bit → Type 0) → (A → Bit → Type 0) → List A → Type 0
After d W R steps = (i j : ℕ) → i < length steps → j < length steps → (b : Bit) → W (get_or steps i d) b → R (get_or steps j d) b → i < j

-- the place of a step that names a bit comes after that of each step that writes it
over : {A : Type 0} → (d : A) (ws : List ℕ) (W R : A → Bit → Type 0) (steps : List A) (g : Graph) (order : List ℕ) → IsGraphOf d ws W R steps g → IsOrder g order
    → ((s : A) (b : Bit) → W s b → IsBit ws b) → (s t : A) (b : Bit) (p q : ℕ) → W s b → R t b → At d (total ws + length ws) steps order s p → At d (total ws + length ws) steps order t q → p < q
over d ws W R steps g order i o v s t b p q w r (pl, (pf, pe)) (ql, (qf, qe)) =
    let first : ℕ = total ws + length ws in
    let a : ℕ = get_or order p 0 - first in
    let c : ℕ = get_or order q 0 - first in
    let al : a < length steps = omega (arith, o.inside p pl, i.count) in
    let cl : c < length steps = omega (arith, o.inside q ql, i.count) in
    let an : step_node ws a ≡ get_or order p 0 = omega arith in
    let cn : step_node ws c ≡ get_or order q 0 = omega arith in
    let bv : IsBit ws b = v s b w in
    let bl : bit_node ws b < length g = omega (arith, node_below ws b bv, i.count) in
    let m = o.each (bit_node ws b) bl in
    let x : p < m.0 = o.after p m.0 pl m.1.0 (rw (m.1.1, ← an) (i.writes a b al (rw pe w) bv)) in
    let y : m.0 < q = elim (i.names c b cl (rw qe r) bv) [
      | inl n ↦ o.after m.0 q m.1.0 ql (rw (m.1.1, ← cn) n)
      | inr n ↦
          let k = o.each (signal_node ws b.signal) (omega (arith, bv.0, i.count)) in
          let y1 : k.0 < q = o.after k.0 q k.1.0 ql (rw (k.1.1, ← cn) n) in
          let y2 : m.0 < k.0 = o.after m.0 k.0 m.1.0 k.1.0 (rw (m.1.1, k.1.1) (i.bits b bv)) in
          omega (arith, y1, y2)
    ] in
    omega (arith, x, y)

pub ordered_steps : {A : Type 0} → (d : A) (ws : List ℕ) (W R : A → Bit → Type 0) (S : A → Type 0) (steps : List A) (g : Graph) (order : List ℕ) → IsGraphOf d ws W R steps g → IsOrder g order → AreSteps d S steps
    → ((s : A) (b : Bit) → W s b → IsBit ws b) → AreSteps d S (steps_in d (total ws + length ws) steps order) × After d W R (steps_in d (total ws + length ws) steps order)
ordered_steps {A = A} d ws W R S steps g order i o a v = (
  record { each = each; all = all; once = once },
  after,
)
  where
    each : (k : ℕ) → k < length (steps_in d (total ws + length ws) steps order) → S (get_or (steps_in d (total ws + length ws) steps order) k d)
    each k l =
        let r = one d (total ws + length ws) steps order k l in
        rw (← r.1.1.1) (a.each (get_or order r.0 0 - (total ws + length ws)) (omega (arith, o.inside r.0 r.1.0, r.1.1.0, i.count)))

    all : (s : A) → S s → (k : ℕ) × ((k < length (steps_in d (total ws + length ws) steps order)) × (get_or (steps_in d (total ws + length ws) steps order) k d ≡ s))
    all s h =
        let j = a.all s h in
        let m = o.each (step_node ws j.0) (omega (arith, j.1.0, i.count)) in
        let f = found d (total ws + length ws) steps order m.0 m.1.0 (omega (arith, m.1.1)) in
        let e : get_or order m.0 0 - (total ws + length ws) ≡ j.0 = omega (arith, m.1.1) in
        (f.0, (f.1.0, f.1.1 ∙ (ap (λ (x : ℕ). get_or steps x d) e ∙ j.1.1)))

    apart : (k l : ℕ) → k < l → l < length (steps_in d (total ws + length ws) steps order) → get_or (steps_in d (total ws + length ws) steps order) k d ≡ get_or (steps_in d (total ws + length ws) steps order) l d → ⊥
    apart k l x y e =
        let r = two d (total ws + length ws) steps order k l x y in
        let p = r.1.1.1.0 in
        let q = r.1.1.1.1 in
        let s = a.once (get_or order r.0 0 - (total ws + length ws)) (get_or order r.1.0 0 - (total ws + length ws)) (omega (arith, o.inside r.0 p.0, p.1.0, i.count)) (omega (arith, o.inside r.1.0 q.0, q.1.0, i.count)) (p.1.1 ∙ e ∙ sym q.1.1) in
        let t : get_or order r.0 0 ≡ get_or order r.1.0 0 = omega (arith, s, p.1.0, q.1.0) in
        omega (arith, o.once r.0 r.1.0 p.0 q.0 t, r.1.1.0)

    once : (k l : ℕ) → k < length (steps_in d (total ws + length ws) steps order) → l < length (steps_in d (total ws + length ws) steps order) → get_or (steps_in d (total ws + length ws) steps order) k d ≡ get_or (steps_in d (total ws + length ws) steps order) l d → k ≡ l
    once k l x y e = elim (cases_order k l) [
      | inl q ↦ q
      | inr q ↦ elim q [ inl m ↦ absurd (apart k l m y e) | inr m ↦ absurd (apart l k m x (sym e)) ]
    ]

    after : (k l : ℕ) → k < length (steps_in d (total ws + length ws) steps order) → l < length (steps_in d (total ws + length ws) steps order) → (b : Bit) → W (get_or (steps_in d (total ws + length ws) steps order) k d) b → R (get_or (steps_in d (total ws + length ws) steps order) l d) b → k < l
    after k l x y b w r = elim (cases_order k l) [
      | inl q ↦
          let m = one d (total ws + length ws) steps order k x in
          let n : R (get_or (steps_in d (total ws + length ws) steps order) k d) b = rw q r in
          let z = over d ws W R steps g order i o v (get_or (steps_in d (total ws + length ws) steps order) k d) (get_or (steps_in d (total ws + length ws) steps order) k d) b m.0 m.0 w n m.1 m.1 in
          absurd (omega (arith, z))
      | inr q ↦ elim q [
        | inl m ↦ m
        | inr m ↦
            let t = two d (total ws + length ws) steps order l k m x in
            let z = over d ws W R steps g order i o v (get_or (steps_in d (total ws + length ws) steps order) k d) (get_or (steps_in d (total ws + length ws) steps order) l d) b t.1.0 t.0 w r t.1.1.1.1 t.1.1.1.0 in
            absurd (omega (arith, z, t.1.1.0))
      ]
    ]

-- ranks of the bits
pub bit_ranks : {A : Type 0} → (d : A) (ws : List ℕ) (W R : A → Bit → Type 0) (S : A → Type 0) (steps : List A) (g : Graph) (order : List ℕ) → IsGraphOf d ws W R steps g → IsGraph g → IsOrder g order → AreSteps d S steps
    → ((s : A) (b : Bit) → W s b → IsBit ws b) → ((s : A) (b : Bit) → R s b → IsBit ws b) → (rank : Bit → ℕ) × ((s : A) (b c : Bit) → S s → W s b → R s c → rank c < rank b)
bit_ranks {A = A} d ws W R S steps g order i n o a v u = ((λ b. place g order o (bit_node ws b)), falls)
  where
    ranked : IsRanked g (place g order o)
    ranked = order_ranks g order n o

    falls : (s : A) (b c : Bit) → S s → W s b → R s c → place g order o (bit_node ws c) < place g order o (bit_node ws b)
    falls s b c h w r =
        let j = a.all s h in
        let x = ranked (bit_node ws b) (step_node ws j.0) (i.writes j.0 b j.1.0 (rw j.1.1 w) (v s b w)) in
        elim (i.names j.0 c j.1.0 (rw j.1.1 r) (u s c r)) [
          | inl m ↦ omega (arith, x, ranked (step_node ws j.0) (bit_node ws c) m)
          | inr m ↦ omega (arith, x, ranked (step_node ws j.0) (signal_node ws c.signal) m, ranked (signal_node ws c.signal) (bit_node ws c) (i.bits c (u s c r)))
        ]
