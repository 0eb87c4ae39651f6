-- A cycle of nodes as a ring of bits.
use Rattle.std.proofs.Common.{◌≡◌, ℕ, ◌+◌, ◌-◌, ◌≤◌, ◌<◌, ◌⊎◌, inl, inr, List, [], ◌∷◌, ◌++◌, length, get_or, ap, sym, ◌∙◌, subst, arith}
use Rattle.std.proofs.lemmas.Bool.{cases_lt}
use Rattle.rr_expr.specs.declared.types.Bit.{Bit}
use Rattle.rr_sort.specs.Graphs.{Graph, Names, Chain, OnCycle, IsLowestCycle}
use Rattle.rr_sort.proofs.Sorting.{name_inside}
use Rattle.rr_order.specs.Nodes.{total, IsBit, bit_node, signal_node, step_node, IsGraphOf, bits_among, IsTable}
use Rattle.rr_order.proofs.Layouts.{node_below, node_there, node_once, node_before}
use Rattle.rr_order.proofs.Sequence.{lt_true, lt_false}

-- a step writes the one bit and names the other
abbrev pub Leads : {A : Type 0} → A → (A → Bit → Type 0) → (A → Bit → Type 0) → List A → Bit → Bit → Type 0
Leads d W R steps b c = (j : ℕ) × ((j < length steps) × (W (get_or steps j d) b × R (get_or steps j d) c))

-- each bit leads to the next, and the last to t
abbrev pub Ring : {A : Type 0} → A → (A → Bit → Type 0) → (A → Bit → Type 0) → List A → Bit → List Bit → Bit → Type 0
Ring d W R steps b [] t = Leads d W R steps b t
Ring d W R steps b (c ∷ cs) t = Leads d W R steps b c × Ring d W R steps c cs t

passed : (ws : List ℕ) (table : List Bit) (n : ℕ) (ns : List ℕ) → IsTable ws table → total ws ≤ n → bits_among table (n ∷ ns) ≡ bits_among table ns
unfolding bits_among
passed ws table n ns t l = rw (lt_false n (length table) (omega (arith, t.count, l)))

picked : (ws : List ℕ) (table : List Bit) (b : Bit) (n : ℕ) (ns : List ℕ) → IsTable ws table → IsBit ws b → n ≡ bit_node ws b → bits_among table (n ∷ ns) ≡ b ∷ bits_among table ns
unfolding bits_among
picked ws table b n ns t v e = rw (lt_true n (length table) (omega (arith, t.count, node_below ws b v, e)), e, t.at b v)

-- from a bit, from a step that writes one, and from a signal all of whose bits such a step names
abbrev FromBit : {A : Type 0} → A → List ℕ → (A → Bit → Type 0) → (A → Bit → Type 0) → List A → Graph → List Bit → List ℕ → Type 0
FromBit d ws W R steps g table vs = (b t : Bit) → IsBit ws b → IsBit ws t → Chain g (bit_node ws b) vs (bit_node ws t) → Ring d W R steps b (bits_among table vs) t

abbrev FromStep : {A : Type 0} → A → List ℕ → (A → Bit → Type 0) → (A → Bit → Type 0) → List A → Graph → List Bit → List ℕ → Type 0
FromStep d ws W R steps g table vs = (j : ℕ) (b t : Bit) → j < length steps → W (get_or steps j d) b → IsBit ws t → Chain g (step_node ws j) vs (bit_node ws t) → Ring d W R steps b (bits_among table vs) t

abbrev FromSignal : {A : Type 0} → A → List ℕ → (A → Bit → Type 0) → (A → Bit → Type 0) → List A → Graph → List Bit → List ℕ → Type 0
FromSignal d ws W R steps g table vs = (s j : ℕ) (b t : Bit) → s < length ws → j < length steps → W (get_or steps j d) b → ((c : Bit) → IsBit ws c → c.signal ≡ s → R (get_or steps j d) c) → IsBit ws t
    → Chain g (signal_node ws s) vs (bit_node ws t) → Ring d W R steps b (bits_among table vs) t

bit_last : {A : Type 0} → (d : A) (ws : List ℕ) (W R : A → Bit → Type 0) (steps : List A) (g : Graph) (table : List Bit) → IsGraphOf d ws W R steps g → FromBit d ws W R steps g table []
bit_last d ws W R steps g table i b t v u n =
    let q = i.written b (bit_node ws t) v n in
    absurd (omega (arith, node_below ws t u, q.1.1.0))

bit_next : {A : Type 0} → (d : A) (ws : List ℕ) (W R : A → Bit → Type 0) (steps : List A) (g : Graph) (table : List Bit) (v : ℕ) (vs : List ℕ) → IsTable ws table → IsGraphOf d ws W R steps g
    → FromStep d ws W R steps g table vs → FromBit d ws W R steps g table (v ∷ vs)
bit_next d ws W R steps g table v vs x i f b t bv tv (n, c) =
    let q = i.written b v bv n in
    rw (passed ws table v vs x (omega (arith, q.1.1.0))) (f q.0 b t q.1.0 q.1.1.1 tv (rw q.1.1.0 at c))

step_last : {A : Type 0} → (d : A) (ws : List ℕ) (W R : A → Bit → Type 0) (steps : List A) (g : Graph) (table : List Bit) → IsGraphOf d ws W R steps g → FromStep d ws W R steps g table []
unfolding bits_among
step_last d ws W R steps g table i j b t l w u n = elim (i.named j (bit_node ws t) l n) [
  | inl q ↦ (j, (l, (w, subst (R (get_or steps j d)) (node_once ws q.0 t q.1.0 u q.1.1.0) q.1.1.1)))
  | inr q ↦ absurd (omega (arith, node_below ws t u, q.1.1.0))
]

step_next : {A : Type 0} → (d : A) (ws : List ℕ) (W R : A → Bit → Type 0) (steps : List A) (g : Graph) (table : List Bit) (v : ℕ) (vs : List ℕ) → IsTable ws table → IsGraphOf d ws W R steps g
    → FromBit d ws W R steps g table vs → FromSignal d ws W R steps g table vs → FromStep d ws W R steps g table (v ∷ vs)
step_next d ws W R steps g table v vs x i f h j b t l w tv (n, c) = elim (i.named j v l n) [
  | inl q ↦ rw (picked ws table q.0 v vs x q.1.0 (sym q.1.1.0)) ((j, (l, (w, q.1.1.1))), f q.0 t q.1.0 tv (rw (sym q.1.1.0) at c))
  | inr q ↦ rw (passed ws table v vs x (omega (arith, q.1.1.0))) (h q.0 j b t q.1.0 l w q.1.1.1 tv (rw (sym q.1.1.0) at c))
]

signal_last : {A : Type 0} → (d : A) (ws : List ℕ) (W R : A → Bit → Type 0) (steps : List A) (g : Graph) (table : List Bit) → IsGraphOf d ws W R steps g → FromSignal d ws W R steps g table []
unfolding bits_among
signal_last d ws W R steps g table i s j b t sl l w r u n =
    let q = i.bit s (bit_node ws t) sl n in
    let e = node_once ws t q.0 u q.1.0 q.1.1.1 in
    (j, (l, (w, r t u (ap (λ (c : Bit). c.signal) e ∙ q.1.1.0))))

signal_next : {A : Type 0} → (d : A) (ws : List ℕ) (W R : A → Bit → Type 0) (steps : List A) (g : Graph) (table : List Bit) (v : ℕ) (vs : List ℕ) → IsTable ws table → IsGraphOf d ws W R steps g
    → FromBit d ws W R steps g table vs → FromSignal d ws W R steps g table (v ∷ vs)
signal_next d ws W R steps g table v vs x i f s j b t sl l w r u (n, c) =
    let q = i.bit s v sl n in
    rw (picked ws table q.0 v vs x q.1.0 q.1.1.1) ((j, (l, (w, r q.0 q.1.0 q.1.1.0))), f q.0 t q.1.0 u (rw q.1.1.1 at c))

rings : {A : Type 0} → (d : A) (ws : List ℕ) (W R : A → Bit → Type 0) (steps : List A) (g : Graph) (table : List Bit) → IsTable ws table → IsGraphOf d ws W R steps g → (vs : List ℕ)
    → FromBit d ws W R steps g table vs × (FromStep d ws W R steps g table vs × FromSignal d ws W R steps g table vs)
rings d ws W R steps g table x i [] = (bit_last d ws W R steps g table i, (step_last d ws W R steps g table i, signal_last d ws W R steps g table i))
rings d ws W R steps g table x i (v ∷ vs) =
    let r = rings d ws W R steps g table x i vs in
    (bit_next d ws W R steps g table v vs x i r.1.0, (step_next d ws W R steps g table v vs x i r.0 r.1.1, signal_next d ws W R steps g table v vs x i r.0))

-- the other way

joined : (g : Graph) (u : ℕ) (us : List ℕ) (v : ℕ) (vs : List ℕ) (t : ℕ) → Chain g u us v → Chain g v vs t → Chain g u (us ++ v ∷ vs) t
joined g u [] v vs t a b = (a, b)
joined g u (w ∷ us) v vs t a b = (a.0, joined g w us v vs t a.1 b)

led : {A : Type 0} → (d : A) (ws : List ℕ) (W R : A → Bit → Type 0) (steps : List A) (g : Graph) → IsGraphOf d ws W R steps g → ((s : A) (b : Bit) → W s b → IsBit ws b) → ((s : A) (b : Bit) → R s b → IsBit ws b)
    → (b c : Bit) → Leads d W R steps b c → (vs : List ℕ) × Chain g (bit_node ws b) vs (bit_node ws c)
led d ws W R steps g i x y b c (j, (l, (w, r))) = elim (i.names j c l r (y (get_or steps j d) c r)) [
  | inl n ↦ (step_node ws j ∷ [], (i.writes j b l w (x (get_or steps j d) b w), n))
  | inr n ↦ (step_node ws j ∷ signal_node ws c.signal ∷ [], (i.writes j b l w (x (get_or steps j d) b w), (n, i.bits c (y (get_or steps j d) c r))))
]

ringed : {A : Type 0} → (d : A) (ws : List ℕ) (W R : A → Bit → Type 0) (steps : List A) (g : Graph) → IsGraphOf d ws W R steps g → ((s : A) (b : Bit) → W s b → IsBit ws b) → ((s : A) (b : Bit) → R s b → IsBit ws b)
    → (b : Bit) (cs : List Bit) (t : Bit) → Ring d W R steps b cs t → (vs : List ℕ) × Chain g (bit_node ws b) vs (bit_node ws t)
ringed d ws W R steps g i x y b [] t h = led d ws W R steps g i x y b t h
ringed d ws W R steps g i x y b (c ∷ cs) t h =
    let p = led d ws W R steps g i x y b c h.0 in
    let q = ringed d ws W R steps g i x y c cs t h.1 in
    (p.0 ++ bit_node ws c ∷ q.0, joined g (bit_node ws b) p.0 (bit_node ws c) q.0 (bit_node ws t) p.1 q.1)

-- a node on a cycle names one on it
next_on : (g : Graph) (c : ℕ) (cs : List ℕ) → Chain g c cs c → (w : ℕ) × (Names g c w × OnCycle g w)
next_on g c [] n = (c, (n, ([], n)))
next_on g c (v ∷ vs) (n, h) = (v, (n, (vs ++ c ∷ [], joined g v vs c [] v h n)))

-- the lowest node on a cycle is that of a bit
lowest_bit : {A : Type 0} → (d : A) (ws : List ℕ) (W R : A → Bit → Type 0) (steps : List A) (g : Graph) → IsGraphOf d ws W R steps g → (c : ℕ) (cs : List ℕ) → Chain g c cs c → ((v : ℕ) → v < c → OnCycle g v → ⊥) → c < total ws
lowest_bit d ws W R steps g i c cs h low = elim (cases_lt c (total ws)) [
  | inl l ↦ l
  | inr l ↦
      let n = next_on g c cs h in
      let m = name_inside g c n.0 n.1.0 in
      elim (cases_lt c (total ws + length ws)) [
        | inl o ↦
            let e : total ws + (c - total ws) ≡ c = omega arith in
            let q = i.bit (c - total ws) n.0 (omega arith) (rw e n.1.0) in
            absurd (low n.0 (omega (arith, node_below ws q.0 q.1.0, q.1.1.1, l)) n.1.1)
        | inr o ↦
            let e : total ws + (length ws + (c - (total ws + length ws))) ≡ c = omega arith in
            elim (i.named (c - (total ws + length ws)) n.0 (omega (arith, m, i.count)) (rw e n.1.0)) [
              | inl q ↦ absurd (low n.0 (omega (arith, node_below ws q.0 q.1.0, q.1.1.0, l)) n.1.1)
              | inr q ↦ absurd (low n.0 (omega (arith, q.1.0, q.1.1.0, o)) n.1.1)
            ]
      ]
]

abbrev pub Before : Bit → Bit → Type 0
Before a b = (a.signal < b.signal) ⊎ ((a.signal ≡ b.signal) × (a.place < b.place))

leads_from : {A : Type 0} → (d : A) (ws : List ℕ) (W R : A → Bit → Type 0) (steps : List A) → ((s : A) (b : Bit) → W s b → IsBit ws b) → (b : Bit) (cs : List Bit) (t : Bit) → Ring d W R steps b cs t → IsBit ws b
leads_from d ws W R steps x b [] t (j, (l, (w, r))) = x (get_or steps j d) b w
leads_from d ws W R steps x b (c ∷ cs) t ((j, (l, (w, r))), h) = x (get_or steps j d) b w

-- the bits of the lowest cycle of nodes
pub record IsRing {A : Type 0} (d : A) (W R : A → Bit → Type 0) (steps : List A) (b : Bit) (cs : List Bit) : Type 0 where
  pub ring : Ring d W R steps b cs b
  pub lowest : (a : Bit) → Before a b → (bs : List Bit) → Ring d W R steps a bs a → ⊥

pub lowest_ring : {A : Type 0} → (d : A) (ws : List ℕ) (W R : A → Bit → Type 0) (steps : List A) (g : Graph) (table : List Bit) → IsTable ws table → IsGraphOf d ws W R steps g → ((s : A) (b : Bit) → W s b → IsBit ws b)
    → ((s : A) (b : Bit) → R s b → IsBit ws b) → (c : ℕ) (cs : List ℕ) → IsLowestCycle g (c ∷ cs) → (b : Bit) × ((bits_among table (c ∷ cs) ≡ b ∷ bits_among table cs) × (IsBit ws b × ((bit_node ws b ≡ c) × IsRing d W R steps b (bits_among table cs))))
lowest_ring d ws W R steps g table x i v u c cs (h, low) =
    let p = node_there ws c (lowest_bit d ws W R steps g i c cs h low) in (
      p.0,
      (
        picked ws table p.0 c cs x p.1.0 (sym p.1.1),
        (
          p.1.0,
          (
            p.1.1,
            record {
              ring = (rings d ws W R steps g table x i cs).0 p.0 p.0 p.1.0 p.1.0 (rw p.1.1 h);
              lowest = λ a l bs r. low (bit_node ws a) (rw p.1.1 at (node_before ws a p.0 (leads_from d ws W R steps v a bs a r) p.1.0 l)) (ringed d ws W R steps g i v u a bs a r);
            },
          ),
        ),
      ),
    )

-- the step after the first bit writes it
pub second : {A : Type 0} → (d : A) (ws : List ℕ) (W R : A → Bit → Type 0) (steps : List A) (g : Graph) → IsGraphOf d ws W R steps g → (b : Bit) (n : ℕ) (ns : List ℕ) → IsBit ws b → Chain g (bit_node ws b) (n ∷ ns) (bit_node ws b)
    → (total ws + length ws ≤ n) × ((n - (total ws + length ws) < length steps) × W (get_or steps (n - (total ws + length ws)) d) b)
second d ws W R steps g i b n ns v (m, c) =
    let q = i.written b n v m in
    let e : n - (total ws + length ws) ≡ q.0 = omega (arith, q.1.1.0) in
    (omega (arith, q.1.1.0), (omega (arith, e, q.1.0), rw e q.1.1.1))
