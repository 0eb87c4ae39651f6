-- The numbers of the nodes.
use Rattle.std.proofs.Common.{◌≡◌, ℕ, zero, suc, ◌+◌, ◌-◌, ◌≤◌, ◌<◌, ◌⊎◌, inl, inr, List, [], ◌∷◌, length, get_or, ap, ◌∙◌, arith}
use Rattle.std.proofs.lemmas.Bool.{cases_lt, cases_order}
use Rattle.rr_expr.specs.declared.types.Bit.{Bit}
use Rattle.rr_flat.proofs.Bits.{bit_eq}
use Rattle.rr_order.specs.Nodes.{start_of, total, IsBit, bit_node}

pub start_more : (ws : List ℕ) (s : ℕ) → s < length ws → start_of ws (suc s) ≡ start_of ws s + get_or ws s 0
start_more [] s l = absurd (omega arith)
start_more (w ∷ ws) zero l = omega arith
start_more (w ∷ ws) (suc s) l = let e = start_more ws s (omega arith) in omega (arith, e)

pub start_mono : (ws : List ℕ) (s t : ℕ) → s ≤ t → start_of ws s ≤ start_of ws t
start_mono ws zero t l = omega arith
start_mono [] (suc s) t l = omega arith
start_mono (w ∷ ws) (suc s) zero l = absurd (omega arith)
start_mono (w ∷ ws) (suc s) (suc t) l = let e = start_mono ws s t (omega arith) in omega (arith, e)

pub node_below : (ws : List ℕ) (b : Bit) → IsBit ws b → bit_node ws b < total ws
node_below ws b i =
    let e = start_more ws b.signal i.0 in
    let m = start_mono ws (suc b.signal) (length ws) (omega (arith, i.0)) in
    omega (arith, e, m, i.1)

pub node_before : (ws : List ℕ) (a b : Bit) → IsBit ws a → IsBit ws b → (a.signal < b.signal) ⊎ ((a.signal ≡ b.signal) × (a.place < b.place)) → bit_node ws a < bit_node ws b
node_before ws a b i j (inl l) =
    let e = start_more ws a.signal i.0 in
    let m = start_mono ws (suc a.signal) b.signal (omega (arith, l)) in
    omega (arith, e, m, i.1)
node_before ws a b i j (inr (e, l)) = let m = ap (start_of ws) e in omega (arith, m, l)

pub node_once : (ws : List ℕ) (a b : Bit) → IsBit ws a → IsBit ws b → bit_node ws a ≡ bit_node ws b → a ≡ b
node_once ws a b i j e = elim (cases_order a.signal b.signal) [
  | inl s ↦ let m = ap (start_of ws) s in bit_eq a b s (omega (arith, e, m))
  | inr s ↦ elim s [
    | inl l ↦ let n = node_before ws a b i j (inl l) in absurd (omega (arith, e, n))
    | inr l ↦ let n = node_before ws b a j i (inl l) in absurd (omega (arith, e, n))
  ]
]

pub node_there : (ws : List ℕ) (n : ℕ) → n < total ws → (b : Bit) × (IsBit ws b × (bit_node ws b ≡ n))
node_there [] n l = absurd (omega arith)
node_there (w ∷ ws) n l = elim (cases_lt n w) [
  | inl m ↦ (record { signal = 0; place = n }, ((omega arith, m), omega arith))
  | inr m ↦
      let r = node_there ws (n - w) (omega arith) in
      (record { signal = suc r.0.signal; place = r.0.place }, ((omega (arith, r.1.0.0), r.1.0.1), omega (arith, r.1.1)))
]
