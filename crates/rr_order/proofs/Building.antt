-- The layout and the graph without steps, as they are built.
use Rattle.std.proofs.Common.{◌≡◌, ℕ, suc, ◌+◌, ◌*◌, ◌≤◌, ◌<◌, inl, inr, List, [], ◌∷◌, ◌++◌, length, get_or, refl, ap, sym, ◌∙◌, arith, length-append}
use Rattle.std.proofs.lemmas.Bool.{cases_lt}
use Rattle.rr_expr.specs.declared.types.Bit.{Bit}
use Rattle.rr_sort.specs.Graphs.{Graph, named}
use Rattle.rr_sort.proofs.Sorting.{get_old, get_new}
use Rattle.rr_order.specs.Nodes.{start_of, total, IsBit, bit_node, signal_node, no_bit, MoreBits, IsLayout, IsGraphOf}
use Rattle.rr_order.proofs.Layouts.{start_more, start_mono, node_below}

abbrev made : ℕ → ℕ → Bit
made s p = record { signal = s; place = p }

-- the bits of the signals before one
pub record IsLaid (ws : List ℕ) (k : ℕ) (starts : List ℕ) (table : List Bit) : Type 0 where
  pub count : length starts ≡ k
  pub starts_at : (s : ℕ) → s < k → get_or starts s 0 ≡ start_of ws s
  pub size : length table ≡ start_of ws k
  pub few : length table ≤ 128 * k
  pub at : (b : Bit) → IsBit ws b → b.signal < k → get_or table (bit_node ws b) no_bit ≡ b

pub laid_none : (ws : List ℕ) → IsLaid ws 0 [] []
laid_none ws = record { count = refl; starts_at = λ s l. absurd (omega arith); size = refl; few = omega arith; at = λ b i l. absurd (omega arith) }

pub push_count : {A : Type 0} → (xs : List A) (y : A) → length (xs ++ y ∷ []) ≡ suc (length xs)
push_count xs y = omega (arith, length-append xs (y ∷ []))

start_push : (ws starts : List ℕ) (k n : ℕ) → length starts ≡ k → n ≡ start_of ws k → ((s : ℕ) → s < k → get_or starts s 0 ≡ start_of ws s) → (s : ℕ) → s < suc k → get_or (starts ++ n ∷ []) s 0 ≡ start_of ws s
start_push ws starts k n c e h s l = elim (cases_lt s k) [
  | inl m ↦ get_old starts n 0 s (omega (arith, c, m)) ∙ h s m
  | inr m ↦ let q : s ≡ k = omega arith in get_new starts n 0 s (omega (arith, q, c)) ∙ (e ∙ ap (start_of ws) (sym q))
]

pub laid_more : (ws : List ℕ) (k w n : ℕ) (starts : List ℕ) (table more : List Bit) → k < length ws → get_or ws k 0 ≡ w → w ≤ 128 → n ≡ length table → IsLaid ws k starts table → MoreBits table more k w
    → IsLaid ws (k + 1) (starts ++ n ∷ []) more
laid_more ws k w n starts table more l e f q h m =
    let s : start_of ws (suc k) ≡ start_of ws k + get_or ws k 0 = start_more ws k l in
    let u : suc k ≡ k + 1 = omega arith in
    record {
      count = omega (arith, push_count starts n, h.count);
      starts_at = λ t o. start_push ws starts k n h.count (omega (arith, q, h.size)) h.starts_at t (omega arith);
      size = rw (← u) (omega (arith, m.count, h.size, s, e));
      few = omega (arith, m.count, h.few, f);
      at = λ b i o. elim (cases_lt b.signal k) [
        | inl x ↦
            let y = start_more ws b.signal i.0 in
            let z = start_mono ws (suc b.signal) k (omega (arith, x)) in
            m.kept (bit_node ws b) (omega (arith, y, z, i.1, h.size)) ∙ h.at b i x
        | inr x ↦ last b i (omega (arith, x, o))
      ];
    }
  where
    last : (b : Bit) → IsBit ws b → b.signal ≡ k → get_or more (bit_node ws b) no_bit ≡ b
    last b i x =
        let p : get_or ws b.signal 0 ≡ w = ap (λ (t : ℕ). get_or ws t 0) x ∙ e in
        let y : bit_node ws b ≡ length table + b.place = omega (arith, ap (start_of ws) x, h.size) in
        ap (λ (t : ℕ). get_or more t no_bit) y ∙ (m.added b.place (omega (arith, p, i.1)) ∙ ap (λ (t : ℕ). made t b.place) (sym x))

pub laid_all : (ws : List ℕ) (k n : ℕ) (starts : List ℕ) (table : List Bit) → k ≡ length ws → k ≤ 65536 → n ≡ length table → IsLaid ws k starts table → IsLayout ws (starts ++ n ∷ []) table
laid_all ws k n starts table e f q h = record {
  count = omega (arith, push_count starts n, h.count, e);
  starts_at = λ s l. start_push ws starts k n h.count (omega (arith, q, h.size)) h.starts_at s (omega (arith, e, l));
  few = omega (arith, h.few, h.size, ap (start_of ws) e, f);
  table_of = record {
    count = omega (arith, h.size, ap (start_of ws) e);
    at = λ b i. h.at b i (omega (arith, i.0, e));
  };
}

-- the rows of the bits, which are empty, and of the signals before one
pub record HasSignals (ws : List ℕ) (k : ℕ) (g : Graph) : Type 0 where
  pub count : length g ≡ total ws + k
  pub empty : (v : ℕ) → v < total ws → named g v ≡ []
  pub size : (s : ℕ) → s < k → length (named g (signal_node ws s)) ≡ get_or ws s 0
  pub row : (s i : ℕ) → s < k → i < get_or ws s 0 → get_or (named g (signal_node ws s)) i 0 ≡ start_of ws s + i

pub signals_none : (ws : List ℕ) (g : Graph) → length g ≡ total ws → ((v : ℕ) → named g v ≡ []) → HasSignals ws 0 g
signals_none ws g c e = record { count = omega (arith, c); empty = λ v l. e v; size = λ s l. absurd (omega arith); row = λ s i l m. absurd (omega arith) }

pub signals_more : (ws : List ℕ) (k : ℕ) (g : Graph) (row : List ℕ) → k < length ws → HasSignals ws k g → length row ≡ get_or ws k 0 → ((i : ℕ) → i < get_or ws k 0 → get_or row i 0 ≡ start_of ws k + i) → HasSignals ws (k + 1) (g ++ row ∷ [])
signals_more ws k g row l h c f = record {
  count = omega (arith, push_count g row, h.count);
  empty = λ v m. get_old g row [] v (omega (arith, h.count, m)) ∙ h.empty v m;
  size = λ s m. elim (cases_lt s k) [
    | inl o ↦ ap length (get_old g row [] (signal_node ws s) (omega (arith, h.count, o))) ∙ h.size s o
    | inr o ↦ let q : s ≡ k = omega arith in ap length (get_new g row [] (signal_node ws s) (omega (arith, h.count, q))) ∙ (c ∙ ap (λ (t : ℕ). get_or ws t 0) (sym q))
  ];
  row = λ s i m n. elim (cases_lt s k) [
    | inl o ↦ ap (λ (x : List ℕ). get_or x i 0) (get_old g row [] (signal_node ws s) (omega (arith, h.count, o))) ∙ h.row s i o n
    | inr o ↦
        let q : s ≡ k = omega arith in
        let p : get_or ws s 0 ≡ get_or ws k 0 = ap (λ (t : ℕ). get_or ws t 0) q in
        ap (λ (x : List ℕ). get_or x i 0) (get_new g row [] (signal_node ws s) (omega (arith, h.count, q))) ∙ (f i (omega (arith, n, p)) ∙ ap (λ (t : ℕ). start_of ws t + i) (sym q))
  ];
}

pub graph_none : {A : Type 0} → (d : A) (ws : List ℕ) (W R : A → Bit → Type 0) (k : ℕ) (g : Graph) → k ≡ length ws → HasSignals ws k g → IsGraphOf d ws W R [] g
graph_none d ws W R k g e h = record {
  count = omega (arith, h.count, e);
  writes = λ j b l w v. absurd (omega arith);
  written = λ b w v n. absurd (omega (arith, n.1.0, ap length (h.empty (bit_node ws b) (node_below ws b v))));
  bits = λ b v. (b.place, (omega (arith, h.size b.signal (omega (arith, e, v.0)), v.1), h.row b.signal b.place (omega (arith, e, v.0)) v.1));
  bit = λ s w l n.
      let m : n.0 < get_or ws s 0 = omega (arith, n.1.0, h.size s (omega (arith, e, l))) in
      (record { signal = s; place = n.0 }, ((l, m), (refl, sym n.1.1 ∙ h.row s n.0 (omega (arith, e, l)) m)));
  names = λ j b l r v. absurd (omega arith);
  named = λ j w l n. absurd (omega arith);
}

-- one bit more
pub bits_none : (old : List Bit) (signal : ℕ) → MoreBits old old signal 0
bits_none old signal = record { count = omega arith; kept = λ i l. refl; added = λ p l. absurd (omega arith) }

pub bits_more : (old table : List Bit) (signal k : ℕ) → MoreBits old table signal k → MoreBits old (table ++ (record { signal = signal; place = k }) ∷ []) signal (k + 1)
bits_more old table signal k h = record {
  count = omega (arith, push_count table (record { signal = signal; place = k }), h.count);
  kept = λ i l. get_old table (record { signal = signal; place = k }) no_bit i (omega (arith, h.count, l)) ∙ h.kept i l;
  added = λ p l. elim (cases_lt p k) [
    | inl m ↦ get_old table (record { signal = signal; place = k }) no_bit (length old + p) (omega (arith, h.count, m)) ∙ h.added p m
    | inr m ↦
        let q : p ≡ k = omega arith in
        get_new table (record { signal = signal; place = k }) no_bit (length old + p) (omega (arith, h.count, q)) ∙ ap (λ (t : ℕ). made signal t) (sym q)
  ];
}
