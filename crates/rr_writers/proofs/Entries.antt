-- Tables after one number is put.
use Rattle.std.proofs.Common.{◌≡◌, ◌∙◌, sym, ap, ℕ, zero, suc, ◌-◌, ◌<◌, ◌≤◌, inl, inr, Bool, true, false, cond, ◌||◌, List, [], ◌∷◌, ◌++◌, length, get_or, set, take, nat_eq, refl, arith}
use Rattle.std.proofs.lemmas.Bool.{and_from, and_parts, eqb-true, eq-eqb, ne_eqb, cases_eq, cases_lt}
use Rattle.std.proofs.lemmas.List.{get_or-set_other, get_or-set_same, length-map, get_or-map, get_or_default, map-set}
use Rattle.std.specs.Prelude.{Vec}
use Rattle.std.specs.declared.alloc.Global.{Global}
use Rattle.rr_expr.specs.declared.types.Bit.{Bit}
use Rattle.rr_flat.specs.Targets.{same_bit}
use Rattle.rr_writers.specs.Tables.{entry, rows_of}

pub or_assoc : (a b c : Bool) → ((a || b) || c) ≡ (a || (b || c))
or_assoc true b c = refl
or_assoc false b c = refl

pub or_false : (a : Bool) → (a || false) ≡ a
or_false true = refl
or_false false = refl

pub same_is : (c b : Bit) → same_bit c b ≡ true → c ≡ b
same_is c b h =
    let p = and_parts (nat_eq c.signal b.signal) (nat_eq c.place b.place) h in
    let s = eqb-true c.signal b.signal p.0 in
    let q = eqb-true c.place b.place p.1 in
    λ i. record { signal = s i; place = q i }

pub is_same : (b : Bit) → same_bit b b ≡ true
is_same b = and_from (nat_eq b.signal b.signal) (nat_eq b.place b.place) (eq-eqb b.signal b.signal refl) (eq-eqb b.place b.place refl)

-- one element more, of which nothing is read
pub pushed : {A : Type 0} (xs : List A) (d : A) (i : ℕ) → get_or (xs ++ d ∷ []) i d ≡ get_or xs i d
pushed [] d zero = refl
pushed [] d (suc i) = refl
pushed (x ∷ xs) d zero = refl
pushed (x ∷ xs) d (suc i) = pushed xs d i

pub put_at : (xs : List ℕ) (place number i : ℕ) → place < length xs → get_or (set xs place number) i 0 ≡ cond (nat_eq place i) number (get_or xs i 0)
put_at xs place number i l = elim (cases_eq place i) [
  | inl e ↦ rw (eq-eqb place i e, ← e) (get_or-set_same xs place number 0 l)
  | inr n ↦ rw (ne_eqb place i n) (get_or-set_other xs place i number 0 (λ e. n (sym e)))
]

-- the entry of a bit after its row got a number
pub entry_put : (rows : List (List ℕ)) (row : List ℕ) (bit b : Bit) (number : ℕ) → bit.signal < length rows
    → ((i : ℕ) → get_or row i 0 ≡ cond (nat_eq bit.place i) number (get_or (get_or rows bit.signal []) i 0))
    → entry (set rows bit.signal row) b ≡ cond (same_bit bit b) number (entry rows b)
entry_put rows row bit b number l h = elim (cases_eq bit.signal b.signal) [
  | inl e ↦ rw (eq-eqb bit.signal b.signal e, ← e, get_or-set_same rows bit.signal row [] l) (h b.place)
  | inr n ↦ rw (ne_eqb bit.signal b.signal n, get_or-set_other rows bit.signal b.signal row [] (λ e. n (sym e))) refl
]

-- the same of a table, whose rows are vectors
pub row_put : (rows : List (Vec ℕ Global)) (old new : Vec ℕ Global) (bit b : Bit) (number : ℕ) → bit.signal < length rows → old ≡ get_or rows bit.signal old
    → ((i : ℕ) → get_or new.items i 0 ≡ cond (nat_eq bit.place i) number (get_or old.items i 0))
    → entry (rows_of (set rows bit.signal new)) b ≡ cond (same_bit bit b) number (entry (rows_of rows) b)
row_put rows old new bit b number l e h =
    let items : Vec ℕ Global → List ℕ = λ r. r.items in
    let q : old.items ≡ get_or (rows_of rows) bit.signal [] = ap items e ∙ sym (get_or-map items rows bit.signal old [] l) in
    let n : bit.signal < length (rows_of rows) = rw (length-map rows items) l in
    ap (λ z. entry z b) (map-set items rows bit.signal new)
    ∙ entry_put (rows_of rows) new.items bit b number n (λ i. h i ∙ ap (λ z. cond (nat_eq bit.place i) number (get_or z i 0)) q)

-- rows that end with their last number

pub past_zero : (xs : List ℕ) (i : ℕ) → length xs ≤ i → get_or xs i 0 ≡ 0
past_zero [] i l = refl
past_zero (x ∷ xs) zero l = absurd (omega arith)
past_zero (x ∷ xs) (suc i) l = past_zero xs i (omega arith)

pub zero_before : (xs : List ℕ) (n d : ℕ) → 0 < n → n ≤ length xs → get_or xs (n - 1) d ≡ 0 → ((i : ℕ) → n ≤ i → get_or xs i 0 ≡ 0) → (i : ℕ) → n - 1 ≤ i → get_or xs i 0 ≡ 0
zero_before xs n d p l z f i m = elim (cases_eq i (n - 1)) [
  | inl q ↦ ap (λ k. get_or xs k 0) q ∙ (get_or_default xs (n - 1) 0 d (omega arith) ∙ z)
  | inr q ↦ f i (omega (arith, q, m))
]

pub trimmed : (xs ys : List ℕ) (n i : ℕ) → ys ≡ take n xs → ((j : ℕ) → n ≤ j → get_or xs j 0 ≡ 0) → get_or ys i 0 ≡ get_or xs i 0
trimmed xs ys n i e f = ap (λ z. get_or z i 0) e ∙ elim (cases_lt i n) [
  | inl l ↦ taken xs n i l
  | inr l ↦ not_taken xs n i l ∙ sym (f i l)
]
  where
    taken : (zs : List ℕ) (m j : ℕ) → j < m → get_or (take m zs) j 0 ≡ get_or zs j 0
    taken zs zero j l = absurd (omega arith)
    taken [] (suc m) j l = refl
    taken (z ∷ zs) (suc m) zero l = refl
    taken (z ∷ zs) (suc m) (suc j) l = taken zs m j (omega arith)

    not_taken : (zs : List ℕ) (m j : ℕ) → m ≤ j → get_or (take m zs) j 0 ≡ 0
    not_taken zs zero j l = refl
    not_taken [] (suc m) j l = refl
    not_taken (z ∷ zs) (suc m) zero l = absurd (omega arith)
    not_taken (z ∷ zs) (suc m) (suc j) l = not_taken zs m j (omega arith)

pub no_items : (xs : List ℕ) → length xs ≡ 0 → xs ≡ []
no_items [] e = refl
no_items (x ∷ xs) e = absurd (omega (arith, e))

-- a signal whose row is empty has no number

pub blank_past : (rows : List (Vec ℕ Global)) (s : ℕ) (b : Bit) → length rows ≤ s → b.signal ≡ s → entry (rows_of rows) b ≡ 0
blank_past rows s b l q = ap (λ x. get_or x b.place 0) (past (rows_of rows) b.signal (rw (length-map rows (λ (r : Vec ℕ Global). r.items)) (omega (arith, q, l))))
  where
    past : (xs : List (List ℕ)) (i : ℕ) → length xs ≤ i → get_or xs i [] ≡ []
    past [] i m = refl
    past (x ∷ xs) zero m = absurd (omega arith)
    past (x ∷ xs) (suc i) m = past xs i (omega arith)

pub blank_row : (rows : List (Vec ℕ Global)) (s : ℕ) (row d : Vec ℕ Global) (b : Bit) → row ≡ get_or rows s d → row.items ≡ [] → b.signal ≡ s → entry (rows_of rows) b ≡ 0
blank_row rows s row d b e z q = elim (cases_lt b.signal (length rows)) [
  | inl l ↦
      let items : Vec ℕ Global → List ℕ = λ r. r.items in
      let r : get_or (rows_of rows) b.signal [] ≡ items (get_or rows b.signal d) = get_or-map items rows b.signal d [] l in
      ap (λ x. get_or x b.place 0) (r ∙ (ap (λ n. items (get_or rows n d)) q ∙ (ap items (sym e) ∙ z)))
  | inr l ↦ blank_past rows b.signal b l refl
]
