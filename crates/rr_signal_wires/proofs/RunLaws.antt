-- runs of places that take the bits of a word
use Rattle.std.proofs.Common.{◌≡◌, ◌∙◌, sym, ap, refl, ℕ, zero, suc, ◌+◌, ◌-◌, ◌<◌, ◌≤◌, Bool, true, false, cond, not, ◌&&◌, List, [], ◌∷◌, get_or, drop, nat_eq, nat_lt, arith, ◌⊎◌, inl, inr, ℤ, pos, ◌+ℤ◌, ◌-ℤ◌}
use mathlib.Core.Path.{fun_ext}
use Rattle.std.proofs.lemmas.Bool.{cases_eq, cases_lt, eq-eqb, ne_eqb, lt-ltb, le-ltb}
use Rattle.std.proofs.lemmas.Int.{ints}
use lib.IntN.{nat_abs}
use mir.Syntax.{w64}
use mir.Val.{to_z, of_z}
use Rattle.rr_expr.specs.declared.types.Bit.{Bit}
use Rattle.rr_named_bits.specs.declared.piece.Piece.{Piece}
use Rattle.rr_named_bits.specs.Pieces.{bits_of, covers}
use Rattle.rr_named_bits.proofs.Runs.{covers_in, has_in}
use Rattle.rr_cycle.specs.Exec.{Environment, put, write}
use Rattle.rr_exec.proofs.Pieces.{get_drop, in_range, piece_there, piece_not}
use Rattle.rr_signal_wires.specs.Words.{Fits, IsThere}

-- the places from `low` up to before k take the bits of a word from `first` up
abbrev pub part : ℕ → ℕ → ℕ → ℕ → List Bool → Environment → Environment
part signal low k first vs e b = cond (nat_eq signal b.signal && (not (nat_lt b.place low) && nat_lt b.place k)) (get_or vs (first + (b.place - low)) false) (e b)

and_false : (x : Bool) → (x && false) ≡ false
and_false true = refl
and_false false = refl

pub part_none : (signal low first : ℕ) (vs : List Bool) (e : Environment) → part signal low low first vs e ≡ e
part_none signal low first vs e = fun_ext (λ (b : Bit). by b (cases_lt b.place low))
  where
    by : (b : Bit) → ((b.place < low) ⊎ (low ≤ b.place)) → part signal low low first vs e b ≡ e b
    by b (inl u) = rw (lt-ltb b.place low u, and_false (nat_eq signal b.signal)) refl
    by b (inr u) = rw (le-ltb b.place low u, and_false (nat_eq signal b.signal)) refl

pub part_more : (signal low k first : ℕ) (vs : List Bool) (e : Environment) → low ≤ k → put (record { signal = signal; place = k }) (get_or vs (first + (k - low)) false) (part signal low k first vs e) ≡ part signal low (k + 1) first vs e
part_more signal low k first vs e l = fun_ext (λ (b : Bit). by b (cases_eq signal b.signal) (cases_eq k b.place) (cases_lt b.place k))
  where
    by : (b : Bit) → ((signal ≡ b.signal) ⊎ (signal ≡ b.signal → ⊥)) → ((k ≡ b.place) ⊎ (k ≡ b.place → ⊥)) → ((b.place < k) ⊎ (k ≤ b.place)) →
        put (record { signal = signal; place = k }) (get_or vs (first + (k - low)) false) (part signal low k first vs e) b ≡ part signal low (k + 1) first vs e b
    by b (inr s) p q = rw (ne_eqb signal b.signal s) refl
    by b (inl s) (inl p) q = rw (eq-eqb signal b.signal s, eq-eqb k b.place p, ← p, le-ltb k low l, lt-ltb k (k + 1) (omega arith)) refl
    by b (inl s) (inr p) (inl q) = rw (eq-eqb signal b.signal s, ne_eqb k b.place p, lt-ltb b.place k q, lt-ltb b.place (k + 1) (omega arith)) refl
    by b (inl s) (inr p) (inr q) = rw (eq-eqb signal b.signal s, ne_eqb k b.place p, le-ltb b.place k q, le-ltb b.place (k + 1) (omega arith)) refl

-- the places that a run has

abbrev pub IsRange : Piece → ℕ → ℕ → Type 0
IsRange p low high = (b : Bit) → covers p b ≡ (nat_eq p.signal b.signal && (not (nat_lt b.place low) && nat_lt b.place high))

pub first_in : (p : Piece) (low high : ℕ) → IsRange p low high → low < high → p.count < 4294967296 → (j : ℕ) × ((j < 4294967296) × (p.from +ℤ pos j ≡ pos low))
first_in p low high h l c = let r = in_range p low high h low (omega arith) l in (r.0, (omega (arith, r.1), r.2))

pub there_in : (widths : List ℕ) (p : Piece) (low high q : ℕ) → IsRange p low high → Fits widths p → low ≤ q → q < high → IsThere widths (record { signal = p.signal; place = q })
there_in widths p low high q h f l m =
    f (record { signal = p.signal; place = q }) (h (record { signal = p.signal; place = q }) ∙ rw (eq-eqb p.signal p.signal refl, le-ltb q low l, lt-ltb q high m) refl)

same_place : (at : ℤ) (i j d m q : ℕ) → at +ℤ pos i ≡ pos m → at +ℤ pos j ≡ pos q → q ≡ m + d → j ≡ i + d
same_place at i j d m q h k r = omega (arith, ints, h, k)

-- all of its places together are the run
pub part_all : (p : Piece) (low high first from : ℕ) (vs : List Bool) (e : Environment) → IsRange p low high → low < high → (o : ℕ) → p.from +ℤ pos o ≡ pos low → first ≡ from + o →
    part p.signal low high first vs e ≡ write (bits_of p) (drop from vs) e
part_all p low high first from vs e range l o oq f = fun_ext (λ (b : Bit). by b (cases_eq p.signal b.signal) (cases_lt b.place low) (cases_lt b.place high))
  where
    outside : (b : Bit) → covers p b ≡ false → e b ≡ write (bits_of p) (drop from vs) e b
    outside b c = sym (piece_not p b (drop from vs) e c)

    by : (b : Bit) → ((p.signal ≡ b.signal) ⊎ (p.signal ≡ b.signal → ⊥)) → ((b.place < low) ⊎ (low ≤ b.place)) → ((b.place < high) ⊎ (high ≤ b.place)) →
        part p.signal low high first vs e b ≡ write (bits_of p) (drop from vs) e b
    by b (inr s) u v = rw (ne_eqb p.signal b.signal s) (outside b (range b ∙ rw (ne_eqb p.signal b.signal s) refl))
    by b (inl s) (inl u) v = rw (eq-eqb p.signal b.signal s, lt-ltb b.place low u) (outside b (range b ∙ rw (eq-eqb p.signal b.signal s, lt-ltb b.place low u) refl))
    by b (inl s) (inr u) (inr v) = rw (eq-eqb p.signal b.signal s, le-ltb b.place low u, le-ltb b.place high v) (outside b (range b ∙ rw (eq-eqb p.signal b.signal s, le-ltb b.place low u, le-ltb b.place high v) refl))
    by b (inl s) (inr u) (inl v) =
        let r = in_range p low high range b.place u v in
        let c : covers p b ≡ true = range b ∙ rw (eq-eqb p.signal b.signal s, le-ltb b.place low u, lt-ltb b.place high v) refl in
        let k : from + r.0 ≡ first + (b.place - low) = omega (arith, f, same_place p.from o r.0 (b.place - low) low b.place oq r.2 (omega arith)) in
        rw (eq-eqb p.signal b.signal s, le-ltb b.place low u, lt-ltb b.place high v)
        (sym (piece_there p b (drop from vs) e r.0 c r.1 r.2 ∙ get_drop vs from r.0 ∙ ap (λ (m : ℕ). get_or vs m false) k))

pub part_empty : (p : Piece) (low high : ℕ) (vs : List Bool) (e : Environment) → IsRange p low high → high ≤ low → e ≡ write (bits_of p) vs e
part_empty p low high vs e range l = fun_ext (λ (b : Bit). sym (piece_not p b vs e (range b ∙ none b (cases_lt b.place low))))
  where
    none : (b : Bit) → ((b.place < low) ⊎ (low ≤ b.place)) → (nat_eq p.signal b.signal && (not (nat_lt b.place low) && nat_lt b.place high)) ≡ false
    none b (inl u) = rw (lt-ltb b.place low u) (and_false (nat_eq p.signal b.signal))
    none b (inr u) = rw (le-ltb b.place low u, le-ltb b.place high (omega arith)) (and_false (nat_eq p.signal b.signal))

-- what the code counts

pub source_is : (from place j : ℕ) (start : ℤ) → from ≤ 128 → j < 4294967296 → place < 4294967296 → start +ℤ pos j ≡ pos place →
    nat_abs (to_z w64 (of_z w64 (to_z w64 from +ℤ to_z w64 (of_z w64 (to_z w64 place -ℤ to_z w64 (of_z w64 start)))))) ≡ from + j
source_is from place j start f l m e = omega (arith, ints)

pub cast_from : (from : ℤ) (j low : ℕ) → j < 4294967296 → low < 4294967296 → from +ℤ pos j ≡ pos low → to_z w64 (of_z w64 from) +ℤ pos j ≡ pos low
cast_from from j low l m e = omega (arith, ints)

pub same_if : (g : Bool) (e f : Environment) → e ≡ f → e ≡ cond g f e
same_if true e f q = q
same_if false e f q = refl
