-- bits of pieces and of whole signals
use Rattle.std.proofs.Common.{◌≡◌, ◌∙◌, sym, ap, subst, ℕ, zero, suc, ◌+◌, ◌-◌, ◌<◌, ◌≤◌, Bool, true, false, cond, not, ◌&&◌, List, [], ◌∷◌, ◌++◌, length, map, drop, get_or, set, nat_eq, nat_lt, Option, None, Some, refl, arith, ◌⊎◌, inl, inr, pos, ◌+ℤ◌}
use mathlib.Core.Path.{fun_ext}
use Rattle.std.specs.List.{All, AllByRecursion, range_with_len}
use Rattle.std.proofs.lemmas.Bool.{and_parts, cases_eq, both_ways, or_cases, eqb-true, ltb-true, eq-eqb, ne_eqb, lt-ltb, le-ltb}
use Rattle.std.proofs.lemmas.List.{get_or_append_left, get_or-append_right, get_or_past}
use Rattle.std.proofs.lemmas.List.Elements.{All-nil, All-push, recursion_from_All}
use Rattle.rr_bits.specs.Words.{word, tabulate}
use Rattle.rr_expr.specs.declared.types.Bit.{Bit}
use Rattle.rr_expr.specs.declared.types.Entity.TheVariants as entity
use Rattle.rr_expr.specs.Scopes.{env_of, range_width}
use Rattle.rr_expr.proofs.Widths.{signal_word}
use Rattle.rr_flat.specs.Targets.{bits_there, has_bit}
use Rattle.rr_flat.specs.Signals.{signal_at}
use Rattle.rr_flat.specs.View.{plain_signal}
use Rattle.rr_flat.specs.View.{Design, plain_flat}
use Rattle.rr_flat.specs.Plain.{Whole}
use Rattle.rr_flat.specs.Writers.{driven_by, signal_bits}
use Rattle.rr_named_bits.specs.declared.piece.Piece.{Piece}
use Rattle.rr_named_bits.specs.Pieces.{all_bits, bit_in, bits_of}
use Rattle.rr_named_bits.proofs.Runs.{covers_in}
use Rattle.rr_cycle.specs.Cycles.{bit_value, signal_value}
use Rattle.rr_cycle.specs.Exec.{Environment, put, write}
use Rattle.rr_cycle.proofs.Wiring.{length_there}
use Rattle.rr_flat.proofs.Bits.{has_append, place_has, bits_of_name}
use Rattle.rr_exec.specs.Work.{Fits}
use Rattle.rr_exec.proofs.Pieces.{env_set}
use Rattle.rr_meaning.proofs.Scoping.{IsSound, wide}

-- a bit of pieces that fit
fits_there : (n : ℕ) (ps : List Piece) (b : Bit) → AllByRecursion (Fits n) ps → has_bit (all_bits ps) b ≡ true → (b.signal < n) × (b.place < 128)
unfolding all_bits has_bit
fits_there n [] b a h = absurd (both_ways false refl h)
fits_there n (p ∷ ps) b a h = elim (or_cases (has_bit (all_bits ps) b) (has_bit (bits_of p) b) (sym (has_append (all_bits ps) (bits_of p) b) ∙ h)) [
  | inl i ↦ fits_there n ps b a.1 i
  | inr i ↦ a.0 b (covers_in p b ∙ i)
]

pub fits_at : (n : ℕ) (ps : List Piece) (b : Bit) (i : ℕ) → All (Fits n) ps → get_or (all_bits ps) i None ≡ Some b → (b.signal < n) × (b.place < 128)
fits_at n ps b i a h = fits_there n ps b (recursion_from_All (Fits n) ps a) (place_has (all_bits ps) b i h)

-- one bit of a number
pub bit_set : (values : List ℕ) (b : Bit) (on : Bool) (k : ℕ) (part : List Bool) → part ≡ on ∷ [] →
    ((q : ℕ) → get_or (word 128 k) q false ≡ cond (not (nat_lt q b.place) && nat_lt q (b.place + length part)) (get_or part (q - b.place) false) (get_or (word 128 (get_or values b.signal 0)) q false)) →
    b.signal < length values → env_of (set values b.signal k) ≡ put b on (env_of values)
bit_set values b on k part s merge in' = fun_ext (λ c. env_set values b.signal k c in' ∙ by c (cases_eq b.signal c.signal))
  where
    merged : (q : ℕ) → get_or (word 128 k) q false ≡ cond (not (nat_lt q b.place) && nat_lt q (b.place + 1)) (get_or (on ∷ []) (q - b.place) false) (get_or (word 128 (get_or values b.signal 0)) q false)
    merged q = rw s at (merge q)

    by : (c : Bit) → ((b.signal ≡ c.signal) ⊎ (b.signal ≡ c.signal → ⊥)) → cond (nat_eq b.signal c.signal) (get_or (word 128 k) c.place false) (env_of values c) ≡ put b on (env_of values) c
    by c (inl q) = rw (eq-eqb b.signal c.signal q) (merged c.place ∙ here (cases_eq b.place c.place))
      where
        old : get_or (word 128 (get_or values b.signal 0)) c.place false ≡ env_of values c
        old = ap (λ (n : ℕ). get_or (word 128 (get_or values n 0)) c.place false) q

        aside : (b.place ≡ c.place → ⊥) → (not (nat_lt c.place b.place) && nat_lt c.place (b.place + 1)) ≡ false
        aside n = elim (cases_eq (c.place - b.place) 0) [
          | inl z ↦ let l : c.place < b.place = omega (arith, n) in rw (lt-ltb c.place b.place l) refl
          | inr z ↦ let l : b.place + 1 ≤ c.place = omega (arith, z) in let m : b.place ≤ c.place = omega arith in rw (le-ltb c.place b.place m, le-ltb c.place (b.place + 1) l) refl
        ]

        here : ((b.place ≡ c.place) ⊎ (b.place ≡ c.place → ⊥)) → cond (not (nat_lt c.place b.place) && nat_lt c.place (b.place + 1)) (get_or (on ∷ []) (c.place - b.place) false) (get_or (word 128 (get_or values b.signal 0)) c.place false)
            ≡ cond (nat_eq b.place c.place) on (env_of values c)
        here (inl e) =
            let m : b.place ≤ c.place = omega (arith, e) in
            let l : c.place < b.place + 1 = omega (arith, e) in
            let z : c.place - b.place ≡ 0 = omega (arith, e) in
            rw (eq-eqb b.place c.place e, le-ltb c.place b.place m, lt-ltb c.place (b.place + 1) l, z) refl
        here (inr n) = rw (ne_eqb b.place c.place n, aside n) old
    by c (inr q) = rw (ne_eqb b.signal c.signal q) refl

-- whole signals

pub there_is : (id : ℕ) (range : Option (ℕ × ℕ)) (signed : Bool) (e : Environment) (from n : ℕ) → from + n ≤ range_width range →
    map (bit_value e) (bits_there (entity.Signal id range signed) (pos from) n) ≡ map (λ (i : ℕ). e (record { signal = id; place = i })) (range_with_len from n)
unfolding bits_there
there_is id range signed e from zero l = refl
there_is id range signed e from (suc n) l =
    let m : from < range_width range = omega arith in
    rw (le-ltb from 0 (omega arith), lt-ltb from (range_width range) m)
    (ap (λ (bs : List Bool). e (record { signal = id; place = from }) ∷ bs) (there_is id range signed e (from + 1) n (omega arith)))

pub signal_is : (d : Design) (values : List ℕ) (id w : ℕ) → IsSound d → id < length d.signals → w ≡ (signal_at (map plain_signal d.signals) id).width → word w (get_or values id 0) ≡ signal_value (plain_flat d) id (env_of values)
unfolding tabulate
signal_is d values id w f l q =
    let s = signal_at (map plain_signal d.signals) id in
    let r = wide d id f l in
    ap (λ (v : ℕ). word v (get_or values id 0)) q
    ∙ signal_word s.width id values r.high
    ∙ sym (there_is id s.range s.signed (env_of values) 0 s.width (omega (arith, r.range)))

-- a piece of all bits of a signal

pub one_piece : (ps qs : List Piece) (p : Piece) → qs ≡ [] → ps ≡ qs ++ p ∷ [] → all_bits ps ≡ bits_of p
unfolding all_bits
one_piece ps qs p h e = ap all_bits (e ∙ ap (λ (rs : List Piece). rs ++ p ∷ []) h)

pub one_fits : (n : ℕ) (ps qs : List Piece) (p : Piece) → Fits n p → qs ≡ [] → ps ≡ qs ++ p ∷ [] → All (Fits n) ps
one_fits n ps qs p f h e = subst (All (Fits n)) (sym e) (All-push (Fits n) qs p (subst (All (Fits n)) (sym h) (All-nil (Fits n))) f)

pub whole_fits : (d : Design) (id : ℕ) (p : Piece) → IsSound d → id < length d.signals → bits_of p ≡ signal_bits (plain_flat d) id → Fits (length d.signals) p
whole_fits d id p f l q b c =
    let s = signal_at (map plain_signal d.signals) id in
    let w = wide d id f l in
    let h : has_bit (signal_bits (plain_flat d) id) b ≡ true = ap (λ (bs : List (Option Bit)). has_bit bs b) (sym q) ∙ (sym (covers_in p b) ∙ c) in
    let i = and_parts (nat_eq id b.signal) (nat_lt b.place (range_width s.range)) (bits_of_name (entity.Signal id s.range s.signed) (pos 0) s.width b h) in
    let u : id ≡ b.signal = eqb-true id b.signal i.0 in
    let v : b.place < range_width s.range = ltb-true b.place (range_width s.range) i.1 in
    (omega (arith, u), omega (arith, v, w.range, w.high))

pub whole_few : (d : Design) (id : ℕ) (ps : List Piece) → IsSound d → id < length d.signals → all_bits ps ≡ driven_by (plain_flat d) (Whole id) → length (all_bits ps) ≤ 128
unfolding driven_by
whole_few d id ps f l q =
    let s = signal_at (map plain_signal d.signals) id in
    omega (arith, ap length q, length_there (entity.Signal id s.range s.signed) (pos 0) s.width, (wide d id f l).high)

-- one bit that is written

pub wire_some : (o : Option Bit) (b : Bit) (v w : Bool) (e : Environment) → o ≡ Some b → v ≡ w → put b v e ≡ write (o ∷ []) (w ∷ []) e
unfolding write
wire_some o b v w e h k = ap (λ (x : Bool). put b x e) k ∙ ap (λ (x : Option Bit). write (x ∷ []) (w ∷ []) e) (sym h)

pub wire_none : (o : Option Bit) (w : Bool) (e : Environment) → o ≡ None → e ≡ write (o ∷ []) (w ∷ []) e
unfolding write
wire_none o w e h = ap (λ (x : Option Bit). write (x ∷ []) (w ∷ []) e) (sym h)
