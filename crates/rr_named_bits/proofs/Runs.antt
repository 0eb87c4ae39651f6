-- The bits of runs of places.
use Rattle.std.proofs.Common.{◌≡◌, ◌∙◌, sym, ap, ℕ, zero, suc, ◌+◌, ◌-◌, ◌<◌, ◌≤◌, inl, inr, Bool, true, false, cond, not, ◌&&◌, ◌||◌, List, [], ◌∷◌, Option, None, Some, nat_eq, nat_lt, refl, arith, ℤ, pos, negsuc, ◌+ℤ◌, ◌-ℤ◌, int_lt, unsigned_abs}
use Rattle.std.specs.Prelude.{Result, IfOk}
use Rattle.std.proofs.lemmas.Result.{IfOk-weaker}
use Rattle.std.proofs.lemmas.Bool.{and_from, and_parts, or_cases, ltb-true, ltb-false, lt-ltb, le-ltb, eqb-true, eq-eqb}
use Rattle.std.proofs.lemmas.Int.{ints}
use lib.IntN.{nat_abs}
use mir.Syntax.{w64}
use mir.Val.{to_z, of_z}
use Rattle.rr_expr.specs.declared.types.Bit.{Bit}
use Rattle.rr_expr.specs.declared.types.Entity.{Entity}
use Rattle.rr_expr.specs.declared.types.Entity.TheVariants.{Constant, Signal, Memory, Instance}
use Rattle.rr_expr.specs.Reading.{IsBitOf, IsWithin}
use Rattle.rr_expr.specs.Memories.{word_bits}
use Rattle.rr_expr.specs.Scopes.{entity_shape, entity_range, range_width}
use Rattle.rr_expr.specs.Selects.{place}
use Rattle.rr_expr.proofs.Indices.{unmoved}
use Rattle.rr_flat.specs.Targets.{same_bit, is_memory, is_bit_of, bit_there, bits_there, index_bits, has_bit}
use Rattle.rr_flat.proofs.Bits.{no_word_run}
use Rattle.rr_named_bits.specs.declared.piece.Piece.{Piece}
use Rattle.rr_named_bits.specs.Pieces.{bit_in, bits_in, bits_of, covers}

pub same_truth : (a b : Bool) → (a ≡ true → b ≡ true) → (b ≡ true → a ≡ true) → a ≡ b
same_truth true b f g = sym (f refl)
same_truth false true f g = g refl
same_truth false false f g = refl

cons_same : {A : Type 0} (x y : A) (xs ys : List A) → x ≡ y → xs ≡ ys → x ∷ xs ≡ y ∷ ys
cons_same x y xs ys e f = λ i. e i ∷ f i

-- the runs of what names stand for

abbrev pub run_of : ℕ → ℕ → ℤ → ℕ → Piece
run_of id width from count = record { signal = id; width = width; from = from; count = count }

pub no_run : bits_of (run_of 0 0 (pos 0) 0) ≡ []
unfolding bits_in
no_run = refl

pub signal_run : (id : ℕ) (range : Option (ℕ × ℕ)) (signed : Bool) (from at : ℤ) (count n : ℕ) → bits_in (run_of id (range_width range) from count) at n ≡ bits_there (Signal id range signed) at n
unfolding bits_in bits_there
signal_run id range signed from at count zero = refl
signal_run id range signed from at count (suc n) = ap (λ z. bit_there (Signal id range signed) at ∷ z) (signal_run id range signed from (at +ℤ pos 1) count n)

past : (t : Bool) (m w : ℕ) (x : Option Bit) → w ≤ m → cond t None (cond (nat_lt m w) x None) ≡ None
past true m w x h = refl
past false m w x h = rw (le-ltb m w h) refl

no_bit : (count : ℕ) (from at : ℤ) → bit_in (run_of 0 0 from count) at ≡ None
no_bit count from at = past (int_lt at (pos 0)) (unsigned_abs at) 0 (Some (record { signal = 0; place = unsigned_abs at })) (omega arith)

pub constant_run : (bits : List Bool) (signed : Bool) (count n : ℕ) (from at other : ℤ) → bits_in (run_of 0 0 from count) at n ≡ bits_there (Constant bits signed) other n
unfolding bits_in bits_there
constant_run bits signed count zero from at other = refl
constant_run bits signed count (suc n) from at other = cons_same _ _ _ _ (no_bit count from at) (constant_run bits signed count n from (at +ℤ pos 1) (other +ℤ pos 1))

pub instance_run : (count n : ℕ) (from at other : ℤ) → bits_in (run_of 0 0 from count) at n ≡ bits_there Instance other n
unfolding bits_in bits_there
instance_run count zero from at other = refl
instance_run count (suc n) from at other = cons_same _ _ _ _ (no_bit count from at) (instance_run count n from (at +ℤ pos 1) (other +ℤ pos 1))

pub memory_run : (first low words : ℕ) (range : Option (ℕ × ℕ)) (signed : Bool) (count n : ℕ) (from at other : ℤ) → bits_in (run_of 0 0 from count) at n ≡ bits_there (Memory first low words range signed) other n
unfolding bits_in bits_there
memory_run first low words range signed count zero from at other = refl
memory_run first low words range signed count (suc n) from at other = cons_same _ _ _ _ (no_bit count from at) (memory_run first low words range signed count n from (at +ℤ pos 1) (other +ℤ pos 1))

-- a word that is not there
pub no_word : (range : Option (ℕ × ℕ)) (width : ℕ) → width ≡ range_width range → bits_of (run_of 0 0 (pos 0) width) ≡ word_bits range None
no_word range width h =
    ap (λ n. bits_of (run_of 0 0 (pos 0) n)) h ∙ (instance_run (range_width range) (range_width range) (pos 0) (pos 0) (pos 0) ∙ sym (no_word_run range (pos 0)))

-- the bits of a name in a run of places that it does not have: a memory has none but in its words
pub word_absent : (range : Option (ℕ × ℕ)) (first low words : ℕ) (signed : Bool) → word_bits range None ≡ bits_there (Memory first low words range signed) (pos 0) (range_width range)
word_absent range first low words signed =
    no_word_run range (pos 0) ∙ (sym (instance_run 0 (range_width range) (pos 0) (pos 0) (pos 0)) ∙ memory_run first low words range signed 0 (range_width range) (pos 0) (pos 0) (pos 0))

-- an index of what is no memory names one place
pub index_run : (e : Entity) (i : ℤ) → is_memory e ≡ false → bits_there e (place (entity_range e) i -ℤ pos 0) 1 ≡ index_bits e i
unfolding bits_there
index_run (Constant bits signed) i h = ap (λ (p : ℤ). bit_there (Constant bits signed) p ∷ []) (unmoved (place (entity_range (Constant bits signed)) i))
index_run (Signal id range signed) i h = ap (λ (p : ℤ). bit_there (Signal id range signed) p ∷ []) (unmoved (place (entity_range (Signal id range signed)) i))
index_run (Memory first low words range signed) i h = cc
index_run Instance i h = ap (λ (p : ℤ). bit_there Instance p ∷ []) (unmoved (place (entity_range Instance) i))

nearer : (z : ℤ) (n : ℕ) → 128 + suc n ≤ nat_abs z → 128 + n ≤ nat_abs (z +ℤ pos 1)
nearer z n h = grind (arith, ints)

pub far_run : (id : ℕ) (range : Option (ℕ × ℕ)) (signed : Bool) (count n : ℕ) (from at other : ℤ) → range_width range ≤ 128 → 128 + n ≤ nat_abs other → bits_in (run_of 0 0 from count) at n ≡ bits_there (Signal id range signed) other n
unfolding bits_in bits_there
far_run id range signed count zero from at other w h = refl
far_run id range signed count (suc n) from at other w h =
    cons_same _ _ _ _ (no_bit count from at ∙ sym (past (int_lt other (pos 0)) (unsigned_abs other) (range_width range) (Some (record { signal = id; place = unsigned_abs other })) (omega arith)))
    (far_run id range signed count n from (at +ℤ pos 1) (other +ℤ pos 1) w (nearer other n h))

-- an answer with the bits of a name
pub same_bits : {E : Type 0} (r : Result Piece E) (xs ys : List (Option Bit)) → xs ≡ ys → IfOk r (λ p. bits_of p ≡ xs) → IfOk r (λ p. bits_of p ≡ ys)
same_bits r xs ys e h = IfOk-weaker r (λ p. bits_of p ≡ xs) (λ p. bits_of p ≡ ys) (λ p k. k ∙ e) h

-- the casts of a place that is near
pub cast_away : (p : ℤ) (below : ℕ) → nat_abs p < 1103806595072 → below ≤ 128 → to_z w64 (of_z w64 (to_z w64 (of_z w64 p) -ℤ to_z w64 below)) ≡ p -ℤ pos below
cast_away p below h k = omega (arith, ints)

-- which bits a run has

pub record IsIn (id width : ℕ) (at : ℤ) (n : ℕ) (b : Bit) : Type 0 where
  pub signal : id ≡ b.signal
  pub there : b.place < width
  pub within : IsWithin at n b.place

pub bit_is : (p : Piece) (at : ℤ) (c : Bit) → bit_in p at ≡ Some c → (p.signal ≡ c.signal) × (c.place < p.width) × (at ≡ pos c.place)
bit_is p (negsuc m) c e = cc
bit_is p (pos m) c e = go (nat_lt m 0) (nat_lt m p.width) refl e
  where
    go : (t u : Bool) → nat_lt m p.width ≡ u → cond t None (cond u (Some (record { signal = p.signal; place = m })) None) ≡ Some c → (p.signal ≡ c.signal) × (c.place < p.width) × (pos m ≡ pos c.place)
    go true u f e = cc
    go false false f e = cc
    go false true f e =
        let q : record { signal = p.signal; place = m } ≡ c = cc in
        let r : m ≡ c.place = ap (λ (x : Bit). x.place) q in
        let l : m < p.width = ltb-true m p.width f in
        (ap (λ (x : Bit). x.signal) q, omega arith, ap pos r)

next_within : (at : ℤ) (n m : ℕ) → IsWithin (at +ℤ pos 1) n m → IsWithin at (suc n) m
next_within at n m (k, l, e) = (suc k, omega arith, shifted at k ∙ e)
  where
    shifted : (z : ℤ) (j : ℕ) → z +ℤ pos (suc j) ≡ (z +ℤ pos 1) +ℤ pos j
    shifted z j = grind (arith, ints)

same_is : (c b : Bit) → same_bit c b ≡ true → (c.signal ≡ b.signal) × (c.place ≡ b.place)
same_is c b h =
    let p = and_parts (nat_eq c.signal b.signal) (nat_eq c.place b.place) h in
    (eqb-true c.signal b.signal p.0, eqb-true c.place b.place p.1)

is_same : (c b : Bit) → c.signal ≡ b.signal → c.place ≡ b.place → same_bit c b ≡ true
is_same c b s p = and_from (nat_eq c.signal b.signal) (nat_eq c.place b.place) (eq-eqb c.signal b.signal s) (eq-eqb c.place b.place p)

pub has_in : (p : Piece) (at : ℤ) (n : ℕ) (b : Bit) → has_bit (bits_in p at n) b ≡ true → IsIn p.signal p.width at n b
unfolding bits_in has_bit
has_in p at zero b h = cc
has_in p at (suc n) b h = go (bit_in p at) refl (has_in p (at +ℤ pos 1) n b) h
  where
    later : IsIn p.signal p.width (at +ℤ pos 1) n b → IsIn p.signal p.width at (suc n) b
    later i = record { signal = i.signal; there = i.there; within = next_within at n b.place i.within }

    go : (o : Option Bit) → bit_in p at ≡ o → (has_bit (bits_in p (at +ℤ pos 1) n) b ≡ true → IsIn p.signal p.width (at +ℤ pos 1) n b)
        → has_bit (o ∷ bits_in p (at +ℤ pos 1) n) b ≡ true → IsIn p.signal p.width at (suc n) b
    go None e ih h = later (ih h)
    go (Some c) e ih h = elim (or_cases (same_bit c b) (has_bit (bits_in p (at +ℤ pos 1) n) b) h) [
      | inl s ↦
          let q = bit_is p at c e in
          let r = same_is c b s in
          record { signal = q.0 ∙ r.0; there = rw (← r.1) q.1; within = (0, omega arith, stays at ∙ q.2 ∙ ap pos r.1) }
      | inr t ↦ later (ih t)
    ]
      where
        stays : (z : ℤ) → z +ℤ pos 0 ≡ z
        stays z = grind (arith, ints)

has_more : (o : Option Bit) (os : List (Option Bit)) (b : Bit) → has_bit os b ≡ true → has_bit (o ∷ os) b ≡ true
unfolding has_bit
has_more None os b h = h
has_more (Some c) os b h = rw h (or_true (same_bit c b))
  where
    or_true : (x : Bool) → (x || true) ≡ true
    or_true true = refl
    or_true false = refl

there_is : (p : Piece) (m : ℕ) → m < p.width → bit_in p (pos m) ≡ Some (record { signal = p.signal; place = m })
there_is p m h = rw (le-ltb m 0 (omega arith), lt-ltb m p.width h) refl

pub in_has : (p : Piece) (at : ℤ) (n : ℕ) (b : Bit) (k : ℕ) → p.signal ≡ b.signal → b.place < p.width → k < n → at +ℤ pos k ≡ pos b.place → has_bit (bits_in p at n) b ≡ true
unfolding bits_in has_bit
in_has p at zero b k s l o e = absurd (omega arith)
in_has p at (suc n) b zero s l o e =
    let z : at ≡ pos b.place = sym (stays at) ∙ e in
    let t : bit_in p at ≡ Some (record { signal = p.signal; place = b.place }) = ap (bit_in p) z ∙ there_is p b.place l in
    ap (λ c. has_bit (c ∷ bits_in p (at +ℤ pos 1) n) b) t ∙ or_left (same_bit (record { signal = p.signal; place = b.place }) b) (has_bit (bits_in p (at +ℤ pos 1) n) b) (is_same (record { signal = p.signal; place = b.place }) b s refl)
  where
    stays : (z : ℤ) → z +ℤ pos 0 ≡ z
    stays z = grind (arith, ints)

    or_left : (x y : Bool) → x ≡ true → (x || y) ≡ true
    or_left x y e = rw e refl
in_has p at (suc n) b (suc k) s l o e =
    has_more (bit_in p at) (bits_in p (at +ℤ pos 1) n) b (in_has p (at +ℤ pos 1) n b k s l (omega arith) (shifted at k ∙ e))
  where
    shifted : (z : ℤ) (j : ℕ) → (z +ℤ pos 1) +ℤ pos j ≡ z +ℤ pos (suc j)
    shifted z j = grind (arith, ints)

-- the place of a bit in a run, by comparisons

place_in : (from : ℤ) (n m : ℕ) → int_lt (pos m) from ≡ false → int_lt (pos m) (from +ℤ pos n) ≡ true → IsWithin from n m
place_in (pos f) n m g h =
    let a : f ≤ m = grind (arith, ints) in
    let b : m < f + n = grind (arith, ints) in
    (m - f, omega arith, ap pos (omega arith))
place_in (negsuc f) n m g h = (m + suc f, reached f n m h, back f m)
  where
    reached : (f n m : ℕ) → int_lt (pos m) (negsuc f +ℤ pos n) ≡ true → m + suc f < n
    reached f n m h = grind (arith, ints)

    back : (f m : ℕ) → negsuc f +ℤ pos (m + suc f) ≡ pos m
    back f m = grind (arith, ints)

in_place : (from : ℤ) (n m : ℕ) → IsWithin from n m → (int_lt (pos m) from ≡ false) × (int_lt (pos m) (from +ℤ pos n) ≡ true)
in_place from n m (k, l, e) = (low from n m k l e, high from n m k l e)
  where
    low : (from : ℤ) (n m k : ℕ) → k < n → from +ℤ pos k ≡ pos m → int_lt (pos m) from ≡ false
    low from n m k l e = grind (arith, ints)

    high : (from : ℤ) (n m k : ℕ) → k < n → from +ℤ pos k ≡ pos m → int_lt (pos m) (from +ℤ pos n) ≡ true
    high from n m k l e = grind (arith, ints)

not_false : (b : Bool) → not b ≡ true → b ≡ false
not_false true h = cc
not_false false h = refl

pub covers_in : (p : Piece) (b : Bit) → covers p b ≡ has_bit (bits_of p) b
covers_in p b = same_truth (covers p b) (has_bit (bits_of p) b) there back
  where
    there : covers p b ≡ true → has_bit (bits_of p) b ≡ true
    there h =
        let u = and_parts (nat_eq p.signal b.signal) _ h in
        let v = and_parts (nat_lt b.place p.width) _ u.1 in
        let w = and_parts (not (int_lt (pos b.place) p.from)) (int_lt (pos b.place) (p.from +ℤ pos p.count)) v.1 in
        let r = place_in p.from p.count b.place (not_false (int_lt (pos b.place) p.from) w.0) w.1 in
        in_has p p.from p.count b r.0 (eqb-true p.signal b.signal u.0) (ltb-true b.place p.width v.0) r.1 r.2

    back : has_bit (bits_of p) b ≡ true → covers p b ≡ true
    back h =
        let i = has_in p p.from p.count b h in
        let r = in_place p.from p.count b.place i.within in
        rw (eq-eqb p.signal b.signal i.signal, lt-ltb b.place p.width i.there, r.0, r.1) refl

-- the same of what a name stands for

none_has : (bits : List Bool) (signed : Bool) (at : ℤ) (n : ℕ) (b : Bit) → has_bit (bits_there (Constant bits signed) at n) b ≡ false
unfolding bits_there has_bit
none_has bits signed at zero b = refl
none_has bits signed at (suc n) b = none_has bits signed (at +ℤ pos 1) n b

nothing_has : (at : ℤ) (n : ℕ) (b : Bit) → has_bit (bits_there Instance at n) b ≡ false
unfolding bits_there has_bit
nothing_has at zero b = refl
nothing_has at (suc n) b = nothing_has (at +ℤ pos 1) n b

nowhere_has : (first low words : ℕ) (range : Option (ℕ × ℕ)) (signed : Bool) (at : ℤ) (n : ℕ) (b : Bit) → has_bit (bits_there (Memory first low words range signed) at n) b ≡ false
unfolding bits_there has_bit
nowhere_has first low words range signed at zero b = refl
nowhere_has first low words range signed at (suc n) b = nowhere_has first low words range signed (at +ℤ pos 1) n b

pub has_there : (e : Entity) (at : ℤ) (n : ℕ) (b : Bit) → has_bit (bits_there e at n) b ≡ true → IsBitOf e b × IsWithin at n b.place
has_there (Constant bits signed) at n b h = let bad : false ≡ true = sym (none_has bits signed at n b) ∙ h in cc
has_there (Signal id range signed) at n b h =
    let i = has_in (run_of id (range_width range) at n) at n b (ap (λ z. has_bit z b) (signal_run id range signed at at n n) ∙ h) in
    ((sym i.signal, i.there), i.within)
has_there (Memory first low words range signed) at n b h = let bad : false ≡ true = sym (nowhere_has first low words range signed at n b) ∙ h in cc
has_there Instance at n b h = let bad : false ≡ true = sym (nothing_has at n b) ∙ h in cc

pub there_has : (e : Entity) (at : ℤ) (n : ℕ) (b : Bit) → is_memory e ≡ false → IsBitOf e b → IsWithin at n b.place → has_bit (bits_there e at n) b ≡ true
there_has (Constant bits signed) at n b m i w = absurd i
there_has (Signal id range signed) at n b m i (k, l, e) =
    sym (ap (λ z. has_bit z b) (signal_run id range signed at at n n)) ∙ in_has (run_of id (range_width range) at n) at n b k (sym i.0) i.1 l e
there_has (Memory first low words range signed) at n b m i w = cc
there_has Instance at n b m i w = absurd i

-- all bits of a name

from_zero : (m : ℕ) → pos 0 +ℤ pos m ≡ pos m
from_zero m = ap pos (omega arith)

is_of : (e : Entity) (b : Bit) → is_bit_of e b ≡ true → IsBitOf e b × IsWithin (pos 0) (entity_shape e).width b.place
is_of (Constant bits signed) b h = cc
is_of (Signal id range signed) b h =
    let p = and_parts (nat_eq id b.signal) (nat_lt b.place (range_width range)) h in
    let l : b.place < range_width range = ltb-true b.place (range_width range) p.1 in
    ((sym (eqb-true id b.signal p.0), l), (b.place, l, from_zero b.place))
is_of (Memory first low words range signed) b h =
    let p = and_parts (not (nat_lt b.signal first)) (nat_lt b.signal (first + words) && nat_lt b.place (range_width range)) h in
    let q = and_parts (nat_lt b.signal (first + words)) (nat_lt b.place (range_width range)) p.1 in
    let l : b.place < range_width range = ltb-true b.place (range_width range) q.1 in
    ((ltb-false b.signal first (not_false (nat_lt b.signal first) p.0), ltb-true b.signal (first + words) q.0, l), (b.place, l, from_zero b.place))
is_of Instance b h = cc

pub of_is : (e : Entity) (b : Bit) → IsBitOf e b → is_bit_of e b ≡ true
of_is (Constant bits signed) b i = absurd i
of_is (Signal id range signed) b i = and_from (nat_eq id b.signal) (nat_lt b.place (range_width range)) (eq-eqb id b.signal (sym i.0)) (lt-ltb b.place (range_width range) i.1)
of_is (Memory first low words range signed) b i = rw (le-ltb b.signal first i.0, lt-ltb b.signal (first + words) i.1, lt-ltb b.place (range_width range) i.2) refl
of_is Instance b i = absurd i

pub bit_of : (e : Entity) (b : Bit) → is_bit_of e b ≡ true → IsBitOf e b
bit_of e b h = (is_of e b h).0

pub whole_has : (e : Entity) (b : Bit) → is_memory e ≡ false → has_bit (bits_there e (pos 0) (entity_shape e).width) b ≡ is_bit_of e b
whole_has e b m =
    same_truth (has_bit (bits_there e (pos 0) (entity_shape e).width) b) (is_bit_of e b)
    (λ h. of_is e b (has_there e (pos 0) (entity_shape e).width b h).0)
    (λ h. let r = is_of e b h in there_has e (pos 0) (entity_shape e).width b m r.0 r.1)
