-- Lists of bits, the bits of names, and how many a target names.
use Rattle.std.proofs.Common.{◌≡◌, ℕ, zero, suc, ◌+◌, ◌<◌, ◌≤◌, List, [], ◌∷◌, ◌++◌, length, length-append, map, get_or, Bool, true, false, cond, ◌||◌, nat_eq, nat_lt, Option, Some, None, refl, ap, ◌∙◌, sym, subst, arith, ◌⊎◌, inl, inr, ℤ, pos, ◌+ℤ◌, ◌-ℤ◌, int_lt, unsigned_abs}
use Rattle.std.specs.List.{range_with_len}
use Rattle.std.proofs.lemmas.Bool.{cases_Bool, and_parts, and_from, eqb-true, eq-eqb, ltb-true, lt-ltb, le-ltb, both_ways, or_cases}
use Rattle.rr_syntax.specs.Tree.{Tree, Trees, Name, Literal, Bit as BitSelect, Part, Indexed, Unary, Binary, Cond, Concat, Repeat, Cast, Paren, End, More}
use Rattle.rr_expr.specs.declared.types.Bit.{Bit}
use Rattle.rr_expr.specs.declared.types.Entity.{Entity}
use Rattle.rr_expr.specs.declared.types.Entity.TheVariants.{Constant, Signal, Memory, Instance}
use Rattle.rr_expr.specs.Faults.{constant_count}
use Rattle.rr_expr.specs.Memories.{word_at, word_signal, word_bits, index_shape}
use Rattle.rr_expr.specs.Reading.{IsWordBit}
use Rattle.rr_expr.specs.Scopes.{Names, meant, entity_range, range_width}
use Rattle.rr_expr.specs.Selects.{place}
use Rattle.rr_expr.proofs.MemoryWords.{length_word_bits, word_bit_there, is_word_bit}
use Rattle.rr_flat.specs.Targets.{same_bit, has_bit, is_bit_of, bit_there, bits_there, index_bits, target_bits, targets_bits}

abbrev pub bit_at : ℕ → ℕ → Bit
bit_at s p = record { signal = s; place = p }

pub bit_eq : (a b : Bit) → a.signal ≡ b.signal → a.place ≡ b.place → a ≡ b
bit_eq a b h k = ap (λ (s : ℕ). bit_at s a.place) h ∙ ap (λ (p : ℕ). bit_at b.signal p) k

pub same_is : (a b : Bit) → same_bit a b ≡ true → a ≡ b
same_is a b h =
    let p = and_parts (nat_eq a.signal b.signal) (nat_eq a.place b.place) h in
    bit_eq a b (eqb-true a.signal b.signal p.0) (eqb-true a.place b.place p.1)

pub is_same : (a b : Bit) → a ≡ b → same_bit a b ≡ true
is_same a b h = and_from (nat_eq a.signal b.signal) (nat_eq a.place b.place) (eq-eqb a.signal b.signal (ap (λ (x : Bit). x.signal) h)) (eq-eqb a.place b.place (ap (λ (x : Bit). x.place) h))

pub cases_bit : (a b : Bit) → (a ≡ b) ⊎ (a ≡ b → ⊥)
cases_bit a b = elim (cases_Bool (same_bit a b)) [
  | inl t ↦ inl (same_is a b t)
  | inr t ↦ inr (λ q. both_ways (same_bit a b) t (is_same a b q))
]

abbrev pub or_no_bit : Option Bit → Bit → Bit
or_no_bit None d = d
or_no_bit (Some b) d = b

pub some_bit : (a b : Bit) → Some a ≡ Some b → a ≡ b
some_bit a b h = ap (λ (o : Option Bit). or_no_bit o a) h

pub cases_place : (o : Option Bit) (b : Bit) → (o ≡ Some b) ⊎ (o ≡ Some b → ⊥)
cases_place None b = inr (λ h. cc)
cases_place (Some a) b = elim (cases_bit a b) [ inl q ↦ inl (ap Some q) | inr q ↦ inr (λ h. q (some_bit a b h)) ]

pub missed : (b : Bool) → (b ≡ true → ⊥) → b ≡ false
missed true h = absurd (h refl)
missed false h = refl

pub or_none : (x y : Bool) → (x || y) ≡ false → (x ≡ false) × (y ≡ false)
or_none true y h = absurd (both_ways true h refl)
or_none false y h = (refl, h)

pub or_left : (x y : Bool) → x ≡ true → (x || y) ≡ true
or_left true y h = refl
or_left false y h = absurd (both_ways false refl h)

pub or_right : (x y : Bool) → y ≡ true → (x || y) ≡ true
or_right true y h = refl
or_right false y h = h

pub has_append : (ps qs : List (Option Bit)) (b : Bit) → has_bit (ps ++ qs) b ≡ (has_bit ps b || has_bit qs b)
unfolding has_bit
has_append [] qs b = refl
has_append (None ∷ ps) qs b = has_append ps qs b
has_append (Some a ∷ ps) qs b = rw (has_append ps qs b) (or_assoc (same_bit a b) (has_bit ps b) (has_bit qs b))
  where
    or_assoc : (x y z : Bool) → (x || (y || z)) ≡ ((x || y) || z)
    or_assoc true y z = refl
    or_assoc false y z = refl

-- a bit that is written stands at a place, and one at a place is written
pub has_place : (ps : List (Option Bit)) (b : Bit) → has_bit ps b ≡ true → (i : ℕ) × (get_or ps i None ≡ Some b)
unfolding has_bit
has_place [] b h = absurd (both_ways false refl h)
has_place (None ∷ ps) b h = let r = has_place ps b h in (suc r.0, r.1)
has_place (Some a ∷ ps) b h = elim (cases_Bool (same_bit a b)) [
  | inl t ↦ (0, ap Some (same_is a b t))
  | inr t ↦ let r = has_place ps b (rw t at h) in (suc r.0, r.1)
]

pub place_has : (ps : List (Option Bit)) (b : Bit) (i : ℕ) → get_or ps i None ≡ Some b → has_bit ps b ≡ true
unfolding has_bit
place_has [] b i h = cc
place_has (None ∷ ps) b zero h = cc
place_has (None ∷ ps) b (suc i) h = place_has ps b i h
place_has (Some a ∷ ps) b zero h = or_left (same_bit a b) (has_bit ps b) (is_same a b (some_bit a b h))
place_has (Some a ∷ ps) b (suc i) h = or_right (same_bit a b) (has_bit ps b) (place_has ps b i h)

pub place_inside : (ps : List (Option Bit)) (b : Bit) (i : ℕ) → get_or ps i None ≡ Some b → i < length ps
place_inside [] b i h = cc
place_inside (p ∷ ps) b zero h = omega arith
place_inside (p ∷ ps) b (suc i) h = let l = place_inside ps b i h in omega arith

-- a bit that is there is one of its name
pub bit_is_of : (e : Entity) (p : ℤ) (b : Bit) → bit_there e p ≡ Some b → is_bit_of e b ≡ true
bit_is_of (Constant bits signed) p b h = cc
bit_is_of (Memory first low words range signed) p b h = cc
bit_is_of Instance p b h = cc
bit_is_of (Signal id range signed) p b h = elim (cases_Bool (int_lt p (pos 0))) [
  | inl t ↦ absurd (let g : None ≡ Some b = rw t at h in cc)
  | inr t ↦ elim (cases_Bool (nat_lt (unsigned_abs p) (range_width range))) [
    | inl u ↦ let g : Some (record { signal = id; place = unsigned_abs p }) ≡ Some b = rw (t, u) at h in here g u
    | inr u ↦ absurd (let g : None ≡ Some b = rw (t, u) at h in cc)
  ]
]
  where
    here : Some (record { signal = id; place = unsigned_abs p }) ≡ Some b → nat_lt (unsigned_abs p) (range_width range) ≡ true → is_bit_of (Signal id range signed) b ≡ true
    here g u = subst (λ c. is_bit_of (Signal id range signed) c ≡ true) (some_bit (record { signal = id; place = unsigned_abs p }) b g) (and_from (nat_eq id id) (nat_lt (unsigned_abs p) (range_width range)) (eq-eqb id id refl) u)

pub one_bit : (o : Option Bit) (b : Bit) → has_bit (o ∷ []) b ≡ true → o ≡ Some b
unfolding has_bit
one_bit None b h = absurd (both_ways false refl h)
one_bit (Some a) b h = elim (or_cases (same_bit a b) false h) [ inl t ↦ ap Some (same_is a b t) | inr t ↦ absurd (both_ways false refl t) ]

pub has_one : (e : Entity) (p : ℤ) (b : Bit) → has_bit (bit_there e p ∷ []) b ≡ true → bit_there e p ≡ Some b
has_one e p b h = one_bit (bit_there e p) b h

pub one_of_name : (e : Entity) (p : ℤ) (b : Bit) → has_bit (bit_there e p ∷ []) b ≡ true → is_bit_of e b ≡ true
one_of_name e p b h = bit_is_of e p b (has_one e p b h)

pub bits_of_name : (e : Entity) (p : ℤ) (n : ℕ) (b : Bit) → has_bit (bits_there e p n) b ≡ true → is_bit_of e b ≡ true
unfolding bits_there has_bit
bits_of_name e p zero b h = absurd (both_ways false refl h)
bits_of_name e p (suc n) b h =
    elim (or_cases (has_bit (bit_there e p ∷ []) b) (has_bit (bits_there e (p +ℤ pos 1) n) b) (sym (has_append (bit_there e p ∷ []) (bits_there e (p +ℤ pos 1) n) b) ∙ h)) [
      | inl t ↦ one_of_name e p b t
      | inr t ↦ bits_of_name e (p +ℤ pos 1) n b t
    ]

-- the words of memories: as runs of places, a word of a signal that there is as all its places

there_is : (id : ℕ) (range : Option (ℕ × ℕ)) (signed : Bool) (m : ℕ) → m < range_width range → bit_there (Signal id range signed) (pos m) ≡ Some (bit_at id m)
there_is id range signed m h = rw (le-ltb m 0 (omega arith), lt-ltb m (range_width range) h) refl

run_from : (id : ℕ) (range : Option (ℕ × ℕ)) (signed : Bool) (a n : ℕ) → a + n ≤ range_width range → map (λ (i : ℕ). Some (bit_at id i)) (range_with_len a n) ≡ bits_there (Signal id range signed) (pos a) n
unfolding bits_there
run_from id range signed a zero h = refl
run_from id range signed a (suc n) h =
    let e : Some (bit_at id a) ≡ bit_there (Signal id range signed) (pos a) = sym (there_is id range signed a (omega (arith, h))) in
    let r = run_from id range signed (a + 1) n (omega (arith, h)) in
    λ i. e i ∷ r i

pub word_run : (range : Option (ℕ × ℕ)) (id : ℕ) (signed : Bool) → word_bits range (Some id) ≡ bits_there (Signal id range signed) (pos 0) (range_width range)
word_run range id signed = run_from id range signed 0 (range_width range) (omega arith)

none_from : (a n : ℕ) (p : ℤ) → map (λ (i : ℕ). None) (range_with_len a n) ≡ bits_there Instance p n
unfolding bits_there
none_from a zero p = refl
none_from a (suc n) p = ap (λ z. None ∷ z) (none_from (a + 1) n (p +ℤ pos 1))

pub no_word_run : (range : Option (ℕ × ℕ)) (p : ℤ) → word_bits range None ≡ bits_there Instance p (range_width range)
no_word_run range p = none_from 0 (range_width range) p

-- the bits of a word

pub has_word : (range : Option (ℕ × ℕ)) (word : Option ℕ) (b : Bit) → has_bit (word_bits range word) b ≡ true → IsWordBit range word b
has_word range word b h =
    let p = has_place (word_bits range word) b h in
    (is_word_bit range word p.0 b p.1).0

pub word_has : (range : Option (ℕ × ℕ)) (word : Option ℕ) (b : Bit) → IsWordBit range word b → has_bit (word_bits range word) b ≡ true
word_has range word b w = place_has (word_bits range word) b b.place (word_bit_there range word b w)

-- a word that has an index is one of the memory
pub word_below : (low words : ℕ) (i : ℤ) (k : ℕ) → word_at low words i ≡ Some k → k < words
word_below low words i k h = go (int_lt i (pos low)) (nat_lt (unsigned_abs (i -ℤ pos low)) words) refl h
  where
    go : (t u : Bool) → nat_lt (unsigned_abs (i -ℤ pos low)) words ≡ u → cond t None (cond u (Some (unsigned_abs (i -ℤ pos low))) None) ≡ Some k → k < words
    go true u f e = cc
    go false false f e = cc
    go false true f e =
        let q : unsigned_abs (i -ℤ pos low) ≡ k = cc in
        let l : unsigned_abs (i -ℤ pos low) < words = ltb-true (unsigned_abs (i -ℤ pos low)) words f in
        rw q at l

word_of_name : (first low words : ℕ) (range : Option (ℕ × ℕ)) (signed : Bool) (i : ℤ) (b : Bit) → has_bit (word_bits range (word_signal first (word_at low words i))) b ≡ true
    → is_bit_of (Memory first low words range signed) b ≡ true
word_of_name first low words range signed i b h = go (word_at low words i) refl h
  where
    go : (o : Option ℕ) → word_at low words i ≡ o → has_bit (word_bits range (word_signal first o)) b ≡ true → is_bit_of (Memory first low words range signed) b ≡ true
    go None e t = absurd (has_word range None b t)
    go (Some k) e t =
        let w = has_word range (Some (first + k)) b t in
        let l : k < words = word_below low words i k e in
        rw (le-ltb b.signal first (omega (arith, w.0)), lt-ltb b.signal (first + words) (omega (arith, w.0, l)), lt-ltb b.place (range_width range) w.1) refl

pub index_of_name : (e : Entity) (i : ℤ) (b : Bit) → has_bit (index_bits e i) b ≡ true → is_bit_of e b ≡ true
index_of_name (Constant bits signed) i b h = one_of_name (Constant bits signed) (place (entity_range (Constant bits signed)) i) b h
index_of_name (Signal id range signed) i b h = one_of_name (Signal id range signed) (place (entity_range (Signal id range signed)) i) b h
index_of_name (Memory first low words range signed) i b h = word_of_name first low words range signed i b h
index_of_name Instance i b h = one_of_name Instance (place (entity_range Instance) i) b h

-- as many bits whatever the indices are

pub there_length : (e : Entity) (p : ℤ) (n : ℕ) → length (bits_there e p n) ≡ n
unfolding bits_there
there_length e p zero = refl
there_length e p (suc n) = ap suc (there_length e (p +ℤ pos 1) n)

pub index_length : (e : Entity) (i : ℤ) → length (index_bits e i) ≡ (index_shape e).width
index_length (Constant bits signed) i = refl
index_length (Signal id range signed) i = refl
index_length (Memory first low words range signed) i = length_word_bits range (word_signal first (word_at low words i))
index_length Instance i = refl

mutual
  unfolding target_bits

  pub target_length : (s : Names) (env other : Bit → Bool) (t : Tree) → length (target_bits s env t) ≡ length (target_bits s other t)
  target_length s env other (Name token name) = refl
  target_length s env other (Literal token n) = refl
  target_length s env other (BitSelect token name i) = index_length (meant s name) _ ∙ sym (index_length (meant s name) _)
  target_length s env other (Part token name l r) = refl
  target_length s env other (Indexed token name f n up) = there_length (meant s name) _ (constant_count s n) ∙ sym (there_length (meant s name) _ (constant_count s n))
  target_length s env other (Unary op t) = refl
  target_length s env other (Binary op l r) = refl
  target_length s env other (Cond a b c) = refl
  target_length s env other (Concat ts) = targets_length s env other ts
  target_length s env other (Repeat n ts) = refl
  target_length s env other (Cast signed t) = refl
  target_length s env other (Paren t) = refl

  pub targets_length : (s : Names) (env other : Bit → Bool) (ts : Trees) → length (targets_bits s env ts) ≡ length (targets_bits s other ts)
  targets_length s env other End = refl
  targets_length s env other (More t ts) =
      let here = target_length s env other t in
      let rest = targets_length s env other ts in
      omega (arith, here, rest, length-append (targets_bits s env ts) (target_bits s env t), length-append (targets_bits s other ts) (target_bits s other t))
