-- words of memories, and what indices read and name
use Rattle.std.proofs.Common.{◌≡◌, ℕ, ◌+◌, ◌-◌, ◌<◌, ◌≤◌, ◌⊎◌, inl, inr, Bool, true, false, cond, map, length, get_or, Option, Some, None, refl, sym, ◌∙◌, ap, arith, ℤ, pos, ◌-ℤ◌, int_lt, nat_lt, unsigned_abs}
use Rattle.std.specs.List.{range_with_len}
use Rattle.std.proofs.lemmas.Bool.{cases_lt, lt-ltb, le-ltb, ltb-true}
use Rattle.std.proofs.lemmas.Int.{ints}
use Rattle.std.proofs.lemmas.List.{get_or_past, length-map}
use Rattle.std.proofs.lemmas.List.FromFn.{length-map-range_with_len, get_or-map-range_with_len}
use Rattle.std.proofs.lemmas.Simd.{map-map}
use Rattle.rr_bits.specs.Words.{word, tabulate}
use Rattle.rr_bits.proofs.Places.{length_tabulate, word_tabulated, has_zero}
use Rattle.rr_expr.specs.declared.types.Bit.{Bit}
use Rattle.rr_expr.specs.declared.types.Entity.{Entity}
use Rattle.rr_expr.specs.declared.types.Entity.TheVariants.{Constant, Signal, Memory, Instance}
use Rattle.rr_expr.specs.Scopes.{range_width}
use Rattle.rr_expr.specs.Memories.{word_at, word_signal, word_bits, bit_value, index_shape, index_value}
use Rattle.rr_expr.specs.Reading.{IsBitOf, IsWordBit, NamesIndex}

pub zero_word : (w : ℕ) → word w 0 ≡ tabulate w (λ i. false)
zero_word w = word_tabulated w 0 (λ i. false) (λ i k. has_zero i)

pub no_word_value : (env : Bit → Bool) (range : Option (ℕ × ℕ)) → map (bit_value env) (word_bits range None) ≡ tabulate (range_width range) (λ i. false)
unfolding tabulate
no_word_value env range = map-map (bit_value env) (λ (i : ℕ). None) (range_with_len 0 (range_width range))

pub some_word_value : (env : Bit → Bool) (range : Option (ℕ × ℕ)) (id : ℕ) → map (bit_value env) (word_bits range (Some id)) ≡ tabulate (range_width range) (λ i. env (record { signal = id; place = i }))
unfolding tabulate
some_word_value env range id = map-map (bit_value env) (λ (i : ℕ). Some (record { signal = id; place = i })) (range_with_len 0 (range_width range))

pub length_word_bits : (range : Option (ℕ × ℕ)) (word : Option ℕ) → length (word_bits range word) ≡ range_width range
length_word_bits range None = length-map-range_with_len {X = Option Bit} (λ i. None) 0 (range_width range)
length_word_bits range (Some id) = length-map-range_with_len {X = Option Bit} (λ i. Some (record { signal = id; place = i })) 0 (range_width range)

pub length_index_value : (env : Bit → Bool) (e : Entity) (i : ℤ) → length (index_value env e i) ≡ (index_shape e).width
length_index_value env (Constant bits signed) i = length_tabulate 1 _
length_index_value env (Signal id range signed) i = length_tabulate 1 _
length_index_value env (Memory first low words range signed) i = length-map (word_bits range (word_signal first (word_at low words i))) (bit_value env) ∙ length_word_bits range (word_signal first (word_at low words i))
length_index_value env Instance i = length_tabulate 1 _

pub get_word_bit : (range : Option (ℕ × ℕ)) (id i : ℕ) (d : Option Bit) → i < range_width range → get_or (word_bits range (Some id)) i d ≡ Some (record { signal = id; place = i })
get_word_bit range id i d l = get_or-map-range_with_len {X = Option Bit} (λ n. Some (record { signal = id; place = n })) 0 (range_width range) i i d l (omega arith)

pub get_no_bit : (range : Option (ℕ × ℕ)) (i : ℕ) → get_or (word_bits range None) i None ≡ None
get_no_bit range i = by_cases (cases_lt i (range_width range))
  where
    by_cases : ((i < range_width range) ⊎ (range_width range ≤ i)) → get_or (word_bits range None) i None ≡ None
    by_cases (inl l) = get_or-map-range_with_len {X = Option Bit} (λ n. None) 0 (range_width range) i i None l (omega arith)
    by_cases (inr l) = get_or_past (word_bits range None) i None (rw (length_word_bits range None) l)

-- a list of a word's bits has each at its place, and no other
pub word_bit_there : (range : Option (ℕ × ℕ)) (word : Option ℕ) (b : Bit) → IsWordBit range word b → get_or (word_bits range word) b.place None ≡ Some b
word_bit_there range None b h = absurd h
word_bit_there range (Some id) b h = get_word_bit range id b.place None h.1 ∙ ap (λ (n : ℕ). Some (record { signal = n; place = b.place })) (sym h.0)

bit_or_first : Option Bit → Bit
bit_or_first None = record { signal = 0; place = 0 }
bit_or_first (Some b) = b

pub is_word_bit : (range : Option (ℕ × ℕ)) (word : Option ℕ) (i : ℕ) (b : Bit) → get_or (word_bits range word) i None ≡ Some b → IsWordBit range word b × (b.place ≡ i)
unfolding bit_or_first
is_word_bit range None i b h = let e = get_no_bit range i in cc
is_word_bit range (Some id) i b h = by_cases (cases_lt i (range_width range))
  where
    by_cases : ((i < range_width range) ⊎ (range_width range ≤ i)) → IsWordBit range (Some id) b × (b.place ≡ i)
    by_cases (inl l) =
        let e : record { signal = id; place = i } ≡ b = ap bit_or_first (sym (get_word_bit range id i None l) ∙ h) in
        let s : id ≡ b.signal = ap (λ (c : Bit). c.signal) e in
        let p : i ≡ b.place = ap (λ (c : Bit). c.place) e in
        ((sym s, omega (arith, p, l)), sym p)
    by_cases (inr l) = let e = get_or_past (word_bits range (Some id)) i None (rw (length_word_bits range (Some id)) l) in cc

-- the words that indices name
pub word_below : (low words : ℕ) (i : ℤ) (k : ℕ) → word_at low words i ≡ Some k → k < words
word_below low words i k h = go (int_lt i (pos low)) (nat_lt (unsigned_abs (i -ℤ pos low)) words) refl h
  where
    go : (a b : Bool) → nat_lt (unsigned_abs (i -ℤ pos low)) words ≡ b → cond a None (cond b (Some (unsigned_abs (i -ℤ pos low))) None) ≡ Some k → k < words
    go true b e g = cc
    go false true e g = let n : unsigned_abs (i -ℤ pos low) ≡ k = cc in rw n at (ltb-true (unsigned_abs (i -ℤ pos low)) words e)
    go false false e g = cc

pub word_index : (low words : ℕ) (i : ℤ) (k : ℕ) → word_at low words i ≡ Some k → i ≡ pos (low + k)
word_index low words i k h = go (int_lt i (pos low)) (nat_lt (unsigned_abs (i -ℤ pos low)) words) refl h
  where
    go : (a b : Bool) → int_lt i (pos low) ≡ a → cond a None (cond b (Some (unsigned_abs (i -ℤ pos low))) None) ≡ Some k → i ≡ pos (low + k)
    go true b e g = cc
    go false true e g = let n : unsigned_abs (i -ℤ pos low) ≡ k = cc in grind (arith, ints)
    go false false e g = cc

pub word_there : (low words k : ℕ) → k < words → word_at low words (pos (low + k)) ≡ Some k
word_there low words k l =
    let a : int_lt (pos (low + k)) (pos low) ≡ false = le-ltb (low + k) low (omega arith) in
    let n : unsigned_abs (pos (low + k) -ℤ pos low) ≡ k = grind (arith, ints) in
    rw (a, n, lt-ltb k words l) refl

pub word_of_memory : (first low words : ℕ) (range : Option (ℕ × ℕ)) (signed : Bool) (i : ℤ) (b : Bit) → IsWordBit range (word_signal first (word_at low words i)) b → IsBitOf (Memory first low words range signed) b
word_of_memory first low words range signed i b h = go (word_at low words i) refl h
  where
    go : (o : Option ℕ) → word_at low words i ≡ o → IsWordBit range (word_signal first o) b → IsBitOf (Memory first low words range signed) b
    go None e g = absurd g
    go (Some k) e g = let l = word_below low words i k e in (omega (arith, g.0), omega (arith, l, g.0), g.1)

pub memory_of_word : (first low words : ℕ) (range : Option (ℕ × ℕ)) (signed : Bool) (b : Bit) → IsBitOf (Memory first low words range signed) b → IsWordBit range (word_signal first (word_at low words (pos (low + (b.signal - first))))) b
memory_of_word first low words range signed b h =
    let n : b.signal ≡ first + (b.signal - first) = omega (arith, h.0) in
    rw (word_there low words (b.signal - first) (omega (arith, h.0, h.1))) (n, h.2)

-- a constant index names bits of its name
pub index_within : (e : Entity) (i : ℤ) (index : Type 0) (b : Bit) → NamesIndex true e i index b → IsBitOf e b
index_within (Constant bits signed) i index b h = h.0
index_within (Signal id range signed) i index b h = h.0
index_within (Memory first low words range signed) i index b h = word_of_memory first low words range signed i b h
index_within Instance i index b h = h.0

-- any other all of them, and those of the index
pub names_any : (e : Entity) (i : ℤ) (index : Type 0) (b : Bit) → (IsBitOf e b ⊎ index) → NamesIndex false e i index b
names_any (Constant bits signed) i index b h = h
names_any (Signal id range signed) i index b h = h
names_any (Memory first low words range signed) i index b h = h
names_any Instance i index b h = h

pub any_named : (e : Entity) (i : ℤ) (index : Type 0) (b : Bit) → NamesIndex false e i index b → IsBitOf e b ⊎ index
any_named (Constant bits signed) i index b h = h
any_named (Signal id range signed) i index b h = h
any_named (Memory first low words range signed) i index b h = h
any_named Instance i index b h = h

-- either way
pub index_among : (k : Bool) (e : Entity) (i : ℤ) (index : Type 0) (b : Bit) → NamesIndex k e i index b → IsBitOf e b ⊎ index
index_among true e i index b h = inl (index_within e i index b h)
index_among false e i index b h = any_named e i index b h
