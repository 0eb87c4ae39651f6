-- a bit of a wiring side stands on the bit that it takes alone
use Rattle.std.proofs.Common.{◌≡◌, ℕ, zero, suc, ◌-◌, ◌<◌, ◌≤◌, List, [], ◌∷◌, ◌++◌, length, get_or, map, Bool, true, false, cond, ◌&&◌, Option, Some, None, refl, ap, ◌∙◌, sym, subst, arith, ◌⊎◌, inl, inr, ℤ, pos, negsuc, ◌+ℤ◌, length-append}
use Rattle.std.proofs.Math.IntN.{+ℤ_assoc}
use Rattle.std.proofs.lemmas.Int.{ints}
use Rattle.std.proofs.lemmas.Bool.{cases_lt, and_parts, both_ways, lt-ltb, le-ltb}
use Rattle.std.proofs.lemmas.List.{get_or_append_left, get_or-append_right, get_or_past, get_or-map, length-map}
use Rattle.rr_bits.specs.Words.{word, tabulate, extend, select, top, bit_in}
use Rattle.rr_bits.proofs.Places.{get_tabulate, length_tabulate}
use Rattle.rr_syntax.specs.Tree.{Tree, Trees, Name, Literal, Bit as BitSelect, Part, Indexed, Unary, Binary, Cond, Concat, Repeat, Cast, Paren, End, More}
use Rattle.rr_expr.specs.declared.types.Bit.{Bit}
use Rattle.rr_expr.specs.declared.types.Entity.{Entity}
use Rattle.rr_expr.specs.declared.types.Entity.TheVariants.{Constant, Signal, Memory, Instance}
use Rattle.rr_expr.specs.Faults.{constant_count, constant_span}
use Rattle.rr_expr.specs.Memories.{bit_value, word_at, word_signal, word_bits, index_value}
use Rattle.rr_expr.specs.Scopes.{Names, meant, entity_shape, entity_range, entity_value, range_width}
use Rattle.rr_expr.specs.Selects.{place, lowest_place, integer_with}
use Rattle.rr_expr.specs.Values.{form, widths, value, values, own, nowhere}
use Rattle.rr_expr.proofs.MemoryWords.{length_index_value}
use Rattle.rr_flat.specs.Plain.{Side, Written, Whole, Flat}
use Rattle.rr_flat.specs.Targets.{bit_there, bits_there, index_bits, target_bits}
use Rattle.rr_flat.specs.Writers.{scope_at, signal_bits, is_wiring, are_wiring, nothing, taken, all_taken, side_is_wiring, side_taken, taken_at}
pub use Rattle.rr_flat.proofs.Bits.{there_length as length_there}
use Rattle.rr_cycle.specs.Cycles.{signal_value, side_value}
use Rattle.rr_cycle.specs.Exec.{Environment}
use Rattle.rr_cycle.proofs.TargetBits.{index_fixed}

-- two words whose bits stand on these bits, place by place
pub record Takes (xs ys : List Bool) (bits : List (Option Bit)) (e f : Environment) : Type 0 where
  pub first : length xs ≡ length bits
  pub second : length ys ≡ length bits
  pub same : (j : ℕ) → ((c : Bit) → get_or bits j None ≡ Some c → e c ≡ f c) → get_or xs j false ≡ get_or ys j false

pub there_at : (e : Entity) (p : ℤ) (n j : ℕ) → j < n → get_or (bits_there e p n) j None ≡ bit_there e (p +ℤ pos j)
unfolding bits_there
there_at e p zero j l = absurd (omega arith)
there_at e p (suc n) zero l = ap (bit_there e) (zero_right p)
  where
    zero_right : (p : ℤ) → p ≡ p +ℤ pos 0
    zero_right p = omega (arith, ints)
there_at e p (suc n) (suc j) l = there_at e (p +ℤ pos 1) n j (omega arith) ∙ ap (bit_there e) (+ℤ_assoc p (pos 1) (pos j) ∙ ap (λ (k : ℕ). p +ℤ pos k) (omega arith))

-- one bit of a name
name_bit : (m : Entity) (z : ℤ) (e f : Environment) → ((c : Bit) → bit_there m z ≡ Some c → e c ≡ f c) → bit_in (entity_value e m) z ≡ bit_in (entity_value f m) z
name_bit (Constant bits signed) z e f h = refl
name_bit (Memory first low words range signed) z e f h = refl
name_bit Instance z e f h = refl
name_bit (Signal id range signed) (negsuc n) e f h = refl
name_bit (Signal id range signed) (pos n) e f h = by_cases (cases_lt n (range_width range))
  where
    by_cases : ((n < range_width range) ⊎ (range_width range ≤ n)) →
        get_or (tabulate (range_width range) (λ i. e (record { signal = id; place = i }))) n false ≡ get_or (tabulate (range_width range) (λ i. f (record { signal = id; place = i }))) n false
    by_cases (inl l) =
        let b : Bit = record { signal = id; place = n } in
        let t : bit_there (Signal id range signed) (pos n) ≡ Some b = rw (le-ltb n 0 (omega arith), lt-ltb n (range_width range) l) refl in
        get_tabulate (range_width range) n (λ i. e (record { signal = id; place = i })) false l ∙ h b t ∙ sym (get_tabulate (range_width range) n (λ i. f (record { signal = id; place = i })) false l)
    by_cases (inr l) =
        get_or_past (tabulate (range_width range) (λ i. e (record { signal = id; place = i }))) n false (rw (length_tabulate (range_width range) (λ i. e (record { signal = id; place = i }))) l)
        ∙ sym (get_or_past (tabulate (range_width range) (λ i. f (record { signal = id; place = i }))) n false (rw (length_tabulate (range_width range) (λ i. f (record { signal = id; place = i }))) l))

length_entity : (m : Entity) (e : Environment) → length (entity_value e m) ≡ (entity_shape m).width
length_entity (Constant bits signed) e = refl
length_entity (Signal id range signed) e = length_tabulate (range_width range) (λ i. e (record { signal = id; place = i }))
length_entity (Memory first low words range signed) e = length_tabulate (range_width range) (λ i. false)
length_entity Instance e = refl

zero_left : (n : ℕ) → pos 0 +ℤ pos n ≡ pos n
zero_left n = ap pos (omega arith)

whole_name : (m : Entity) (e f : Environment) → Takes (entity_value e m) (entity_value f m) (bits_there m (pos 0) (entity_shape m).width) e f
whole_name m e f =
    let w = (entity_shape m).width in
    let n : length (bits_there m (pos 0) w) ≡ w = length_there m (pos 0) w in
    record {
      first = length_entity m e ∙ sym n;
      second = length_entity m f ∙ sym n;
      same = λ j h. by_cases j h (cases_lt j w);
    }
  where
    by_cases : (j : ℕ) → ((c : Bit) → get_or (bits_there m (pos 0) (entity_shape m).width) j None ≡ Some c → e c ≡ f c) → ((j < (entity_shape m).width) ⊎ ((entity_shape m).width ≤ j)) →
        get_or (entity_value e m) j false ≡ get_or (entity_value f m) j false
    by_cases j h (inl l) = name_bit m (pos j) e f (λ c q. h c (there_at m (pos 0) (entity_shape m).width j l ∙ ap (bit_there m) (zero_left j) ∙ q))
    by_cases j h (inr l) = get_or_past (entity_value e m) j false (rw (length_entity m e) l) ∙ sym (get_or_past (entity_value f m) j false (rw (length_entity m f) l))

selected : (m : Entity) (p : ℤ) (n : ℕ) (e f : Environment) → Takes (select (entity_value e m) p n) (select (entity_value f m) p n) (bits_there m p n) e f
selected m p n e f =
    let x : ℕ → Bool = λ i. bit_in (entity_value e m) (p +ℤ pos i) in
    let y : ℕ → Bool = λ i. bit_in (entity_value f m) (p +ℤ pos i) in
    record {
      first = length_tabulate n x ∙ sym (length_there m p n);
      second = length_tabulate n y ∙ sym (length_there m p n);
      same = λ j h. by_cases j h (cases_lt j n);
    }
  where
    by_cases : (j : ℕ) → ((c : Bit) → get_or (bits_there m p n) j None ≡ Some c → e c ≡ f c) → ((j < n) ⊎ (n ≤ j)) → get_or (select (entity_value e m) p n) j false ≡ get_or (select (entity_value f m) p n) j false
    by_cases j h (inl l) =
        get_tabulate n j (λ i. bit_in (entity_value e m) (p +ℤ pos i)) false l
        ∙ name_bit m (p +ℤ pos j) e f (λ c q. h c (there_at m p n j l ∙ q))
        ∙ sym (get_tabulate n j (λ i. bit_in (entity_value f m) (p +ℤ pos i)) false l)
    by_cases j h (inr l) =
        get_or_past (select (entity_value e m) p n) j false (rw (length_tabulate n (λ i. bit_in (entity_value e m) (p +ℤ pos i))) l)
        ∙ sym (get_or_past (select (entity_value f m) p n) j false (rw (length_tabulate n (λ i. bit_in (entity_value f m) (p +ℤ pos i))) l))

same_bits : (e f : Environment) (o : Option Bit) → ((c : Bit) → o ≡ Some c → e c ≡ f c) → bit_value e o ≡ bit_value f o
same_bits e f None h = refl
same_bits e f (Some c) h = h c refl

mapped : (bits : List (Option Bit)) (e f : Environment) → Takes (map (bit_value e) bits) (map (bit_value f) bits) bits e f
mapped bits e f = record {
  first = length-map bits (bit_value e);
  second = length-map bits (bit_value f);
  same = λ j h. by_cases j h (cases_lt j (length bits));
}
  where
    by_cases : (j : ℕ) → ((c : Bit) → get_or bits j None ≡ Some c → e c ≡ f c) → ((j < length bits) ⊎ (length bits ≤ j)) → get_or (map (bit_value e) bits) j false ≡ get_or (map (bit_value f) bits) j false
    by_cases j h (inl l) = get_or-map (bit_value e) bits j None false l ∙ same_bits e f (get_or bits j None) h ∙ sym (get_or-map (bit_value f) bits j None false l)
    by_cases j h (inr l) =
        get_or_past (map (bit_value e) bits) j false (rw (length-map bits (bit_value e)) l) ∙ sym (get_or_past (map (bit_value f) bits) j false (rw (length-map bits (bit_value f)) l))

-- what an index reads
indexed : (m : Entity) (z : ℤ) (e f : Environment) → Takes (index_value e m z) (index_value f m z) (index_bits m z) e f
unfolding bits_there
indexed (Constant bits signed) z e f = selected (Constant bits signed) (place (entity_range (Constant bits signed)) z) 1 e f
indexed (Signal id range signed) z e f = selected (Signal id range signed) (place (entity_range (Signal id range signed)) z) 1 e f
indexed (Memory first low words range signed) z e f = mapped (word_bits range (word_signal first (word_at low words z))) e f
indexed Instance z e f = selected Instance (place (entity_range Instance) z) 1 e f

indexed_by : (m : Entity) (x y z : ℤ) (e f : Environment) → x ≡ z → y ≡ z → Takes (index_value e m x) (index_value f m y) (index_bits m z) e f
indexed_by m x y z e f p q =
    subst (λ (u : ℤ). Takes (index_value e m u) (index_value f m y) (index_bits m z) e f) (sym p) (subst (λ (u : ℤ). Takes (index_value e m z) (index_value f m u) (index_bits m z) e f) (sym q) (indexed m z e f))

-- a word that stands on no bit
fixed : (xs : List Bool) (bits : List (Option Bit)) (e f : Environment) → length xs ≡ length bits → Takes xs xs bits e f
fixed xs bits e f h = record { first = h; second = h; same = λ j k. refl }

joined_words : (xs ys us vs : List Bool) (p q : List (Option Bit)) (e f : Environment) → Takes xs ys p e f → Takes us vs q e f → Takes (xs ++ us) (ys ++ vs) (p ++ q) e f
joined_words xs ys us vs p q e f t u = record {
  first = length-append xs us ∙ omega (arith, length-append p q, t.first, u.first);
  second = length-append ys vs ∙ omega (arith, length-append p q, t.second, u.second);
  same = λ j h. by_cases j h (cases_lt j (length p));
}
  where
    by_cases : (j : ℕ) → ((c : Bit) → get_or (p ++ q) j None ≡ Some c → e c ≡ f c) → ((j < length p) ⊎ (length p ≤ j)) → get_or (xs ++ us) j false ≡ get_or (ys ++ vs) j false
    by_cases j h (inl l) =
        get_or_append_left xs us false j (omega (arith, t.first)) ∙ t.same j (λ c k. h c (get_or_append_left p q None j l ∙ k)) ∙ sym (get_or_append_left ys vs false j (omega (arith, t.second)))
    by_cases j h (inr l) =
        get_or-append_right xs us (length p) j false t.first l
        ∙ u.same (j - length p) (λ c k. h c (get_or-append_right p q (length p) j None refl l ∙ k))
        ∙ sym (get_or-append_right ys vs (length p) j false t.second l)

-- the word of a wiring side before it is extended
unfoldable mutual
  pub raw : Names → Tree → Environment → List Bool
  raw s (Name token name) e = entity_value e (meant s name)
  raw s (Literal token n) e = word n.width n.value
  raw s (BitSelect token name i) e = index_value e (meant s name) (integer_with (form s i) (value s i e))
  raw s (Part token name l r) e = select (entity_value e (meant s name)) (place (entity_range (meant s name)) (integer_with (form s r) (value s r nowhere))) (constant_span s l r)
  raw s (Indexed token name x n up) e =
      select (entity_value e (meant s name)) (lowest_place (entity_range (meant s name)) up (integer_with (form s x) (value s x e)) (constant_count s n)) (constant_count s n)
  raw s (Unary op t) e = []
  raw s (Binary op l r) e = []
  raw s (Cond a b c) e = []
  raw s (Concat ts) e = values s ts e
  raw s (Repeat n ts) e = []
  raw s (Cast signed t) e = []
  raw s (Paren t) e = []

raw_value : (s : Names) (t : Tree) (e : Environment) (w : ℕ) (signed : Bool) → is_wiring s t ≡ true → value s t e w signed ≡ extend w signed (raw s t e)
unfolding raw value is_wiring
raw_value s (Name token name) e w signed h = refl
raw_value s (Literal token n) e w signed h = refl
raw_value s (BitSelect token name i) e w signed h = refl
raw_value s (Part token name l r) e w signed h = refl
raw_value s (Indexed token name x n up) e w signed h = refl
raw_value s (Unary op t) e w signed h = absurd (both_ways false refl h)
raw_value s (Binary op l r) e w signed h = absurd (both_ways false refl h)
raw_value s (Cond a b c) e w signed h = absurd (both_ways false refl h)
raw_value s (Concat ts) e w signed h = refl
raw_value s (Repeat n ts) e w signed h = absurd (both_ways false refl h)
raw_value s (Cast to t) e w signed h = absurd (both_ways false refl h)
raw_value s (Paren t) e w signed h = absurd (both_ways false refl h)

word_length : (w n : ℕ) → length (word w n) ≡ w
unfolding word
word_length zero n = refl
word_length (suc w) n = ap suc (word_length w _)

same_places : (xs ys : List Bool) → length xs ≡ length ys → ((i : ℕ) → i < length xs → get_or xs i false ≡ get_or ys i false) → xs ≡ ys
same_places [] [] l h = refl
same_places [] (y ∷ ys) l h = absurd (omega arith)
same_places (x ∷ xs) [] l h = absurd (omega arith)
same_places (x ∷ xs) (y ∷ ys) l h = rw (h 0 (omega arith), same_places xs ys (omega arith) (λ i k. h (suc i) (omega arith))) refl

get_any : (xs : List Bool) (i : ℕ) (d c : Bool) → i < length xs → get_or xs i d ≡ get_or xs i c
get_any [] i d c l = absurd (omega arith)
get_any (x ∷ xs) zero d c l = refl
get_any (x ∷ xs) (suc i) d c l = get_any xs i d c (omega arith)

-- to its own width a word is not extended
extend_same : (w : ℕ) (signed : Bool) (xs : List Bool) → length xs ≡ w → extend w signed xs ≡ xs
extend_same w signed xs h =
    let f : ℕ → Bool = λ i. get_or xs i (signed && top xs) in
    same_places (extend w signed xs) xs (length_tabulate w f ∙ sym h)
    (λ i l. let k : i < w = rw (length_tabulate w f) at l in get_tabulate w i f false k ∙ get_any xs i (signed && top xs) false (omega arith))

own_raw : (s : Names) (t : Tree) (e : Environment) → is_wiring s t ≡ true → length (raw s t e) ≡ (form s t).width → own s t e ≡ raw s t e
own_raw s t e h l = raw_value s t e (form s t).width (form s t).signed h ∙ extend_same (form s t).width (form s t).signed (raw s t e) l

mutual
  unfolding raw value is_wiring form

  raw_length : (s : Names) (t : Tree) (e : Environment) → is_wiring s t ≡ true → length (raw s t e) ≡ (form s t).width
  raw_length s (Name token name) e h = length_entity (meant s name) e
  raw_length s (Literal token n) e h = word_length n.width n.value
  raw_length s (BitSelect token name i) e h = length_index_value e (meant s name) (integer_with (form s i) (value s i e))
  raw_length s (Part token name l r) e h = length_tabulate (constant_span s l r) _
  raw_length s (Indexed token name x n up) e h = length_tabulate (constant_count s n) _
  raw_length s (Unary op t) e h = absurd (both_ways false refl h)
  raw_length s (Binary op l r) e h = absurd (both_ways false refl h)
  raw_length s (Cond a b c) e h = absurd (both_ways false refl h)
  raw_length s (Concat ts) e h = values_length s ts e h
  raw_length s (Repeat n ts) e h = absurd (both_ways false refl h)
  raw_length s (Cast signed t) e h = absurd (both_ways false refl h)
  raw_length s (Paren t) e h = absurd (both_ways false refl h)

  values_length : (s : Names) (ts : Trees) (e : Environment) → are_wiring s ts ≡ true → length (values s ts e) ≡ widths s ts
  values_length s End e h = refl
  values_length s (More t ts) e h =
      let p = and_parts (is_wiring s t) (are_wiring s ts) h in
      length-append (values s ts e) (own s t e) ∙ omega (arith, values_length s ts e p.1, ap length (own_raw s t e p.0 (raw_length s t e p.0)), raw_length s t e p.0)

mutual
  unfolding raw value taken is_wiring form target_bits nothing bits_there

  pub raw_takes : (s : Names) (t : Tree) (e f : Environment) → is_wiring s t ≡ true → Takes (raw s t e) (raw s t f) (taken s t) e f
  raw_takes s (Name token name) e f h = whole_name (meant s name) e f
  raw_takes s (Literal token n) e f h =
      fixed (word n.width n.value) (map (λ i. None) (bits_there Instance (pos 0) n.width)) e f (word_length n.width n.value ∙ sym (length-map (bits_there Instance (pos 0) n.width) (λ i. None) ∙ length_there Instance (pos 0) n.width))
  raw_takes s (BitSelect token name i) e f h =
      indexed_by (meant s name) (integer_with (form s i) (value s i e)) (integer_with (form s i) (value s i f)) (integer_with (form s i) (value s i nowhere)) e f (index_fixed s i e h) (index_fixed s i f h)
  raw_takes s (Part token name l r) e f h = selected (meant s name) (place (entity_range (meant s name)) (integer_with (form s r) (value s r nowhere))) (constant_span s l r) e f
  raw_takes s (Indexed token name x n up) e f h =
      rw (index_fixed s x e h, index_fixed s x f h)
      (selected (meant s name) (lowest_place (entity_range (meant s name)) up (integer_with (form s x) (value s x nowhere)) (constant_count s n)) (constant_count s n) e f)
  raw_takes s (Unary op t) e f h = absurd (both_ways false refl h)
  raw_takes s (Binary op l r) e f h = absurd (both_ways false refl h)
  raw_takes s (Cond a b c) e f h = absurd (both_ways false refl h)
  raw_takes s (Concat ts) e f h = all_take s ts e f h
  raw_takes s (Repeat n ts) e f h = absurd (both_ways false refl h)
  raw_takes s (Cast signed t) e f h = absurd (both_ways false refl h)
  raw_takes s (Paren t) e f h = absurd (both_ways false refl h)

  all_take : (s : Names) (ts : Trees) (e f : Environment) → are_wiring s ts ≡ true → Takes (values s ts e) (values s ts f) (all_taken s ts) e f
  all_take s End e f h = record { first = refl; second = refl; same = λ j k. refl }
  all_take s (More t ts) e f h =
      let p = and_parts (is_wiring s t) (are_wiring s ts) h in
      rw (own_raw s t e p.0 (raw_length s t e p.0), own_raw s t f p.0 (raw_length s t f p.0))
      (joined_words (values s ts e) (values s ts f) (raw s t e) (raw s t f) (all_taken s ts) (taken s t) e f (all_take s ts e f p.1) (raw_takes s t e f p.0))

-- the word of a side before it is extended
unfoldable side_raw : Flat → Side → Environment → List Bool
side_raw flat (Written t i) e = raw (scope_at flat i) t e
side_raw flat (Whole id) e = signal_value flat id e

side_extended : (flat : Flat) (side : Side) (e : Environment) (w : ℕ) (signed : Bool) → side_is_wiring flat side ≡ true → side_value flat side e w signed ≡ extend w signed (side_raw flat side e)
unfolding side_value side_is_wiring side_raw raw
side_extended flat (Written t i) e w signed h = raw_value (scope_at flat i) t e w signed h
side_extended flat (Whole id) e w signed h = refl

side_takes : (flat : Flat) (side : Side) (e f : Environment) → side_is_wiring flat side ≡ true → Takes (side_raw flat side e) (side_raw flat side f) (side_taken flat side) e f
unfolding side_raw side_taken side_is_wiring raw
side_takes flat (Written t i) e f h = raw_takes (scope_at flat i) t e f h
side_takes flat (Whole id) e f h = mapped (signal_bits flat id) e f

last_bit : (xs ys : List Bool) (bits : List (Option Bit)) (e f : Environment) (signed : Bool) → Takes xs ys bits e f →
    ((c : Bit) → cond signed (get_or bits (length bits - 1) None) None ≡ Some c → e c ≡ f c) → (signed && top xs) ≡ (signed && top ys)
last_bit xs ys bits e f true t h =
    ap (λ (n : ℕ). get_or xs (n - 1) false) t.first ∙ t.same (length bits - 1) h ∙ sym (ap (λ (n : ℕ). get_or ys (n - 1) false) t.second)
last_bit xs ys bits e f false t h = refl

extended_bit : (xs ys : List Bool) (bits : List (Option Bit)) (e f : Environment) (w i : ℕ) (signed : Bool) → i < w → Takes xs ys bits e f →
    ((c : Bit) → taken_at signed bits i ≡ Some c → e c ≡ f c) → get_or (extend w signed xs) i false ≡ get_or (extend w signed ys) i false
extended_bit xs ys bits e f w i signed l t h =
    get_tabulate w i (λ j. get_or xs j (signed && top xs)) false l ∙ by_cases (cases_lt i (length bits)) ∙ sym (get_tabulate w i (λ j. get_or ys j (signed && top ys)) false l)
  where
    by_cases : ((i < length bits) ⊎ (length bits ≤ i)) → get_or xs i (signed && top xs) ≡ get_or ys i (signed && top ys)
    by_cases (inl k) =
        get_any xs i (signed && top xs) false (omega (arith, t.first)) ∙ t.same i (λ c q. h c (rw (lt-ltb i (length bits) k) q)) ∙ get_any ys i false (signed && top ys) (omega (arith, t.second))
    by_cases (inr k) =
        get_or_past xs i (signed && top xs) (omega (arith, t.first)) ∙ last_bit xs ys bits e f signed t (λ c q. h c (rw (le-ltb i (length bits) k) q)) ∙ sym (get_or_past ys i (signed && top ys) (omega (arith, t.second)))

pub side_bit : (flat : Flat) (side : Side) (e f : Environment) (w i : ℕ) (signed : Bool) → side_is_wiring flat side ≡ true → i < w →
    ((c : Bit) → taken_at signed (side_taken flat side) i ≡ Some c → e c ≡ f c) → get_or (side_value flat side e w signed) i false ≡ get_or (side_value flat side f w signed) i false
side_bit flat side e f w i signed h l k =
    rw (side_extended flat side e w signed h, side_extended flat side f w signed h)
    (extended_bit (side_raw flat side e) (side_raw flat side f) (side_taken flat side) e f w i signed l (side_takes flat side e f h) k)
