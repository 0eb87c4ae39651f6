-- the value depends only on the bits that are named
use Rattle.std.proofs.Common.{◌≡◌, ℕ, ◌-◌, ◌*◌, ◌==◌, ◌<◌, ◌≤◌, ◌⊎◌, inl, inr, Bool, true, false, cond, List, ◌++◌, map, Option, Some, None, is_none, refl, sym, ◌∙◌, ap, get_or, ℤ, pos, negsuc, ◌+ℤ◌}
use Rattle.std.proofs.lemmas.List.{get_or_past}
use Rattle.std.proofs.lemmas.Bool.{cases_lt}
use Rattle.rr_syntax.specs.Tree.{Tree, Trees, Name, Literal, Bit as BitSelect, Part, Indexed, Unary, Binary, Cond, Concat, Repeat, Cast, Paren, End, More}
use Rattle.rr_bits.specs.Words.{extend, select, tabulate, is_zero, bit_in}
use Rattle.rr_bits.proofs.Places.{tabulate_same, get_tabulate, length_tabulate}
use Rattle.rr_expr.specs.declared.types.Bit.{Bit}
use Rattle.rr_expr.specs.declared.types.Entity.{Entity}
use Rattle.rr_expr.specs.declared.types.Entity.TheVariants.{Constant, Signal, Memory, Instance}
use Rattle.rr_expr.specs.declared.types.ExprFault.{ExprFault}
use Rattle.rr_expr.specs.declared.types.ExprFault.TheVariants.{BadRange, NotConstant}
use Rattle.rr_expr.specs.declared.operators.Infix.TheVariants.{Either}
use Rattle.rr_expr.specs.declared.operators.Prefix.TheVariants.{Plus}
use Rattle.rr_expr.specs.Operators.{infixes, prefixes, own_with, prefix_value, infix_value}
use Rattle.rr_expr.specs.Scopes.{Names, meant, entity_range, entity_value, is_scalar, range_width}
use Rattle.rr_expr.specs.Selects.{place, lowest_place, integer_with, repeated, is_against}
use Rattle.rr_expr.specs.Memories.{word_at, word_signal, word_bits, bit_value, index_value}
use Rattle.rr_expr.specs.Values.{form, widths, value, values, nowhere}
use Rattle.rr_expr.specs.Faults.{fault, faults, first, first_part, or_else, fault_if, width_fault, name_fault, base_fault, index_fault, count_fault, is_bad, constant_count, constant_span}
use Rattle.rr_expr.specs.Reading.{IsBitOf, IsWithin, IsWordBit, NamesAt, NamesIndex, NamesBit, NamesBits}
use Rattle.rr_expr.proofs.MemoryWords.{no_word_value, some_word_value, index_within, names_any}

first_none : (f g : Option ExprFault) → or_else f g ≡ None → f ≡ None
first_none None g h = refl
first_none (Some f) g h = cc

then_none : (f g : Option ExprFault) → or_else f g ≡ None → g ≡ None
then_none None g h = h
then_none (Some f) g h = cc

no_signal : (token : ℕ) (e : Entity) (b : Bit) → name_fault true token e ≡ None → IsBitOf e b → ⊥
no_signal token (Constant bits signed) b h r = r
no_signal token (Signal id range signed) b h r = cc
no_signal token (Memory first low words range signed) b h r = cc
no_signal token Instance b h r = r

no_base : (token : ℕ) (e : Entity) (b : Bit) → base_fault true token e ≡ None → IsBitOf e b → ⊥
no_base token e b h = no_signal token e b (first_none (name_fault true token e) (fault_if (is_scalar e) (BadRange token)) h)

none_at : (k : Bool) (e : Entity) (from : ℤ) (n : ℕ) (index : Type 0) (b : Bit) → (IsBitOf e b → ⊥) → (index → ⊥) → NamesAt k e from n index b → ⊥
none_at true e from n index b p q r = p r.0
none_at false e from n index b p q (inl r) = p r
none_at false e from n index b p q (inr r) = q r

none_index : (token : ℕ) (k : Bool) (e : Entity) (i : ℤ) (index : Type 0) (b : Bit) → index_fault true token e ≡ None → (index → ⊥) → NamesIndex k e i index b → ⊥
none_index token k (Constant bits signed) i index b h q r = none_at k (Constant bits signed) (place (entity_range (Constant bits signed)) i) 1 index b (no_base token (Constant bits signed) b h) q r
none_index token k (Signal id range signed) i index b h q r = none_at k (Signal id range signed) (place (entity_range (Signal id range signed)) i) 1 index b (no_base token (Signal id range signed) b h) q r
none_index token k (Memory first low words range signed) i index b h q r = cc
none_index token k Instance i index b h q r = none_at k Instance (place (entity_range Instance) i) 1 index b (no_base token Instance b h) q r

-- a constant names no bit
mutual
  unfolding fault NamesBit

  pub constant_names : (s : Names) (t : Tree) (b : Bit) → fault s t true ≡ None → NamesBit s t b → ⊥
  constant_names s (Name token name) b h r = no_signal token (meant s name) b h r
  constant_names s (Literal token n) b h r = r
  constant_names s (BitSelect token name i) b h r =
      none_index token (is_none (fault s i true)) (meant s name) (integer_with (form s i) (value s i nowhere)) (NamesBit s i b) b
      (first_none (index_fault true token (meant s name)) (fault s i true) h)
      (constant_names s i b (then_none (index_fault true token (meant s name)) (fault s i true) h)) r
  constant_names s (Part token name u v) b h r =
      let rest = or_else (fault s u true) (or_else (fault s v true) (or_else (fault_if (is_against (entity_range (meant s name)) (integer_with (form s u) (value s u nowhere)) (integer_with (form s v) (value s v nowhere))) (BadRange token)) (width_fault token (constant_span s u v)))) in
      no_base token (meant s name) b (first_none (base_fault true token (meant s name)) rest h) r.0
  constant_names s (Indexed token name f n up) b h r =
      let w = count_fault (fault s n true) token (constant_count s n) in
      let p = then_none (base_fault true token (meant s name)) (or_else w (or_else (fault s f true) (fault s n true))) h in
      let q = then_none w (or_else (fault s f true) (fault s n true)) p in
      none_at (is_none (fault s f true)) (meant s name) (lowest_place (entity_range (meant s name)) up (integer_with (form s f) (value s f nowhere)) (constant_count s n)) (constant_count s n) (NamesBit s f b) b
      (no_base token (meant s name) b (first_none (base_fault true token (meant s name)) (or_else w (or_else (fault s f true) (fault s n true))) h))
      (constant_names s f b (first_none (fault s f true) (fault s n true) q)) r
  constant_names s (Unary op t) b h r = constant_names s t b h r
  constant_names s (Binary op u v) b h (inl r) = constant_names s u b (first_none (fault s u true) (or_else (fault s v true) (fault_if (is_bad (get_or infixes op Either) (form s u) (form s v) (value s v nowhere)) (NotConstant (first v)))) h) r
  constant_names s (Binary op u v) b h (inr r) =
      let bad = fault_if (is_bad (get_or infixes op Either) (form s u) (form s v) (value s v nowhere)) (NotConstant (first v)) in
      constant_names s v b (first_none (fault s v true) bad (then_none (fault s u true) (or_else (fault s v true) bad) h)) r
  constant_names s (Cond a c d) b h (inl r) = constant_names s a b (first_none (fault s a true) (or_else (fault s c true) (fault s d true)) h) r
  constant_names s (Cond a c d) b h (inr (inl r)) = constant_names s c b (first_none (fault s c true) (fault s d true) (then_none (fault s a true) (or_else (fault s c true) (fault s d true)) h)) r
  constant_names s (Cond a c d) b h (inr (inr r)) = constant_names s d b (then_none (fault s c true) (fault s d true) (then_none (fault s a true) (or_else (fault s c true) (fault s d true)) h)) r
  constant_names s (Concat ts) b h r = constants_name s ts b (first_none (faults s ts true) (width_fault (first_part ts - 1) (widths s ts)) h) r
  constant_names s (Repeat n ts) b h r =
      let w = width_fault (first n - 1) (constant_count s n * widths s ts) in
      let none = fault_if (constant_count s n == 0) (BadRange (first n)) in
      let p = then_none (fault s n true) (or_else none (or_else (faults s ts true) w)) h in
      constants_name s ts b (first_none (faults s ts true) w (then_none none (or_else (faults s ts true) w) p)) r
  constant_names s (Cast signed t) b h r = constant_names s t b h r
  constant_names s (Paren t) b h r = constant_names s t b h r

  pub constants_name : (s : Names) (ts : Trees) (b : Bit) → faults s ts true ≡ None → NamesBits s ts b → ⊥
  constants_name s End b h r = r
  constants_name s (More t ts) b h (inl r) = constant_names s t b (first_none (fault s t true) (faults s ts true) h) r
  constants_name s (More t ts) b h (inr r) = constants_name s ts b (then_none (fault s t true) (faults s ts true) h) r

entity_same : (e : Entity) (env other : Bit → Bool) → ((b : Bit) → IsBitOf e b → env b ≡ other b) → entity_value env e ≡ entity_value other e
entity_same (Constant bits signed) env other h = refl
entity_same (Signal id range signed) env other h = tabulate_same (range_width range) (λ i. env (record { signal = id; place = i })) (λ i. other (record { signal = id; place = i })) (λ i l. h (record { signal = id; place = i }) (refl, l))
entity_same (Memory first low words range signed) env other h = refl
entity_same Instance env other h = refl

bit_same : (w : ℕ) (f g : ℕ → Bool) (z : ℤ) → ((m : ℕ) → m < w → z ≡ pos m → f m ≡ g m) → bit_in (tabulate w f) z ≡ bit_in (tabulate w g) z
bit_same w f g (negsuc n) h = refl
bit_same w f g (pos m) h = by_cases (cases_lt m w)
  where
    by_cases : ((m < w) ⊎ (w ≤ m)) → get_or (tabulate w f) m false ≡ get_or (tabulate w g) m false
    by_cases (inl l) = get_tabulate w m f false l ∙ h m l refl ∙ sym (get_tabulate w m g false l)
    by_cases (inr l) = get_or_past (tabulate w f) m false (rw (length_tabulate w f) l) ∙ sym (get_or_past (tabulate w g) m false (rw (length_tabulate w g) l))

select_same : (e : Entity) (from : ℤ) (n : ℕ) (env other : Bit → Bool) → ((b : Bit) → IsBitOf e b → IsWithin from n b.place → env b ≡ other b) → select (entity_value env e) from n ≡ select (entity_value other e) from n
select_same (Constant bits signed) from n env other h = refl
select_same (Signal id range signed) from n env other h =
    let f : ℕ → Bool = λ i. env (record { signal = id; place = i }) in
    let g : ℕ → Bool = λ i. other (record { signal = id; place = i }) in
    tabulate_same n (λ k. bit_in (tabulate (range_width range) f) (from +ℤ pos k)) (λ k. bit_in (tabulate (range_width range) g) (from +ℤ pos k))
    (λ k l. bit_same (range_width range) f g (from +ℤ pos k) (λ m b z. h (record { signal = id; place = m }) (refl, b) (k, l, z)))
select_same (Memory first low words range signed) from n env other h = refl
select_same Instance from n env other h = refl

word_same : (range : Option (ℕ × ℕ)) (word : Option ℕ) (env other : Bit → Bool) → ((b : Bit) → IsWordBit range word b → env b ≡ other b) → map (bit_value env) (word_bits range word) ≡ map (bit_value other) (word_bits range word)
word_same range None env other h = no_word_value env range ∙ sym (no_word_value other range)
word_same range (Some id) env other h =
    some_word_value env range id
    ∙ tabulate_same (range_width range) (λ i. env (record { signal = id; place = i })) (λ i. other (record { signal = id; place = i })) (λ i l. h (record { signal = id; place = i }) (refl, l))
    ∙ sym (some_word_value other range id)

index_same : (e : Entity) (i : ℤ) (index : Bit → Type 0) (env other : Bit → Bool) → ((b : Bit) → NamesIndex true e i (index b) b → env b ≡ other b) → index_value env e i ≡ index_value other e i
index_same (Constant bits signed) i index env other h = refl
index_same (Signal id range signed) i index env other h = select_same (Signal id range signed) (place (entity_range (Signal id range signed)) i) 1 env other (λ b u w. h b (u, w))
index_same (Memory first low words range signed) i index env other h = word_same range (word_signal first (word_at low words i)) env other h
index_same Instance i index env other h = refl

ext : (f g : ℕ → Bool → List Bool) → ((w : ℕ) (signed : Bool) → f w signed ≡ g w signed) → f ≡ g
ext f g h = λ i w signed. h w signed i

none_is : (o : Option ExprFault) → is_none o ≡ true → o ≡ None
none_is None h = refl
none_is (Some f) h = cc

-- a select, by a constant index or by any other
select_at : (k : Bool) (e : Entity) (n : ℕ) (from : (ℕ → Bool → List Bool) → ℤ) (x y z : ℕ → Bool → List Bool) (index : Bit → Type 0) (env other : Bit → Bool)
    → (k ≡ true → (x ≡ z) × (y ≡ z)) → (((b : Bit) → index b → env b ≡ other b) → x ≡ y) → ((b : Bit) → NamesAt k e (from z) n (index b) b → env b ≡ other b)
    → select (entity_value env e) (from x) n ≡ select (entity_value other e) (from y) n
select_at true e n from x y z index env other c v h =
    let p = c refl in
    ap (λ (f : ℕ → Bool → List Bool). select (entity_value env e) (from f) n) p.0 ∙ select_same e (from z) n env other (λ b u w. h b (u, w)) ∙ sym (ap (λ (f : ℕ → Bool → List Bool). select (entity_value other e) (from f) n) p.1)
select_at false e n from x y z index env other c v h =
    ap (λ (f : ℕ → Bool → List Bool). select (entity_value env e) (from f) n) (v (λ b r. h b (inr r))) ∙ ap (λ (xs : List Bool). select xs (from y) n) (entity_same e env other (λ b r. h b (inl r)))

-- an index, constant or any other
index_at : (k : Bool) (e : Entity) (from : (ℕ → Bool → List Bool) → ℤ) (x y z : ℕ → Bool → List Bool) (index : Bit → Type 0) (env other : Bit → Bool)
    → (k ≡ true → (x ≡ z) × (y ≡ z)) → (((b : Bit) → index b → env b ≡ other b) → x ≡ y) → ((b : Bit) → NamesIndex k e (from z) (index b) b → env b ≡ other b)
    → index_value env e (from x) ≡ index_value other e (from y)
index_at true e from x y z index env other c v h =
    let p = c refl in
    ap (λ (f : ℕ → Bool → List Bool). index_value env e (from f)) p.0 ∙ index_same e (from z) index env other h ∙ sym (ap (λ (f : ℕ → Bool → List Bool). index_value other e (from f)) p.1)
index_at false e from x y z index env other c v h =
    ap (λ (f : ℕ → Bool → List Bool). index_value env e (from f)) (v (λ b r. h b (names_any e (from z) (index b) b (inr r))))
    ∙ index_same e (from y) index env other (λ b r. h b (names_any e (from z) (index b) b (inl (index_within e (from y) (index b) b r))))

mutual
  unfolding value NamesBit

  value_same : (s : Names) (t : Tree) (env other : Bit → Bool) → ((b : Bit) → NamesBit s t b → env b ≡ other b) → value s t env ≡ value s t other
  value_same s (Name token name) env other h = ext (value s (Name token name) env) (value s (Name token name) other) (λ w signed. ap (extend w signed) (entity_same (meant s name) env other h))
  value_same s (Literal token n) env other h = refl
  value_same s (BitSelect token name i) env other h =
      ext (value s (BitSelect token name i) env) (value s (BitSelect token name i) other) (λ w signed. ap (extend w signed)
      (index_at (is_none (fault s i true)) (meant s name) (λ f. integer_with (form s i) f) (value s i env) (value s i other) (value s i nowhere) (NamesBit s i) env other
      (λ e. (value_same s i env nowhere (λ b r. absurd (constant_names s i b (none_is (fault s i true) e) r)), value_same s i other nowhere (λ b r. absurd (constant_names s i b (none_is (fault s i true) e) r))))
      (value_same s i env other) h))
  value_same s (Part token name l r) env other h =
      ext (value s (Part token name l r) env) (value s (Part token name l r) other) (λ w signed. ap (extend w signed)
      (select_same (meant s name) (place (entity_range (meant s name)) (integer_with (form s r) (value s r nowhere))) (constant_span s l r) env other (λ b u v. h b (u, v))))
  value_same s (Indexed token name f n up) env other h =
      ext (value s (Indexed token name f n up) env) (value s (Indexed token name f n up) other) (λ w signed. ap (extend w signed)
      (select_at (is_none (fault s f true)) (meant s name) (constant_count s n) (λ x. lowest_place (entity_range (meant s name)) up (integer_with (form s f) x) (constant_count s n)) (value s f env) (value s f other) (value s f nowhere) (NamesBit s f) env other
      (λ e. (value_same s f env nowhere (λ b r. absurd (constant_names s f b (none_is (fault s f true) e) r)), value_same s f other nowhere (λ b r. absurd (constant_names s f b (none_is (fault s f true) e) r))))
      (value_same s f env other) h))
  value_same s (Unary op t) env other h = ap (λ (x : ℕ → Bool → List Bool). prefix_value (get_or prefixes op Plus) (form s t) x) (value_same s t env other h)
  value_same s (Binary op l r) env other h =
      ap (λ (x : ℕ → Bool → List Bool). infix_value (get_or infixes op Either) (form s l) (form s r) x (value s r env)) (value_same s l env other (λ b p. h b (inl p)))
      ∙ ap (λ (y : ℕ → Bool → List Bool). infix_value (get_or infixes op Either) (form s l) (form s r) (value s l other) y) (value_same s r env other (λ b p. h b (inr p)))
  value_same s (Cond a c d) env other h =
      let test = value_same s a env other (λ b p. h b (inl p)) in
      let yes = value_same s c env other (λ b p. h b (inr (inl p))) in
      let no = value_same s d env other (λ b p. h b (inr (inr p))) in
      λ i w signed. cond (is_zero (own_with (form s a) (test i))) (no i w signed) (yes i w signed)
  value_same s (Concat ts) env other h =
      let same = values_same s ts env other h in
      λ i w signed. extend w signed (same i)
  value_same s (Repeat n ts) env other h =
      let same = values_same s ts env other h in
      λ i w signed. extend w signed (repeated (constant_count s n) (same i))
  value_same s (Cast to t) env other h =
      let same = value_same s t env other h in
      λ i w signed. extend w signed (own_with (form s t) (same i))
  value_same s (Paren t) env other h = value_same s t env other h

  values_same : (s : Names) (ts : Trees) (env other : Bit → Bool) → ((b : Bit) → NamesBits s ts b → env b ≡ other b) → values s ts env ≡ values s ts other
  values_same s End env other h = refl
  values_same s (More t ts) env other h =
      let one = value_same s t env other (λ b p. h b (inl p)) in
      let rest = values_same s ts env other (λ b p. h b (inr p)) in
      λ i. rest i ++ own_with (form s t) (one i)

pub value_by_named_bits : (s : Names) (t : Tree) (env other : Bit → Bool) → ((b : Bit) → NamesBit s t b → env b ≡ other b) → (w : ℕ) (signed : Bool) → value s t env w signed ≡ value s t other w signed
value_by_named_bits s t env other h w signed = λ i. value_same s t env other h i w signed
