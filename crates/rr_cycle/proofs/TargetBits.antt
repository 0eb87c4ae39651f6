-- which bits targets name
use Rattle.std.proofs.Common.{◌≡◌, List, [], ◌∷◌, ◌++◌, Bool, true, false, cond, ◌&&◌, ◌||◌, Option, Some, None, is_none, refl, ap, ◌∙◌, sym, inl, inr, ℤ}
use Rattle.std.proofs.lemmas.Bool.{both_ways, or_cases}
use Rattle.rr_syntax.specs.Tree.{Tree, Trees, Name, Literal, Bit as BitSelect, Part, Indexed, Unary, Binary, Cond, Concat, Repeat, Cast, Paren, End, More}
use Rattle.rr_expr.specs.declared.types.Bit.{Bit}
use Rattle.rr_expr.specs.declared.types.ExprFault.{ExprFault}
use Rattle.rr_expr.specs.Faults.{fault, constant_count}
use Rattle.rr_expr.specs.Reading.{NamesBit}
use Rattle.rr_expr.specs.Scopes.{Names, meant, entity_range}
use Rattle.rr_expr.specs.Selects.{lowest_place, integer_with}
use Rattle.rr_expr.specs.Values.{form, value, nowhere}
use Rattle.rr_expr.proofs.NamedBits.{value_by_named_bits, constant_names}
use Rattle.rr_flat.specs.Reads.{TargetReads, TargetsRead}
use Rattle.rr_flat.specs.Targets.{is_bit_of, bits_there, index_bits, target_bits, targets_bits, has_bit, is_constant, target_parts, targets_parts, part_name, is_fixed, may_write, must_write}
use Rattle.rr_cycle.specs.Exec.{Environment}
use Rattle.rr_flat.proofs.Bits.{has_append, or_left, or_right}
use Rattle.rr_flat.proofs.Bits.{index_of_name, bits_of_name}

-- the environments have the same bits here
abbrev pub Agree : Environment → Environment → (Bit → Type 0) → Type 0
Agree e f P = (b : Bit) → P b → e b ≡ f b

none_is : (o : Option ExprFault) → is_none o ≡ true → o ≡ None
none_is None h = refl
none_is (Some f) h = cc

index_same : (s : Names) (i : Tree) (e f : Environment) → Agree e f (NamesBit s i) → integer_with (form s i) (value s i e) ≡ integer_with (form s i) (value s i f)
index_same s i e f h = rw (value_by_named_bits s i e f h (form s i).width (form s i).signed) refl

-- a constant index has one value
pub index_fixed : (s : Names) (i : Tree) (e : Environment) → is_constant s i ≡ true → integer_with (form s i) (value s i e) ≡ integer_with (form s i) (value s i nowhere)
index_fixed s i e h = index_same s i e nowhere (λ b n. absurd (constant_names s i b (none_is (fault s i true) h) n))

mutual
  unfolding target_bits TargetReads

  pub target_local : (s : Names) (e f : Environment) (t : Tree) → Agree e f (TargetReads s t) → target_bits s e t ≡ target_bits s f t
  target_local s e f (Name token name) h = refl
  target_local s e f (Literal token n) h = refl
  target_local s e f (BitSelect token name i) h = ap (λ (z : ℤ). index_bits (meant s name) z) (index_same s i e f h)
  target_local s e f (Part token name l r) h = refl
  target_local s e f (Indexed token name x n up) h =
      ap (λ (z : ℤ). bits_there (meant s name) (lowest_place (entity_range (meant s name)) up z (constant_count s n)) (constant_count s n)) (index_same s x e f h)
  target_local s e f (Unary op t) h = refl
  target_local s e f (Binary op l r) h = refl
  target_local s e f (Cond a b c) h = refl
  target_local s e f (Concat ts) h = targets_local s e f ts h
  target_local s e f (Repeat n ts) h = refl
  target_local s e f (Cast signed t) h = refl
  target_local s e f (Paren t) h = refl

  pub targets_local : (s : Names) (e f : Environment) (ts : Trees) → Agree e f (TargetsRead s ts) → targets_bits s e ts ≡ targets_bits s f ts
  targets_local s e f End h = refl
  targets_local s e f (More t ts) h = rw (targets_local s e f ts (λ b r. h b (inr r)), target_local s e f t (λ b r. h b (inl r))) refl

may_append : (s : Names) (ps qs : List Tree) (b : Bit) → may_write s (ps ++ qs) b ≡ (may_write s ps b || may_write s qs b)
unfolding may_write
may_append s [] qs b = refl
may_append s (p ∷ ps) qs b = rw (may_append s ps qs b) (or_assoc (cond (is_fixed s p) (has_bit (target_bits s nowhere p) b) (is_bit_of (meant s (part_name p)) b)) (may_write s ps b) (may_write s qs b))
  where
    or_assoc : (x y z : Bool) → (x || (y || z)) ≡ ((x || y) || z)
    or_assoc true y z = refl
    or_assoc false y z = refl

must_append : (s : Names) (ps qs : List Tree) (b : Bit) → must_write s (ps ++ qs) b ≡ (must_write s ps b || must_write s qs b)
unfolding must_write
must_append s [] qs b = refl
must_append s (p ∷ ps) qs b = rw (must_append s ps qs b) (or_assoc (is_fixed s p && has_bit (target_bits s nowhere p) b) (must_write s ps b) (must_write s qs b))
  where
    or_assoc : (x y z : Bool) → (x || (y || z)) ≡ ((x || y) || z)
    or_assoc true y z = refl
    or_assoc false y z = refl

or_no : (x : Bool) → x ≡ true → (x || false) ≡ true
or_no x h = or_left x false h

by_index : (k : Bool) (x y z : Bool) → (k ≡ true → x ≡ true → y ≡ true) → (x ≡ true → z ≡ true) → x ≡ true → cond k y z ≡ true
by_index true x y z h g t = h refl t
by_index false x y z h g t = g t

-- what is written stands among the bits that may be
mutual
  unfolding target_bits target_parts may_write has_bit

  pub target_written : (s : Names) (e : Environment) (t : Tree) (b : Bit) → has_bit (target_bits s e t) b ≡ true → may_write s (target_parts t) b ≡ true
  target_written s e (Name token name) b h = or_no (has_bit (target_bits s nowhere (Name token name)) b) h
  target_written s e (Literal token n) b h = absurd (both_ways false refl h)
  target_written s e (BitSelect token name i) b h =
      or_no (cond (is_constant s i) (has_bit (target_bits s nowhere (BitSelect token name i)) b) (is_bit_of (meant s name) b))
      (by_index (is_constant s i) (has_bit (target_bits s e (BitSelect token name i)) b) (has_bit (target_bits s nowhere (BitSelect token name i)) b) (is_bit_of (meant s name) b)
      (λ k x. rw (index_fixed s i e k) at x) (index_of_name (meant s name) (integer_with (form s i) (value s i e)) b) h)
  target_written s e (Part token name l r) b h = or_no (has_bit (target_bits s nowhere (Part token name l r)) b) h
  target_written s e (Indexed token name f n up) b h =
      or_no (cond (is_constant s f) (has_bit (target_bits s nowhere (Indexed token name f n up)) b) (is_bit_of (meant s name) b))
      (by_index (is_constant s f) (has_bit (target_bits s e (Indexed token name f n up)) b) (has_bit (target_bits s nowhere (Indexed token name f n up)) b) (is_bit_of (meant s name) b)
      (λ k x. rw (index_fixed s f e k) at x)
      (bits_of_name (meant s name) (lowest_place (entity_range (meant s name)) up (integer_with (form s f) (value s f e)) (constant_count s n)) (constant_count s n) b) h)
  target_written s e (Unary op t) b h = absurd (both_ways false refl h)
  target_written s e (Binary op l r) b h = absurd (both_ways false refl h)
  target_written s e (Cond x y z) b h = absurd (both_ways false refl h)
  target_written s e (Concat ts) b h = targets_written s e ts b h
  target_written s e (Repeat n ts) b h = absurd (both_ways false refl h)
  target_written s e (Cast signed t) b h = absurd (both_ways false refl h)
  target_written s e (Paren t) b h = absurd (both_ways false refl h)

  pub targets_written : (s : Names) (e : Environment) (ts : Trees) (b : Bit) → has_bit (targets_bits s e ts) b ≡ true → may_write s (targets_parts ts) b ≡ true
  targets_written s e End b h = absurd (both_ways false refl h)
  targets_written s e (More t ts) b h =
      rw (may_append s (target_parts t) (targets_parts ts) b)
      (elim (or_cases (has_bit (targets_bits s e ts) b) (has_bit (target_bits s e t) b) (sym (has_append (targets_bits s e ts) (target_bits s e t) b) ∙ h)) [
        | inl i ↦ or_right (may_write s (target_parts t) b) (may_write s (targets_parts ts) b) (targets_written s e ts b i)
        | inr i ↦ or_left (may_write s (target_parts t) b) (may_write s (targets_parts ts) b) (target_written s e t b i)
      ])

and_or_false : (x y : Bool) → ((x && y) || false) ≡ true → (x ≡ true) × (y ≡ true)
and_or_false true true h = (refl, refl)
and_or_false true false h = absurd (both_ways false refl h)
and_or_false false y h = absurd (both_ways false refl h)

-- what is assigned for certain is written
mutual
  unfolding target_bits target_parts must_write has_bit

  pub assigned_there : (s : Names) (e : Environment) (t : Tree) (b : Bit) → must_write s (target_parts t) b ≡ true → has_bit (target_bits s e t) b ≡ true
  assigned_there s e (Name token name) b h = (and_or_false true (has_bit (target_bits s nowhere (Name token name)) b) h).1
  assigned_there s e (Literal token n) b h = absurd (both_ways false refl h)
  assigned_there s e (BitSelect token name i) b h =
      let p = and_or_false (is_constant s i) (has_bit (target_bits s nowhere (BitSelect token name i)) b) h in
      rw (index_fixed s i e p.0) p.1
  assigned_there s e (Part token name l r) b h = (and_or_false true (has_bit (target_bits s nowhere (Part token name l r)) b) h).1
  assigned_there s e (Indexed token name f n up) b h =
      let p = and_or_false (is_constant s f) (has_bit (target_bits s nowhere (Indexed token name f n up)) b) h in
      rw (index_fixed s f e p.0) p.1
  assigned_there s e (Unary op t) b h = absurd (both_ways false refl h)
  assigned_there s e (Binary op l r) b h = absurd (both_ways false refl h)
  assigned_there s e (Cond x y z) b h = absurd (both_ways false refl h)
  assigned_there s e (Concat ts) b h = all_there s e ts b h
  assigned_there s e (Repeat n ts) b h = absurd (both_ways false refl h)
  assigned_there s e (Cast signed t) b h = absurd (both_ways false refl h)
  assigned_there s e (Paren t) b h = absurd (both_ways false refl h)

  pub all_there : (s : Names) (e : Environment) (ts : Trees) (b : Bit) → must_write s (targets_parts ts) b ≡ true → has_bit (targets_bits s e ts) b ≡ true
  all_there s e End b h = absurd (both_ways false refl h)
  all_there s e (More t ts) b h =
      has_append (targets_bits s e ts) (target_bits s e t) b
      ∙ (elim (or_cases (must_write s (target_parts t) b) (must_write s (targets_parts ts) b) (sym (must_append s (target_parts t) (targets_parts ts) b) ∙ h)) [
        | inl i ↦ or_right (has_bit (targets_bits s e ts) b) (has_bit (target_bits s e t) b) (assigned_there s e t b i)
        | inr i ↦ or_left (has_bit (targets_bits s e ts) b) (has_bit (target_bits s e t) b) (all_there s e ts b i)
      ])
