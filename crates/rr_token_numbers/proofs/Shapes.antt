-- Shapes, values and faults of expressions without token numbers.
use Rattle.std.proofs.Common.{◌≡◌, ap, ap₂, ℕ, ◌+◌, ◌-◌, ◌*◌, ◌==◌, min, Bool, true, false, cond, ◌++◌, Option, Some, None, refl, ◌||◌, get_or, arith}
use Rattle.rr_syntax.specs.Tree.{Tree, Trees, Name, Literal, Bit as BitSelect, Part, Indexed, Unary, Binary, Cond, Concat, Repeat, Cast, Paren, End, More, bare, bare_parts}
use Rattle.rr_bits.specs.Words.{extend, select, is_zero}
use Rattle.rr_expr.specs.declared.types.Bit.{Bit}
use Rattle.rr_expr.specs.declared.types.Entity.{Entity}
use Rattle.rr_expr.specs.declared.types.Entity.TheVariants as entity
use Rattle.rr_expr.specs.declared.types.ExprFault.{ExprFault}
use Rattle.rr_expr.specs.declared.types.ExprFault.TheVariants.{BadRange, NotConstant, TooWide}
use Rattle.rr_expr.specs.declared.operators.Infix.TheVariants.{Either}
use Rattle.rr_expr.specs.declared.operators.Prefix.TheVariants.{Plus}
use Rattle.rr_expr.specs.Operators.{infixes, prefixes, joined, prefix_shape, infix_shape, own_with, prefix_value, infix_value}
use Rattle.rr_expr.specs.Memories.{index_value}
use Rattle.rr_expr.specs.Scopes.{Names, meant, entity_shape, entity_range, entity_value, is_scalar, range_width}
use Rattle.rr_expr.specs.Selects.{place, span, count, is_against, lowest_place, integer_with, repeated}
use Rattle.rr_expr.specs.Values.{form, widths, value, values, nowhere, unsigned_of}
use Rattle.rr_expr.specs.Faults.{fault, faults, first, first_part, is_width, or_else, fault_if, width_fault, name_fault, base_fault, index_fault, count_fault, takes_constants, is_bad, constant_count, constant_span}
use Rattle.rr_token_numbers.proofs.Results.{Both}

-- the first token of a tree without numbers

mutual
  unfolding first bare

  pub first-bare : (t : Tree) → first (bare t) ≡ 0
  first-bare (Name token x) = refl
  first-bare (Literal token n) = refl
  first-bare (BitSelect token x i) = refl
  first-bare (Part token x l r) = refl
  first-bare (Indexed token x f n up) = refl
  first-bare (Unary op t) = let e = first-bare t in omega (arith, e)
  first-bare (Binary op l r) = first-bare l
  first-bare (Cond a b c) = first-bare a
  first-bare (Concat ts) = let e = first_part-bare ts in omega (arith, e)
  first-bare (Repeat n ts) = let e = first-bare n in omega (arith, e)
  first-bare (Cast signed t) = let e = first-bare t in omega (arith, e)
  first-bare (Paren t) = let e = first-bare t in omega (arith, e)

  first_part-bare : (ts : Trees) → first_part (bare_parts ts) ≡ 0
  first_part-bare End = refl
  first_part-bare (More t ts) = first-bare t

-- shapes and values

mutual
  unfolding form value bare

  same : (s : Names) (t : Tree) → (form s (bare t) ≡ form s t) × (value s (bare t) ≡ value s t)
  same s (Name token x) = (refl, refl)
  same s (Literal token n) = (refl, refl)
  same s (BitSelect token x i) =
      let p = same s i in
      (refl, λ k env w signed. extend w signed (index_value env (meant s x) (integer_with (p.0 k) (p.1 k env))))
  same s (Part token x l r) =
      let p = same s l in
      let q = same s r in (
        λ k. unsigned_of (span (integer_with (p.0 k) (p.1 k nowhere)) (integer_with (q.0 k) (q.1 k nowhere))),
        λ k env w signed. extend w signed (select (entity_value env (meant s x)) (place (entity_range (meant s x)) (integer_with (q.0 k) (q.1 k nowhere))) (span (integer_with (p.0 k) (p.1 k nowhere)) (integer_with (q.0 k) (q.1 k nowhere)))),
      )
  same s (Indexed token x f n up) =
      let p = same s f in
      let q = same s n in (
        λ k. unsigned_of (count (integer_with (q.0 k) (q.1 k nowhere))),
        λ k env w signed. extend w signed (select (entity_value env (meant s x)) (lowest_place (entity_range (meant s x)) up (integer_with (p.0 k) (p.1 k env)) (count (integer_with (q.0 k) (q.1 k nowhere)))) (count (integer_with (q.0 k) (q.1 k nowhere)))),
      )
  same s (Unary op t) =
      let p = same s t in
      (λ k. prefix_shape (get_or prefixes op Plus) (p.0 k), λ k env. prefix_value (get_or prefixes op Plus) (p.0 k) (p.1 k env))
  same s (Binary op l r) =
      let p = same s l in
      let q = same s r in
      (λ k. infix_shape (get_or infixes op Either) (p.0 k) (q.0 k), λ k env. infix_value (get_or infixes op Either) (p.0 k) (q.0 k) (p.1 k env) (q.1 k env))
  same s (Cond a b c) =
      let p = same s a in
      let q = same s b in
      let r = same s c in
      (λ k. joined (q.0 k) (r.0 k), λ k env w signed. cond (is_zero (own_with (p.0 k) (p.1 k env))) (r.1 k env w signed) (q.1 k env w signed))
  same s (Concat ts) =
      let p = sames s ts in
      (λ k. unsigned_of (p.0 k), λ k env w signed. extend w signed (p.1 k env))
  same s (Repeat n ts) =
      let p = same s n in
      let q = sames s ts in
      (λ k. unsigned_of (count (integer_with (p.0 k) (p.1 k nowhere)) * q.0 k), λ k env w signed. extend w signed (repeated (count (integer_with (p.0 k) (p.1 k nowhere))) (q.1 k env)))
  same s (Cast to t) =
      let p = same s t in
      (λ k. record { width = (p.0 k).width; signed = to }, λ k env w signed. extend w signed (own_with (p.0 k) (p.1 k env)))
  same s (Paren t) = same s t

  sames : (s : Names) (ts : Trees) → (widths s (bare_parts ts) ≡ widths s ts) × (values s (bare_parts ts) ≡ values s ts)
  sames s End = (refl, refl)
  sames s (More t ts) =
      let p = same s t in
      let q = sames s ts in
      (λ k. (p.0 k).width + q.0 k, λ k env. q.1 k env ++ own_with (p.0 k) (p.1 k env))

pub form-bare : (s : Names) (t : Tree) → form s (bare t) ≡ form s t
form-bare s t = (same s t).0

pub value_path : (s : Names) (t : Tree) → value s (bare t) ≡ value s t
value_path s t = (same s t).1

pub value-bare : (s : Names) (t : Tree) (env : Bit → Bool) (w : ℕ) (signed : Bool) → value s (bare t) env w signed ≡ value s t env w signed
value-bare s t env w signed = λ k. (same s t).1 k env w signed

pub span-bare : (s : Names) (l r : Tree) → constant_span s (bare l) (bare r) ≡ constant_span s l r
span-bare s l r = let p = same s l in let q = same s r in λ k. span (integer_with (p.0 k) (p.1 k nowhere)) (integer_with (q.0 k) (q.1 k nowhere))

pub count-bare : (s : Names) (n : Tree) → constant_count s (bare n) ≡ constant_count s n
count-bare s n = let p = same s n in λ k. count (integer_with (p.0 k) (p.1 k nowhere))

-- faults in both or in neither

pub both_or : (a b c d : Option ExprFault) → Both a b → Both c d → Both (or_else a c) (or_else b d)
both_or None None c d h k = k
both_or None (Some y) c d h k = absurd h
both_or (Some x) None c d h k = absurd h
both_or (Some x) (Some y) c d h k = tt

both_if : (b c : Bool) (f g : ExprFault) → c ≡ b → Both (fault_if b f) (fault_if c g)
both_if true c f g e = rw e tt
both_if false c f g e = rw e tt

both_width : (t u w v : ℕ) → v ≡ w → Both (width_fault t w) (width_fault u v)
both_width t u w v e = rw e (by_width (is_width w))
  where
    by_width : (b : Bool) → Both (cond b None (Some (TooWide t (min w 4294967295)))) (cond b None (Some (TooWide u (min w 4294967295))))
    by_width true = tt
    by_width false = tt

both_name : (c : Bool) (t u : ℕ) (e : Entity) → Both (name_fault c t e) (name_fault c u e)
both_name c t u (entity.Constant bits signed) = both_width t u (entity_shape (entity.Constant bits signed)).width _ refl
both_name true t u (entity.Signal id range signed) = tt
both_name false t u (entity.Signal id range signed) = both_width t u (entity_shape (entity.Signal id range signed)).width _ refl
both_name true t u (entity.Memory first low words range signed) = tt
both_name false t u (entity.Memory first low words range signed) = tt
both_name c t u entity.Instance = tt

both_base : (c : Bool) (t u : ℕ) (e : Entity) → Both (base_fault c t e) (base_fault c u e)
both_base c t u e = both_or (name_fault c t e) (name_fault c u e) _ _ (both_name c t u e) (both_if (is_scalar e) (is_scalar e) (BadRange t) (BadRange u) refl)

pub both_index : (c : Bool) (t u : ℕ) (e : Entity) → Both (index_fault c t e) (index_fault c u e)
both_index c t u (entity.Constant bits signed) = both_base c t u (entity.Constant bits signed)
both_index c t u (entity.Signal id range signed) = both_base c t u (entity.Signal id range signed)
both_index true t u (entity.Memory first low words range signed) = tt
both_index false t u (entity.Memory first low words range signed) = both_width t u (range_width range) (range_width range) refl
both_index c t u entity.Instance = both_base c t u entity.Instance

both_count : (o p : Option ExprFault) (t u n m : ℕ) → Both o p → m ≡ n → Both (count_fault o t n) (count_fault p u m)
both_count None None t u n m h e = rw e (by_none (n == 0))
  where
    by_none : (b : Bool) → Both (cond b (Some (BadRange t)) (width_fault t n)) (cond b (Some (BadRange u)) (width_fault u n))
    by_none true = tt
    by_none false = both_width t u n n refl
both_count None (Some g) t u n m h e = absurd h
both_count (Some f) None t u n m h e = absurd h
both_count (Some f) (Some g) t u n m h e = tt

mutual
  unfolding fault bare

  pub fault_both : (s : Names) (t : Tree) (c : Bool) → Both (fault s t c) (fault s (bare t) c)
  fault_both s (Name token x) c = both_name c token 0 (meant s x)
  fault_both s (Literal token n) c = both_width token 0 n.width n.width refl
  fault_both s (BitSelect token x i) c = both_or (index_fault c token (meant s x)) (index_fault c 0 (meant s x)) _ _ (both_index c token 0 (meant s x)) (fault_both s i c)
  fault_both s (Part token x l r) c =
      let p = same s l in
      let q = same s r in
      let against : is_against (entity_range (meant s x)) (integer_with (form s (bare l)) (value s (bare l) nowhere)) (integer_with (form s (bare r)) (value s (bare r) nowhere))
      ≡ is_against (entity_range (meant s x)) (integer_with (form s l) (value s l nowhere)) (integer_with (form s r) (value s r nowhere)) =
      λ k. is_against (entity_range (meant s x)) (integer_with (p.0 k) (p.1 k nowhere)) (integer_with (q.0 k) (q.1 k nowhere)) in
      both_or (base_fault c token (meant s x)) (base_fault c 0 (meant s x)) _ _ (both_base c token 0 (meant s x))
      (both_or (fault s l true) (fault s (bare l) true) _ _ (fault_both s l true)
      (both_or (fault s r true) (fault s (bare r) true) _ _ (fault_both s r true)
      (both_or (fault_if (is_against (entity_range (meant s x)) (integer_with (form s l) (value s l nowhere)) (integer_with (form s r) (value s r nowhere))) (BadRange token)) _ _ _ (both_if _ _ _ _ against)
      (both_width token 0 (constant_span s l r) (constant_span s (bare l) (bare r)) (span-bare s l r)))))
  fault_both s (Indexed token x f n up) c =
      both_or (base_fault c token (meant s x)) (base_fault c 0 (meant s x)) _ _ (both_base c token 0 (meant s x))
      (both_or (count_fault (fault s n true) token (constant_count s n)) (count_fault (fault s (bare n) true) 0 (constant_count s (bare n))) _ _
      (both_count (fault s n true) (fault s (bare n) true) token 0 (constant_count s n) (constant_count s (bare n)) (fault_both s n true) (count-bare s n))
      (both_or (fault s f c) (fault s (bare f) c) _ _ (fault_both s f c) (fault_both s n true)))
  fault_both s (Unary op t) c = fault_both s t c
  fault_both s (Binary op l r) c =
      let p = same s l in
      let q = same s r in
      let d : Bool = c || takes_constants (get_or infixes op Either) in
      let bad : is_bad (get_or infixes op Either) (form s (bare l)) (form s (bare r)) (value s (bare r) nowhere) ≡ is_bad (get_or infixes op Either) (form s l) (form s r) (value s r nowhere) =
      λ k. is_bad (get_or infixes op Either) (p.0 k) (q.0 k) (q.1 k nowhere) in
      both_or (fault s l d) (fault s (bare l) d) _ _ (fault_both s l d)
      (both_or (fault s r d) (fault s (bare r) d) _ _ (fault_both s r d) (both_if _ _ (NotConstant (first r)) (NotConstant (first (bare r))) bad))
  fault_both s (Cond a b d) c =
      both_or (fault s a c) (fault s (bare a) c) _ _ (fault_both s a c) (both_or (fault s b c) (fault s (bare b) c) _ _ (fault_both s b c) (fault_both s d c))
  fault_both s (Concat ts) c =
      both_or (faults s ts c) (faults s (bare_parts ts) c) _ _ (faults_both s ts c) (both_width (first_part ts - 1) (first_part (bare_parts ts) - 1) (widths s ts) (widths s (bare_parts ts)) (sames s ts).0)
  fault_both s (Repeat n ts) c =
      let none : (constant_count s (bare n) == 0) ≡ (constant_count s n == 0) = ap (λ (m : ℕ). m == 0) (count-bare s n) in
      both_or (fault s n true) (fault s (bare n) true) _ _ (fault_both s n true)
      (both_or (fault_if (constant_count s n == 0) (BadRange (first n))) _ _ _ (both_if _ _ (BadRange (first n)) (BadRange (first (bare n))) none)
      (both_or (faults s ts c) (faults s (bare_parts ts) c) _ _ (faults_both s ts c)
      (both_width (first n - 1) (first (bare n) - 1) (constant_count s n * widths s ts) (constant_count s (bare n) * widths s (bare_parts ts)) (ap₂ (λ (a b : ℕ). a * b) (count-bare s n) (sames s ts).0))))
  fault_both s (Cast signed t) c = fault_both s t c
  fault_both s (Paren t) c = fault_both s t c

  faults_both : (s : Names) (ts : Trees) (c : Bool) → Both (faults s ts c) (faults s (bare_parts ts) c)
  faults_both s End c = tt
  faults_both s (More t ts) c = both_or (fault s t c) (fault s (bare t) c) _ _ (fault_both s t c) (faults_both s ts c)
