-- shape, value and fault depend on the scope at the names that occur alone
use Rattle.std.proofs.Common.{◌≡◌, ℕ, ◌+◌, ◌-◌, ◌*◌, ◌==◌, inl, inr, Bool, true, cond, List, ◌++◌, refl, ◌||◌, get_or}
use Rattle.rr_syntax.specs.Tree.{Tree, Trees, Name, Literal, Bit as BitSelect, Part, Indexed, Unary, Binary, Cond, Concat, Repeat, Cast, Paren, End, More}
use Rattle.rr_bits.specs.Words.{extend, select, is_zero}
use Rattle.rr_expr.specs.declared.types.Bit.{Bit}
use Rattle.rr_expr.specs.declared.types.ExprFault.TheVariants.{BadRange, NotConstant}
use Rattle.rr_expr.specs.declared.operators.Infix.TheVariants.{Either}
use Rattle.rr_expr.specs.declared.operators.Prefix.TheVariants.{Plus}
use Rattle.rr_expr.specs.Operators.{infixes, prefixes, joined, prefix_shape, infix_shape, own_with, prefix_value, infix_value}
use Rattle.rr_expr.specs.Scopes.{Names, meant, entity_shape, entity_range, entity_value}
use Rattle.rr_expr.specs.Selects.{place, span, count, is_against, lowest_place, integer_with, repeated}
use Rattle.rr_expr.specs.Memories.{index_shape, index_value}
use Rattle.rr_expr.specs.Values.{form, widths, value, values, nowhere, unsigned_of}
use Rattle.rr_expr.specs.Faults.{fault, faults, first, first_part, or_else, fault_if, width_fault, name_fault, base_fault, index_fault, count_fault, takes_constants, is_bad}
use Rattle.rr_expr.specs.Reading.{Occurs, OccursIn}

mutual
  unfolding form value Occurs

  same : (s u : Names) (t : Tree) → ((name : List ℕ) → Occurs t name → meant s name ≡ meant u name) → (form s t ≡ form u t) × (value s t ≡ value u t)
  same s u (Name token x) h = let m = h x refl in (λ k. entity_shape (m k), λ k env w signed. extend w signed (entity_value env (m k)))
  same s u (Literal token n) h = (refl, refl)
  same s u (BitSelect token x i) h =
      let m = h x (inl refl) in
      let p = same s u i (λ n o. h n (inr o)) in
      (λ k. index_shape (m k), λ k env w signed. extend w signed (index_value env (m k) (integer_with (p.0 k) (p.1 k env))))
  same s u (Part token x l r) h =
      let m = h x (inl refl) in
      let p = same s u l (λ n o. h n (inr (inl o))) in
      let q = same s u r (λ n o. h n (inr (inr o))) in (
        λ k. unsigned_of (span (integer_with (p.0 k) (p.1 k nowhere)) (integer_with (q.0 k) (q.1 k nowhere))),
        λ k env w signed. extend w signed (select (entity_value env (m k)) (place (entity_range (m k)) (integer_with (q.0 k) (q.1 k nowhere))) (span (integer_with (p.0 k) (p.1 k nowhere)) (integer_with (q.0 k) (q.1 k nowhere)))),
      )
  same s u (Indexed token x f n up) h =
      let m = h x (inl refl) in
      let p = same s u f (λ n o. h n (inr (inl o))) in
      let q = same s u n (λ n o. h n (inr (inr o))) in (
        λ k. unsigned_of (count (integer_with (q.0 k) (q.1 k nowhere))),
        λ k env w signed. extend w signed (select (entity_value env (m k)) (lowest_place (entity_range (m k)) up (integer_with (p.0 k) (p.1 k env)) (count (integer_with (q.0 k) (q.1 k nowhere)))) (count (integer_with (q.0 k) (q.1 k nowhere)))),
      )
  same s u (Unary op t) h =
      let p = same s u t h in
      (λ k. prefix_shape (get_or prefixes op Plus) (p.0 k), λ k env. prefix_value (get_or prefixes op Plus) (p.0 k) (p.1 k env))
  same s u (Binary op l r) h =
      let p = same s u l (λ n o. h n (inl o)) in
      let q = same s u r (λ n o. h n (inr o)) in
      (λ k. infix_shape (get_or infixes op Either) (p.0 k) (q.0 k), λ k env. infix_value (get_or infixes op Either) (p.0 k) (q.0 k) (p.1 k env) (q.1 k env))
  same s u (Cond a b c) h =
      let p = same s u a (λ n o. h n (inl o)) in
      let q = same s u b (λ n o. h n (inr (inl o))) in
      let r = same s u c (λ n o. h n (inr (inr o))) in
      (λ k. joined (q.0 k) (r.0 k), λ k env w signed. cond (is_zero (own_with (p.0 k) (p.1 k env))) (r.1 k env w signed) (q.1 k env w signed))
  same s u (Concat ts) h =
      let p = sames s u ts h in
      (λ k. unsigned_of (p.0 k), λ k env w signed. extend w signed (p.1 k env))
  same s u (Repeat n ts) h =
      let p = same s u n (λ n o. h n (inl o)) in
      let q = sames s u ts (λ n o. h n (inr o)) in
      (λ k. unsigned_of (count (integer_with (p.0 k) (p.1 k nowhere)) * q.0 k), λ k env w signed. extend w signed (repeated (count (integer_with (p.0 k) (p.1 k nowhere))) (q.1 k env)))
  same s u (Cast to t) h =
      let p = same s u t h in
      (λ k. record { width = (p.0 k).width; signed = to }, λ k env w signed. extend w signed (own_with (p.0 k) (p.1 k env)))
  same s u (Paren t) h = same s u t h

  sames : (s u : Names) (ts : Trees) → ((name : List ℕ) → OccursIn ts name → meant s name ≡ meant u name) → (widths s ts ≡ widths u ts) × (values s ts ≡ values u ts)
  sames s u End h = (refl, refl)
  sames s u (More t ts) h =
      let p = same s u t (λ n o. h n (inl o)) in
      let q = sames s u ts (λ n o. h n (inr o)) in
      (λ k. (p.0 k).width + q.0 k, λ k env. q.1 k env ++ own_with (p.0 k) (p.1 k env))

mutual
  unfolding fault Occurs

  same_fault : (s u : Names) (t : Tree) → ((name : List ℕ) → Occurs t name → meant s name ≡ meant u name) → fault s t ≡ fault u t
  same_fault s u (Name token x) h = let m = h x refl in λ k constant. name_fault constant token (m k)
  same_fault s u (Literal token n) h = refl
  same_fault s u (BitSelect token x i) h =
      let m = h x (inl refl) in
      let p = same_fault s u i (λ n o. h n (inr o)) in
      λ k constant. or_else (index_fault constant token (m k)) (p k constant)
  same_fault s u (Part token x l r) h =
      let m = h x (inl refl) in
      let p = same s u l (λ n o. h n (inr (inl o))) in
      let q = same s u r (λ n o. h n (inr (inr o))) in
      let v = same_fault s u l (λ n o. h n (inr (inl o))) in
      let w = same_fault s u r (λ n o. h n (inr (inr o))) in
      λ k constant. or_else (base_fault constant token (m k)) (or_else (v k true) (or_else (w k true)
      (or_else (fault_if (is_against (entity_range (m k)) (integer_with (p.0 k) (p.1 k nowhere)) (integer_with (q.0 k) (q.1 k nowhere))) (BadRange token))
      (width_fault token (span (integer_with (p.0 k) (p.1 k nowhere)) (integer_with (q.0 k) (q.1 k nowhere)))))))
  same_fault s u (Indexed token x f n up) h =
      let m = h x (inl refl) in
      let q = same s u n (λ n o. h n (inr (inr o))) in
      let v = same_fault s u f (λ n o. h n (inr (inl o))) in
      let w = same_fault s u n (λ n o. h n (inr (inr o))) in
      λ k constant. or_else (base_fault constant token (m k)) (or_else (count_fault (w k true) token (count (integer_with (q.0 k) (q.1 k nowhere)))) (or_else (v k constant) (w k true)))
  same_fault s u (Unary op t) h = same_fault s u t h
  same_fault s u (Binary op l r) h =
      let p = same s u l (λ n o. h n (inl o)) in
      let q = same s u r (λ n o. h n (inr o)) in
      let v = same_fault s u l (λ n o. h n (inl o)) in
      let w = same_fault s u r (λ n o. h n (inr o)) in
      λ k constant. or_else (v k (constant || takes_constants (get_or infixes op Either))) (or_else (w k (constant || takes_constants (get_or infixes op Either)))
      (fault_if (is_bad (get_or infixes op Either) (p.0 k) (q.0 k) (q.1 k nowhere)) (NotConstant (first r))))
  same_fault s u (Cond a b c) h =
      let p = same_fault s u a (λ n o. h n (inl o)) in
      let q = same_fault s u b (λ n o. h n (inr (inl o))) in
      let r = same_fault s u c (λ n o. h n (inr (inr o))) in
      λ k constant. or_else (p k constant) (or_else (q k constant) (r k constant))
  same_fault s u (Concat ts) h =
      let p = sames s u ts h in
      let v = same_faults s u ts h in
      λ k constant. or_else (v k constant) (width_fault (first_part ts - 1) (p.0 k))
  same_fault s u (Repeat n ts) h =
      let p = same s u n (λ n o. h n (inl o)) in
      let q = sames s u ts (λ n o. h n (inr o)) in
      let v = same_fault s u n (λ n o. h n (inl o)) in
      let w = same_faults s u ts (λ n o. h n (inr o)) in
      λ k constant. or_else (v k true) (or_else (fault_if (count (integer_with (p.0 k) (p.1 k nowhere)) == 0) (BadRange (first n)))
      (or_else (w k constant) (width_fault (first n - 1) (count (integer_with (p.0 k) (p.1 k nowhere)) * q.0 k))))
  same_fault s u (Cast signed t) h = same_fault s u t h
  same_fault s u (Paren t) h = same_fault s u t h

  same_faults : (s u : Names) (ts : Trees) → ((name : List ℕ) → OccursIn ts name → meant s name ≡ meant u name) → faults s ts ≡ faults u ts
  same_faults s u End h = refl
  same_faults s u (More t ts) h =
      let p = same_fault s u t (λ n o. h n (inl o)) in
      let q = same_faults s u ts (λ n o. h n (inr o)) in
      λ k constant. or_else (p k constant) (q k constant)

pub shape_by_names : (s u : Names) (t : Tree) → ((name : List ℕ) → Occurs t name → meant s name ≡ meant u name) → form s t ≡ form u t
shape_by_names s u t h = (same s u t h).0

pub value_by_names : (s u : Names) (t : Tree) → ((name : List ℕ) → Occurs t name → meant s name ≡ meant u name) → (env : Bit → Bool) (w : ℕ) (signed : Bool) → value s t env w signed ≡ value u t env w signed
value_by_names s u t h env w signed = λ k. (same s u t h).1 k env w signed

pub fault_by_names : (s u : Names) (t : Tree) → ((name : List ℕ) → Occurs t name → meant s name ≡ meant u name) → (constant : Bool) → fault s t constant ≡ fault u t constant
fault_by_names s u t h constant = λ k. same_fault s u t h k constant

pub ruleset names_alone = (shape_by_names, value_by_names, fault_by_names)
