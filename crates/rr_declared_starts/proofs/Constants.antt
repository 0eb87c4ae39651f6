-- A constant expression means the same wherever the constants that it names do.
use Rattle.std.proofs.Common.{◌≡◌, ◌∙◌, sym, ap, ap₂, inl, inr, ℕ, ◌-◌, ◌*◌, ◌==◌, max, Bool, true, List, [], ◌++◌, get_or, Option, Some, None, Ok, refl, subst}
use Rattle.std.specs.Prelude.{pos}
use Rattle.rr_bits.specs.Words.{number, select}
use Rattle.rr_syntax.specs.Tree.{Tree, Trees, Name, Literal, Bit as BitSelect, Part, Indexed, Unary, Binary, Cond, Concat, Repeat, Cast, Paren, End, More, Range}
use Rattle.rr_expr.specs.declared.types.Entity.{Entity}
use Rattle.rr_expr.specs.declared.types.Entity.TheVariants as entity
use Rattle.rr_expr.specs.declared.types.ExprFault.{ExprFault}
use Rattle.rr_expr.specs.declared.types.ExprFault.TheVariants.{BadRange, NotConstant}
use Rattle.rr_expr.specs.declared.types.Shape.{Shape}
use Rattle.rr_expr.specs.declared.operators.Infix.TheVariants.{Either}
use Rattle.rr_expr.specs.Operators.{infixes}
use Rattle.rr_expr.specs.Scopes.{Names, meant, entity_range, is_scalar, range_width}
use Rattle.rr_expr.specs.Selects.{integer_with, is_against}
use Rattle.rr_expr.specs.Values.{form, widths, value, own, nowhere}
use Rattle.rr_expr.specs.Faults.{fault, faults, first, first_part, or_else, fault_if, width_fault, name_fault, base_fault, index_fault, count_fault, is_bad, constant_count, constant_span}
use Rattle.rr_expr.specs.Reading.{Occurs, OccursIn, AgreeAt}
use Rattle.rr_expr.proofs.NamesAlone.{shape_by_names, value_by_names, fault_by_names}
use Rattle.rr_flat.specs.declared.fault.FlatFault.TheVariants.{BadRange as BadRangeAt}
use Rattle.rr_flat.specs.Faults.{answer_of, faults_in, fault_if as faults_if}
use Rattle.rr_flat.specs.Signals.{Text, Signal}
use Rattle.rr_starts.specs.Starts.{start_of}
use Rattle.rr_declarations.specs.Values.{constant, bound_faults, between, bound_or_zero, is_beyond, range_in}
use Rattle.rr_flat_laws.proofs.Answers.{nil_left, nil_right, settled}
use Rattle.rr_declared_starts.specs.Starts.{Valued, BeginsAs}

-- The names of a constant expression

abbrev pub IsConstant : Entity → Type 0
IsConstant (entity.Constant bits signed) = Unit {0}
IsConstant (entity.Signal id range signed) = ⊥
IsConstant (entity.Memory first low words range signed) = ⊥
IsConstant entity.Instance = ⊥

first_none : (f g : Option ExprFault) → or_else f g ≡ None → f ≡ None
first_none None g h = refl
first_none (Some f) g h = cc

then_none : (f g : Option ExprFault) → or_else f g ≡ None → g ≡ None
then_none None g h = h
then_none (Some f) g h = cc

name_constant : (token : ℕ) (e : Entity) → name_fault true token e ≡ None → IsConstant e
name_constant token (entity.Constant bits signed) h = tt
name_constant token (entity.Signal id range signed) h = cc
name_constant token (entity.Memory first low words range signed) h = cc
name_constant token entity.Instance h = cc

base_constant : (token : ℕ) (e : Entity) → base_fault true token e ≡ None → IsConstant e
base_constant token e h = name_constant token e (first_none (name_fault true token e) (fault_if (is_scalar e) (BadRange token)) h)

index_constant : (token : ℕ) (e : Entity) → index_fault true token e ≡ None → IsConstant e
index_constant token (entity.Constant bits signed) h = tt
index_constant token (entity.Signal id range signed) h = base_constant token (entity.Signal id range signed) h
index_constant token (entity.Memory first low words range signed) h = cc
index_constant token entity.Instance h = base_constant token entity.Instance h

mutual
  unfolding fault Occurs

  constant_names : (s : Names) (t : Tree) (name : Text) → fault s t true ≡ None → Occurs t name → IsConstant (meant s name)
  constant_names s (Name token x) name h o = subst (λ (n : Text). IsConstant (meant s n)) o (name_constant token (meant s x) h)
  constant_names s (Literal token n) name h o = absurd o
  constant_names s (BitSelect token x i) name h (inl o) = subst (λ (n : Text). IsConstant (meant s n)) o (index_constant token (meant s x) (first_none (index_fault true token (meant s x)) (fault s i true) h))
  constant_names s (BitSelect token x i) name h (inr o) = constant_names s i name (then_none (index_fault true token (meant s x)) (fault s i true) h) o
  constant_names s (Part token x l r) name h o =
      let turned = fault_if (is_against (entity_range (meant s x)) (integer_with (form s l) (value s l nowhere)) (integer_with (form s r) (value s r nowhere))) (BadRange token) in
      let third = or_else turned (width_fault token (constant_span s l r)) in
      let second = or_else (fault s r true) third in
      let rest = then_none (base_fault true token (meant s x)) (or_else (fault s l true) second) h in
      elim o [
        | inl a ↦ subst (λ (n : Text). IsConstant (meant s n)) a (base_constant token (meant s x) (first_none (base_fault true token (meant s x)) (or_else (fault s l true) second) h))
        | inr b ↦ elim b [
          | inl c ↦ constant_names s l name (first_none (fault s l true) second rest) c
          | inr c ↦ constant_names s r name (first_none (fault s r true) third (then_none (fault s l true) second rest)) c
        ]
      ]
  constant_names s (Indexed token x f n up) name h o =
      let counted = count_fault (fault s n true) token (constant_count s n) in
      let last = or_else (fault s f true) (fault s n true) in
      let rest = then_none counted last (then_none (base_fault true token (meant s x)) (or_else counted last) h) in
      elim o [
        | inl a ↦ subst (λ (n : Text). IsConstant (meant s n)) a (base_constant token (meant s x) (first_none (base_fault true token (meant s x)) (or_else counted last) h))
        | inr b ↦ elim b [
          | inl c ↦ constant_names s f name (first_none (fault s f true) (fault s n true) rest) c
          | inr c ↦ constant_names s n name (then_none (fault s f true) (fault s n true) rest) c
        ]
      ]
  constant_names s (Unary op t) name h o = constant_names s t name h o
  constant_names s (Binary op l r) name h o =
      let bad = fault_if (is_bad (get_or infixes op Either) (form s l) (form s r) (value s r nowhere)) (NotConstant (first r)) in
      elim o [
        | inl a ↦ constant_names s l name (first_none (fault s l true) (or_else (fault s r true) bad) h) a
        | inr a ↦ constant_names s r name (first_none (fault s r true) bad (then_none (fault s l true) (or_else (fault s r true) bad) h)) a
      ]
  constant_names s (Cond a b c) name h o =
      let rest = then_none (fault s a true) (or_else (fault s b true) (fault s c true)) h in
      elim o [
        | inl x ↦ constant_names s a name (first_none (fault s a true) (or_else (fault s b true) (fault s c true)) h) x
        | inr x ↦ elim x [
          | inl y ↦ constant_names s b name (first_none (fault s b true) (fault s c true) rest) y
          | inr y ↦ constant_names s c name (then_none (fault s b true) (fault s c true) rest) y
        ]
      ]
  constant_names s (Concat ts) name h o = constants_name s ts name (first_none (faults s ts true) (width_fault (first_part ts - 1) (widths s ts)) h) o
  constant_names s (Repeat n ts) name h o =
      let wide = width_fault (first n - 1) (constant_count s n * widths s ts) in
      let none = fault_if (constant_count s n == 0) (BadRange (first n)) in
      elim o [
        | inl a ↦ constant_names s n name (first_none (fault s n true) (or_else none (or_else (faults s ts true) wide)) h) a
        | inr a ↦
            constants_name s ts name (first_none (faults s ts true) wide (then_none none (or_else (faults s ts true) wide) (then_none (fault s n true) (or_else none (or_else (faults s ts true) wide)) h))) a
      ]
  constant_names s (Cast signed t) name h o = constant_names s t name h o
  constant_names s (Paren t) name h o = constant_names s t name h o

  constants_name : (s : Names) (ts : Trees) (name : Text) → faults s ts true ≡ None → OccursIn ts name → IsConstant (meant s name)
  constants_name s End name h o = absurd o
  constants_name s (More t ts) name h (inl o) = constant_names s t name (first_none (fault s t true) (faults s ts true) h) o
  constants_name s (More t ts) name h (inr o) = constants_name s ts name (then_none (fault s t true) (faults s ts true) h) o

-- Two scopes, where the constants of one are those of the other

abbrev pub Carries : Names → Names → Type 0
Carries a b = (name : Text) → IsConstant (meant a name) → meant a name ≡ meant b name

module _ (a b : Names) (h : Carries a b) where
  agree : (t : Tree) → fault a t true ≡ None → AgreeAt a b t
  agree t f name o = h name (constant_names a t name f o)

  start_same : (w : ℕ) (t : Tree) → fault a t true ≡ None → start_of a w t ≡ start_of b w t
  start_same w t f =
      ap (λ (z : Shape). number (select (value a t nowhere (max w z.width) z.signed) (pos 0) w)) (shape_by_names a b t (agree t f))
      ∙ ap (λ (bits : List Bool). number (select bits (pos 0) w)) (value_by_names a b t (agree t f) nowhere (max w (form b t).width) (form b t).signed)

  constant_same : (t : Tree) → fault a t true ≡ None → constant a t ≡ constant b t
  unfolding constant
  constant_same t f =
      let shape = shape_by_names a b t (agree t f) in
      let word : own a t nowhere ≡ own b t nowhere = value_by_names a b t (agree t f) nowhere (form a t).width (form a t).signed ∙ ap (λ (z : Shape). value b t nowhere z.width z.signed) shape in
      ap₂ answer_of (fault_by_names a b t (agree t f) true) (ap₂ (λ (x : List Bool) (y : Bool). (x, y)) word (ap (λ (z : Shape). z.signed) shape))

  no_fault : {A : Type 0} (o : Option ExprFault) (x : A) → faults_in (answer_of o x) ≡ [] → o ≡ None
  no_fault None x e = refl
  no_fault (Some f) x e = absurd (cc)

  bound_clear : (at : ℕ) (t : Tree) → bound_faults at (constant a t) ≡ [] → fault a t true ≡ None
  unfolding constant
  bound_clear at t e = no_fault (fault a t true) (own a t nowhere, (form a t).signed) (nil_left (faults_in (constant a t)) (faults_if (is_beyond (constant a t)) (BadRangeAt at)) e)

  range_same : (o : Option Range) (r : Option (ℕ × ℕ)) → range_in a o ≡ Ok r → range_in b o ≡ Ok r
  unfolding range_in
  range_same None r e = e
  range_same (Some r) s e =
      let at = first r.left - 1 in
      let low = bound_faults at (constant a r.left) in
      let high = bound_faults at (constant a r.right) in
      let none = (settled (low ++ high) (Some (bound_or_zero (constant a r.left), bound_or_zero (constant a r.right))) s e).0 in
      ap₂ (between at) (sym (constant_same r.left (bound_clear at r.left (nil_left low high none)))) (sym (constant_same r.right (bound_clear at r.right (nil_right low high none)))) ∙ e

  -- what begins in the one way begins so in the other
  pub begins_too : (v : Valued) (s : Signal) → BeginsAs a v s → BeginsAs b v s
  begins_too v s x = record {
    ranged = range_same v.range s.range x.ranged;
    constant = sym (fault_by_names a b v.value (agree v.value x.constant) true) ∙ x.constant;
    begins = x.begins ∙ start_same (range_width s.range) v.value x.constant;
  }
