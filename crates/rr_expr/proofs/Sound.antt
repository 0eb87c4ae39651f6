-- an expression without a fault has a width
use Rattle.std.proofs.Common.{◌≡◌, ℕ, ◌-◌, ◌*◌, List, ◌==◌, ◌≤◌, min, max, Bool, true, false, cond, Option, Some, None, refl, arith, ◌&&◌, ◌||◌, nat_lt, get_or}
use Rattle.std.proofs.lemmas.Bool.{and_from, and_parts, ltb-true}
use Rattle.rr_syntax.specs.Tree.{Tree, Trees, Name, Literal, Bit, Part, Indexed, Unary, Binary, Cond, Concat, Repeat, Cast, Paren, End, More}
use Rattle.rr_expr.specs.declared.types.Entity.{Entity}
use Rattle.rr_expr.specs.declared.types.Entity.TheVariants.{Constant, Signal, Memory, Instance}
use Rattle.rr_expr.specs.declared.types.ExprFault.{ExprFault}
use Rattle.rr_expr.specs.declared.types.ExprFault.TheVariants.{TooWide, BadRange, NotConstant}
use Rattle.rr_expr.specs.declared.types.Shape.{Shape}
use Rattle.rr_expr.specs.declared.operators.Infix.{Infix}
use Rattle.rr_expr.specs.declared.operators.Infix.TheVariants.{Arithmetic, Divide, Remainder, Power, Shifted, Compared, Both, Either}
use Rattle.rr_expr.specs.declared.operators.Prefix.{Prefix}
use Rattle.rr_expr.specs.declared.operators.Prefix.TheVariants.{Plus, Minus, Invert, Reduced}
use Rattle.rr_expr.specs.Operators.{infixes, prefixes, prefix_shape, infix_shape}
use Rattle.rr_expr.specs.Scopes.{Names, meant, entity_shape, entity_range, is_scalar, range_width}
use Rattle.rr_expr.specs.Memories.{index_shape}
use Rattle.rr_expr.specs.Selects.{integer_with, is_against}
use Rattle.rr_expr.specs.Values.{form, widths, value, nowhere}
use Rattle.rr_expr.specs.Faults.{fits, fit, fault, faults, or_else, fault_if, width_fault, name_fault, base_fault, index_fault, count_fault, takes_constants, constant_count, constant_span, is_bad, first, first_part, is_width}

none_parts : (f g : Option ExprFault) → or_else f g ≡ None → (f ≡ None) × (g ≡ None)
none_parts None g h = (refl, h)
none_parts (Some f) g h = cc

sized : (token w : ℕ) → width_fault token w ≡ None → is_width w ≡ true
sized token w h = by_cases (is_width w) refl h
  where
    by_cases : (b : Bool) → is_width w ≡ b → cond b None (Some (TooWide token (min w 4294967295))) ≡ None → is_width w ≡ true
    by_cases true e g = e
    by_cases false e g = cc

named : (constant : Bool) (token : ℕ) (e : Entity) → name_fault constant token e ≡ None → is_width (entity_shape e).width ≡ true
named constant token (Constant bits signed) h = sized token (entity_shape (Constant bits signed)).width h
named false token (Signal id range signed) h = sized token (entity_shape (Signal id range signed)).width h
named true token (Signal id range signed) h = cc
named false token (Memory first low words range signed) h = cc
named true token (Memory first low words range signed) h = cc
named constant token Instance h = cc

counted : (f : Option ExprFault) (token n : ℕ) → f ≡ None → count_fault f token n ≡ None → is_width n ≡ true
counted (Some f) token n e h = cc
counted None token n e h = by_cases (n == 0) h
  where
    by_cases : (b : Bool) → cond b (Some (BadRange token)) (width_fault token n) ≡ None → is_width n ≡ true
    by_cases true g = cc
    by_cases false g = sized token n g

-- the name of a part
base_named : (constant : Bool) (token : ℕ) (e : Entity) → base_fault constant token e ≡ None → is_width (entity_shape e).width ≡ true
base_named constant token e h = named constant token e (none_parts (name_fault constant token e) (fault_if (is_scalar e) (BadRange token)) h).0

-- and of an index
index_named : (constant : Bool) (token : ℕ) (e : Entity) → index_fault constant token e ≡ None → is_width (entity_shape e).width ≡ true
index_named constant token (Constant bits signed) h = base_named constant token (Constant bits signed) h
index_named constant token (Signal id range signed) h = base_named constant token (Signal id range signed) h
index_named false token (Memory first low words range signed) h = sized token (range_width range) h
index_named true token (Memory first low words range signed) h = cc
index_named constant token Instance h = base_named constant token Instance h

abbrev turned : Names → ℕ → List ℕ → Tree → Tree → Option ExprFault
turned s token name l r = fault_if (is_against (entity_range (meant s name)) (integer_with (form s l) (value s l nowhere)) (integer_with (form s r) (value s r nowhere))) (BadRange token)

mutual
  unfolding fits fault

  pub fits_without_fault : (s : Names) (constant : Bool) (t : Tree) → fault s t constant ≡ None → fits s t ≡ true
  fits_without_fault s constant (Name token name) h = named constant token (meant s name) h
  fits_without_fault s constant (Literal token n) h = sized token n.width h
  fits_without_fault s constant (Bit token name i) h =
      let p = none_parts (index_fault constant token (meant s name)) (fault s i constant) h in
      and_from (is_width (entity_shape (meant s name)).width) (fits s i) (index_named constant token (meant s name) p.0) (fits_without_fault s constant i p.1)
  fits_without_fault s constant (Part token name l r) h =
      let w = width_fault token (constant_span s l r) in
      let p = none_parts (base_fault constant token (meant s name)) (or_else (fault s l true) (or_else (fault s r true) (or_else (turned s token name l r) w))) h in
      let q = none_parts (fault s l true) (or_else (fault s r true) (or_else (turned s token name l r) w)) p.1 in
      let u = none_parts (fault s r true) (or_else (turned s token name l r) w) q.1 in
      let v = none_parts (turned s token name l r) w u.1 in
      and_from (is_width (entity_shape (meant s name)).width) (fits s l && (fits s r && is_width (constant_span s l r))) (base_named constant token (meant s name) p.0)
      (and_from (fits s l) (fits s r && is_width (constant_span s l r)) (fits_without_fault s true l q.0)
      (and_from (fits s r) (is_width (constant_span s l r)) (fits_without_fault s true r u.0) (sized token (constant_span s l r) v.1)))
  fits_without_fault s constant (Indexed token name f n up) h =
      let w = count_fault (fault s n true) token (constant_count s n) in
      let p = none_parts (base_fault constant token (meant s name)) (or_else w (or_else (fault s f constant) (fault s n true))) h in
      let q = none_parts w (or_else (fault s f constant) (fault s n true)) p.1 in
      let u = none_parts (fault s f constant) (fault s n true) q.1 in
      and_from (is_width (entity_shape (meant s name)).width) (fits s f && (fits s n && is_width (constant_count s n))) (base_named constant token (meant s name) p.0)
      (and_from (fits s f) (fits s n && is_width (constant_count s n)) (fits_without_fault s constant f u.0)
      (and_from (fits s n) (is_width (constant_count s n)) (fits_without_fault s true n u.1) (counted (fault s n true) token (constant_count s n) u.1 q.0)))
  fits_without_fault s constant (Unary op t) h = fits_without_fault s constant t h
  fits_without_fault s constant (Binary op l r) h =
      let k = constant || takes_constants (get_or infixes op Either) in
      let bad = fault_if (is_bad (get_or infixes op Either) (form s l) (form s r) (value s r nowhere)) (NotConstant (first r)) in
      let p = none_parts (fault s l k) (or_else (fault s r k) bad) h in
      let q = none_parts (fault s r k) bad p.1 in
      and_from (fits s l) (fits s r) (fits_without_fault s k l p.0) (fits_without_fault s k r q.0)
  fits_without_fault s constant (Cond a b c) h =
      let p = none_parts (fault s a constant) (or_else (fault s b constant) (fault s c constant)) h in
      let q = none_parts (fault s b constant) (fault s c constant) p.1 in
      and_from (fits s a) (fits s b && fits s c) (fits_without_fault s constant a p.0) (and_from (fits s b) (fits s c) (fits_without_fault s constant b q.0) (fits_without_fault s constant c q.1))
  fits_without_fault s constant (Concat ts) h =
      let p = none_parts (faults s ts constant) (width_fault (first_part ts - 1) (widths s ts)) h in
      and_from (fit s ts) (is_width (widths s ts)) (fit_without_faults s constant ts p.0) (sized (first_part ts - 1) (widths s ts) p.1)
  fits_without_fault s constant (Repeat n ts) h =
      let w = width_fault (first n - 1) (constant_count s n * widths s ts) in
      let none = fault_if (constant_count s n == 0) (BadRange (first n)) in
      let p = none_parts (fault s n true) (or_else none (or_else (faults s ts constant) w)) h in
      let q = none_parts none (or_else (faults s ts constant) w) p.1 in
      let u = none_parts (faults s ts constant) w q.1 in
      and_from (fits s n) (fit s ts && is_width (constant_count s n * widths s ts)) (fits_without_fault s true n p.0)
      (and_from (fit s ts) (is_width (constant_count s n * widths s ts)) (fit_without_faults s constant ts u.0) (sized (first n - 1) (constant_count s n * widths s ts) u.1))
  fits_without_fault s constant (Cast signed t) h = fits_without_fault s constant t h
  fits_without_fault s constant (Paren t) h = fits_without_fault s constant t h

  pub fit_without_faults : (s : Names) (constant : Bool) (ts : Trees) → faults s ts constant ≡ None → fit s ts ≡ true
  fit_without_faults s constant End h = refl
  fit_without_faults s constant (More t ts) h =
      let p = none_parts (fault s t constant) (faults s ts constant) h in
      and_from (fits s t) (fit s ts) (fits_without_fault s constant t p.0) (fit_without_faults s constant ts p.1)

prefix_positive : (op : Prefix) (a : Shape) → 1 ≤ a.width → 1 ≤ (prefix_shape op a).width
prefix_positive Plus a h = h
prefix_positive Minus a h = h
prefix_positive Invert a h = h
prefix_positive (Reduced op) a h = omega arith

infix_positive : (op : Infix) (a b : Shape) → 1 ≤ a.width → 1 ≤ (infix_shape op a b).width
infix_positive (Arithmetic op) a b h = omega arith
infix_positive Divide a b h = omega arith
infix_positive Remainder a b h = omega arith
infix_positive Power a b h = h
infix_positive (Shifted op) a b h = h
infix_positive (Compared op) a b h = omega arith
infix_positive Both a b h = omega arith
infix_positive Either a b h = omega arith

positive : (w : ℕ) → is_width w ≡ true → 1 ≤ w
positive w h = ltb-true 0 w (and_parts (nat_lt 0 w) (nat_lt w 129) h).0

last_of : (a b c w : Bool) → (a && (b && (c && w))) ≡ true → w ≡ true
last_of true true true w h = h
last_of true true false w h = cc
last_of true false c w h = cc
last_of false b c w h = cc

middle_of : (a b c : Bool) → (a && (b && c)) ≡ true → b ≡ true
middle_of true true c h = refl
middle_of true false c h = cc
middle_of false b c h = cc

last_two : (a b w : Bool) → (a && (b && w)) ≡ true → w ≡ true
last_two true true w h = h
last_two true false w h = cc
last_two false b w h = cc

wider : (a b : ℕ) → 1 ≤ a → 1 ≤ max a b
wider a b h = omega arith

index_positive : (e : Entity) → is_width (entity_shape e).width ≡ true → 1 ≤ (index_shape e).width
index_positive (Constant bits signed) h = omega arith
index_positive (Signal id range signed) h = omega arith
index_positive (Memory first low words range signed) h = positive (range_width range) h
index_positive Instance h = omega arith

-- an expression that fits has a bit
pub width_positive : (s : Names) (t : Tree) → fits s t ≡ true → 1 ≤ (form s t).width
unfolding fits form
width_positive s (Name token name) h = positive (entity_shape (meant s name)).width h
width_positive s (Literal token n) h = positive n.width h
width_positive s (Bit token name i) h = index_positive (meant s name) (and_parts (is_width (entity_shape (meant s name)).width) (fits s i) h).0
width_positive s (Part token name l r) h = positive (constant_span s l r) (last_of (is_width (entity_shape (meant s name)).width) (fits s l) (fits s r) (is_width (constant_span s l r)) h)
width_positive s (Indexed token name f n up) h = positive (constant_count s n) (last_of (is_width (entity_shape (meant s name)).width) (fits s f) (fits s n) (is_width (constant_count s n)) h)
width_positive s (Unary op t) h = prefix_positive (get_or prefixes op Plus) (form s t) (width_positive s t h)
width_positive s (Binary op l r) h = infix_positive (get_or infixes op Either) (form s l) (form s r) (width_positive s l (and_parts (fits s l) (fits s r) h).0)
width_positive s (Cond a b c) h = wider (form s b).width (form s c).width (width_positive s b (middle_of (fits s a) (fits s b) (fits s c) h))
width_positive s (Concat ts) h = positive (widths s ts) (and_parts (fit s ts) (is_width (widths s ts)) h).1
width_positive s (Repeat n ts) h = positive (constant_count s n * widths s ts) (last_two (fits s n) (fit s ts) (is_width (constant_count s n * widths s ts)) h)
width_positive s (Cast signed t) h = width_positive s t h
width_positive s (Paren t) h = width_positive s t h
