-- Why an expression has no shape, and where this shows first.
use Rattle.std.specs.Prelude.{ℕ, ◌-◌, ◌*◌, ◌==◌, min, List, Bool, true, false, cond, ◌&&◌, ◌||◌, get_or, Option, Some, None, nat_lt}
use Rattle.rr_bits.specs.Words.{is_zero, top}
use Rattle.rr_syntax.specs.Tree.{Tree, Trees, Name, Literal, Bit, Part, Indexed, Unary, Binary, Cond, Concat, Repeat, Cast, Paren, End, More}
use Rattle.rr_expr.specs.declared.types.Entity.{Entity}
use Rattle.rr_expr.specs.declared.types.Entity.TheVariants.{Constant, Signal, Memory, Instance}
use Rattle.rr_expr.specs.declared.types.Shape.{Shape}
use Rattle.rr_expr.specs.declared.types.ExprFault.{ExprFault}
use Rattle.rr_expr.specs.declared.types.ExprFault.TheVariants.{UnknownName, BadRange, NotConstant, TooWide}
use Rattle.rr_expr.specs.declared.operators.Infix.{Infix}
use Rattle.rr_expr.specs.declared.operators.Infix.TheVariants.{Arithmetic, Divide, Remainder, Power, Shifted, Compared, Both, Either}
use Rattle.rr_expr.specs.Operators.{infixes, joined, own_with}
use Rattle.rr_expr.specs.Scopes.{Names, meant, entity_shape, entity_range, is_scalar, range_width}
use Rattle.rr_expr.specs.Selects.{span, count, is_against, integer_with}
use Rattle.rr_expr.specs.Values.{form, widths, value, nowhere}

-- the number of a tree's first token (a tree without parts, which no source spells, has 0)
unfoldable mutual
  pub first : Tree → ℕ
  first (Name token name) = token
  first (Literal token n) = token
  first (Bit token name i) = token
  first (Part token name l r) = token
  first (Indexed token name f n up) = token
  first (Unary op t) = first t - 1
  first (Binary op l r) = first l
  first (Cond a b c) = first a
  first (Concat ts) = first_part ts - 1
  first (Repeat n ts) = first n - 1
  first (Cast signed t) = first t - 2
  first (Paren t) = first t - 1

  pub first_part : Trees → ℕ
  first_part End = 0
  first_part (More t ts) = first t

-- 1 to 128
abbrev pub is_width : ℕ → Bool
is_width w = nat_lt 0 w && nat_lt w 129

-- the number of bits or copies that a constant asks, and the number of indices between two constants
abbrev pub constant_count : Names → Tree → ℕ
constant_count s n = count (integer_with (form s n) (value s n nowhere))

abbrev pub constant_span : Names → Tree → Tree → ℕ
constant_span s l r = span (integer_with (form s l) (value s l nowhere)) (integer_with (form s r) (value s r nowhere))

-- each name stands for a parameter or a signal, and each width is 1 to 128
unfoldable mutual
  pub fits : Names → Tree → Bool
  fits s (Name token name) = is_width (entity_shape (meant s name)).width
  fits s (Literal token n) = is_width n.width
  fits s (Bit token name i) = is_width (entity_shape (meant s name)).width && fits s i
  fits s (Part token name l r) = is_width (entity_shape (meant s name)).width && (fits s l && (fits s r && is_width (constant_span s l r)))
  fits s (Indexed token name f n up) = is_width (entity_shape (meant s name)).width && (fits s f && (fits s n && is_width (constant_count s n)))
  fits s (Unary op t) = fits s t
  fits s (Binary op l r) = fits s l && fits s r
  fits s (Cond a b c) = fits s a && (fits s b && fits s c)
  fits s (Concat ts) = fit s ts && is_width (widths s ts)
  fits s (Repeat n ts) = fits s n && (fit s ts && is_width (constant_count s n * widths s ts))
  fits s (Cast signed t) = fits s t
  fits s (Paren t) = fits s t

  pub fit : Names → Trees → Bool
  fit s End = true
  fit s (More t ts) = fits s t && fit s ts

-- the first of two
abbrev pub or_else : Option ExprFault → Option ExprFault → Option ExprFault
or_else (Some f) g = Some f
or_else None g = g

abbrev pub fault_if : Bool → ExprFault → Option ExprFault
fault_if b f = cond b (Some f) None

-- a width that is not 1 to 128, whole where it is below 2^32
abbrev pub width_fault : ℕ → ℕ → Option ExprFault
width_fault token w = cond (is_width w) None (Some (TooWide token (min w 4294967295)))

-- of a name, where signals are not allowed if constant; a memory has no value but by an index
abbrev pub name_fault : Bool → ℕ → Entity → Option ExprFault
name_fault constant token (Constant bits signed) = width_fault token (entity_shape (Constant bits signed)).width
name_fault constant token (Signal id range signed) = cond constant (Some (NotConstant token)) (width_fault token (entity_shape (Signal id range signed)).width)
name_fault constant token (Memory first low words range signed) = cond constant (Some (NotConstant token)) (Some (BadRange token))
name_fault constant token Instance = Some (UnknownName token)

-- of the name of a part
abbrev pub base_fault : Bool → ℕ → Entity → Option ExprFault
base_fault constant token e = or_else (name_fault constant token e) (fault_if (is_scalar e) (BadRange token))

-- of the name of an index: a bit is asked of what is no scalar, a word of a memory
abbrev pub index_fault : Bool → ℕ → Entity → Option ExprFault
index_fault constant token (Constant bits signed) = base_fault constant token (Constant bits signed)
index_fault constant token (Signal id range signed) = base_fault constant token (Signal id range signed)
index_fault constant token (Memory first low words range signed) = cond constant (Some (NotConstant token)) (width_fault token (range_width range))
index_fault constant token Instance = base_fault constant token Instance

-- the operators whose operands are constant
abbrev pub takes_constants : Infix → Bool
takes_constants (Arithmetic op) = false
takes_constants Divide = true
takes_constants Remainder = true
takes_constants Power = true
takes_constants (Shifted op) = false
takes_constants (Compared op) = false
takes_constants Both = false
takes_constants Either = false

-- the second operand is a divisor that is 0, or a negative exponent
abbrev pub is_bad : Infix → Shape → Shape → (ℕ → Bool → List Bool) → Bool
is_bad (Arithmetic op) a b y = false
is_bad Divide a b y = is_zero (own_with (joined a b) y)
is_bad Remainder a b y = is_zero (own_with (joined a b) y)
is_bad Power a b y = b.signed && top (own_with b y)
is_bad (Shifted op) a b y = false
is_bad (Compared op) a b y = false
is_bad Both a b y = false
is_bad Either a b y = false

-- of an indexed part whose width has the first fault given: no bits, or too many
abbrev pub count_fault : Option ExprFault → ℕ → ℕ → Option ExprFault
count_fault (Some f) token n = None
count_fault None token n = cond (n == 0) (Some (BadRange token)) (width_fault token n)

-- the first fault in the order of the tokens, at one token the lower in the order of ExprFault's variants, but
-- `NotConstant` before `BadRange`; where `constant` no signal may stand
unfoldable mutual
  pub fault : Names → Tree → Bool → Option ExprFault
  fault s (Name token name) constant = name_fault constant token (meant s name)
  fault s (Literal token n) constant = width_fault token n.width
  fault s (Bit token name i) constant = or_else (index_fault constant token (meant s name)) (fault s i constant)
  fault s (Part token name l r) constant =
      or_else (base_fault constant token (meant s name)) (or_else (fault s l true) (or_else (fault s r true)
      (or_else (fault_if (is_against (entity_range (meant s name)) (integer_with (form s l) (value s l nowhere)) (integer_with (form s r) (value s r nowhere))) (BadRange token))
      (width_fault token (constant_span s l r)))))
  fault s (Indexed token name f n up) constant =
      or_else (base_fault constant token (meant s name)) (or_else (count_fault (fault s n true) token (constant_count s n)) (or_else (fault s f constant) (fault s n true)))
  fault s (Unary op t) constant = fault s t constant
  fault s (Binary op l r) constant =
      or_else (fault s l (constant || takes_constants (get_or infixes op Either))) (or_else (fault s r (constant || takes_constants (get_or infixes op Either)))
      (fault_if (is_bad (get_or infixes op Either) (form s l) (form s r) (value s r nowhere)) (NotConstant (first r))))
  fault s (Cond a b c) constant = or_else (fault s a constant) (or_else (fault s b constant) (fault s c constant))
  fault s (Concat ts) constant = or_else (faults s ts constant) (width_fault (first_part ts - 1) (widths s ts))
  fault s (Repeat n ts) constant =
      or_else (fault s n true) (or_else (fault_if (constant_count s n == 0) (BadRange (first n))) (or_else (faults s ts constant) (width_fault (first n - 1) (constant_count s n * widths s ts))))
  fault s (Cast signed t) constant = fault s t constant
  fault s (Paren t) constant = fault s t constant

  pub faults : Names → Trees → Bool → Option ExprFault
  faults s End constant = None
  faults s (More t ts) constant = or_else (fault s t constant) (faults s ts constant)
