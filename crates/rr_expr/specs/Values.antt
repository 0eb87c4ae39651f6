-- Width, sign and value of an expression (IEEE 1364-2005 sections 5.1, 5.2, 5.4 and 5.5).
use Rattle.std.specs.Prelude.{ℕ, ◌+◌, ◌*◌, List, [], ◌++◌, Bool, false, cond, get_or}
use Rattle.rr_bits.specs.Words.{word, extend, select, is_zero}
use Rattle.rr_syntax.specs.Tree.{Tree, Trees, Name, Literal, Bit as BitSelect, Part, Indexed, Unary, Binary, Cond, Concat, Repeat, Cast, Paren, End, More}
use Rattle.rr_expr.specs.declared.types.Bit.{Bit}
use Rattle.rr_expr.specs.declared.types.Shape.{Shape}
use Rattle.rr_expr.specs.declared.operators.Infix.TheVariants.{Either}
use Rattle.rr_expr.specs.declared.operators.Prefix.TheVariants.{Plus}
use Rattle.rr_expr.specs.Operators.{infixes, prefixes, joined, prefix_shape, infix_shape, own_with, prefix_value, infix_value}
use Rattle.rr_expr.specs.Scopes.{Names, meant, entity_shape, entity_range, entity_value, env_of}
use Rattle.rr_expr.specs.Selects.{place, span, count, lowest_place, integer_with, repeated}
use Rattle.rr_expr.specs.Memories.{index_shape, index_value}

-- an unsigned word of that many bits
abbrev pub unsigned_of : ℕ → Shape
unsigned_of w = record { width = w; signed = false }

-- where no signal has a value: the environment of constant expressions
abbrev pub nowhere : Bit → Bool
nowhere = env_of []

-- `form` is the width and the sign, `value` the word in a context of a width and a sign; the bounds of a part, the
-- width of an indexed part and the count of a replication are constant. The first part of a concatenation has the top bits.
unfoldable mutual
  pub form : Names → Tree → Shape
  form s (Name token name) = entity_shape (meant s name)
  form s (Literal token n) = record { width = n.width; signed = n.signed }
  form s (BitSelect token name i) = index_shape (meant s name)
  form s (Part token name l r) = unsigned_of (span (integer_with (form s l) (value s l nowhere)) (integer_with (form s r) (value s r nowhere)))
  form s (Indexed token name f n up) = unsigned_of (count (integer_with (form s n) (value s n nowhere)))
  form s (Unary op t) = prefix_shape (get_or prefixes op Plus) (form s t)
  form s (Binary op l r) = infix_shape (get_or infixes op Either) (form s l) (form s r)
  form s (Cond a b c) = joined (form s b) (form s c)
  form s (Concat ts) = unsigned_of (widths s ts)
  form s (Repeat n ts) = unsigned_of (count (integer_with (form s n) (value s n nowhere)) * widths s ts)
  form s (Cast signed t) = record { width = (form s t).width; signed = signed }
  form s (Paren t) = form s t

  pub widths : Names → Trees → ℕ
  widths s End = 0
  widths s (More t ts) = (form s t).width + widths s ts

  pub value : Names → Tree → (Bit → Bool) → ℕ → Bool → List Bool
  value s (Name token name) env w signed = extend w signed (entity_value env (meant s name))
  value s (Literal token n) env w signed = extend w signed (word n.width n.value)
  value s (BitSelect token name i) env w signed = extend w signed (index_value env (meant s name) (integer_with (form s i) (value s i env)))
  value s (Part token name l r) env w signed =
      extend w signed (select (entity_value env (meant s name)) (place (entity_range (meant s name)) (integer_with (form s r) (value s r nowhere))) (span (integer_with (form s l) (value s l nowhere)) (integer_with (form s r) (value s r nowhere))))
  value s (Indexed token name f n up) env w signed =
      extend w signed (select (entity_value env (meant s name)) (lowest_place (entity_range (meant s name)) up (integer_with (form s f) (value s f env)) (count (integer_with (form s n) (value s n nowhere)))) (count (integer_with (form s n) (value s n nowhere))))
  value s (Unary op t) env w signed = prefix_value (get_or prefixes op Plus) (form s t) (value s t env) w signed
  value s (Binary op l r) env w signed = infix_value (get_or infixes op Either) (form s l) (form s r) (value s l env) (value s r env) w signed
  value s (Cond a b c) env w signed = cond (is_zero (own_with (form s a) (value s a env))) (value s c env w signed) (value s b env w signed)
  value s (Concat ts) env w signed = extend w signed (values s ts env)
  value s (Repeat n ts) env w signed = extend w signed (repeated (count (integer_with (form s n) (value s n nowhere))) (values s ts env))
  value s (Cast to t) env w signed = extend w signed (own_with (form s t) (value s t env))
  value s (Paren t) env w signed = value s t env w signed

  pub values : Names → Trees → (Bit → Bool) → List Bool
  values s End env = []
  values s (More t ts) env = values s ts env ++ own_with (form s t) (value s t env)

-- by itself
abbrev pub own : Names → Tree → (Bit → Bool) → List Bool
own s t env = own_with (form s t) (value s t env)
