-- The names of loops as constants in a turn (IEEE 1364-2005 section 9.6).
use Rattle.std.specs.Prelude.{◌≡◌, ℕ, ◌<◌, List, [], ◌∷◌, Bool, true, cond, Option, Some, None}
use Rattle.std.specs.Str.{bytes_eq}
use Rattle.rr_bits.specs.Words.{word}
use Rattle.rr_syntax.specs.declared.token.Number.{Number}
use Rattle.rr_syntax.specs.Tree.{Tree, Trees, Name, Literal, Bit, Part, Indexed, Unary, Binary, Cond, Concat, Repeat, Cast, Paren, End, More}
use Rattle.rr_expr.specs.declared.types.Entity.{Entity}
use Rattle.rr_expr.specs.declared.types.Entity.TheVariants.{Constant}
use Rattle.rr_expr.specs.Scopes.{Names}

-- the names of the loops around and their values of 32 bits in a turn, the innermost loop first
abbrev pub Turn : Type 0
Turn = List (List ℕ × ℕ)

-- the value of a name in a turn
unfoldable pub turned : List ℕ → Turn → Option ℕ
turned name [] = None
turned name (e ∷ es) = cond (bytes_eq name e.0) (Some e.1) (turned name es)

-- the literal of a value: an integer has 32 bits and is signed (section 3.9), and no digit is x or z
abbrev pub literal_of : ℕ → Number
literal_of value = record { width = 32; signed = true; value = value; any = 0; unknown = 0 }

-- a name that stands by itself, with its value where it is a loop's
abbrev pub put_name : ℕ → List ℕ → Option ℕ → Tree
put_name token name None = Name token name
put_name token name (Some value) = Literal token (literal_of value)

-- a tree in which each name of a loop, where it stands by itself, is the literal of its value at the name's own token; the
-- base of a select stays
unfoldable mutual
  pub put_tree : Turn → Tree → Tree
  put_tree turn (Name token name) = put_name token name (turned name turn)
  put_tree turn (Literal token n) = Literal token n
  put_tree turn (Bit token name i) = Bit token name (put_tree turn i)
  put_tree turn (Part token name l r) = Part token name (put_tree turn l) (put_tree turn r)
  put_tree turn (Indexed token name f n up) = Indexed token name (put_tree turn f) (put_tree turn n) up
  put_tree turn (Unary op t) = Unary op (put_tree turn t)
  put_tree turn (Binary op l r) = Binary op (put_tree turn l) (put_tree turn r)
  put_tree turn (Cond a b c) = Cond (put_tree turn a) (put_tree turn b) (put_tree turn c)
  put_tree turn (Concat ts) = Concat (put_parts turn ts)
  put_tree turn (Repeat n ts) = Repeat (put_tree turn n) (put_parts turn ts)
  put_tree turn (Cast signed t) = Cast signed (put_tree turn t)
  put_tree turn (Paren t) = Paren (put_tree turn t)

  pub put_parts : Turn → Trees → Trees
  put_parts turn End = End
  put_parts turn (More t ts) = More (put_tree turn t) (put_parts turn ts)

-- a target (annex A.8.5): what is assigned stays, also by the name of a loop, and its indices are put; a tree of another form
-- is no target
unfoldable mutual
  pub put_target : Turn → Tree → Tree
  put_target turn (Name token name) = Name token name
  put_target turn (Literal token n) = Literal token n
  put_target turn (Bit token name i) = Bit token name (put_tree turn i)
  put_target turn (Part token name l r) = Part token name (put_tree turn l) (put_tree turn r)
  put_target turn (Indexed token name f n up) = Indexed token name (put_tree turn f) (put_tree turn n) up
  put_target turn (Unary op t) = Unary op (put_tree turn t)
  put_target turn (Binary op l r) = Binary op (put_tree turn l) (put_tree turn r)
  put_target turn (Cond a b c) = Cond (put_tree turn a) (put_tree turn b) (put_tree turn c)
  put_target turn (Concat ts) = Concat (put_targets turn ts)
  put_target turn (Repeat n ts) = Repeat (put_tree turn n) (put_parts turn ts)
  put_target turn (Cast signed t) = Cast signed (put_tree turn t)
  put_target turn (Paren t) = Paren (put_tree turn t)

  pub put_targets : Turn → Trees → Trees
  put_targets turn End = End
  put_targets turn (More t ts) = More (put_target turn t) (put_targets turn ts)

-- in the scope of a turn the names of its loops stand for constants
unfoldable pub in_turn : Turn → Names → Names
in_turn [] s = s
in_turn (e ∷ es) s = (e.0, Constant (word 32 e.1) true) ∷ in_turn es s

-- no select has the name of a loop of the turn as its base
unfoldable mutual
  pub HasNoBase : Turn → Tree → Type 0
  HasNoBase turn (Name token name) = Unit {0}
  HasNoBase turn (Literal token n) = Unit {0}
  HasNoBase turn (Bit token name i) = (turned name turn ≡ None) × HasNoBase turn i
  HasNoBase turn (Part token name l r) = (turned name turn ≡ None) × HasNoBase turn l × HasNoBase turn r
  HasNoBase turn (Indexed token name f n up) = (turned name turn ≡ None) × HasNoBase turn f × HasNoBase turn n
  HasNoBase turn (Unary op t) = HasNoBase turn t
  HasNoBase turn (Binary op l r) = HasNoBase turn l × HasNoBase turn r
  HasNoBase turn (Cond a b c) = HasNoBase turn a × HasNoBase turn b × HasNoBase turn c
  HasNoBase turn (Concat ts) = HaveNoBase turn ts
  HasNoBase turn (Repeat n ts) = HasNoBase turn n × HaveNoBase turn ts
  HasNoBase turn (Cast signed t) = HasNoBase turn t
  HasNoBase turn (Paren t) = HasNoBase turn t

  pub HaveNoBase : Turn → Trees → Type 0
  HaveNoBase turn End = Unit {0}
  HaveNoBase turn (More t ts) = HasNoBase turn t × HaveNoBase turn ts

-- each value is one of 32 bits
unfoldable pub IsTurn : Turn → Type 0
IsTurn [] = Unit {0}
IsTurn (e ∷ es) = (e.1 < 4294967296) × IsTurn es
