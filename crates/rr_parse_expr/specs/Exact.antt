-- Which expression begins at a token.
use Rattle.std.specs.Prelude.{ℕ, ◌+◌, ◌≡◌, ◌≤◌, ◌⊎◌, List, ◌++◌, length, drop, Bool, true, false, Some}
use Rattle.rr_syntax.specs.declared.token.Token.{Token}
use Rattle.rr_syntax.specs.declared.token.Mark.{Mark}
use Rattle.rr_syntax.specs.declared.tree.Expr.{Expr}
use Rattle.rr_syntax.specs.Words.{Word, words}
use Rattle.rr_syntax.specs.Tree.{Tree}
use Rattle.rr_syntax.specs.Expressions.{spell, depth, level, unary_level, is_target, WellFormed, Numbered}
use Rattle.rr_syntax.specs.View.{plain}
use Rattle.rr_parse_expr.specs.Fronts.{front_mark}
use Rattle.rr_parse_expr.specs.declared.expression.ParseFault.{ParseFault}
use Rattle.rr_parse_expr.specs.declared.expression.ParseFault.TheVariants.{Unsupported, Syntax, Memory}

-- the greatest depth of a tree that is read, an expression or a whole text, its root counted as 0
abbrev pub max_depth : ℕ
max_depth = 500

-- an expression (IEEE 1364-2005 section 5, annex A.8.3)
abbrev pub IsExpression : Tree → Type 0
IsExpression t = WellFormed t

-- an operand: a primary, or an operator before one (annex A.8.3, A.8.4)
abbrev pub IsOperand : Tree → Type 0
IsOperand t = WellFormed t × (unary_level ≤ level t)

-- the first of these words spell this tree, which is of the class and at most so deep
pub record Begins (Class : Tree → Type 0) (limit : ℕ) (ws : List Word) (t : Tree) : Type 0 where
  pub is : Class t
  pub shallow : depth t ≤ limit
  pub left : List Word
  pub spelled : ws ≡ spell t ++ left

-- at the token `from` the longest tree of the class and depth begins, each leaf has its token's number, and `next` is the token after it
pub record IsLongest (Class : Tree → Type 0) (limit : ℕ) (tokens : List Token) (from : ℕ) (e : Expr) (next : ℕ) : Type 0 where
  pub is : Class (plain e)
  pub shallow : depth (plain e) ≤ limit
  pub spelled : drop from (words tokens) ≡ spell (plain e) ++ drop next (words tokens)
  pub taken : next ≡ from + length (spell (plain e))
  pub within : next ≤ length tokens
  pub numbered : Numbered (plain e) from
  pub longest : (t : Tree) → Begins Class limit (drop from (words tokens)) t → length (spell t) ≤ length (spell (plain e))

-- no tree of the class and depth begins at the token `from`
abbrev pub NoneBegins : (Tree → Type 0) → ℕ → List Token → ℕ → Type 0
NoneBegins Class limit tokens from = (t : Tree) → Begins Class limit (drop from (words tokens)) t → ⊥

-- the fault is `Syntax` at the token `from`, at which no tree of the class and depth begins; want of memory is free
abbrev pub Fails : (Tree → Type 0) → ℕ → List Token → ℕ → ParseFault → Type 0
Fails Class limit tokens from (Syntax at) = (at ≡ from) × NoneBegins Class limit tokens from
Fails Class limit tokens from (Unsupported at) = ⊥
Fails Class limit tokens from Memory = Unit {0}

-- the longest operand at the token `from`, and whether it may be assigned (annex A.8.5)
pub record IsLongestOperand (assignable : Bool) (limit : ℕ) (tokens : List Token) (from : ℕ) (e : Expr) (next : ℕ) : Type 0 where
  pub operand : IsLongest IsOperand limit tokens from e next
  pub assigned : is_target (plain e) ≡ assignable

-- a target: the longest operand at the token, which may be assigned
abbrev pub IsTarget : ℕ → List Token → ℕ → Expr → ℕ → Type 0
IsTarget limit tokens from e next = IsLongestOperand true limit tokens from e next

-- no operand begins at the token `from`, or the longest one that does may not be assigned
abbrev pub NoTarget : ℕ → List Token → ℕ → Type 0
NoTarget limit tokens from = NoneBegins IsOperand limit tokens from ⊎ ((e : Expr) × (next : ℕ) × IsLongestOperand false limit tokens from e next)

-- the fault is `Syntax` at the token `from`, where no target stands; want of memory is free
abbrev pub FailsTarget : ℕ → List Token → ℕ → ParseFault → Type 0
FailsTarget limit tokens from (Syntax at) = (at ≡ from) × NoTarget limit tokens from
FailsTarget limit tokens from (Unsupported at) = ⊥
FailsTarget limit tokens from Memory = Unit {0}

-- the longest expression at the token `from`, with this mark behind it; `next` is the token after the mark
pub record IsClosed (closing : Mark) (limit : ℕ) (tokens : List Token) (from : ℕ) (e : Expr) (next : ℕ) : Type 0 where
  pub end : ℕ
  pub expression : IsLongest IsExpression limit tokens from e end
  pub closes : front_mark (drop end (words tokens)) ≡ Some closing
  pub behind : next ≡ end + 1
  pub within : next ≤ length tokens

-- no expression begins at the token `from`, or the mark is not behind the longest one that does
abbrev pub NoClosed : Mark → ℕ → List Token → ℕ → Type 0
NoClosed closing limit tokens from =
    NoneBegins IsExpression limit tokens from ⊎ ((e : Expr) × (end : ℕ) × IsLongest IsExpression limit tokens from e end × (front_mark (drop end (words tokens)) ≡ Some closing → ⊥))

-- the fault is `Syntax` at the token `from`, where no expression with this mark behind it stands; want of memory is free
abbrev pub FailsClosed : Mark → ℕ → List Token → ℕ → ParseFault → Type 0
FailsClosed closing limit tokens from (Syntax at) = (at ≡ from) × NoClosed closing limit tokens from
FailsClosed closing limit tokens from (Unsupported at) = ⊥
FailsClosed closing limit tokens from Memory = Unit {0}
