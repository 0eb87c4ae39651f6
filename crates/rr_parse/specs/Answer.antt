-- What the functions of the reader answer.
use Rattle.std.specs.Prelude.{ℕ, ◌+◌, ◌≡◌, ◌≤◌, ◌<◌, List, length, drop, Some, Result, Ok, Err}
use Rattle.rr_syntax.specs.declared.token.Token.{Token}
use Rattle.rr_syntax.specs.declared.tree.Expr.{Expr}
use Rattle.rr_syntax.specs.declared.tree.Stmt.{Stmt}
use Rattle.rr_syntax.specs.declared.tree.Bounds.{Bounds}
use Rattle.rr_syntax.specs.declared.tree.Dir.{Dir}
use Rattle.rr_syntax.specs.Words.{Word, words, mark_close_bracket, mark_colon}
use Rattle.rr_syntax.specs.Tree.{Tree, Range, Statement}
use Rattle.rr_syntax.specs.Items.{spell_dir}
use Rattle.rr_syntax.specs.View.{plain, plain_statement}
use Rattle.rr_parse_expr.specs.Reading.{Found, mark}
use Rattle.rr_parse_expr.specs.declared.expression.ParseFault.{ParseFault}
use Rattle.rr_parse_expr.specs.declared.expression.ParseFault.TheVariants.{Unsupported, Syntax, Memory}
use Rattle.rr_parse_stmt.specs.Reading.{keyword}
use Rattle.rr_grammar.specs.Formats.{Format, both, before_mark, shaped, Finds, FindsNone}
use Rattle.rr_grammar.specs.Leaves.{expression, to_range, of_range}
use Rattle.rr_parse_expr.specs.declared.lists.Piece.{Piece}
use denote.Ref.{Bor}

-- the fault says that no part of the format stands at the token; want of memory is free
abbrev pub Misses : {A : Type 0} → Format A → List Token → ℕ → ParseFault → Type 0
Misses F tokens from (Syntax at) = FindsNone F tokens from
Misses F tokens from (Unsupported at) = ⊥
Misses F tokens from Memory = Unit {0}

-- a part of the format, as the code's value stands for it, or none
abbrev pub Answers : {A B : Type 0} → Format B → (A → B) → List Token → ℕ → Result (Piece A) ParseFault → Type 0
Answers F plain tokens from (Ok r) = Finds F tokens from (plain r.value) r.next
Answers F plain tokens from (Err e) = Misses F tokens from e

-- this mark stands at the token, and `next` is the token after it
abbrev pub MarkAt : List Token → ℕ → ℕ → ℕ → Type 0
MarkAt tokens at m next = (next ≡ at + 1) × (mark (drop at (words tokens)) ≡ m) × (at < length tokens)

-- this reserved word stands there
abbrev pub WordAt : List Token → ℕ → ℕ → ℕ → Type 0
WordAt tokens at k next = (next ≡ at + 1) × (keyword (drop at (words tokens)) ≡ k) × (at < length tokens)

-- this mark stands at the token, or it does not
abbrev pub AnswersMark : List Token → ℕ → ℕ → Result ℕ ParseFault → Type 0
AnswersMark tokens at m (Ok next) = MarkAt tokens at m next
AnswersMark tokens at m (Err (Syntax place)) = mark (drop at (words tokens)) ≡ m → ⊥
AnswersMark tokens at m (Err (Unsupported place)) = ⊥
AnswersMark tokens at m (Err Memory) = ⊥

-- this reserved word stands at the token, or it does not
abbrev pub AnswersWord : List Token → ℕ → ℕ → Result ℕ ParseFault → Type 0
AnswersWord tokens at k (Ok next) = WordAt tokens at k next
AnswersWord tokens at k (Err (Syntax place)) = keyword (drop at (words tokens)) ≡ k → ⊥
AnswersWord tokens at k (Err (Unsupported place)) = ⊥
AnswersWord tokens at k (Err Memory) = ⊥

-- a value that stands for itself
abbrev pub the_same : {A : Type 0} → A → A
the_same a = a

-- what stands behind a reference
abbrev pub plain_behind : Bor Expr → Tree
plain_behind e = plain e.now

abbrev pub statement_behind : Bor Stmt → Statement
statement_behind s = plain_statement s.now

abbrev pub plain_bounds : Bounds → Range
plain_bounds b = record { left = plain b.left.now; right = plain b.right.now }

-- the two expressions of a range, with the marks behind them
abbrev pub bounds_of : ℕ → Format Range
bounds_of k = shaped (both (before_mark (expression k) mark_colon) (before_mark (expression k) mark_close_bracket)) to_range of_range

-- a direction from its second word on, where it has one
pub record FindsDirection (read : List Word → Found Dir) (tokens : List Token) (from : ℕ) (r : Piece Dir) : Type 0 where
  pub found_is : read (drop from (words tokens)) ≡ Some (r.value, drop r.next (words tokens))
  pub within : r.next ≤ length tokens
  pub taken : r.next + 1 ≡ from + length (spell_dir r.value)
