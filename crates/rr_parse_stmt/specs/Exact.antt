-- Which statement begins at a token.
use Rattle.std.specs.Prelude.{ℕ, ◌+◌, ◌≡◌, ◌≤◌, List, ◌++◌, length, drop, true}
use Rattle.rr_syntax.specs.declared.token.Token.{Token}
use Rattle.rr_syntax.specs.declared.tree.Stmt.{Stmt}
use Rattle.rr_syntax.specs.Words.{Word, words, keyword_else}
use Rattle.rr_syntax.specs.Tree.{Statement}
use Rattle.rr_syntax.specs.Statements.{spell_statement, depth_statement, is_open, WellFormedStatement, NumberedStatement}
use Rattle.rr_syntax.specs.View.{plain_statement}
use Rattle.rr_parse_expr.specs.declared.expression.ParseFault.{ParseFault}
use Rattle.rr_parse_expr.specs.declared.expression.ParseFault.TheVariants.{Unsupported, Syntax, Memory}
use Rattle.rr_parse_stmt.specs.Reading.{keyword}

-- a statement that is open at its end is followed by no `else` (section 9.4)
abbrev pub Closes : Statement → List Word → Type 0
Closes s left = is_open s ≡ true → keyword left ≡ keyword_else → ⊥

-- the first of these words spell this statement, which is at most so deep and ends there
pub record Stands (limit : ℕ) (ws : List Word) (s : Statement) : Type 0 where
  pub well : WellFormedStatement s
  pub shallow : depth_statement s ≤ limit
  pub left : List Word
  pub spelled : ws ≡ spell_statement s ++ left
  pub closes : Closes s left

-- this statement stands at the token `from`, each leaf has its token's number, and `next` is the token after it
pub record IsStatement (limit : ℕ) (tokens : List Token) (from : ℕ) (s : Stmt) (next : ℕ) : Type 0 where
  pub well : WellFormedStatement (plain_statement s)
  pub shallow : depth_statement (plain_statement s) ≤ limit
  pub spelled : drop from (words tokens) ≡ spell_statement (plain_statement s) ++ drop next (words tokens)
  pub closes : Closes (plain_statement s) (drop next (words tokens))
  pub taken : next ≡ from + length (spell_statement (plain_statement s))
  pub within : next ≤ length tokens
  pub numbered : NumberedStatement (plain_statement s) from

abbrev pub NoneStands : ℕ → List Token → ℕ → Type 0
NoneStands limit tokens from = (s : Statement) → Stands limit (drop from (words tokens)) s → ⊥

-- the fault is `Syntax` at the token `from`, at which no statement of the depth stands; want of memory is free
abbrev pub Fails : ℕ → List Token → ℕ → ParseFault → Type 0
Fails limit tokens from (Syntax at) = (at ≡ from) × NoneStands limit tokens from
Fails limit tokens from (Unsupported at) = ⊥
Fails limit tokens from Memory = Unit {0}
