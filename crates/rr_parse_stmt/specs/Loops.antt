-- What the loops of the reader keep.
use Rattle.std.specs.Prelude.{ℕ, ◌+◌, ◌≡◌, ◌≤◌, ◌<◌, List, length, drop, if◌then◌else◌, nat_le, Option, Some, None}
use Rattle.rr_syntax.specs.declared.token.Token.{Token}
use Rattle.rr_syntax.specs.declared.tree.Stmt.{Stmt}
use Rattle.rr_syntax.specs.declared.tree.Arm.{Arm as Branch}
use Rattle.rr_syntax.specs.Words.{words}
use Rattle.rr_syntax.specs.Tree.{Statements, Arms, bare_statements, bare_arms}
use Rattle.rr_syntax.specs.Statements.{spell_statements, spell_arms, defaults, NumberedStatements, NumberedArms}
use Rattle.rr_syntax.specs.View.{plain_statements, plain_arms}
use Rattle.rr_parse_expr.specs.Reading.{Found}
use Rattle.rr_parse_stmt.specs.Reading.{body, arms, below_statement, below_arm}

-- a number, where it is at most 1
unfoldable pub at_most_one : ℕ → Option ℕ
at_most_one n = if nat_le n 1 then Some n else None

-- after some statements
pub record Bodied (tokens : List Token) (begin room : ℕ) (found : Found Statements) (items : List Stmt) (next : ℕ) : Type 0 where
  pub fuel : ℕ
  pub enough : length tokens < fuel + next
  pub whole : found ≡ body (below_statement room) fuel (bare_statements (plain_statements items)) (drop next (words tokens))
  pub within : next ≤ length tokens
  pub taken : next ≡ begin + length (spell_statements (plain_statements items))
  pub numbered : NumberedStatements (plain_statements items) begin

-- after some arms, which have as many defaults
pub record Armed (tokens : List Token) (begin room : ℕ) (found : Found Arms) (items : List Branch) (next : ℕ) (count : ℕ) : Type 0 where
  pub fuel : ℕ
  pub enough : length tokens < fuel + next
  pub whole : found ≡ arms (below_arm room) fuel (bare_arms (plain_arms items)) (drop next (words tokens))
  pub counted : count ≡ defaults (plain_arms items)
  pub once : count ≤ 1
  pub within : next ≤ length tokens
  pub taken : next ≡ begin + length (spell_arms (plain_arms items))
  pub numbered : NumberedArms (plain_arms items) begin
