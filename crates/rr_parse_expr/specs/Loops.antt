-- What the loops of the reader keep.
use Rattle.std.specs.Prelude.{ℕ, ◌+◌, ◌≡◌, ◌≤◌, ◌<◌, List, length, drop}
use Rattle.rr_syntax.specs.declared.token.Token.{Token}
use Rattle.rr_syntax.specs.declared.tree.Expr.{Expr}
use Rattle.rr_syntax.specs.Words.{words}
use Rattle.rr_syntax.specs.Tree.{Trees}
use Rattle.rr_parse_expr.specs.declared.nodes.Read.{Read}
use Rattle.rr_parse_expr.specs.Reading.{Found, climb, reads, below, parts}
use Rattle.rr_parse_expr.specs.Answer.{form, forms, ReadAs, PartsRead}

-- after some operators
pub record Climbing (tokens : List Token) (from low limit : ℕ) (left : Read) : Type 0 where
  pub fuel : ℕ
  pub enough : limit ≤ fuel + left.depth
  pub whole : reads limit low (drop from (words tokens)) ≡ climb (below limit) limit low fuel (form left.expr) (drop left.next (words tokens))
  pub read : ReadAs tokens from limit left

-- after some parts of a list
pub record Collecting (tokens : List Token) (from limit : ℕ) (found : Found Trees) (items : List Expr) (next deepest : ℕ) : Type 0 where
  pub fuel : ℕ
  pub enough : length tokens < fuel + next
  pub whole : found ≡ parts (below limit) fuel (forms items) (drop next (words tokens))
  pub read : PartsRead tokens from limit items next deepest
