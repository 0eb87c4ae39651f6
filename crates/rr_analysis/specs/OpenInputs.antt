-- what may be decided next
use Rattle.std.specs.Prelude.{ℕ, ◌≤◌, List, Contains}
use Rattle.rr_cnf.specs.Clauses.{Literal, negated}

-- neither the literal nor its negation is true
pub record IsOpenInput (held : List Literal) (inputs : ℕ) (l : Literal) : Type 0 where
  pub low : 1 ≤ l.var
  pub high : l.var ≤ inputs
  pub not_true : Contains held l → ⊥
  pub not_false : Contains held (negated l) → ⊥
