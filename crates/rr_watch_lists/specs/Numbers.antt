-- clauses with the numbers that name them
use Rattle.std.specs.Prelude.{ℕ, ◌+◌, List, [], ◌∷◌}
use Rattle.rr_cnf.specs.Clauses.{Literal}

-- a clause with the id that names it
pub record Numbered : Type 0 where
  pub id : ℕ
  pub clause : List Literal

-- the clauses with the ids from n on
abbrev pub numbered_from : ℕ → List (List Literal) → List Numbered
numbered_from n [] = []
numbered_from n (c ∷ cs) = record { id = n; clause = c } ∷ numbered_from (n + 1) cs
