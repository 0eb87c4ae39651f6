-- The inputs of a flat design's top for which a row of a table has values.
use Rattle.std.specs.Prelude.{ℕ, List, Bool, false, not, Option, Some, None, nat_eq}
use Rattle.std.specs.List.{filter}

abbrev pub is_clock : Option ℕ → ℕ → Bool
is_clock None id = false
is_clock (Some clock) id = nat_eq clock id

-- these but the clock, in port order
abbrev pub row_inputs : Option ℕ → List ℕ → List ℕ
row_inputs clock ids = filter (λ id. not (is_clock clock id)) ids
