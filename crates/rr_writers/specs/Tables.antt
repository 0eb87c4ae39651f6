-- Numbers by bit.
use Rattle.std.specs.Prelude.{ℕ, List, [], get_or, map, Vec}
use Rattle.std.specs.declared.alloc.Global.{Global}
use Rattle.rr_expr.specs.declared.types.Bit.{Bit}

-- the number of a bit, in rows by signal and then by place; where none was put it is 0
abbrev pub entry : List (List ℕ) → Bit → ℕ
entry rows b = get_or (get_or rows b.signal []) b.place 0

abbrev pub rows_of : List (Vec ℕ Global) → List (List ℕ)
rows_of rows = map (λ r. r.items) rows
