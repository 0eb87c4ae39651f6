-- The first bodies of `always` items, as a table of them is made.
use Rattle.std.specs.Prelude.{ℕ, List, [], ◌∷◌, Option, None}
use Rattle.std.specs.Option.{option_or}
use Rattle.rr_syntax.specs.Tree.{ModuleItem}
use Rattle.rr_kept.specs.Kept.{body_at}

-- the number of tokens of the first body among items that begins at a token, where there is one
unfoldable pub first_body : ℕ → List ModuleItem → Option ℕ
first_body k [] = None
first_body k (x ∷ xs) = option_or (body_at k x) (first_body k xs)
