-- Names with numbers: the first number that a name was given.
use Rattle.std.specs.Prelude.{ℕ, ◌+◌, List, [], ◌∷◌, Option, Some, None, if◌then◌else◌}
use Rattle.std.specs.Str.{bytes_eq}

abbrev pub Text : Type 0
Text = List ℕ

unfoldable pub number_of : Text → List (Text × ℕ) → Option ℕ
number_of name [] = None
number_of name (e ∷ es) = if bytes_eq name e.0 then Some e.1 else number_of name es

-- names with the numbers from k on
unfoldable pub numbered : ℕ → List Text → List (Text × ℕ)
numbered k [] = []
numbered k (t ∷ ts) = (t, k) ∷ numbered (k + 1) ts
