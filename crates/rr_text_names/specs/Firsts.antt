-- The first of the faults of a law, in the order of the walk.
use Rattle.std.specs.Prelude.{ℕ, List, [], ◌∷◌, Option, Some, None, flat_map}
use Rattle.rr_flat.specs.declared.design.Part.{Part}
use Rattle.rr_flat.specs.Plain.{Flat}

unfoldable pub earliest : List ℕ → Option ℕ
earliest [] = None
earliest (x ∷ xs) = Some x

-- the faults of a law, by those of each driver, block and `initial` item
abbrev pub walked : (Part → List ℕ) → Flat → List ℕ
walked faults flat = flat_map faults flat.walk
