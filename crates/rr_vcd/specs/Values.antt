-- What a change says of the bits of a variable (IEEE 1364-2005 section 18.2.2): its digits, highest first, are extended to
-- the left, and x and z are unknown.
use Rattle.std.specs.Prelude.{ℕ, ◌+◌, ◌*◌, List, [], ◌∷◌, ◌++◌, length, map, drop, replicate, Bool, ◌||◌, ◌==◌, Option, Some, None, if◌then◌else◌}
use Rattle.rr_trace.specs.declared.cell.Cell.{Cell}
use Rattle.rr_trace.specs.Cells.{unknown_cell}

abbrev pub is_one : ℕ → Bool
is_one b = b == 49

abbrev pub is_known : ℕ → Bool
is_known b = b == 48 || b == 49

-- the number that binary digits write, highest first, behind those of another
unfoldable pub binary_from : ℕ → List Bool → ℕ
binary_from n [] = n
binary_from n (b ∷ bs) = binary_from (n * 2 + (if b then 1 else 0)) bs

abbrev pub binary : List Bool → ℕ
binary bs = binary_from 0 bs

-- what stands for missing digits: 0, or x or z where these are the first
abbrev pub extension : List ℕ → ℕ
extension [] = 48
extension (b ∷ bs) = if is_known b then 48 else b

-- the lowest so many of the digits, extended to the left
abbrev pub extended : ℕ → List ℕ → List ℕ
extended width digits = drop (length digits) (replicate width (extension digits) ++ digits)

abbrev pub cell_of_digits : List ℕ → Cell
cell_of_digits digits = record { value = binary (map is_one digits); known = binary (map is_known digits) }

-- before the first change nothing is known
abbrev pub cell_of : ℕ → Option (List ℕ) → Cell
cell_of width None = unknown_cell
cell_of width (Some digits) = cell_of_digits (extended width digits)
