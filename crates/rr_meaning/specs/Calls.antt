-- Rows of inputs.
use Rattle.std.specs.Prelude.{◌≡◌, ℕ, List, length, Option}
use Rattle.rr_flat.specs.Plain.{Flat}
use Rattle.rr_flat.specs.Inputs.{row_inputs}

-- one number for each top input but the clock
abbrev pub IsRow : Flat → Option ℕ → List ℕ → Type 0
IsRow flat clock row = length row ≡ length (row_inputs clock flat.inputs)
