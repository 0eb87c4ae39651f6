-- The places in the file of the bytes of an expanded text.
use Rattle.std.specs.Prelude.{ℕ, List, false, get_or}
use Rattle.rr_directive.specs.declared.origin.Origin.{Origin}

abbrev pub no_origin : Origin
no_origin = record { offset = 0; exact = false }

abbrev pub offset_at : List Origin → ℕ → ℕ
offset_at origins k = (get_or origins k no_origin).offset
