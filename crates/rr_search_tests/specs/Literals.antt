-- The sites of the tests.
use Rattle.std.specs.Prelude.{ℕ, false}
use Rattle.rr_choice.specs.Sites.{Site, Literal}

-- a literal of one bit without a sign
abbrev pub bit_at : ℕ → Site
bit_at token = record { kind = Literal 1 false; token = token }
