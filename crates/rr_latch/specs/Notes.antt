-- Bits that are noted, each once in a list.
use Rattle.std.specs.Prelude.{◌≡◌, ℕ, List, Bool, true, false, ◌⊎◌}
use Rattle.rr_expr.specs.declared.types.Bit.{Bit}
use Rattle.rr_latch.specs.declared.early.Early.{Early}
use Rattle.rr_latch.specs.Paths.{assigned, Logged}

-- of the bits with a property those that are not assigned
abbrev pub Unassigned : List (List ℕ) → (Bit → Type 0) → Bit → Type 0
Unassigned rows P b = P b × (assigned rows b ≡ false)

-- a bit that is not to be noted: the block does not write it, or it is noted
abbrev pub is_shut : Early → Bit → Bool
is_shut e b = assigned e.unnoted b

-- the bits with a property, and no others, have been shut beside those that were, and are noted
pub record Noted (P : Bit → Type 0) (old new : Early) : Type 0 where
  pub keeps : (b : Bit) → is_shut old b ≡ true → is_shut new b ≡ true
  pub all : (b : Bit) → P b → is_shut new b ≡ true
  pub only : (b : Bit) → is_shut new b ≡ true → (is_shut old b ≡ true) ⊎ P b
  pub log : Logged old.bits.items new.bits.items (is_shut old) (is_shut new)
