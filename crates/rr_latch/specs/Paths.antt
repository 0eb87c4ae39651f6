-- The bits that are assigned on a path through a block, and the list of those that a part of it assigned.
use Rattle.std.specs.Prelude.{◌≡◌, ℕ, List, [], ◌∷◌, ◌++◌, Bool, true, false, not, ◌&&◌, ◌||◌, nat_eq, Option, Some, None, Vec}
use Rattle.std.specs.declared.alloc.Global.{Global}
use Rattle.rr_syntax.specs.Tree.{Statement, Statements, Arms}
use Rattle.rr_expr.specs.declared.types.Bit.{Bit}
use Rattle.rr_expr.specs.Scopes.{Names}
use Rattle.rr_flat.specs.Latches.{known_arms, has_default}
use Rattle.rr_flat.specs.Targets.{same_bit}
use Rattle.rr_writers.specs.Tables.{entry}
use Rattle.rr_latch.specs.Immediate.{immediate, immediate_all, immediate_arms}

-- a statement in which, with the flag, each `<=` that assigns counts as `=`
abbrev pub counted : Bool → Statement → Statement
counted true t = immediate t
counted false t = t

abbrev pub counted_all : Bool → Statements → Statements
counted_all true ts = immediate_all ts
counted_all false ts = ts

abbrev pub counted_arms : Bool → Arms → Arms
counted_arms true arms = immediate_arms arms
counted_arms false arms = arms

-- a bit is assigned where its number is 0
abbrev pub assigned : List (List ℕ) → Bit → Bool
assigned rows b = nat_eq (entry rows b) 0

unfoldable pub listed : List Bit → Bit → Bool
listed [] b = false
listed (c ∷ cs) b = same_bit c b || listed cs b

-- the list has grown by the bits that one set of assigned bits lacks and the other has
pub record Logged (old new : List Bit) (before after : Bit → Bool) : Type 0 where
  pub more : List Bit
  pub grown : new ≡ old ++ more
  pub only : (b : Bit) → listed more b ≡ (not (before b) && after b)

-- the bits that every branch so far newly assigns; before the first these are all that were not assigned
abbrev pub in_all : (Bit → Bool) → Option (Vec Bit Global) → Bit → Bool
in_all before None b = not (before b)
in_all before (Some c) b = listed c.items b

-- a part of a block leaves these assigned
pub record Ran (after before now : Bit → Bool) (old new : List Bit) : Type 0 where
  pub set : (b : Bit) → now b ≡ after b
  pub log : Logged old new before now

-- a `case` assigns what all its arms do, and without a default only what was assigned before
abbrev pub known_by_case : Names → (Bit → Bool) → Arms → Bit → Bool
known_by_case s before arms b = known_arms s before arms b && (has_default arms || before b)

abbrev pub listed_in : Option (Vec Bit Global) → Bit → Bool
listed_in None b = false
listed_in (Some c) b = listed c.items b

-- the bits of a branch: of the common ones those that are assigned, before the first branch those of the list
abbrev pub taken : List Bit → (Bit → Bool) → Option (Vec Bit Global) → Bit → Bool
taken log now None b = listed log b
taken log now (Some c) b = listed c.items b && now b
