-- By which kind of assignment variables are written (IEEE 1364-2005 sections 9.2.1 and 9.2.2).
use Rattle.std.specs.Prelude.{◌≡◌, ℕ, List, [], ◌∷◌, ◌++◌, Bool, true, false, not, cond, ◌&&◌, ◌||◌, Option, Some, None, nat_eq, map, flat_map}
use Rattle.std.specs.List.{list_any}
use Rattle.rr_flat.specs.declared.design.Part as design
use Rattle.rr_flat.specs.declared.design.Part.TheVariants as part
use Rattle.rr_flat.specs.Plain.{Flat}
use Rattle.rr_flat.specs.Reads.{Assigned, assigned_by}
use Rattle.rr_flat.specs.Targets.{part_name}
use Rattle.rr_text_names.specs.Firsts.{earliest}
use Rattle.rr_flat.specs.Parts.{block_of}
use Rattle.rr_text_names.specs.Names.{variable_named, part_token}

-- a target of a block: the token of its name, the variable, which is a memory as a whole, whether it is assigned by `=`, and by a combinational block
pub record Aim : Type 0 where
  pub token : ℕ
  pub signal : Option ℕ
  pub now : Bool
  pub combinational : Bool

abbrev pub aim_of : Flat → ℕ → Bool → Assigned → Aim
aim_of flat i combinational a = record { token = part_token a.part; signal = variable_named flat i (part_name a.part); now = a.now; combinational = combinational }

abbrev pub is_combinational : design.Part → Bool
is_combinational (part.Driver k) = false
is_combinational (part.Clocked k) = false
is_combinational (part.Combinational k) = true
is_combinational (part.Initial k) = false

abbrev pub aims_of_part : Flat → design.Part → List Aim
aims_of_part flat p = map (aim_of flat (block_of flat p).scope (is_combinational p)) (assigned_by (block_of flat p).body)

-- all of them, in the order of the walk and of the text
abbrev pub aims : Flat → List Aim
aims flat = flat_map (aims_of_part flat) flat.walk

abbrev pub same_signal : Option ℕ → Option ℕ → Bool
same_signal None o = false
same_signal (Some a) None = false
same_signal (Some a) (Some b) = nat_eq a b

abbrev pub differs : Bool → Bool → Bool
differs a b = cond a (not b) b

-- a target that is assigned by `<=` in a combinational block, or whose variable is assigned by the other kind before
abbrev pub clashes : List Aim → Aim → Bool
clashes before a = (a.combinational && not a.now) || list_any (λ b. same_signal b.signal a.signal && differs b.now a.now) before

-- the targets that do, by their tokens
unfoldable pub wrong_after : List Aim → List Aim → List ℕ
wrong_after before [] = []
wrong_after before (a ∷ rest) = cond (clashes before a) (a.token ∷ []) [] ++ wrong_after (before ++ a ∷ []) rest

abbrev pub wrong_kinds : Flat → List ℕ
wrong_kinds flat = wrong_after [] (aims flat)

-- the kind by which a variable is first assigned
unfoldable pub kind_of : List Aim → ℕ → Option Bool
kind_of [] id = None
kind_of (a ∷ rest) id = cond (same_signal a.signal (Some id)) (Some a.now) (kind_of rest id)

-- a target whose variable has this kind before, if any, is at fault where it has the other
abbrev pub kind_fault : Option Bool → Bool → ℕ → Option ℕ
kind_fault None now token = None
kind_fault (Some kind) now token = cond (differs kind now) (Some token) None

-- a table by signal of the kinds of a list in which each variable has one
pub record HoldsKinds (before : List Aim) (table : ℕ → Option Bool) : Type 0 where
  pub kinds : (id : ℕ) → table id ≡ kind_of before id
  pub right : wrong_after [] before ≡ []

-- what is found of targets after others: either none is at fault, and the table has their kinds too, or the first that is
pub record AreNoted (before targets : List Aim) (table : ℕ → Option Bool) (found : Option ℕ) : Type 0 where
  pub clean : found ≡ None → HoldsKinds (before ++ targets) table
  pub fault : (at : ℕ) → found ≡ Some at → earliest (wrong_after before targets) ≡ Some at
