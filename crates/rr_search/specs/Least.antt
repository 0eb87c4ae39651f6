-- The least repair of a design: the fewest changes of its sites that make it run as a table expects. No search and no circuit
-- stands in it.
use Rattle.std.specs.Prelude.{◌≡◌, ℕ, ◌≤◌, List}
use Rattle.rr_choice.specs.declared.pick.Pick.{Pick}
use Rattle.rr_choice.specs.Choices.{cost, IsChoice}
use Rattle.rr_choice.specs.Sites.{Site}
use Rattle.rr_trace.specs.Tables.{Table}
use Rattle.rr_transition.specs.Cycles.{Design, instance_design}
use Rattle.rr_unroll.specs.Matches.{Matches}

-- some choice of this cost gives an instance that matches, and no choice of smaller cost does
pub record Least (j : Design) (sites : List Site) (table : Table) (k : ℕ) : Type 0 where
  pub reached : (c : List Pick) × (IsChoice sites c × ((cost c ≡ k) × Matches (instance_design sites c j) table))
  pub least : (c : List Pick) → IsChoice sites c → Matches (instance_design sites c j) table → k ≤ cost c

-- no choice gives an instance that matches
abbrev pub NoneMatches : Design → List Site → Table → Type 0
NoneMatches j sites table = (c : List Pick) → IsChoice sites c → Matches (instance_design sites c j) table → ⊥
