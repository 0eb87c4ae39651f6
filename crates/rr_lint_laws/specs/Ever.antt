-- What a statement assigns, in its loops too (IEEE 1364-2005 sections 9.2 and 9.6).
use Rattle.std.specs.Prelude.{ℕ, List, [], ◌++◌, map}
use Rattle.rr_syntax.specs.Tree.{Statement, Statements, Arm, Arms, Null, Block, If, IfElse, Case, Assign, For, Done, Then, CaseItem, NoArms, MoreArms}
use Rattle.rr_flat.specs.Reads.{Assigned, assigned_parts}
use Rattle.rr_flat.specs.Targets.{part_name, target_parts}

-- each name or select that a statement assigns in some turn of its loops, if there is one, in the order of the text
unfoldable mutual
  pub ever_assigned : Statement → List Assigned
  ever_assigned Null = []
  ever_assigned (Block label ss) = ever_assigned_all ss
  ever_assigned (If c t) = ever_assigned t
  ever_assigned (IfElse c t u) = ever_assigned t ++ ever_assigned u
  ever_assigned (Case kind on arms) = ever_assigned_arms arms
  ever_assigned (Assign t now e) = assigned_parts now (target_parts t)
  ever_assigned (For h t) = ever_assigned t

  pub ever_assigned_all : Statements → List Assigned
  ever_assigned_all Done = []
  ever_assigned_all (Then t ts) = ever_assigned t ++ ever_assigned_all ts

  pub ever_assigned_arm : Arm → List Assigned
  ever_assigned_arm (CaseItem labels colon t) = ever_assigned t

  pub ever_assigned_arms : Arms → List Assigned
  ever_assigned_arms NoArms = []
  ever_assigned_arms (MoreArms a rest) = ever_assigned_arm a ++ ever_assigned_arms rest

-- the names among them, whole or in part, in the order of the text
abbrev pub ever_names : Statement → List (List ℕ)
ever_names body = map (λ a. part_name a.part) (ever_assigned body)
