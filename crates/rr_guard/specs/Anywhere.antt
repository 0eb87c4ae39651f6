-- What a statement assigns, in its loops too.
use Rattle.std.specs.Prelude.{List, [], ◌++◌, if◌then◌else◌}
use Rattle.rr_syntax.specs.Tree.{Statement, Statements, Arm, Arms, Null, Block, If, IfElse, Case, Assign, For, Done, Then, CaseItem, NoArms, MoreArms, ModuleItem, Ports, Nets, Variables, Integers, Parameters, Assigns, Always, Initial, Instances}
use Rattle.rr_flat.specs.Reads.{Assigned, assigned_parts}
use Rattle.rr_flat.specs.Targets.{target_parts}
use Rattle.rr_change_places.specs.Spots.{has_edges}

-- all names and selects that a statement assigns, those in the bodies of its loops too, in the order of the text
-- (IEEE 1364-2005 sections 9.2 and 9.6)
unfoldable mutual
  pub assigned_anywhere : Statement → List Assigned
  assigned_anywhere Null = []
  assigned_anywhere (Block label ss) = assigned_anywhere_by_all ss
  assigned_anywhere (If c t) = assigned_anywhere t
  assigned_anywhere (IfElse c t u) = assigned_anywhere t ++ assigned_anywhere u
  assigned_anywhere (Case kind on arms) = assigned_anywhere_by_arms arms
  assigned_anywhere (Assign t now e) = assigned_parts now (target_parts t)
  assigned_anywhere (For h t) = assigned_anywhere t

  pub assigned_anywhere_by_all : Statements → List Assigned
  assigned_anywhere_by_all Done = []
  assigned_anywhere_by_all (Then t ts) = assigned_anywhere t ++ assigned_anywhere_by_all ts

  pub assigned_anywhere_by_arm : Arm → List Assigned
  assigned_anywhere_by_arm (CaseItem labels colon t) = assigned_anywhere t

  pub assigned_anywhere_by_arms : Arms → List Assigned
  assigned_anywhere_by_arms NoArms = []
  assigned_anywhere_by_arms (MoreArms a rest) = assigned_anywhere_by_arm a ++ assigned_anywhere_by_arms rest

-- and so an `always` with edges
unfoldable pub anywhere_at_edges : ModuleItem → List Assigned
anywhere_at_edges (Ports p) = []
anywhere_at_edges (Nets signed range list) = []
anywhere_at_edges (Variables signed range list) = []
anywhere_at_edges (Integers list) = []
anywhere_at_edges (Parameters p) = []
anywhere_at_edges (Assigns pairs) = []
anywhere_at_edges (Always events body token) = if has_edges events then assigned_anywhere body else []
anywhere_at_edges (Initial s token) = []
anywhere_at_edges (Instances m token overrides list) = []
