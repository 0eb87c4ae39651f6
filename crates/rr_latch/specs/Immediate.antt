-- A statement in which each `<=` that assigns (IEEE 1364-2005 section 9.2.2) is `=` (section 9.2.1).
use Rattle.std.specs.Prelude.{true}
use Rattle.rr_syntax.specs.Tree.{Statement, Statements, Arm, Arms, Null, Block, If, IfElse, Case, Assign, For, Done, Then, CaseItem, NoArms, MoreArms}

unfoldable mutual
  pub immediate : Statement → Statement
  immediate Null = Null
  immediate (Block label ss) = Block label (immediate_all ss)
  immediate (If c t) = If c (immediate t)
  immediate (IfElse c t u) = IfElse c (immediate t) (immediate u)
  immediate (Case kind on arms) = Case kind on (immediate_arms arms)
  immediate (Assign t now e) = Assign t true e
  immediate (For h t) = For h (immediate t)

  pub immediate_all : Statements → Statements
  immediate_all Done = Done
  immediate_all (Then t ts) = Then (immediate t) (immediate_all ts)

  pub immediate_arm : Arm → Arm
  immediate_arm (CaseItem labels colon t) = CaseItem labels colon (immediate t)

  pub immediate_arms : Arms → Arms
  immediate_arms NoArms = NoArms
  immediate_arms (MoreArms a rest) = MoreArms (immediate_arm a) (immediate_arms rest)
