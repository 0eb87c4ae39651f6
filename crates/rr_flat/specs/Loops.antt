-- Statements in which no loop stands (IEEE 1364-2005 section 9.6): those of flat designs, in which each loop is the block of its turns.
use Rattle.std.specs.Prelude.{Bool, true, false, ◌&&◌}
use Rattle.rr_syntax.specs.Tree.{Statement, Statements, Arm, Arms, Null, Block, If, IfElse, Case, Assign, For, Done, Then, CaseItem, NoArms, MoreArms}

unfoldable mutual
  pub is_loop_free : Statement → Bool
  is_loop_free Null = true
  is_loop_free (Block label ss) = all_loop_free ss
  is_loop_free (If t s) = is_loop_free s
  is_loop_free (IfElse t s u) = is_loop_free s && is_loop_free u
  is_loop_free (Case kind t arms) = arms_loop_free arms
  is_loop_free (Assign t now v) = true
  is_loop_free (For h s) = false

  pub all_loop_free : Statements → Bool
  all_loop_free Done = true
  all_loop_free (Then s ss) = is_loop_free s && all_loop_free ss

  pub arm_loop_free : Arm → Bool
  arm_loop_free (CaseItem labels colon s) = is_loop_free s

  pub arms_loop_free : Arms → Bool
  arms_loop_free NoArms = true
  arms_loop_free (MoreArms a rest) = arm_loop_free a && arms_loop_free rest
