-- The shapes of the expressions of a statement, or their faults (IEEE 1364-2005 section 5.4).
use Rattle.std.specs.Prelude.{false, List, [], ◌++◌, Result}
use Rattle.rr_syntax.specs.Tree.{Tree, Trees, End, More, Statement, Statements, Arm, Arms, Null, Block, If, IfElse, Case, Assign, For, Done, Then, CaseItem, NoArms, MoreArms}
use Rattle.rr_expr.specs.Scopes.{Names}
use Rattle.rr_expr.specs.Values.{form}
use Rattle.rr_expr.specs.Faults.{fault}
use Rattle.rr_expr.specs.declared.types.Shape.{Shape}
use Rattle.rr_flat.specs.declared.fault.FlatFault.{FlatFault}
use Rattle.rr_flat.specs.Faults.{answer_of, faults_in}

-- the shape of an expression, or its first fault
unfoldable pub shape : Names → Tree → Result Shape FlatFault
shape names t = answer_of (fault names t false) (form names t)

abbrev pub shape_faults : Names → Tree → List FlatFault
shape_faults names t = faults_in (shape names t)

unfoldable pub list_faults : Names → Trees → List FlatFault
list_faults names End = []
list_faults names (More t ts) = shape_faults names t ++ list_faults names ts

-- each expression of a statement gets its shape; a loop has been unfolded before (section 9.6)
unfoldable mutual
  pub statement_faults : Names → Statement → List FlatFault
  statement_faults names Null = []
  statement_faults names (Block label ss) = statements_faults names ss
  statement_faults names (If t s) = shape_faults names t ++ statement_faults names s
  statement_faults names (IfElse t s u) = shape_faults names t ++ (statement_faults names s ++ statement_faults names u)
  statement_faults names (Case kind t arms) = shape_faults names t ++ arms_faults names arms
  statement_faults names (Assign t now v) = shape_faults names t ++ shape_faults names v
  statement_faults names (For h s) = []

  pub statements_faults : Names → Statements → List FlatFault
  statements_faults names Done = []
  statements_faults names (Then s ss) = statement_faults names s ++ statements_faults names ss

  pub arms_faults : Names → Arms → List FlatFault
  arms_faults names NoArms = []
  arms_faults names (MoreArms a rest) = arm_faults names a ++ arms_faults names rest

  pub arm_faults : Names → Arm → List FlatFault
  arm_faults names (CaseItem labels colon s) = list_faults names labels ++ statement_faults names s
