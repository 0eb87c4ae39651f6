-- Which statements and expressions stand in which, as far as a change may be made there.
use Rattle.std.specs.Prelude.{◌≡◌, ℕ, Bool, false, Option, get_or}
use Rattle.rr_syntax.specs.Tree.{Tree, Trees, Unary, Binary, Cond, Concat, Repeat, Cast, Paren, More, Identifier, LoopHead, Statement, Statements, Arm, Arms, Block, If, IfElse, Case, For, Then, CaseItem, MoreArms}
use Rattle.rr_expr.specs.declared.operators.Infix.TheVariants.{Either}
use Rattle.rr_expr.specs.Faults.{takes_constants}
use Rattle.rr_expr.specs.Operators.{infixes}

-- one of a list
pub data IsPart (t : Tree) : Trees → Type 0 where
  first_part : {ts : Trees} → IsPart t (More t ts)
  later_part : {u : Tree} {ts : Trees} → IsPart t ts → IsPart t (More u ts)

pub data IsOneOf (t : Statement) : Statements → Type 0 where
  first_statement : {ts : Statements} → IsOneOf t (Then t ts)
  later_statement : {u : Statement} {ts : Statements} → IsOneOf t ts → IsOneOf t (Then u ts)

pub data IsArm (a : Arm) : Arms → Type 0 where
  first_arm : {rest : Arms} → IsArm a (MoreArms a rest)
  later_arm : {b : Arm} {rest : Arms} → IsArm a rest → IsArm a (MoreArms b rest)

-- an expression that is another one, or stands in it outside the constant places: not in an index, a bound or a replication
-- count, and not as an operand of `/`, `%` or `**`
pub data IsInside (e : Tree) : Tree → Type 0 where
  itself : IsInside e e
  operand : {op : ℕ} {t : Tree} → IsInside e t → IsInside e (Unary op t)
  left : {op : ℕ} {t u : Tree} → takes_constants (get_or infixes op Either) ≡ false → IsInside e t → IsInside e (Binary op t u)
  right : {op : ℕ} {t u : Tree} → takes_constants (get_or infixes op Either) ≡ false → IsInside e u → IsInside e (Binary op t u)
  condition : {c t u : Tree} → IsInside e c → IsInside e (Cond c t u)
  where_true : {c t u : Tree} → IsInside e t → IsInside e (Cond c t u)
  where_false : {c t u : Tree} → IsInside e u → IsInside e (Cond c t u)
  in_concatenation : {t : Tree} {ts : Trees} → IsPart t ts → IsInside e t → IsInside e (Concat ts)
  in_replication : {count t : Tree} {ts : Trees} → IsPart t ts → IsInside e t → IsInside e (Repeat count ts)
  in_cast : {signed : Bool} {t : Tree} → IsInside e t → IsInside e (Cast signed t)
  in_brackets : {t : Tree} → IsInside e t → IsInside e (Paren t)

-- a statement that is another one, or stands in it, in its loops too (IEEE 1364-2005 section 9.6)
pub data StandsIn (s : Statement) : Statement → Type 0 where
  itself_whole : StandsIn s s
  in_block : {label : Option Identifier} {t : Statement} {ts : Statements} → IsOneOf t ts → StandsIn s t → StandsIn s (Block label ts)
  in_if : {c : Tree} {t : Statement} → StandsIn s t → StandsIn s (If c t)
  in_true : {c : Tree} {t u : Statement} → StandsIn s t → StandsIn s (IfElse c t u)
  in_false : {c : Tree} {t u : Statement} → StandsIn s u → StandsIn s (IfElse c t u)
  in_case : {kind : ℕ} {on : Tree} {labels : Trees} {colon : Bool} {t : Statement} {arms : Arms} → IsArm (CaseItem labels colon t) arms → StandsIn s t → StandsIn s (Case kind on arms)
  in_loop : {head : LoopHead} {t : Statement} → StandsIn s t → StandsIn s (For head t)

-- a statement that is another one, or stands in it outside its loops
pub data StandsOutside (s : Statement) : Statement → Type 0 where
  outside_itself : StandsOutside s s
  outside_in_block : {label : Option Identifier} {t : Statement} {ts : Statements} → IsOneOf t ts → StandsOutside s t → StandsOutside s (Block label ts)
  outside_in_if : {c : Tree} {t : Statement} → StandsOutside s t → StandsOutside s (If c t)
  outside_in_true : {c : Tree} {t u : Statement} → StandsOutside s t → StandsOutside s (IfElse c t u)
  outside_in_false : {c : Tree} {t u : Statement} → StandsOutside s u → StandsOutside s (IfElse c t u)
  outside_in_case : {kind : ℕ} {on : Tree} {labels : Trees} {colon : Bool} {t : Statement} {arms : Arms} → IsArm (CaseItem labels colon t) arms → StandsOutside s t → StandsOutside s (Case kind on arms)
