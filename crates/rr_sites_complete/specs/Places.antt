-- The places of an item at which sites stand.
use Rattle.std.specs.Prelude.{◌≡◌, ℕ, Bool, List, Option, Some, Contains}
use Rattle.rr_syntax.specs.declared.token.Number.{Number}
use Rattle.rr_syntax.specs.Tree.{Tree, Trees, Literal, Cond, Statement, Arms, If, IfElse, Case, Assign, CaseItem, Range, DeclaredName, NetAssignment, NamedConnection, EventControl, Connections, Positions, Names, ModuleInstance, ModuleItem, Nets, Assigns, Always, Instances}
use Rattle.rr_sites_complete.specs.Inside.{IsPart, IsArm, IsInside, StandsIn}

-- the condition of an `if` that stands in a statement
pub data IsCondition (e : Tree) (body : Statement) : Type 0 where
  of_if : {t : Statement} → StandsIn (If e t) body → IsCondition e body
  of_if_else : {t u : Statement} → StandsIn (IfElse e t u) body → IsCondition e body

-- a condition, a selector, a label or a right side of a statement
pub data StandsAt (e : Tree) (body : Statement) : Type 0 where
  as_condition : IsCondition e body → StandsAt e body
  as_selector : {kind : ℕ} {arms : Arms} → StandsIn (Case kind e arms) body → StandsAt e body
  as_label : {kind : ℕ} {on : Tree} {arms : Arms} {labels : Trees} {colon : Bool} {t : Statement} → StandsIn (Case kind on arms) body → IsArm (CaseItem labels colon t) arms → IsPart e labels →
      StandsAt e body
  as_right_side : {target : Tree} {now : Bool} → StandsIn (Assign target now e) body → StandsAt e body

-- an expression that is connected to a port, by the order of ports or by a name
pub data IsConnected (e : Tree) : Connections → Type 0 where
  in_order : {ts : Trees} → IsPart e ts → IsConnected e (Positions ts)
  by_name : {list : List NamedConnection} (c : NamedConnection) → Contains list c → c.value ≡ Some e → IsConnected e (Names list)

-- a right side, a condition, a selector, a label or a port connection of an item; no change is made in starting values and
-- `initial` items
pub data IsPlace (e : Tree) : ModuleItem → Type 0 where
  of_net : {signed : Bool} {range : Option Range} {list : List DeclaredName} (n : DeclaredName) → Contains list n → n.value ≡ Some e → IsPlace e (Nets signed range list)
  of_assign : {pairs : List NetAssignment} (p : NetAssignment) → Contains pairs p → p.value ≡ e → IsPlace e (Assigns pairs)
  of_always : {events : EventControl} {body : Statement} {token : ℕ} → StandsAt e body → IsPlace e (Always events body token)
  of_instance : {m : List ℕ} {token : ℕ} {over : Option Connections} {list : List ModuleInstance} (i : ModuleInstance) → Contains list i → IsConnected e i.connections → IsPlace e (Instances m token over list)

-- an expression that stands in an item, outside the constant places
pub record Stands (e : Tree) (x : ModuleItem) : Type 0 where
  pub place : Tree
  pub is : IsPlace place x
  pub inside : IsInside e place

-- a literal stands there
abbrev pub HasLiteral : ModuleItem → ℕ → Number → Type 0
HasLiteral x token n = Stands (Literal token n) x

-- the condition of an `if` in an `always`, or the test of a `?:`
pub data IsTest (e : Tree) : ModuleItem → Type 0 where
  of_statement : {events : EventControl} {body : Statement} {token : ℕ} → IsCondition e body → IsTest e (Always events body token)
  of_conditional : {x : ModuleItem} (t u : Tree) → Stands (Cond e t u) x → IsTest e x
