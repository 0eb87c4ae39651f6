-- The spots of a source text at which a change may stand, in the order of the text.
use Rattle.std.specs.Prelude.{ℕ, ◌<◌, ◌^◌, Bool, true, false, List, [], ◌∷◌, ◌++◌, get_or, flat_map, length, if◌then◌else◌, Option, Some, None}
use Rattle.std.specs.List.{AllByRecursion}
use Rattle.rr_syntax.specs.declared.token.Number.{Number}
use Rattle.rr_syntax.specs.Expressions.{spell}
use Rattle.rr_syntax.specs.Tree.{Tree, Trees, Name, Literal, Bit, Part, Indexed, Unary, Binary, Cond, Concat, Repeat, Cast, Paren, End, More, Statement, Statements, Arm, Arms, Null, Block, If, IfElse, Case, Assign, For, Done, Then, CaseItem, NoArms, MoreArms, DeclaredName, NetAssignment, NamedConnection, EventControl, Star, Edges, Levels, Connections, Positions, Names, ModuleInstance, ModuleItem, Ports, Nets, Variables, Integers, Parameters, Assigns, Always, Initial, Instances, ModuleDeclaration}
use Rattle.rr_expr.specs.declared.operators.Infix.TheVariants.{Either}
use Rattle.rr_expr.specs.Faults.{takes_constants}
use Rattle.rr_expr.specs.Operators.{infixes}

-- the body of an `always`, a condition of `if` or `?:`, or a literal with the number of its token
pub data Spot : Type 0 where
  Body : Statement → Spot
  Test : Tree → Spot
  Value : ℕ → Number → Spot

-- in an expression; indices, bounds, counts and what `/`, `%` and `**` take have none
unfoldable mutual
  pub spots : Tree → List Spot
  spots (Name token name) = []
  spots (Literal token n) = Value token n ∷ []
  spots (Bit token name i) = []
  spots (Part token name l r) = []
  spots (Indexed token name f n up) = []
  spots (Unary op t) = spots t
  spots (Binary op l r) = if takes_constants (get_or infixes op Either) then [] else spots l ++ spots r
  spots (Cond a b c) = Test a ∷ (spots a ++ (spots b ++ spots c))
  spots (Concat ts) = spots_of_parts ts
  spots (Repeat n ts) = spots_of_parts ts
  spots (Cast signed t) = spots t
  spots (Paren t) = spots t

  pub spots_of_parts : Trees → List Spot
  spots_of_parts End = []
  spots_of_parts (More t ts) = spots t ++ spots_of_parts ts

-- in a statement; targets have none, nor has what a loop tells of its name (section 9.6)
unfoldable mutual
  pub spots_of : Statement → List Spot
  spots_of Null = []
  spots_of (Block label ss) = spots_of_all ss
  spots_of (If c t) = Test c ∷ (spots c ++ spots_of t)
  spots_of (IfElse c t u) = Test c ∷ (spots c ++ (spots_of t ++ spots_of u))
  spots_of (Case kind on arms) = spots on ++ spots_of_arms arms
  spots_of (Assign t now e) = spots e
  spots_of (For h t) = spots_of t

  pub spots_of_all : Statements → List Spot
  spots_of_all Done = []
  spots_of_all (Then t ts) = spots_of t ++ spots_of_all ts

  pub spots_of_arm : Arm → List Spot
  spots_of_arm (CaseItem labels colon t) = spots_of_parts labels ++ spots_of t

  pub spots_of_arms : Arms → List Spot
  spots_of_arms NoArms = []
  spots_of_arms (MoreArms a rest) = spots_of_arm a ++ spots_of_arms rest

unfoldable pub spots_of_value : Option Tree → List Spot
spots_of_value None = []
spots_of_value (Some t) = spots t

abbrev pub spots_of_net : DeclaredName → List Spot
spots_of_net n = spots_of_value n.value

abbrev pub spots_of_pair : NetAssignment → List Spot
spots_of_pair p = spots p.value

abbrev pub spots_of_connection : NamedConnection → List Spot
spots_of_connection c = spots_of_value c.value

unfoldable pub spots_of_connections : Connections → List Spot
spots_of_connections (Positions ts) = spots_of_parts ts
spots_of_connections (Names list) = flat_map spots_of_connection list

abbrev pub spots_of_instance : ModuleInstance → List Spot
spots_of_instance i = spots_of_connections i.connections

-- in an item; ranges, parameters, overrides, event lists, starting values and `initial` items have none
unfoldable pub spots_of_item : ModuleItem → List Spot
spots_of_item (Ports p) = []
spots_of_item (Nets signed range list) = flat_map spots_of_net list
spots_of_item (Variables signed range list) = []
spots_of_item (Integers list) = []
spots_of_item (Parameters p) = []
spots_of_item (Assigns pairs) = flat_map spots_of_pair pairs
spots_of_item (Always events body token) = Body body ∷ spots_of body
spots_of_item (Initial s token) = []
spots_of_item (Instances m token overrides list) = flat_map spots_of_instance list

-- in a module
unfoldable pub spots_of_module : ModuleDeclaration → List Spot
spots_of_module m = flat_map spots_of_item m.items

-- an `always` with edges
abbrev pub has_edges : EventControl → Bool
has_edges (Star brackets) = false
has_edges (Edges list commas) = true
has_edges (Levels list commas) = false

abbrev pub is_clocked : ModuleItem → Bool
is_clocked (Ports p) = false
is_clocked (Nets signed range list) = false
is_clocked (Variables signed range list) = false
is_clocked (Integers list) = false
is_clocked (Parameters p) = false
is_clocked (Assigns pairs) = false
is_clocked (Always events body token) = has_edges events
is_clocked (Initial s token) = false
is_clocked (Instances m token overrides list) = false

-- the tokens of each condition can be counted in 32 bits
abbrev pub HasFewTokens : Spot → Type 0
HasFewTokens (Body s) = Unit {0}
HasFewTokens (Test t) = length (spell t) < 2 ^ 32
HasFewTokens (Value token n) = Unit {0}

abbrev pub AreCountable : ModuleItem → Type 0
AreCountable x = AllByRecursion HasFewTokens (spots_of_item x)

abbrev pub IsCountable : ModuleDeclaration → Type 0
IsCountable m = AllByRecursion AreCountable m.items
