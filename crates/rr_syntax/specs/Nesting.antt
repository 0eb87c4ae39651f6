-- The nodes of a tree, and how far they nest: depth in its own words.
use Rattle.std.specs.Prelude.{ℕ, zero, suc, ◌≤◌, List, [], ◌∷◌, ◌++◌, Option, None, Some}
use Rattle.rr_syntax.specs.Tree.{Tree, Trees, Name, Literal, Bit, Part, Indexed, Unary, Binary, Cond, Concat, Repeat, Cast, Paren, End, More, LoopHead, Statement, Statements, Arm, Arms, Null, Block, If, IfElse, Case, Assign, For, Done, Then, CaseItem, NoArms, MoreArms, Range, PortDeclaration, ParamAssignment, ParameterDeclaration, DeclaredName, NetAssignment, EventControl, Star, Edges, Levels, NamedConnection, Connections, Positions, Names, ModuleInstance, ModuleItem, Ports, Nets, Variables, Integers, Parameters, Assigns, Always, Initial, Instances, ModuleDeclaration, SourceText}
use Rattle.rr_syntax.specs.Items.{depth_source}

pub data Node : Type 0 where
  Expression : Tree → Node
  OfStatement : Statement → Node
  OfArm : Arm → Node
  OfItem : ModuleItem → Node
  OfModule : ModuleDeclaration → Node
  OfSource : SourceText → Node

-- the nodes of the parts of a list
unfoldable pub gather : {A : Type 0} → (A → List Node) → List A → List Node
gather f [] = []
gather f (x ∷ xs) = f x ++ gather f xs

abbrev pub nodes_trees : Trees → List Node
nodes_trees End = []
nodes_trees (More t ts) = Expression t ∷ nodes_trees ts

abbrev pub nodes_statements : Statements → List Node
nodes_statements Done = []
nodes_statements (Then s ss) = OfStatement s ∷ nodes_statements ss

abbrev pub nodes_arms : Arms → List Node
nodes_arms NoArms = []
nodes_arms (MoreArms a rest) = OfArm a ∷ nodes_arms rest

unfoldable pub nodes_loop : LoopHead → List Node
nodes_loop h = Expression h.start ∷ Expression h.test ∷ Expression h.step ∷ []

unfoldable pub nodes_range : Option Range → List Node
nodes_range None = []
nodes_range (Some r) = Expression r.left ∷ Expression r.right ∷ []

unfoldable pub nodes_value : Option Tree → List Node
nodes_value None = []
nodes_value (Some t) = Expression t ∷ []

unfoldable pub nodes_declarator : DeclaredName → List Node
nodes_declarator n = nodes_range n.words ++ nodes_value n.value

unfoldable pub nodes_port : PortDeclaration → List Node
nodes_port p = nodes_range p.range ++ gather nodes_declarator p.names

unfoldable pub nodes_assignment : ParamAssignment → List Node
nodes_assignment a = Expression a.value ∷ []

unfoldable pub nodes_parameter : ParameterDeclaration → List Node
nodes_parameter p = nodes_range p.range ++ gather nodes_assignment p.sets

unfoldable pub nodes_pair : NetAssignment → List Node
nodes_pair p = Expression p.target ∷ Expression p.value ∷ []

unfoldable pub nodes_events : EventControl → List Node
nodes_events (Star brackets) = []
nodes_events (Edges list commas) = []
nodes_events (Levels list commas) = nodes_trees list

unfoldable pub nodes_connection : NamedConnection → List Node
nodes_connection c = nodes_value c.value

unfoldable pub nodes_connections : Connections → List Node
nodes_connections (Positions ts) = nodes_trees ts
nodes_connections (Names cs) = gather nodes_connection cs

unfoldable pub nodes_overrides : Option Connections → List Node
nodes_overrides None = []
nodes_overrides (Some c) = nodes_connections c

unfoldable pub nodes_instance : ModuleInstance → List Node
nodes_instance i = nodes_connections i.connections

unfoldable pub node_item : ModuleItem → List Node
node_item i = OfItem i ∷ []

unfoldable pub node_module : ModuleDeclaration → List Node
node_module m = OfModule m ∷ []

-- the nodes directly below a node, in the order of the text
unfoldable pub children : Node → List Node
children (Expression (Name n s)) = []
children (Expression (Literal n d)) = []
children (Expression (Bit n s i)) = Expression i ∷ []
children (Expression (Part n s l r)) = Expression l ∷ Expression r ∷ []
children (Expression (Indexed n s f w up)) = Expression f ∷ Expression w ∷ []
children (Expression (Unary m t)) = Expression t ∷ []
children (Expression (Binary m l r)) = Expression l ∷ Expression r ∷ []
children (Expression (Cond a b c)) = Expression a ∷ Expression b ∷ Expression c ∷ []
children (Expression (Concat ts)) = nodes_trees ts
children (Expression (Repeat t ts)) = Expression t ∷ nodes_trees ts
children (Expression (Cast signed t)) = Expression t ∷ []
children (Expression (Paren t)) = Expression t ∷ []
children (OfStatement Null) = []
children (OfStatement (Block label ss)) = nodes_statements ss
children (OfStatement (If t s)) = Expression t ∷ OfStatement s ∷ []
children (OfStatement (IfElse t s u)) = Expression t ∷ OfStatement s ∷ OfStatement u ∷ []
children (OfStatement (Case kind t arms)) = Expression t ∷ nodes_arms arms
children (OfStatement (Assign t now v)) = Expression t ∷ Expression v ∷ []
children (OfStatement (For h s)) = nodes_loop h ++ OfStatement s ∷ []
children (OfArm (CaseItem labels colon s)) = nodes_trees labels ++ OfStatement s ∷ []
children (OfItem (Ports p)) = nodes_port p
children (OfItem (Nets signed range names)) = nodes_range range ++ gather nodes_declarator names
children (OfItem (Variables signed range names)) = nodes_range range ++ gather nodes_declarator names
children (OfItem (Integers names)) = []
children (OfItem (Parameters p)) = nodes_parameter p
children (OfItem (Assigns pairs)) = gather nodes_pair pairs
children (OfItem (Always events s token)) = nodes_events events ++ OfStatement s ∷ []
children (OfItem (Initial s token)) = OfStatement s ∷ []
children (OfItem (Instances m token overrides list)) = nodes_overrides overrides ++ gather nodes_instance list
children (OfModule m) = gather nodes_parameter m.params ++ (gather nodes_port m.groups ++ gather node_item m.items)
children (OfSource s) = gather node_module s.modules

-- a node stands in a list
pub data IsIn (n : Node) : List Node → Type 0 where
  first : {ns : List Node} → IsIn n (n ∷ ns)
  later : {m : Node} {ns : List Node} → IsIn n ns → IsIn n (m ∷ ns)

-- some node stands that many levels below
pub data Reaches : Node → ℕ → Type 0 where
  here : {n : Node} → Reaches n zero
  below : {n : Node} {k : ℕ} (child : Node) → IsIn child (children n) → Reaches child k → Reaches n (suc k)

-- the depth of a source is the greatest number of levels that some node stands below it
pub record IsGreatestNesting : Type 0 where
  pub reached : (s : SourceText) → Reaches (OfSource s) (depth_source s)
  pub greatest : (s : SourceText) (k : ℕ) → Reaches (OfSource s) k → k ≤ depth_source s
