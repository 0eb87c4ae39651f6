-- Depth is the greatest nesting of nodes.
use Rattle.std.proofs.Common.{◌≡◌, ℕ, zero, suc, max, ◌≤◌, ◌<◌, ◌⊎◌, inl, inr, List, [], ◌∷◌, ◌++◌, Option, None, Some, refl, ◌∙◌, arith}
use Rattle.rr_syntax.specs.Tree.{Tree, Trees, Name, Literal, Bit, Part, Indexed, Unary, Binary, Cond, Concat, Repeat, Cast, Paren, End, More, Statement, Statements, Arm, Arms, Null, Block, If, IfElse, Case, Assign, For, Done, Then, CaseItem, NoArms, MoreArms, Range, PortDeclaration, ParamAssignment, ParameterDeclaration, DeclaredName, NetAssignment, EventControl, Star, Edges, Levels, NamedConnection, Connections, Positions, Names, ModuleInstance, ModuleItem, Ports, Nets, Variables, Integers, Parameters, Assigns, Always, Initial, Instances, ModuleDeclaration, SourceText}
use Rattle.rr_syntax.specs.Expressions.{depth, height}
use Rattle.rr_syntax.specs.Statements.{depth_loop, depth_statement, height_statements, depth_arm, height_arms}
use Rattle.rr_syntax.specs.Items.{greatest, depth_range, depth_port, depth_assignment, depth_parameter, depth_value, depth_declarator, depth_pair, depth_events, depth_connection, depth_connections, depth_overrides, depth_instance, depth_item, height_item, depth_module, height_module, depth_source}
use Rattle.rr_syntax.specs.Nesting.{Node, Expression, OfStatement, OfArm, OfItem, OfModule, OfSource, gather, nodes_trees, nodes_statements, nodes_arms, nodes_loop, nodes_range, nodes_value, nodes_port, nodes_assignment, nodes_parameter, nodes_declarator, nodes_pair, nodes_events, nodes_connection, nodes_connections, nodes_overrides, nodes_instance, node_item, node_module, children, IsIn, first, later, Reaches, here, below, IsGreatestNesting}

abbrev depth_node : Node → ℕ
depth_node (Expression t) = depth t
depth_node (OfStatement s) = depth_statement s
depth_node (OfArm a) = depth_arm a
depth_node (OfItem i) = depth_item i
depth_node (OfModule m) = depth_module m
depth_node (OfSource s) = depth_source s

-- the levels that a list of nodes adds
unfoldable tallest : List Node → ℕ
tallest [] = 0
tallest (n ∷ ns) = max (suc (depth_node n)) (tallest ns)

tallest-append : (ms ns : List Node) → tallest (ms ++ ns) ≡ max (tallest ms) (tallest ns)
unfolding tallest
tallest-append [] ns = omega arith
tallest-append (m ∷ ms) ns = omega (arith, tallest-append ms ns)

tallest-gather : {A : Type 0} (f : A → List Node) (d : A → ℕ) → ((x : A) → tallest (f x) ≡ d x) → (xs : List A) → tallest (gather f xs) ≡ greatest d xs
unfolding tallest gather greatest
tallest-gather f d h [] = refl
tallest-gather f d h (x ∷ xs) = tallest-append (f x) (gather f xs) ∙ omega (arith, h x, tallest-gather f d h xs)

tallest-trees : (ts : Trees) → tallest (nodes_trees ts) ≡ height ts
unfolding tallest depth
tallest-trees End = refl
tallest-trees (More t ts) = omega (arith, tallest-trees ts)

tallest-statements : (ss : Statements) → tallest (nodes_statements ss) ≡ height_statements ss
unfolding tallest depth_statement
tallest-statements Done = refl
tallest-statements (Then s ss) = omega (arith, tallest-statements ss)

tallest-arms : (arms : Arms) → tallest (nodes_arms arms) ≡ height_arms arms
unfolding tallest depth_statement
tallest-arms NoArms = refl
tallest-arms (MoreArms a rest) = omega (arith, tallest-arms rest)

tallest-range : (r : Option Range) → tallest (nodes_range r) ≡ depth_range r
unfolding tallest nodes_range depth_range
tallest-range None = refl
tallest-range (Some r) = omega arith

tallest-value : (v : Option Tree) → tallest (nodes_value v) ≡ depth_value v
unfolding tallest nodes_value depth_value
tallest-value None = refl
tallest-value (Some t) = omega arith

tallest-declarator : (n : DeclaredName) → tallest (nodes_declarator n) ≡ depth_declarator n
unfolding nodes_declarator depth_declarator
tallest-declarator n = tallest-append (nodes_range n.words) (nodes_value n.value) ∙ omega (arith, tallest-range n.words, tallest-value n.value)

tallest-port : (p : PortDeclaration) → tallest (nodes_port p) ≡ depth_port p
unfolding nodes_port depth_port
tallest-port p =
    tallest-append (nodes_range p.range) (gather nodes_declarator p.names) ∙ omega (arith, tallest-range p.range, tallest-gather nodes_declarator depth_declarator tallest-declarator p.names)

tallest-assignment : (a : ParamAssignment) → tallest (nodes_assignment a) ≡ depth_assignment a
unfolding tallest nodes_assignment depth_assignment
tallest-assignment a = omega arith

tallest-parameter : (p : ParameterDeclaration) → tallest (nodes_parameter p) ≡ depth_parameter p
unfolding nodes_parameter depth_parameter
tallest-parameter p =
    tallest-append (nodes_range p.range) (gather nodes_assignment p.sets) ∙ omega (arith, tallest-range p.range, tallest-gather nodes_assignment depth_assignment tallest-assignment p.sets)

tallest-pair : (p : NetAssignment) → tallest (nodes_pair p) ≡ depth_pair p
unfolding tallest nodes_pair depth_pair
tallest-pair p = omega arith

tallest-events : (e : EventControl) → tallest (nodes_events e) ≡ depth_events e
unfolding tallest nodes_events depth_events
tallest-events (Star brackets) = refl
tallest-events (Edges list commas) = refl
tallest-events (Levels list commas) = tallest-trees list

tallest-connection : (c : NamedConnection) → tallest (nodes_connection c) ≡ depth_connection c
unfolding nodes_connection depth_connection
tallest-connection c = tallest-value c.value

tallest-connections : (c : Connections) → tallest (nodes_connections c) ≡ depth_connections c
unfolding nodes_connections depth_connections
tallest-connections (Positions ts) = tallest-trees ts
tallest-connections (Names cs) = tallest-gather nodes_connection depth_connection tallest-connection cs

tallest-overrides : (c : Option Connections) → tallest (nodes_overrides c) ≡ depth_overrides c
unfolding tallest nodes_overrides depth_overrides
tallest-overrides None = refl
tallest-overrides (Some c) = tallest-connections c

tallest-instance : (i : ModuleInstance) → tallest (nodes_instance i) ≡ depth_instance i
unfolding nodes_instance depth_instance
tallest-instance i = tallest-connections i.connections

tallest-item : (i : ModuleItem) → tallest (node_item i) ≡ height_item i
unfolding tallest node_item height_item
tallest-item i = omega arith

tallest-module : (m : ModuleDeclaration) → tallest (node_module m) ≡ height_module m
unfolding tallest node_module height_module
tallest-module m = omega arith

-- a node's depth is what its children add
tallest-tree : (t : Tree) → tallest (children (Expression t)) ≡ depth t
unfolding tallest children depth
tallest-tree (Name n s) = refl
tallest-tree (Literal n d) = refl
tallest-tree (Bit n s i) = omega arith
tallest-tree (Part n s l r) = omega arith
tallest-tree (Indexed n s f w up) = omega arith
tallest-tree (Unary m t) = omega arith
tallest-tree (Binary m l r) = omega arith
tallest-tree (Cond a b c) = omega arith
tallest-tree (Concat ts) = tallest-trees ts
tallest-tree (Repeat t ts) = omega (arith, tallest-trees ts)
tallest-tree (Cast signed t) = omega arith
tallest-tree (Paren t) = omega arith

tallest-statement : (s : Statement) → tallest (children (OfStatement s)) ≡ depth_statement s
unfolding tallest children nodes_loop depth_statement depth_loop
tallest-statement Null = refl
tallest-statement (Block label ss) = tallest-statements ss
tallest-statement (If t s) = omega arith
tallest-statement (IfElse t s u) = omega arith
tallest-statement (Case kind t arms) = omega (arith, tallest-arms arms)
tallest-statement (Assign t now v) = omega arith
tallest-statement (For h s) = omega arith

tallest-arm : (a : Arm) → tallest (children (OfArm a)) ≡ depth_arm a
unfolding tallest children depth_statement
tallest-arm (CaseItem labels colon s) = tallest-append (nodes_trees labels) (OfStatement s ∷ []) ∙ omega (arith, tallest-trees labels)

tallest-of_item : (i : ModuleItem) → tallest (children (OfItem i)) ≡ depth_item i
unfolding tallest children depth_item
tallest-of_item (Ports p) = tallest-port p
tallest-of_item (Nets signed range names) =
    tallest-append (nodes_range range) (gather nodes_declarator names) ∙ omega (arith, tallest-range range, tallest-gather nodes_declarator depth_declarator tallest-declarator names)
tallest-of_item (Variables signed range names) =
    tallest-append (nodes_range range) (gather nodes_declarator names) ∙ omega (arith, tallest-range range, tallest-gather nodes_declarator depth_declarator tallest-declarator names)
tallest-of_item (Integers names) = refl
tallest-of_item (Parameters p) = tallest-parameter p
tallest-of_item (Assigns pairs) = tallest-gather nodes_pair depth_pair tallest-pair pairs
tallest-of_item (Always events s token) = tallest-append (nodes_events events) (OfStatement s ∷ []) ∙ omega (arith, tallest-events events)
tallest-of_item (Initial s token) = omega arith
tallest-of_item (Instances m token overrides list) =
    tallest-append (nodes_overrides overrides) (gather nodes_instance list) ∙ omega (arith, tallest-overrides overrides, tallest-gather nodes_instance depth_instance tallest-instance list)

tallest-of_module : (m : ModuleDeclaration) → tallest (children (OfModule m)) ≡ depth_module m
unfolding children depth_module
tallest-of_module m =
    omega (arith, tallest-append (gather nodes_parameter m.params) (gather nodes_port m.groups ++ gather node_item m.items), tallest-append (gather nodes_port m.groups) (gather node_item m.items), tallest-gather nodes_parameter depth_parameter tallest-parameter m.params, tallest-gather nodes_port depth_port tallest-port m.groups, tallest-gather node_item height_item tallest-item m.items)

tallest-of_source : (s : SourceText) → tallest (children (OfSource s)) ≡ depth_source s
unfolding children depth_source
tallest-of_source s = tallest-gather node_module height_module tallest-module s.modules

tallest-children : (n : Node) → tallest (children n) ≡ depth_node n
tallest-children (Expression t) = tallest-tree t
tallest-children (OfStatement s) = tallest-statement s
tallest-children (OfArm a) = tallest-arm a
tallest-children (OfItem i) = tallest-of_item i
tallest-children (OfModule m) = tallest-of_module m
tallest-children (OfSource s) = tallest-of_source s

-- each node of a list is at most as deep
in-tallest : (c : Node) (ns : List Node) → IsIn c ns → suc (depth_node c) ≤ tallest ns
unfolding tallest
in-tallest c [] h = elim h [ ]
in-tallest c (n ∷ ns) first = omega arith
in-tallest c (n ∷ ns) (later h) = omega (arith, in-tallest c ns h)

at-most : (n : Node) (k : ℕ) → Reaches n k → k ≤ depth_node n
at-most n zero here = omega arith
at-most n (suc k) (below c h r) = omega (arith, at-most c k r, in-tallest c (children n) h, tallest-children n)

-- a list that adds levels has a node that adds as many
record Tallest (ns : List Node) : Type 0 where
  node : Node
  inside : IsIn node ns
  deep : suc (depth_node node) ≡ tallest ns

which : (n : Node) (ns : List Node) → (suc (depth_node n) ≡ tallest (n ∷ ns)) ⊎ (tallest ns ≡ tallest (n ∷ ns))
unfolding tallest
which n ns = grind arith

find_tallest : (ns : List Node) → 0 < tallest ns → Tallest ns
unfolding tallest
find_tallest [] h = absurd (omega arith)
find_tallest (n ∷ ns) h =
    elim (which n ns) [
      | inl e ↦ record { node = n; inside = first; deep = e }
      | inr e ↦ let more : 0 < tallest ns = omega arith in let t = find_tallest ns more in record { node = t.node; inside = later t.inside; deep = t.deep ∙ e }
    ]

reaches : (d : ℕ) (n : Node) → depth_node n ≡ d → Reaches n d
reaches zero n e = here
reaches (suc d) n e =
    let some : 0 < tallest (children n) = omega (arith, tallest-children n) in
    let t = find_tallest (children n) some in
    let one_less : depth_node t.node ≡ d = omega (arith, t.deep, tallest-children n) in
    below t.node t.inside (reaches d t.node one_less)

pub is_greatest_nesting : IsGreatestNesting
is_greatest_nesting = record { reached = λ s. reaches (depth_source s) (OfSource s) refl; greatest = λ s k r. at-most (OfSource s) k r }
