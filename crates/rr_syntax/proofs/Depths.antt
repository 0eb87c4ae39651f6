-- Depths at nodes of the arena and over slices.
use Rattle.std.proofs.Common.{◌≡◌, ℕ, Bool, max, ◌+◌, List, map, Option, None, Some, refl, ap, arith}
use Rattle.rr_syntax.specs.declared.token.Keyword.{Keyword}
use Rattle.rr_syntax.specs.declared.token.Mark.{Mark}
use Rattle.rr_syntax.specs.declared.token.Number.{Number}
use Rattle.rr_syntax.specs.declared.tree.Arm.{Arm as Branch}
use Rattle.rr_syntax.specs.declared.tree.Bounds.{Bounds}
use Rattle.rr_syntax.specs.declared.tree.Connection.{Connection}
use Rattle.rr_syntax.specs.declared.tree.Conns.{Conns}
use Rattle.rr_syntax.specs.declared.tree.Conns.TheVariants as conns
use Rattle.rr_syntax.specs.declared.tree.Event.{Event}
use Rattle.rr_syntax.specs.declared.tree.Events.{Events}
use Rattle.rr_syntax.specs.declared.tree.Events.TheVariants as events
use Rattle.rr_syntax.specs.declared.tree.Expr.{Expr, the_lemmas}
use Rattle.rr_syntax.specs.declared.tree.Expr.TheVariants as expr
use Rattle.rr_syntax.specs.declared.tree.Group.{Group}
use Rattle.rr_syntax.specs.declared.tree.Head.{Head}
use Rattle.rr_syntax.specs.declared.tree.Instance.{Instance}
use Rattle.rr_syntax.specs.declared.tree.Item.{Item}
use Rattle.rr_syntax.specs.declared.tree.Item.TheVariants as item
use Rattle.rr_syntax.specs.declared.tree.Module.{Module}
use Rattle.rr_syntax.specs.declared.tree.Named.{Named as Name}
use Rattle.rr_syntax.specs.declared.tree.Declarator.{Declarator}
use Rattle.rr_syntax.specs.declared.tree.Pair.{Pair}
use Rattle.rr_syntax.specs.declared.tree.Params.{Params}
use Rattle.rr_syntax.specs.declared.tree.Setting.{Setting}
use Rattle.rr_syntax.specs.declared.tree.Source.{Source}
use Rattle.rr_syntax.specs.declared.tree.Stmt.{Stmt, the_lemmas as stmt_lemmas}
use Rattle.rr_syntax.specs.declared.tree.Stmt.TheVariants as stmt
use Rattle.rr_syntax.specs.Expressions.{depth, height}
use Rattle.rr_syntax.specs.Statements.{depth_loop, depth_statement, height_statements, height_arms}
use Rattle.rr_syntax.specs.Items.{greatest, depth_range, depth_port, depth_assignment, depth_parameter, depth_value, depth_declarator, depth_pair, depth_events, depth_connection, depth_connections, depth_overrides, depth_instance, depth_item, height_item, depth_module, height_module, depth_source}
use Rattle.rr_syntax.specs.View.{plain, plain_list, plain_loop, plain_statement, plain_statements, plain_arm, plain_arms, plain_range, plain_port, plain_assignment, plain_parameter, plain_value, plain_declarator, plain_pair, plain_events, plain_connection, plain_connections, plain_overrides, plain_instance, plain_item, plain_module, plain_source}
use Rattle.rr_syntax.proofs.Rows.{plain_concat, plain_repeat, plain_block, plain_case}
use Rattle.rr_syntax.proofs.Sums.{IsGreatest}
use denote.Ref.{Bor}

pub deep-Name : (token : ℕ) (s : Bor (List ℕ)) → depth (plain (expr.Name token s)) ≡ 0
unfolding plain depth
deep-Name token s = refl

pub deep-Literal : (token : ℕ) (n : Number) → depth (plain (expr.Literal token n)) ≡ 0
unfolding plain depth
deep-Literal token n = refl

pub deep-Bit : (token : ℕ) (s : Bor (List ℕ)) (i : Bor Expr) → depth (plain (expr.Bit token s i)) ≡ 1 + depth (plain i.now)
unfolding plain depth
deep-Bit token s i = omega arith

pub deep-Part : (token : ℕ) (s : Bor (List ℕ)) (l r : Bor Expr) → depth (plain (expr.Part token s l r)) ≡ 1 + max (depth (plain l.now)) (depth (plain r.now))
unfolding plain depth
deep-Part token s l r = omega arith

pub deep-Indexed : (token : ℕ) (s : Bor (List ℕ)) (f w : Bor Expr) (up : Bool) → depth (plain (expr.Indexed token s f w up)) ≡ 1 + max (depth (plain f.now)) (depth (plain w.now))
unfolding plain depth
deep-Indexed token s f w up = omega arith

pub deep-Unary : (op : Mark) (e : Bor Expr) → depth (plain (expr.Unary op e)) ≡ 1 + depth (plain e.now)
unfolding plain depth
deep-Unary op e = omega arith

pub deep-Binary : (op : Mark) (l r : Bor Expr) → depth (plain (expr.Binary op l r)) ≡ 1 + max (depth (plain l.now)) (depth (plain r.now))
unfolding plain depth
deep-Binary op l r = omega arith

pub deep-Cond : (a b c : Bor Expr) → depth (plain (expr.Cond a b c)) ≡ 1 + max (depth (plain a.now)) (max (depth (plain b.now)) (depth (plain c.now)))
unfolding plain depth
deep-Cond a b c = omega arith

pub deep-Concat : (parts : Bor (List Expr)) → depth (plain (expr.Concat parts)) ≡ height (plain_list parts.now)
unfolding depth
deep-Concat parts = ap depth (plain_concat parts)

pub deep-Repeat : (count : Bor Expr) (parts : Bor (List Expr)) → depth (plain (expr.Repeat count parts)) ≡ max (1 + depth (plain count.now)) (height (plain_list parts.now))
unfolding depth
deep-Repeat count parts = rw (plain_repeat count parts) (omega arith)

pub deep-Cast : (signed : Bool) (e : Bor Expr) → depth (plain (expr.Cast signed e)) ≡ 1 + depth (plain e.now)
unfolding plain depth
deep-Cast signed e = omega arith

pub deep-Paren : (e : Bor Expr) → depth (plain (expr.Paren e)) ≡ 1 + depth (plain e.now)
unfolding plain depth
deep-Paren e = omega arith

pub ruleset depths =
    (the_lemmas, deep-Name, deep-Literal, deep-Bit, deep-Part, deep-Indexed, deep-Unary, deep-Binary, deep-Cond, deep-Concat, deep-Repeat, deep-Cast, deep-Paren)

abbrev pub list_height : List Expr → ℕ
list_height es = height (plain_list es)

abbrev pub part_height : Expr → ℕ
part_height e = 1 + depth (plain e)

pub list_greatest : IsGreatest list_height part_height
unfolding plain_list depth
list_greatest = record { none = refl; more = λ x xs. omega arith }

pub deep-head : (h : Head) → depth_loop (plain_loop h) ≡ max (depth (plain h.start.now)) (max (depth (plain h.test.now)) (depth (plain h.step.now)))
unfolding depth_loop plain_loop
deep-head h = refl

pub ruleset loop_depths = deep-head

pub deep-Null : depth_statement (plain_statement stmt.Null) ≡ 0
unfolding plain_statement depth_statement
deep-Null = refl

pub deep-Block : (label : Option Name) (body : Bor (List Stmt)) → depth_statement (plain_statement (stmt.Block label body)) ≡ height_statements (plain_statements body.now)
unfolding depth_statement
deep-Block label body = ap depth_statement (plain_block label body)

pub deep-If : (t : Bor Expr) (s : Bor Stmt) → depth_statement (plain_statement (stmt.If t s None)) ≡ 1 + max (depth (plain t.now)) (depth_statement (plain_statement s.now))
unfolding plain_statement depth_statement
deep-If t s = omega arith

pub deep-IfElse : (t : Bor Expr) (s u : Bor Stmt) → depth_statement (plain_statement (stmt.If t s (Some u))) ≡ 1 + max (depth (plain t.now)) (max (depth_statement (plain_statement s.now)) (depth_statement (plain_statement u.now)))
unfolding plain_statement depth_statement
deep-IfElse t s u = omega arith

pub deep-Case : (kind : Keyword) (t : Bor Expr) (arms : Bor (List Branch)) → depth_statement (plain_statement (stmt.Case kind t arms)) ≡ max (1 + depth (plain t.now)) (height_arms (plain_arms arms.now))
unfolding depth_statement
deep-Case kind t arms = rw (plain_case kind t arms) (omega arith)

pub deep-Assign : (t : Bor Expr) (now : Bool) (v : Bor Expr) → depth_statement (plain_statement (stmt.Assign t now v)) ≡ 1 + max (depth (plain t.now)) (depth (plain v.now))
unfolding plain_statement depth_statement
deep-Assign t now v = omega arith

pub deep-For : (h : Head) (s : Bor Stmt) → depth_statement (plain_statement (stmt.For h s)) ≡ 1 + max (depth_loop (plain_loop h)) (depth_statement (plain_statement s.now))
unfolding plain_statement depth_statement
deep-For h s = omega arith

pub ruleset statement_depths = (stmt_lemmas, deep-Null, deep-Block, deep-If, deep-IfElse, deep-Case, deep-Assign, deep-For)

abbrev pub body_height : List Stmt → ℕ
body_height ss = height_statements (plain_statements ss)

abbrev pub stmt_height : Stmt → ℕ
stmt_height s = 1 + depth_statement (plain_statement s)

pub body_greatest : IsGreatest body_height stmt_height
unfolding plain_statements depth_statement
body_greatest = record { none = refl; more = λ x xs. omega arith }

abbrev pub cases_height : List Branch → ℕ
cases_height arms = height_arms (plain_arms arms)

abbrev pub case_height : Branch → ℕ
case_height a = 1 + max (height (plain_list a.labels.now)) (1 + depth_statement (plain_statement a.body.now))

pub cases_greatest : IsGreatest cases_height case_height
unfolding plain_arms plain_arm depth_statement
cases_greatest = record { none = refl; more = λ x xs. omega arith }

-- a list of parts
abbrev pub all_height : {R A : Type 0} → (A → ℕ) → (R → A) → List R → ℕ
all_height f g xs = greatest f (map g xs)

abbrev pub own_height : {R A : Type 0} → (A → ℕ) → (R → A) → R → ℕ
own_height f g x = f (g x)

pub all_greatest : {R A : Type 0} (f : A → ℕ) (g : R → A) → IsGreatest (all_height f g) (own_height f g)
unfolding greatest
all_greatest f g = record { none = refl; more = λ x xs. refl }

pub deep-none : depth_range (plain_range None) ≡ 0
unfolding depth_range plain_range
deep-none = refl

pub deep-some : (b : Bounds) → depth_range (plain_range (Some b)) ≡ 1 + max (depth (plain b.left.now)) (depth (plain b.right.now))
unfolding depth_range plain_range
deep-some b = omega arith

pub ruleset range_depths = (deep-none, deep-some)

pub deep-value-none : depth_value (plain_value None) ≡ 0
unfolding depth_value plain_value
deep-value-none = refl

pub deep-value-some : (e : Bor Expr) → depth_value (plain_value (Some e)) ≡ 1 + depth (plain e.now)
unfolding depth_value plain_value
deep-value-some e = omega arith

pub ruleset value_depths = (deep-value-none, deep-value-some)

pub deep-declarator : (n : Declarator) → depth_declarator (plain_declarator n) ≡ max (depth_range (plain_range n.words)) (depth_value (plain_value n.value))
unfolding depth_declarator plain_declarator
deep-declarator n = refl

pub ruleset declarator_depths = deep-declarator

pub deep-port : (g : Group) → depth_port (plain_port g) ≡ max (depth_range (plain_range g.range)) (greatest depth_declarator (map plain_declarator g.names.now))
unfolding depth_port plain_port
deep-port g = refl

pub ruleset port_depths = deep-port

pub deep-setting : (s : Setting) → depth_assignment (plain_assignment s) ≡ 1 + depth (plain s.value.now)
unfolding depth_assignment plain_assignment
deep-setting s = omega arith

pub deep-parameter : (p : Params) → depth_parameter (plain_parameter p) ≡ max (depth_range (plain_range p.range)) (greatest depth_assignment (map plain_assignment p.sets.now))
unfolding depth_parameter plain_parameter
deep-parameter p = refl

pub ruleset parameter_depths = deep-parameter

pub deep-pair : (p : Pair) → depth_pair (plain_pair p) ≡ 1 + max (depth (plain p.target.now)) (depth (plain p.value.now))
unfolding depth_pair plain_pair
deep-pair p = omega arith

pub deep-star : (brackets : Bool) → depth_events (plain_events (events.Star brackets)) ≡ 0
unfolding depth_events plain_events
deep-star brackets = refl

pub deep-edges : (list : Bor (List Event)) (commas : Bor (List Bool)) → depth_events (plain_events (events.Edges list commas)) ≡ 0
unfolding depth_events plain_events
deep-edges list commas = refl

pub deep-levels : (list : Bor (List Expr)) (commas : Bor (List Bool)) → depth_events (plain_events (events.Levels list commas)) ≡ height (plain_list list.now)
unfolding depth_events plain_events
deep-levels list commas = refl

pub ruleset events_depths = (deep-star, deep-edges, deep-levels)

pub deep-connection : (c : Connection) → depth_connection (plain_connection c) ≡ depth_value (plain_value c.value)
unfolding depth_connection plain_connection
deep-connection c = refl

pub deep-positions : (list : Bor (List Expr)) → depth_connections (plain_connections (conns.Positions list)) ≡ height (plain_list list.now)
unfolding depth_connections plain_connections
deep-positions list = refl

pub deep-named : (list : Bor (List Connection)) → depth_connections (plain_connections (conns.Names list)) ≡ greatest depth_connection (map plain_connection list.now)
unfolding depth_connections plain_connections
deep-named list = refl

pub ruleset connections_depths = (deep-positions, deep-named)

pub deep-overrides-none : depth_overrides (plain_overrides None) ≡ 0
unfolding depth_overrides plain_overrides
deep-overrides-none = refl

pub deep-overrides-some : (c : Conns) → depth_overrides (plain_overrides (Some c)) ≡ depth_connections (plain_connections c)
unfolding depth_overrides plain_overrides
deep-overrides-some c = refl

pub ruleset overrides_depths = (deep-overrides-none, deep-overrides-some)

pub deep-instance : (i : Instance) → depth_instance (plain_instance i) ≡ depth_connections (plain_connections i.conns)
unfolding depth_instance plain_instance
deep-instance i = refl

pub deep-Ports : (g : Group) → depth_item (plain_item (item.Ports g)) ≡ depth_port (plain_port g)
unfolding depth_item plain_item
deep-Ports g = refl

pub deep-Nets : (signed : Bool) (range : Option Bounds) (names : Bor (List Declarator)) → depth_item (plain_item (item.Nets signed range names)) ≡ max (depth_range (plain_range range)) (greatest depth_declarator (map plain_declarator names.now))
unfolding depth_item plain_item
deep-Nets signed range names = refl

pub deep-Variables : (signed : Bool) (range : Option Bounds) (names : Bor (List Declarator)) → depth_item (plain_item (item.Variables signed range names)) ≡ max (depth_range (plain_range range)) (greatest depth_declarator (map plain_declarator names.now))
unfolding depth_item plain_item
deep-Variables signed range names = refl

pub deep-Integers : (names : Bor (List Name)) → depth_item (plain_item (item.Integers names)) ≡ 0
unfolding depth_item plain_item
deep-Integers names = refl

pub deep-Parameters : (p : Params) → depth_item (plain_item (item.Parameters p)) ≡ depth_parameter (plain_parameter p)
unfolding depth_item plain_item
deep-Parameters p = refl

pub deep-Assigns : (pairs : Bor (List Pair)) → depth_item (plain_item (item.Assigns pairs)) ≡ greatest depth_pair (map plain_pair pairs.now)
unfolding depth_item plain_item
deep-Assigns pairs = refl

pub deep-Always : (e : Events) (s : Bor Stmt) (token : ℕ) → depth_item (plain_item (item.Always e s token)) ≡ max (depth_events (plain_events e)) (1 + depth_statement (plain_statement s.now))
unfolding depth_item plain_item
deep-Always e s token = omega arith

pub deep-Initial : (s : Bor Stmt) (token : ℕ) → depth_item (plain_item (item.Initial s token)) ≡ 1 + depth_statement (plain_statement s.now)
unfolding depth_item plain_item
deep-Initial s token = omega arith

pub deep-Instances : (m : Bor (List ℕ)) (token : ℕ) (o : Option Conns) (list : Bor (List Instance)) → depth_item (plain_item (item.Instances m token o list)) ≡ max (depth_overrides (plain_overrides o)) (greatest depth_instance (map plain_instance list.now))
unfolding depth_item plain_item
deep-Instances m token o list = refl

pub ruleset item_depths = (deep-Ports, deep-Nets, deep-Variables, deep-Integers, deep-Parameters, deep-Assigns, deep-Always, deep-Initial, deep-Instances)

pub deep-item : (i : Item) → height_item (plain_item i) ≡ 1 + depth_item (plain_item i)
unfolding height_item
deep-item i = omega arith

pub deep-module : (m : Module) → depth_module (plain_module m) ≡ max (greatest depth_parameter (map plain_parameter m.params.now)) (max (greatest depth_port (map plain_port m.groups.now)) (greatest height_item (map plain_item m.items.now)))
unfolding depth_module plain_module
deep-module m = refl

pub ruleset module_depths = deep-module

pub height-module : (m : Module) → height_module (plain_module m) ≡ 1 + depth_module (plain_module m)
unfolding height_module
height-module m = omega arith

pub deep-source : (s : Source) → depth_source (plain_source s) ≡ greatest height_module (map plain_module s.modules.now)
unfolding depth_source plain_source
deep-source s = refl
