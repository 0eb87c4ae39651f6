-- What the trees in the arena stand for.
use Rattle.std.specs.Prelude.{ℕ, List, [], ◌∷◌, Option, None, Some, map}
use Rattle.rr_syntax.specs.declared.tree.Expr.{Expr, Row_of-Expr, end_of-Expr, more_of-Expr}
use Rattle.rr_syntax.specs.declared.tree.Expr.TheVariants as expr
use Rattle.rr_syntax.specs.declared.tree.Named.{Named}
use Rattle.rr_syntax.specs.declared.tree.Head.{Head}
use Rattle.rr_syntax.specs.declared.tree.Stmt.{Stmt, Row_of-Stmt, end_of-Stmt, more_of-Stmt, Held-Stmt-If-2, None', Some', Row_of-Arm, end_of-Arm, more_of-Arm}
use Rattle.rr_syntax.specs.declared.tree.Stmt.TheVariants as stmt
use Rattle.rr_syntax.specs.declared.tree.Arm.{Arm as Branch}
use Rattle.rr_syntax.specs.declared.tree.Bounds.{Bounds}
use Rattle.rr_syntax.specs.declared.tree.Group.{Group}
use Rattle.rr_syntax.specs.declared.tree.Setting.{Setting}
use Rattle.rr_syntax.specs.declared.tree.Params.{Params}
use Rattle.rr_syntax.specs.declared.tree.Declarator.{Declarator}
use Rattle.rr_syntax.specs.declared.tree.Pair.{Pair}
use Rattle.rr_syntax.specs.declared.tree.Event.{Event}
use Rattle.rr_syntax.specs.declared.tree.Events.{Events}
use Rattle.rr_syntax.specs.declared.tree.Events.TheVariants as events
use Rattle.rr_syntax.specs.declared.tree.Connection.{Connection}
use Rattle.rr_syntax.specs.declared.tree.Conns.{Conns}
use Rattle.rr_syntax.specs.declared.tree.Conns.TheVariants as conns
use Rattle.rr_syntax.specs.declared.tree.Instance.{Instance}
use Rattle.rr_syntax.specs.declared.tree.Item.{Item}
use Rattle.rr_syntax.specs.declared.tree.Item.TheVariants as item
use Rattle.rr_syntax.specs.declared.tree.Module.{Module}
use Rattle.rr_syntax.specs.declared.tree.Source.{Source}
use denote.Ref.{Bor}
use Rattle.rr_syntax.specs.Tree.{Tree, Trees, Name, Literal, Bit, Part, Indexed, Unary, Binary, Cond, Concat, Repeat, Cast, Paren, End, More, Identifier, LoopHead, Statement, Statements, Arm, Arms, Null, Block, If, IfElse, Case, Assign, For, Done, Then, CaseItem, NoArms, MoreArms, Range, PortDeclaration, ParamAssignment, ParameterDeclaration, DeclaredName, NetAssignment, EdgeEvent, EventControl, Star, Edges, Levels, NamedConnection, Connections, Positions, Names, ModuleInstance, ModuleItem, Ports, Nets, Variables, Integers, Parameters, Assigns, Always, Initial, Instances, ModuleDeclaration, SourceText}

unfoldable mutual
  pub plain : Expr → Tree
  plain (expr.Name token name) = Name token name.now
  plain (expr.Literal token number) = Literal token number
  plain (expr.Bit' token name p index) = Bit token name.now (plain index)
  plain (expr.Part' token name p left q right) = Part token name.now (plain left) (plain right)
  plain (expr.Indexed' token name p from q width up) = Indexed token name.now (plain from) (plain width) up
  plain (expr.Unary' op p of) = Unary op.0 (plain of)
  plain (expr.Binary' op p left q right) = Binary op.0 (plain left) (plain right)
  plain (expr.Cond' p a q b r c) = Cond (plain a) (plain b) (plain c)
  plain (expr.Concat' p shape parts) = Concat (plain_row parts)
  plain (expr.Repeat' p count q shape parts) = Repeat (plain count) (plain_row parts)
  plain (expr.Cast' signed p of) = Cast signed (plain of)
  plain (expr.Paren' p of) = Paren (plain of)

  pub plain_row : {m : _} → Row_of-Expr m → Trees
  plain_row end_of-Expr = End
  plain_row (more_of-Expr e rest) = More (plain e) (plain_row rest)

-- the same of a slice
unfoldable pub plain_list : List Expr → Trees
plain_list [] = End
plain_list (e ∷ es) = More (plain e) (plain_list es)

unfoldable pub plain_identifier : Named → Identifier
plain_identifier n = record { token = n.token; text = n.name.now }

unfoldable pub plain_label : Option Named → Option Identifier
plain_label None = None
plain_label (Some n) = Some (plain_identifier n)

unfoldable pub plain_loop : Head → LoopHead
plain_loop h = record {
  token = h.token;
  text = h.name.now;
  start = plain h.start.now;
  test = plain h.test.now;
  step_token = h.step_token;
  step_text = h.step_name.now;
  step = plain h.step.now;
}

unfoldable mutual
  pub plain_statement : Stmt → Statement
  plain_statement stmt.Null = Null
  plain_statement (stmt.Block' label p shape body) = Block (plain_label label) (plain_statement_row body)
  plain_statement (stmt.If' test p s other) = plain_if test.now (plain_statement s) other
  plain_statement (stmt.Case' kind on p shape arms) = Case kind.0 (plain on.now) (plain_arm_row arms)
  plain_statement (stmt.Assign target now value) = Assign (plain target.now) now (plain value.now)
  plain_statement (stmt.For' head p body) = For (plain_loop head) (plain_statement body)

  pub plain_if : Expr → Statement → Held-Stmt-If-2 → Statement
  plain_if test s None' = If (plain test) s
  plain_if test s (Some' p u) = IfElse (plain test) s (plain_statement u)

  pub plain_statement_row : {m : _} → Row_of-Stmt m → Statements
  plain_statement_row end_of-Stmt = Done
  plain_statement_row (more_of-Stmt s rest) = Then (plain_statement s) (plain_statement_row rest)

  pub plain_arm_row : {m : _} → Row_of-Arm m → Arms
  plain_arm_row end_of-Arm = NoArms
  plain_arm_row (more_of-Arm labels colon p body rest) = MoreArms (CaseItem (plain_list labels.now) colon (plain_statement body)) (plain_arm_row rest)

-- the same of slices
unfoldable pub plain_statements : List Stmt → Statements
plain_statements [] = Done
plain_statements (s ∷ ss) = Then (plain_statement s) (plain_statements ss)

unfoldable pub plain_arm : Branch → Arm
plain_arm a = CaseItem (plain_list a.labels.now) a.colon (plain_statement a.body.now)

unfoldable pub plain_arms : List Branch → Arms
plain_arms [] = NoArms
plain_arms (a ∷ rest) = MoreArms (plain_arm a) (plain_arms rest)

unfoldable pub plain_range : Option Bounds → Option Range
plain_range None = None
plain_range (Some b) = Some (record { left = plain b.left.now; right = plain b.right.now })

unfoldable pub plain_value : Option (Bor Expr) → Option Tree
plain_value None = None
plain_value (Some e) = Some (plain e.now)

unfoldable pub plain_declarator : Declarator → DeclaredName
plain_declarator n = record { token = n.token; text = n.name.now; words = plain_range n.words; value = plain_value n.value }

unfoldable pub plain_port : Group → PortDeclaration
plain_port g = record { dir = g.dir; signed = g.signed; range = plain_range g.range; names = map plain_declarator g.names.now }

unfoldable pub plain_assignment : Setting → ParamAssignment
plain_assignment s = record { token = s.token; text = s.name.now; value = plain s.value.now }

unfoldable pub plain_parameter : Params → ParameterDeclaration
plain_parameter p = record {
  local = p.local;
  integer = p.integer;
  signed = p.signed;
  range = plain_range p.range;
  sets = map plain_assignment p.sets.now;
}

unfoldable pub plain_pair : Pair → NetAssignment
plain_pair p = record { target = plain p.target.now; value = plain p.value.now }

unfoldable pub plain_edge : Event → EdgeEvent
plain_edge e = record { rising = e.rising; text = e.name.now; token = e.token }

unfoldable pub plain_events : Events → EventControl
plain_events (events.Star brackets) = Star brackets
plain_events (events.Edges list commas) = Edges (map plain_edge list.now) commas.now
plain_events (events.Levels list commas) = Levels (plain_list list.now) commas.now

unfoldable pub plain_connection : Connection → NamedConnection
plain_connection c = record { token = c.token; text = c.name.now; value = plain_value c.value }

unfoldable pub plain_connections : Conns → Connections
plain_connections (conns.Positions list) = Positions (plain_list list.now)
plain_connections (conns.Names list) = Names (map plain_connection list.now)

unfoldable pub plain_overrides : Option Conns → Option Connections
plain_overrides None = None
plain_overrides (Some c) = Some (plain_connections c)

unfoldable pub plain_instance : Instance → ModuleInstance
plain_instance i = record { token = i.token; text = i.name.now; connections = plain_connections i.conns }

unfoldable pub plain_item : Item → ModuleItem
plain_item (item.Ports g) = Ports (plain_port g)
plain_item (item.Nets signed range names) = Nets signed (plain_range range) (map plain_declarator names.now)
plain_item (item.Variables signed range names) = Variables signed (plain_range range) (map plain_declarator names.now)
plain_item (item.Integers names) = Integers (map plain_identifier names.now)
plain_item (item.Parameters p) = Parameters (plain_parameter p)
plain_item (item.Assigns pairs) = Assigns (map plain_pair pairs.now)
plain_item (item.Always events body token) = Always (plain_events events) (plain_statement body.now) token
plain_item (item.Initial body token) = Initial (plain_statement body.now) token
plain_item (item.Instances m token overrides list) = Instances m.now token (plain_overrides overrides) (map plain_instance list.now)

unfoldable pub plain_header : Option (Bor (List Named)) → Option (List Identifier)
plain_header None = None
plain_header (Some names) = Some (map plain_identifier names.now)

unfoldable pub plain_module : Module → ModuleDeclaration
plain_module m = record {
  text = m.name.now;
  token = m.token;
  params = map plain_parameter m.params.now;
  header = plain_header m.header;
  groups = map plain_port m.groups.now;
  items = map plain_item m.items.now;
}

unfoldable pub plain_source : Source → SourceText
plain_source s = record { modules = map plain_module s.modules.now }

-- the texts of names
abbrev pub texts : List (Bor (List ℕ)) → List (List ℕ)
texts names = map (λ n. n.now) names
