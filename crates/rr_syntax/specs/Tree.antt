-- Syntax trees as plain data, without addresses: each leaf and each named part keeps the number of its token.
-- The names are those of IEEE 1364-2005 annex A.
use Rattle.std.specs.Prelude.{ℕ, List, Bool, Option, None, Some, map, ◌≡◌}
use Rattle.rr_syntax.specs.declared.token.Number.{Number}
use Rattle.rr_syntax.specs.declared.tree.Dir.{Dir}

-- expressions (section 5, annex A.8); the first number of a leaf is its token's, an operator is a mark
mutual
  pub data Tree : Type 0 where
    Name : ℕ → List ℕ → Tree
    Literal : ℕ → Number → Tree
    Bit : ℕ → List ℕ → Tree → Tree
    Part : ℕ → List ℕ → Tree → Tree → Tree
    Indexed : ℕ → List ℕ → Tree → Tree → Bool → Tree
    Unary : ℕ → Tree → Tree
    Binary : ℕ → Tree → Tree → Tree
    Cond : Tree → Tree → Tree → Tree
    Concat : Trees → Tree
    Repeat : Tree → Trees → Tree
    Cast : Bool → Tree → Tree
    Paren : Tree → Tree

  pub data Trees : Type 0 where
    End : Trees
    More : Tree → Trees → Trees

-- a name and its token (section 3.7)
pub record Identifier : Type 0 where
  pub token : ℕ
  pub text : List ℕ

-- `(NAME = start; test; NAME = step)` of a loop, and the tokens of its two names (section 9.6, annex A.6.8)
pub record LoopHead : Type 0 where
  pub token : ℕ
  pub text : List ℕ
  pub start : Tree
  pub test : Tree
  pub step_token : ℕ
  pub step_text : List ℕ
  pub step : Tree

-- statements (section 9, annex A.6); of an assignment `true` says that it is blocking
mutual
  pub data Statement : Type 0 where
    Null : Statement
    Block : Option Identifier → Statements → Statement
    If : Tree → Statement → Statement
    IfElse : Tree → Statement → Statement → Statement
    Case : ℕ → Tree → Arms → Statement
    Assign : Tree → Bool → Tree → Statement
    For : LoopHead → Statement → Statement

  pub data Statements : Type 0 where
    Done : Statements
    Then : Statement → Statements → Statements

  -- the labels, whether a colon follows `default`, and the statement
  pub data Arm : Type 0 where
    CaseItem : Trees → Bool → Statement → Arm

  pub data Arms : Type 0 where
    NoArms : Arms
    MoreArms : Arm → Arms → Arms

-- `[left:right]` (annex A.2.5)
pub record Range : Type 0 where
  pub left : Tree
  pub right : Tree

-- a declared net and what drives it, or a declared variable and its starting value, where it has one (sections 6.1.1 and 6.2.1,
-- annex A.2.4); of a memory `words` bounds the indices of its words (section 4.9.3)
pub record DeclaredName : Type 0 where
  pub token : ℕ
  pub text : List ℕ
  pub words : Option Range
  pub value : Option Tree

-- a port declaration without its semicolon (section 12.3.3, annex A.2.1.2)
pub record PortDeclaration : Type 0 where
  pub dir : Dir
  pub signed : Bool
  pub range : Option Range
  pub names : List DeclaredName

-- `NAME = value` (annex A.2.4)
pub record ParamAssignment : Type 0 where
  pub token : ℕ
  pub text : List ℕ
  pub value : Tree

-- a parameter declaration without its semicolon (section 12.2, annex A.2.1.1)
pub record ParameterDeclaration : Type 0 where
  pub local : Bool
  pub integer : Bool
  pub signed : Bool
  pub range : Option Range
  pub sets : List ParamAssignment

-- `target = value` of a continuous assignment (section 6.1, annex A.6.1)
pub record NetAssignment : Type 0 where
  pub target : Tree
  pub value : Tree

-- `posedge NAME` or `negedge NAME` (section 9.7.2)
pub record EdgeEvent : Type 0 where
  pub rising : Bool
  pub text : List ℕ
  pub token : ℕ

-- what stands behind `@` (sections 9.7.3 to 9.7.5, annex A.6.5); each separator is a comma where `true`, else `or`
pub data EventControl : Type 0 where
  Star : Bool → EventControl
  Edges : List EdgeEvent → List Bool → EventControl
  Levels : Trees → List Bool → EventControl

-- `.NAME(value)` (section 12.3.6, annex A.4.1)
pub record NamedConnection : Type 0 where
  pub token : ℕ
  pub text : List ℕ
  pub value : Option Tree

pub data Connections : Type 0 where
  Positions : Trees → Connections
  Names : List NamedConnection → Connections

-- an instance without its module's name (section 12.1.2, annex A.4.1)
pub record ModuleInstance : Type 0 where
  pub token : ℕ
  pub text : List ℕ
  pub connections : Connections

-- the items of a module (section 12.1, annex A.1.4); the last three begin at the token whose number they hold
pub data ModuleItem : Type 0 where
  Ports : PortDeclaration → ModuleItem
  Nets : Bool → Option Range → List DeclaredName → ModuleItem
  Variables : Bool → Option Range → List DeclaredName → ModuleItem
  Integers : List Identifier → ModuleItem
  Parameters : ParameterDeclaration → ModuleItem
  Assigns : List NetAssignment → ModuleItem
  Always : EventControl → Statement → ℕ → ModuleItem
  Initial : Statement → ℕ → ModuleItem
  Instances : List ℕ → ℕ → Option Connections → List ModuleInstance → ModuleItem

-- a module (section 12.1, annex A.1.2); `header` is the plain names in its port brackets, where it has these
pub record ModuleDeclaration : Type 0 where
  pub text : List ℕ
  pub token : ℕ
  pub params : List ParameterDeclaration
  pub header : Option (List Identifier)
  pub groups : List PortDeclaration
  pub items : List ModuleItem

-- a source text (annex A.1.2)
pub record SourceText : Type 0 where
  pub modules : List ModuleDeclaration

-- the same tree with every token number 0
unfoldable mutual
  pub bare : Tree → Tree
  bare (Name n s) = Name 0 s
  bare (Literal n d) = Literal 0 d
  bare (Bit n s i) = Bit 0 s (bare i)
  bare (Part n s l r) = Part 0 s (bare l) (bare r)
  bare (Indexed n s f w up) = Indexed 0 s (bare f) (bare w) up
  bare (Unary m t) = Unary m (bare t)
  bare (Binary m l r) = Binary m (bare l) (bare r)
  bare (Cond a b c) = Cond (bare a) (bare b) (bare c)
  bare (Concat ts) = Concat (bare_parts ts)
  bare (Repeat t ts) = Repeat (bare t) (bare_parts ts)
  bare (Cast signed t) = Cast signed (bare t)
  bare (Paren t) = Paren (bare t)

  pub bare_parts : Trees → Trees
  bare_parts End = End
  bare_parts (More t ts) = More (bare t) (bare_parts ts)

-- two trees are equal without token numbers
abbrev pub IsSame : Tree → Tree → Type 0
IsSame a b = bare a ≡ bare b

unfoldable pub bare_identifier : Identifier → Identifier
bare_identifier i = record { token = 0; text = i.text }

unfoldable pub bare_label : Option Identifier → Option Identifier
bare_label None = None
bare_label (Some i) = Some (bare_identifier i)

unfoldable pub bare_loop : LoopHead → LoopHead
bare_loop h = record {
  token = 0;
  text = h.text;
  start = bare h.start;
  test = bare h.test;
  step_token = 0;
  step_text = h.step_text;
  step = bare h.step;
}

unfoldable mutual
  pub bare_statement : Statement → Statement
  bare_statement Null = Null
  bare_statement (Block label ss) = Block (bare_label label) (bare_statements ss)
  bare_statement (If t s) = If (bare t) (bare_statement s)
  bare_statement (IfElse t s u) = IfElse (bare t) (bare_statement s) (bare_statement u)
  bare_statement (Case kind t arms) = Case kind (bare t) (bare_arms arms)
  bare_statement (Assign t now v) = Assign (bare t) now (bare v)
  bare_statement (For h s) = For (bare_loop h) (bare_statement s)

  pub bare_statements : Statements → Statements
  bare_statements Done = Done
  bare_statements (Then s ss) = Then (bare_statement s) (bare_statements ss)

  pub bare_arm : Arm → Arm
  bare_arm (CaseItem labels colon s) = CaseItem (bare_parts labels) colon (bare_statement s)

  pub bare_arms : Arms → Arms
  bare_arms NoArms = NoArms
  bare_arms (MoreArms a rest) = MoreArms (bare_arm a) (bare_arms rest)

unfoldable pub bare_range : Option Range → Option Range
bare_range None = None
bare_range (Some r) = Some (record { left = bare r.left; right = bare r.right })

unfoldable pub bare_value : Option Tree → Option Tree
bare_value None = None
bare_value (Some t) = Some (bare t)

unfoldable pub bare_declarator : DeclaredName → DeclaredName
bare_declarator n = record { token = 0; text = n.text; words = bare_range n.words; value = bare_value n.value }

unfoldable pub bare_port : PortDeclaration → PortDeclaration
bare_port p = record p { range = bare_range p.range; names = map bare_declarator p.names }

unfoldable pub bare_assignment : ParamAssignment → ParamAssignment
bare_assignment a = record { token = 0; text = a.text; value = bare a.value }

unfoldable pub bare_parameter : ParameterDeclaration → ParameterDeclaration
bare_parameter p = record p { range = bare_range p.range; sets = map bare_assignment p.sets }

unfoldable pub bare_pair : NetAssignment → NetAssignment
bare_pair p = record { target = bare p.target; value = bare p.value }

unfoldable pub bare_edge : EdgeEvent → EdgeEvent
bare_edge e = record { rising = e.rising; text = e.text; token = 0 }

unfoldable pub bare_events : EventControl → EventControl
bare_events (Star brackets) = Star brackets
bare_events (Edges list commas) = Edges (map bare_edge list) commas
bare_events (Levels list commas) = Levels (bare_parts list) commas

unfoldable pub bare_connection : NamedConnection → NamedConnection
bare_connection c = record { token = 0; text = c.text; value = bare_value c.value }

unfoldable pub bare_connections : Connections → Connections
bare_connections (Positions ts) = Positions (bare_parts ts)
bare_connections (Names cs) = Names (map bare_connection cs)

unfoldable pub bare_overrides : Option Connections → Option Connections
bare_overrides None = None
bare_overrides (Some c) = Some (bare_connections c)

unfoldable pub bare_instance : ModuleInstance → ModuleInstance
bare_instance i = record { token = 0; text = i.text; connections = bare_connections i.connections }

unfoldable pub bare_item : ModuleItem → ModuleItem
bare_item (Ports p) = Ports (bare_port p)
bare_item (Nets signed range names) = Nets signed (bare_range range) (map bare_declarator names)
bare_item (Variables signed range names) = Variables signed (bare_range range) (map bare_declarator names)
bare_item (Integers names) = Integers (map bare_identifier names)
bare_item (Parameters p) = Parameters (bare_parameter p)
bare_item (Assigns pairs) = Assigns (map bare_pair pairs)
bare_item (Always events s token) = Always (bare_events events) (bare_statement s) 0
bare_item (Initial s token) = Initial (bare_statement s) 0
bare_item (Instances m token overrides list) = Instances m 0 (bare_overrides overrides) (map bare_instance list)

unfoldable pub bare_header : Option (List Identifier) → Option (List Identifier)
bare_header None = None
bare_header (Some names) = Some (map bare_identifier names)

unfoldable pub bare_module : ModuleDeclaration → ModuleDeclaration
bare_module m = record {
  text = m.text;
  token = 0;
  params = map bare_parameter m.params;
  header = bare_header m.header;
  groups = map bare_port m.groups;
  items = map bare_item m.items;
}

unfoldable pub bare_source : SourceText → SourceText
bare_source s = record { modules = map bare_module s.modules }

abbrev pub IsSameStatement : Statement → Statement → Type 0
IsSameStatement a b = bare_statement a ≡ bare_statement b

abbrev pub IsSameItem : ModuleItem → ModuleItem → Type 0
IsSameItem a b = bare_item a ≡ bare_item b

abbrev pub IsSameModule : ModuleDeclaration → ModuleDeclaration → Type 0
IsSameModule a b = bare_module a ≡ bare_module b

abbrev pub IsSameSource : SourceText → SourceText → Type 0
IsSameSource a b = bare_source a ≡ bare_source b
