-- Module items, modules and source texts (IEEE 1364-2005 sections 6, 9.7 and 12, annexes A.1 to A.4): their spelling,
-- the rules that well-formed ones keep, their depth, and the numbers of their tokens.
use Rattle.std.specs.Prelude.{ℕ, suc, ◌+◌, ◌<◌, ◌≡◌, ◌⊎◌, max, List, [], ◌∷◌, ◌++◌, length, IsTrue, Bool, true, false, cond, Option, None, Some, IsNone}
use Rattle.std.specs.List.{AllByRecursion}
use Rattle.rr_syntax.specs.declared.tree.Dir.{Dir}
use Rattle.rr_syntax.specs.declared.tree.Dir.TheVariants as dir
use Rattle.rr_syntax.specs.Words.{Word, Named, Reserved, Marked, keyword_always, keyword_assign, keyword_endmodule, keyword_initial, keyword_input, keyword_integer, keyword_localparam, keyword_module, keyword_negedge, keyword_or, keyword_output, keyword_parameter, keyword_posedge, keyword_reg, keyword_signed, keyword_wire, mark_open_parenthesis, mark_close_parenthesis, mark_open_bracket, mark_close_bracket, mark_comma, mark_semicolon, mark_colon, mark_dot, mark_hash, mark_at, mark_equals, mark_star}
use Rattle.rr_syntax.specs.Tree.{Tree, Trees, End, More, Identifier, Range, PortDeclaration, ParamAssignment, ParameterDeclaration, DeclaredName, NetAssignment, EdgeEvent, EventControl, Star, Edges, Levels, NamedConnection, Connections, Positions, Names, ModuleInstance, ModuleItem, Ports, Nets, Variables, Integers, Parameters, Assigns, Always, Initial, Instances, ModuleDeclaration, SourceText}
use Rattle.rr_syntax.specs.Expressions.{spell, spell_parts, WellFormed, WellFormedMore, is_target, depth, height, Numbered, NumberedMore, FitLiterals, FitLiteralsParts}
use Rattle.rr_syntax.specs.Statements.{spell_statement, is_initial, WellFormedStatement, depth_statement, NumberedStatement, FitLiteralsStatement}

-- a list, with a comma before each
unfoldable pub spell_each : {A : Type 0} → (A → List Word) → List A → List Word
spell_each f [] = []
spell_each f (x ∷ xs) = Marked mark_comma ∷ (f x ++ spell_each f xs)

-- a list, with commas between
unfoldable pub spell_separated : {A : Type 0} → (A → List Word) → List A → List Word
spell_separated f [] = []
spell_separated f (x ∷ xs) = f x ++ spell_each f xs

-- a list, with nothing between
unfoldable pub spell_all : {A : Type 0} → (A → List Word) → List A → List Word
spell_all f [] = []
spell_all f (x ∷ xs) = f x ++ spell_all f xs

-- a reserved word, where it stands
unfoldable pub spell_where : Bool → ℕ → List Word
spell_where b k = cond b (Reserved k ∷ []) []

unfoldable pub spell_identifier : Identifier → List Word
spell_identifier i = Named i.text ∷ []

-- `[left:right]`, where it stands (annex A.2.5)
unfoldable pub spell_range : Option Range → List Word
spell_range None = []
spell_range (Some r) = Marked mark_open_bracket ∷ (spell r.left ++ (Marked mark_colon ∷ (spell r.right ++ (Marked mark_close_bracket ∷ []))))

-- `signed` and the range, where they stand
unfoldable pub spell_type : Bool → Option Range → List Word
spell_type signed range = spell_where signed keyword_signed ++ spell_range range

-- section 12.3.3, annex A.2.1.2
unfoldable pub spell_dir : Dir → List Word
spell_dir dir.Input = Reserved keyword_input ∷ []
spell_dir dir.InputWire = Reserved keyword_input ∷ (Reserved keyword_wire ∷ [])
spell_dir dir.Output = Reserved keyword_output ∷ []
spell_dir dir.OutputWire = Reserved keyword_output ∷ (Reserved keyword_wire ∷ [])
spell_dir dir.OutputReg = Reserved keyword_output ∷ (Reserved keyword_reg ∷ [])

-- sections 6.1.1 and 6.2.1
unfoldable pub spell_value : Option Tree → List Word
spell_value None = []
spell_value (Some t) = Marked mark_equals ∷ spell t

-- the range of the words of a memory follows its name (section 4.9.3, annex A.2.4)
unfoldable pub spell_declarator : DeclaredName → List Word
spell_declarator n = Named n.text ∷ (spell_range n.words ++ spell_value n.value)

unfoldable pub spell_port : PortDeclaration → List Word
spell_port p = spell_dir p.dir ++ (spell_type p.signed p.range ++ spell_separated spell_declarator p.names)

-- annex A.2.4
unfoldable pub spell_assignment : ParamAssignment → List Word
spell_assignment a = Named a.text ∷ (Marked mark_equals ∷ spell a.value)

-- section 12.2, annex A.2.1.1
unfoldable pub spell_parameter : ParameterDeclaration → List Word
spell_parameter p =
    Reserved (cond p.local keyword_localparam keyword_parameter) ∷
    (spell_where p.integer keyword_integer ++ (spell_type p.signed p.range ++ spell_separated spell_assignment p.sets))

-- section 6.1, annex A.6.1
unfoldable pub spell_pair : NetAssignment → List Word
spell_pair p = spell p.target ++ (Marked mark_equals ∷ spell p.value)

-- section 9.7.2
unfoldable pub spell_edge : EdgeEvent → List Word
spell_edge e = Reserved (cond e.rising keyword_posedge keyword_negedge) ∷ (Named e.text ∷ [])

-- the separator before the next event is the first of the list; `or` where the list has ended (section 9.7.3)
unfoldable pub separator : List Bool → Word
separator [] = Reserved keyword_or
separator (comma ∷ commas) = cond comma (Marked mark_comma) (Reserved keyword_or)

unfoldable pub rest : List Bool → List Bool
rest [] = []
rest (comma ∷ commas) = commas

unfoldable pub spell_more_edges : List EdgeEvent → List Bool → List Word
spell_more_edges [] commas = []
spell_more_edges (e ∷ es) commas = separator commas ∷ (spell_edge e ++ spell_more_edges es (rest commas))

unfoldable pub spell_edges : List EdgeEvent → List Bool → List Word
spell_edges [] commas = []
spell_edges (e ∷ es) commas = spell_edge e ++ spell_more_edges es commas

unfoldable pub spell_more_levels : Trees → List Bool → List Word
spell_more_levels End commas = []
spell_more_levels (More t ts) commas = separator commas ∷ (spell t ++ spell_more_levels ts (rest commas))

unfoldable pub spell_levels : Trees → List Bool → List Word
spell_levels End commas = []
spell_levels (More t ts) commas = spell t ++ spell_more_levels ts commas

-- sections 9.7.3 to 9.7.5, annex A.6.5
unfoldable pub spell_events : EventControl → List Word
spell_events (Star brackets) =
    cond brackets (Marked mark_open_parenthesis ∷ (Marked mark_star ∷ (Marked mark_close_parenthesis ∷ []))) (Marked mark_star ∷ [])
spell_events (Edges list commas) = Marked mark_open_parenthesis ∷ (spell_edges list commas ++ (Marked mark_close_parenthesis ∷ []))
spell_events (Levels list commas) = Marked mark_open_parenthesis ∷ (spell_levels list commas ++ (Marked mark_close_parenthesis ∷ []))

unfoldable pub spell_optional : Option Tree → List Word
spell_optional None = []
spell_optional (Some t) = spell t

-- section 12.3.6, annex A.4.1
unfoldable pub spell_connection : NamedConnection → List Word
spell_connection c =
    Marked mark_dot ∷ (Named c.text ∷ (Marked mark_open_parenthesis ∷ (spell_optional c.value ++ (Marked mark_close_parenthesis ∷ []))))

-- with the brackets
unfoldable pub spell_connections : Connections → List Word
spell_connections (Positions ts) = Marked mark_open_parenthesis ∷ (spell_parts ts ++ (Marked mark_close_parenthesis ∷ []))
spell_connections (Names cs) = Marked mark_open_parenthesis ∷ (spell_separated spell_connection cs ++ (Marked mark_close_parenthesis ∷ []))

-- section 12.2.2
unfoldable pub spell_overrides : Option Connections → List Word
spell_overrides None = []
spell_overrides (Some c) = Marked mark_hash ∷ spell_connections c

unfoldable pub spell_instance : ModuleInstance → List Word
spell_instance i = Named i.text ∷ spell_connections i.connections

-- annex A.1.4
unfoldable pub spell_item : ModuleItem → List Word
spell_item (Ports p) = spell_port p ++ (Marked mark_semicolon ∷ [])
spell_item (Nets signed range names) =
    Reserved keyword_wire ∷ (spell_type signed range ++ (spell_separated spell_declarator names ++ (Marked mark_semicolon ∷ [])))
spell_item (Variables signed range names) =
    Reserved keyword_reg ∷ (spell_type signed range ++ (spell_separated spell_declarator names ++ (Marked mark_semicolon ∷ [])))
spell_item (Integers names) = Reserved keyword_integer ∷ (spell_separated spell_identifier names ++ (Marked mark_semicolon ∷ []))
spell_item (Parameters p) = spell_parameter p ++ (Marked mark_semicolon ∷ [])
spell_item (Assigns pairs) = Reserved keyword_assign ∷ (spell_separated spell_pair pairs ++ (Marked mark_semicolon ∷ []))
spell_item (Always events s token) = Reserved keyword_always ∷ (Marked mark_at ∷ (spell_events events ++ spell_statement s))
spell_item (Initial s token) = Reserved keyword_initial ∷ spell_statement s
spell_item (Instances m token overrides list) =
    Named m ∷ (spell_overrides overrides ++ (spell_separated spell_instance list ++ (Marked mark_semicolon ∷ [])))

-- the parameters of a module, where it has any
unfoldable pub spell_parameters : List ParameterDeclaration → List Word
spell_parameters [] = []
spell_parameters (p ∷ ps) =
    Marked mark_hash ∷ (Marked mark_open_parenthesis ∷ (spell_separated spell_parameter (p ∷ ps) ++ (Marked mark_close_parenthesis ∷ [])))

-- the port brackets of a module, where it has them: plain names, or port declarations
unfoldable pub spell_ports : Option (List Identifier) → List PortDeclaration → List Word
spell_ports None groups = []
spell_ports (Some names) groups =
    Marked mark_open_parenthesis ∷
    (spell_separated spell_identifier names ++ (spell_separated spell_port groups ++ (Marked mark_close_parenthesis ∷ [])))

-- section 12.1, annex A.1.2
unfoldable pub spell_module : ModuleDeclaration → List Word
spell_module m =
    Reserved keyword_module ∷
    (Named m.text ∷
    (spell_parameters m.params ++
    (spell_ports m.header m.groups ++
    (Marked mark_semicolon ∷ (spell_all spell_item m.items ++ (Reserved keyword_endmodule ∷ []))))))

unfoldable pub spell_source : SourceText → List Word
spell_source s = spell_all spell_module s.modules

-- the rules of well-formed parts
unfoldable pub WellFormedRange : Option Range → Type 0
WellFormedRange None = Unit {0}
WellFormedRange (Some r) = WellFormed r.left × WellFormed r.right

unfoldable pub WellFormedValue : Option Tree → Type 0
WellFormedValue None = Unit {0}
WellFormedValue (Some t) = WellFormed t

unfoldable pub WellFormedDeclarator : DeclaredName → Type 0
WellFormedDeclarator n = WellFormedRange n.words × WellFormedValue n.value

-- a port and a net are no memories (section 4.9.3)
abbrev pub HasNoWords : DeclaredName → Type 0
HasNoWords n = IsNone n.words

-- a memory has no starting value where it is declared (section 6.2.1, annex A.2.3)
abbrev pub IsVariableName : DeclaredName → Type 0
IsVariableName n = HasNoWords n ⊎ IsNone n.value

-- of the ports, those that are declared `output reg` alone have starting values (section 12.3.3, annex A.2.3)
unfoldable pub MayStart : Dir → DeclaredName → Type 0
MayStart dir.OutputReg n = Unit {0}
MayStart dir.Input n = IsNone n.value
MayStart dir.InputWire n = IsNone n.value
MayStart dir.Output n = IsNone n.value
MayStart dir.OutputWire n = IsNone n.value

unfoldable pub WellFormedPort : PortDeclaration → Type 0
WellFormedPort p =
    WellFormedRange p.range × (0 < length p.names) × AllByRecursion WellFormedDeclarator p.names × AllByRecursion (MayStart p.dir) p.names ×
    AllByRecursion HasNoWords p.names

-- an `integer` parameter has neither `signed` nor a range
abbrev pub IsTypedOnce : Bool → Bool → Option Range → Type 0
IsTypedOnce false signed range = Unit {0}
IsTypedOnce true signed range = (signed ≡ false) × IsNone range

unfoldable pub WellFormedAssignment : ParamAssignment → Type 0
WellFormedAssignment a = WellFormed a.value

unfoldable pub WellFormedParameter : ParameterDeclaration → Type 0
WellFormedParameter p =
    IsTypedOnce p.integer p.signed p.range × WellFormedRange p.range × (0 < length p.sets) × AllByRecursion WellFormedAssignment p.sets

unfoldable pub WellFormedPair : NetAssignment → Type 0
WellFormedPair p = IsTrue (is_target p.target) × WellFormed p.target × WellFormed p.value

-- the number of trees in a list
unfoldable pub count : Trees → ℕ
count End = 0
count (More t ts) = suc (count ts)

-- one event or more, and one separator between each two
unfoldable pub WellFormedEvents : EventControl → Type 0
WellFormedEvents (Star brackets) = Unit {0}
WellFormedEvents (Edges list commas) = length list ≡ length commas + 1
WellFormedEvents (Levels list commas) = (count list ≡ length commas + 1) × WellFormedMore list

unfoldable pub WellFormedConnection : NamedConnection → Type 0
WellFormedConnection c = WellFormedValue c.value

-- empty brackets are positions without entries
unfoldable pub WellFormedConnections : Connections → Type 0
WellFormedConnections (Positions ts) = WellFormedMore ts
WellFormedConnections (Names cs) = (0 < length cs) × AllByRecursion WellFormedConnection cs

unfoldable pub WellFormedOverrides : Option Connections → Type 0
WellFormedOverrides None = Unit {0}
WellFormedOverrides (Some c) = WellFormedConnections c

unfoldable pub WellFormedInstance : ModuleInstance → Type 0
WellFormedInstance i = WellFormedConnections i.connections

unfoldable pub WellFormedItem : ModuleItem → Type 0
WellFormedItem (Ports p) = WellFormedPort p
WellFormedItem (Nets signed range names) =
    WellFormedRange range × (0 < length names) × AllByRecursion WellFormedDeclarator names × AllByRecursion HasNoWords names
WellFormedItem (Variables signed range names) =
    WellFormedRange range × (0 < length names) × AllByRecursion WellFormedDeclarator names × AllByRecursion IsVariableName names
WellFormedItem (Integers names) = 0 < length names
WellFormedItem (Parameters p) = WellFormedParameter p
WellFormedItem (Assigns pairs) = (0 < length pairs) × AllByRecursion WellFormedPair pairs
WellFormedItem (Always events s token) = WellFormedEvents events × WellFormedStatement s
WellFormedItem (Initial s token) = IsTrue (is_initial s) × WellFormedStatement s
WellFormedItem (Instances m token overrides list) = WellFormedOverrides overrides × (0 < length list) × AllByRecursion WellFormedInstance list

-- what stands between `#(` and `)` of a module is no `localparam`
unfoldable pub WellFormedHead : ParameterDeclaration → Type 0
WellFormedHead p = (p.local ≡ false) × WellFormedParameter p

-- without port brackets there are no port declarations in them; else the brackets hold names or declarations, or nothing
abbrev pub IsHeader : Option (List Identifier) → List PortDeclaration → Type 0
IsHeader None groups = length groups ≡ 0
IsHeader (Some names) groups = (length names ≡ 0) ⊎ (length groups ≡ 0)

unfoldable pub WellFormedModule : ModuleDeclaration → Type 0
WellFormedModule m =
    AllByRecursion WellFormedHead m.params × IsHeader m.header m.groups × AllByRecursion WellFormedPort m.groups × AllByRecursion WellFormedItem m.items

unfoldable pub WellFormedSource : SourceText → Type 0
WellFormedSource s = AllByRecursion WellFormedModule s.modules

-- the greatest of the numbers that f gives a list
unfoldable pub greatest : {A : Type 0} → (A → ℕ) → List A → ℕ
greatest f [] = 0
greatest f (x ∷ xs) = max (f x) (greatest f xs)

-- of a part: the levels of nodes below the node that holds it
unfoldable pub depth_range : Option Range → ℕ
depth_range None = 0
depth_range (Some r) = suc (max (depth r.left) (depth r.right))

unfoldable pub depth_value : Option Tree → ℕ
depth_value None = 0
depth_value (Some t) = suc (depth t)

unfoldable pub depth_declarator : DeclaredName → ℕ
depth_declarator n = max (depth_range n.words) (depth_value n.value)

unfoldable pub depth_port : PortDeclaration → ℕ
depth_port p = max (depth_range p.range) (greatest depth_declarator p.names)

unfoldable pub depth_assignment : ParamAssignment → ℕ
depth_assignment a = suc (depth a.value)

unfoldable pub depth_parameter : ParameterDeclaration → ℕ
depth_parameter p = max (depth_range p.range) (greatest depth_assignment p.sets)

unfoldable pub depth_pair : NetAssignment → ℕ
depth_pair p = suc (max (depth p.target) (depth p.value))

unfoldable pub depth_events : EventControl → ℕ
depth_events (Star brackets) = 0
depth_events (Edges list commas) = 0
depth_events (Levels list commas) = height list

unfoldable pub depth_connection : NamedConnection → ℕ
depth_connection c = depth_value c.value

unfoldable pub depth_connections : Connections → ℕ
depth_connections (Positions ts) = height ts
depth_connections (Names cs) = greatest depth_connection cs

unfoldable pub depth_overrides : Option Connections → ℕ
depth_overrides None = 0
depth_overrides (Some c) = depth_connections c

unfoldable pub depth_instance : ModuleInstance → ℕ
depth_instance i = depth_connections i.connections

-- the levels of nodes below the item
unfoldable pub depth_item : ModuleItem → ℕ
depth_item (Ports p) = depth_port p
depth_item (Nets signed range names) = max (depth_range range) (greatest depth_declarator names)
depth_item (Variables signed range names) = max (depth_range range) (greatest depth_declarator names)
depth_item (Integers names) = 0
depth_item (Parameters p) = depth_parameter p
depth_item (Assigns pairs) = greatest depth_pair pairs
depth_item (Always events s token) = max (depth_events events) (suc (depth_statement s))
depth_item (Initial s token) = suc (depth_statement s)
depth_item (Instances m token overrides list) = max (depth_overrides overrides) (greatest depth_instance list)

unfoldable pub height_item : ModuleItem → ℕ
height_item i = suc (depth_item i)

unfoldable pub depth_module : ModuleDeclaration → ℕ
depth_module m = max (greatest depth_parameter m.params) (max (greatest depth_port m.groups) (greatest height_item m.items))

unfoldable pub height_module : ModuleDeclaration → ℕ
height_module m = suc (depth_module m)

unfoldable pub depth_source : SourceText → ℕ
depth_source s = greatest height_module s.modules

-- a list of which each is numbered, where `at` is the number of the mark before the first
unfoldable pub NumberedEach : {A : Type 0} → (A → List Word) → (A → ℕ → Type 0) → List A → ℕ → Type 0
NumberedEach f N [] at = Unit {0}
NumberedEach f N (x ∷ xs) at = N x (at + 1) × NumberedEach f N xs (at + 1 + length (f x))

-- the same where `at` is the number of the first one's first token
unfoldable pub NumberedSeparated : {A : Type 0} → (A → List Word) → (A → ℕ → Type 0) → List A → ℕ → Type 0
NumberedSeparated f N [] at = Unit {0}
NumberedSeparated f N (x ∷ xs) at = N x at × NumberedEach f N xs (at + length (f x))

unfoldable pub NumberedAll : {A : Type 0} → (A → List Word) → (A → ℕ → Type 0) → List A → ℕ → Type 0
NumberedAll f N [] at = Unit {0}
NumberedAll f N (x ∷ xs) at = N x at × NumberedAll f N xs (at + length (f x))

unfoldable pub NumberedIdentifier : Identifier → ℕ → Type 0
NumberedIdentifier i at = i.token ≡ at

unfoldable pub NumberedRange : Option Range → ℕ → Type 0
NumberedRange None at = Unit {0}
NumberedRange (Some r) at = Numbered r.left (at + 1) × Numbered r.right (at + 1 + length (spell r.left) + 1)

unfoldable pub NumberedType : Bool → Option Range → ℕ → Type 0
NumberedType signed range at = NumberedRange range (at + length (spell_where signed keyword_signed))

-- `at` is the number of the mark before the value
unfoldable pub NumberedValue : Option Tree → ℕ → Type 0
NumberedValue None at = Unit {0}
NumberedValue (Some t) at = Numbered t (at + 1)

unfoldable pub NumberedDeclarator : DeclaredName → ℕ → Type 0
NumberedDeclarator n at =
    (n.token ≡ at) × NumberedRange n.words (at + 1) × NumberedValue n.value (at + 1 + length (spell_range n.words))

unfoldable pub NumberedPort : PortDeclaration → ℕ → Type 0
NumberedPort p at =
    NumberedType p.signed p.range (at + length (spell_dir p.dir)) ×
    NumberedSeparated spell_declarator NumberedDeclarator p.names (at + length (spell_dir p.dir) + length (spell_type p.signed p.range))

unfoldable pub NumberedAssignment : ParamAssignment → ℕ → Type 0
NumberedAssignment a at = (a.token ≡ at) × Numbered a.value (at + 2)

unfoldable pub NumberedParameter : ParameterDeclaration → ℕ → Type 0
NumberedParameter p at =
    NumberedType p.signed p.range (at + 1 + length (spell_where p.integer keyword_integer)) ×
    NumberedSeparated spell_assignment NumberedAssignment p.sets
    (at + 1 + length (spell_where p.integer keyword_integer) + length (spell_type p.signed p.range))

unfoldable pub NumberedPair : NetAssignment → ℕ → Type 0
NumberedPair p at = Numbered p.target at × Numbered p.value (at + length (spell p.target) + 1)

-- the number is that of the name
unfoldable pub NumberedEdge : EdgeEvent → ℕ → Type 0
NumberedEdge e at = e.token ≡ at + 1

unfoldable pub NumberedEvents : EventControl → ℕ → Type 0
NumberedEvents (Star brackets) at = Unit {0}
NumberedEvents (Edges list commas) at = NumberedEach spell_edge NumberedEdge list at
NumberedEvents (Levels list commas) at = NumberedMore list at

unfoldable pub NumberedConnection : NamedConnection → ℕ → Type 0
NumberedConnection c at = (c.token ≡ at + 1) × NumberedValue c.value (at + 2)

-- `at` is the number of the opening bracket
unfoldable pub NumberedConnections : Connections → ℕ → Type 0
NumberedConnections (Positions ts) at = NumberedMore ts at
NumberedConnections (Names cs) at = NumberedEach spell_connection NumberedConnection cs at

unfoldable pub NumberedOverrides : Option Connections → ℕ → Type 0
NumberedOverrides None at = Unit {0}
NumberedOverrides (Some c) at = NumberedConnections c (at + 1)

unfoldable pub NumberedInstance : ModuleInstance → ℕ → Type 0
NumberedInstance i at = (i.token ≡ at) × NumberedConnections i.connections (at + 1)

-- each leaf and name has the number of its token, where the first token of the item is number `at`
unfoldable pub NumberedItem : ModuleItem → ℕ → Type 0
NumberedItem (Ports p) at = NumberedPort p at
NumberedItem (Nets signed range names) at =
    NumberedType signed range (at + 1) × NumberedSeparated spell_declarator NumberedDeclarator names (at + 1 + length (spell_type signed range))
NumberedItem (Variables signed range names) at =
    NumberedType signed range (at + 1) × NumberedSeparated spell_declarator NumberedDeclarator names (at + 1 + length (spell_type signed range))
NumberedItem (Integers names) at = NumberedSeparated spell_identifier NumberedIdentifier names (at + 1)
NumberedItem (Parameters p) at = NumberedParameter p at
NumberedItem (Assigns pairs) at = NumberedSeparated spell_pair NumberedPair pairs (at + 1)
NumberedItem (Always events s token) at =
    (token ≡ at) × NumberedEvents events (at + 2) × NumberedStatement s (at + 2 + length (spell_events events))
NumberedItem (Initial s token) at = (token ≡ at) × NumberedStatement s (at + 1)
NumberedItem (Instances m token overrides list) at =
    (token ≡ at) × NumberedOverrides overrides (at + 1) ×
    NumberedSeparated spell_instance NumberedInstance list (at + 1 + length (spell_overrides overrides))

-- `at` is the number of the `#`
unfoldable pub NumberedParameters : List ParameterDeclaration → ℕ → Type 0
NumberedParameters ps at = NumberedSeparated spell_parameter NumberedParameter ps (at + 2)

-- `at` is the number of the opening bracket
unfoldable pub NumberedPorts : Option (List Identifier) → List PortDeclaration → ℕ → Type 0
NumberedPorts None groups at = Unit {0}
NumberedPorts (Some names) groups at =
    NumberedSeparated spell_identifier NumberedIdentifier names (at + 1) ×
    NumberedSeparated spell_port NumberedPort groups (at + 1 + length (spell_separated spell_identifier names))

unfoldable pub NumberedModule : ModuleDeclaration → ℕ → Type 0
NumberedModule m at =
    (m.token ≡ at + 1) × NumberedParameters m.params (at + 2) ×
    NumberedPorts m.header m.groups (at + 2 + length (spell_parameters m.params)) ×
    NumberedAll spell_item NumberedItem m.items
    (at + 2 + length (spell_parameters m.params) + length (spell_ports m.header m.groups) + 1)

-- the first token of a source text is number 0
unfoldable pub NumberedSource : SourceText → Type 0
NumberedSource s = NumberedAll spell_module NumberedModule s.modules 0

-- each literal of a part is fit
unfoldable pub FitLiteralsRange : Option Range → Type 0
FitLiteralsRange None = Unit {0}
FitLiteralsRange (Some r) = FitLiterals r.left × FitLiterals r.right

unfoldable pub FitLiteralsValue : Option Tree → Type 0
FitLiteralsValue None = Unit {0}
FitLiteralsValue (Some t) = FitLiterals t

unfoldable pub FitLiteralsDeclarator : DeclaredName → Type 0
FitLiteralsDeclarator n = FitLiteralsRange n.words × FitLiteralsValue n.value

unfoldable pub FitLiteralsPort : PortDeclaration → Type 0
FitLiteralsPort p = FitLiteralsRange p.range × AllByRecursion FitLiteralsDeclarator p.names

unfoldable pub FitLiteralsAssignment : ParamAssignment → Type 0
FitLiteralsAssignment a = FitLiterals a.value

unfoldable pub FitLiteralsParameter : ParameterDeclaration → Type 0
FitLiteralsParameter p = FitLiteralsRange p.range × AllByRecursion FitLiteralsAssignment p.sets

unfoldable pub FitLiteralsPair : NetAssignment → Type 0
FitLiteralsPair p = FitLiterals p.target × FitLiterals p.value

unfoldable pub FitLiteralsEvents : EventControl → Type 0
FitLiteralsEvents (Star brackets) = Unit {0}
FitLiteralsEvents (Edges list commas) = Unit {0}
FitLiteralsEvents (Levels list commas) = FitLiteralsParts list

unfoldable pub FitLiteralsConnection : NamedConnection → Type 0
FitLiteralsConnection c = FitLiteralsValue c.value

unfoldable pub FitLiteralsConnections : Connections → Type 0
FitLiteralsConnections (Positions ts) = FitLiteralsParts ts
FitLiteralsConnections (Names cs) = AllByRecursion FitLiteralsConnection cs

unfoldable pub FitLiteralsOverrides : Option Connections → Type 0
FitLiteralsOverrides None = Unit {0}
FitLiteralsOverrides (Some c) = FitLiteralsConnections c

unfoldable pub FitLiteralsInstance : ModuleInstance → Type 0
FitLiteralsInstance i = FitLiteralsConnections i.connections

unfoldable pub FitLiteralsItem : ModuleItem → Type 0
FitLiteralsItem (Ports p) = FitLiteralsPort p
FitLiteralsItem (Nets signed range names) = FitLiteralsRange range × AllByRecursion FitLiteralsDeclarator names
FitLiteralsItem (Variables signed range names) = FitLiteralsRange range × AllByRecursion FitLiteralsDeclarator names
FitLiteralsItem (Integers names) = Unit {0}
FitLiteralsItem (Parameters p) = FitLiteralsParameter p
FitLiteralsItem (Assigns pairs) = AllByRecursion FitLiteralsPair pairs
FitLiteralsItem (Always events s token) = FitLiteralsEvents events × FitLiteralsStatement s
FitLiteralsItem (Initial s token) = FitLiteralsStatement s
FitLiteralsItem (Instances m token overrides list) = FitLiteralsOverrides overrides × AllByRecursion FitLiteralsInstance list

unfoldable pub FitLiteralsModule : ModuleDeclaration → Type 0
FitLiteralsModule m =
    AllByRecursion FitLiteralsParameter m.params × AllByRecursion FitLiteralsPort m.groups × AllByRecursion FitLiteralsItem m.items

unfoldable pub FitLiteralsSource : SourceText → Type 0
FitLiteralsSource s = AllByRecursion FitLiteralsModule s.modules
