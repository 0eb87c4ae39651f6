-- An item, a module and a source text with every token number 0 keep their spelling, their rules and their measures.
use Rattle.std.proofs.Common.{◌≡◌, ℕ, Bool, true, false, suc, length, map, List, [], ◌∷◌, Option, None, Some, IsNone, refl, ap}
use Rattle.std.specs.List.{AllByRecursion}
use Rattle.rr_syntax.specs.declared.tree.Dir.{Dir}
use Rattle.rr_syntax.specs.declared.tree.Dir.TheVariants as dir
use Rattle.rr_syntax.specs.Words.{Word}
use Rattle.rr_syntax.specs.Tree.{Tree, Trees, End, More, Identifier, Range, PortDeclaration, ParamAssignment, ParameterDeclaration, DeclaredName, NetAssignment, EdgeEvent, EventControl, Star, Edges, Levels, NamedConnection, Connections, Positions, Names, ModuleInstance, ModuleItem, Ports, Nets, Variables, Integers, Parameters, Assigns, Always, Initial, Instances, ModuleDeclaration, SourceText, bare, bare_parts, bare_identifier, bare_range, bare_port, bare_assignment, bare_parameter, bare_value, bare_declarator, bare_pair, bare_edge, bare_events, bare_connection, bare_connections, bare_overrides, bare_instance, bare_item, bare_header, bare_module, bare_source}
use Rattle.rr_syntax.specs.Items.{spell_each, spell_separated, spell_all, spell_identifier, spell_range, spell_type, spell_port, spell_assignment, spell_parameter, spell_value, spell_declarator, spell_pair, spell_edge, spell_more_edges, spell_edges, spell_more_levels, spell_levels, rest, spell_events, spell_optional, spell_connection, spell_connections, spell_overrides, spell_instance, spell_item, spell_parameters, spell_ports, spell_module, spell_source}
use Rattle.rr_syntax.specs.Items.{WellFormedRange, HasNoWords, IsVariableName, MayStart, WellFormedPort, IsTypedOnce, WellFormedAssignment, WellFormedParameter, WellFormedValue, WellFormedDeclarator, WellFormedPair, count, WellFormedEvents, WellFormedConnection, WellFormedConnections, WellFormedOverrides, WellFormedInstance, WellFormedItem, WellFormedHead, IsHeader, WellFormedModule, WellFormedSource}
use Rattle.rr_syntax.specs.Items.{greatest, depth_range, depth_port, depth_assignment, depth_parameter, depth_value, depth_declarator, depth_pair, depth_events, depth_connection, depth_connections, depth_overrides, depth_instance, depth_item, height_item, depth_module, height_module, depth_source}
use Rattle.rr_syntax.proofs.BareExpressions.{spell-bare, spell_parts-bare, WellFormed-bare, WellFormedMore-bare, is_target-bare, depth-bare, height-bare, bare-bare, bare_parts-bare}
use Rattle.rr_syntax.proofs.BareStatements.{is_initial-bare, spell_statement-bare, WellFormedStatement-bare, depth_statement-bare, bare_statement-bare}

-- what f gives each element, it gives the changed element
pub spell_each-map : {A : Type 0} (f : A → List Word) (g : A → A) → ((x : A) → f (g x) ≡ f x) → (xs : List A) → spell_each f (map g xs) ≡ spell_each f xs
unfolding spell_each
spell_each-map f g h [] = refl
spell_each-map f g h (x ∷ xs) = rw (h x, spell_each-map f g h xs) refl

pub spell_separated-map : {A : Type 0} (f : A → List Word) (g : A → A) → ((x : A) → f (g x) ≡ f x) → (xs : List A) → spell_separated f (map g xs) ≡ spell_separated f xs
unfolding spell_separated
spell_separated-map f g h [] = refl
spell_separated-map f g h (x ∷ xs) = rw (h x, spell_each-map f g h xs) refl

pub spell_all-map : {A : Type 0} (f : A → List Word) (g : A → A) → ((x : A) → f (g x) ≡ f x) → (xs : List A) → spell_all f (map g xs) ≡ spell_all f xs
unfolding spell_all
spell_all-map f g h [] = refl
spell_all-map f g h (x ∷ xs) = rw (h x, spell_all-map f g h xs) refl

pub all-map : {A : Type 0} (P : A → Type 0) (g : A → A) → ((x : A) → P (g x) ≡ P x) → (xs : List A) → AllByRecursion P (map g xs) ≡ AllByRecursion P xs
all-map P g h [] = refl
all-map P g h (x ∷ xs) = rw (h x, all-map P g h xs) refl

pub greatest-map : {A : Type 0} (f : A → ℕ) (g : A → A) → ((x : A) → f (g x) ≡ f x) → (xs : List A) → greatest f (map g xs) ≡ greatest f xs
unfolding greatest
greatest-map f g h [] = refl
greatest-map f g h (x ∷ xs) = rw (h x, greatest-map f g h xs) refl

pub length-map' : {A : Type 0} (g : A → A) (xs : List A) → length (map g xs) ≡ length xs
length-map' g [] = refl
length-map' g (x ∷ xs) = ap suc (length-map' g xs)

map-map : {A : Type 0} (g : A → A) → ((x : A) → g (g x) ≡ g x) → (xs : List A) → map g (map g xs) ≡ map g xs
map-map g h [] = refl
map-map g h (x ∷ xs) = rw (h x, map-map g h xs) refl

-- spelling
pub spell_identifier-bare : (i : Identifier) → spell_identifier (bare_identifier i) ≡ spell_identifier i
unfolding spell_identifier bare_identifier
spell_identifier-bare i = refl

pub spell_names-bare : (names : List Identifier) → spell_separated spell_identifier (map bare_identifier names) ≡ spell_separated spell_identifier names
spell_names-bare names = spell_separated-map spell_identifier bare_identifier spell_identifier-bare names

spell_range-bare : (r : Option Range) → spell_range (bare_range r) ≡ spell_range r
unfolding spell_range bare_range
spell_range-bare None = refl
spell_range-bare (Some r) = rw (spell-bare r.left, spell-bare r.right) refl

pub spell_type-bare : (signed : Bool) (r : Option Range) → spell_type signed (bare_range r) ≡ spell_type signed r
unfolding spell_type
spell_type-bare signed r = rw (spell_range-bare r) refl

spell_value-bare : (v : Option Tree) → spell_value (bare_value v) ≡ spell_value v
unfolding spell_value bare_value
spell_value-bare None = refl
spell_value-bare (Some t) = rw (spell-bare t) refl

pub spell_declarator-bare : (n : DeclaredName) → spell_declarator (bare_declarator n) ≡ spell_declarator n
unfolding spell_declarator bare_declarator
spell_declarator-bare n = rw (spell_range-bare n.words, spell_value-bare n.value) refl

pub spell_declarators-bare : (names : List DeclaredName) → spell_separated spell_declarator (map bare_declarator names) ≡ spell_separated spell_declarator names
spell_declarators-bare names = spell_separated-map spell_declarator bare_declarator spell_declarator-bare names

pub spell_port-bare : (p : PortDeclaration) → spell_port (bare_port p) ≡ spell_port p
unfolding spell_port bare_port
spell_port-bare p = rw (spell_type-bare p.signed p.range, spell_declarators-bare p.names) refl

pub spell_assignment-bare : (a : ParamAssignment) → spell_assignment (bare_assignment a) ≡ spell_assignment a
unfolding spell_assignment bare_assignment
spell_assignment-bare a = rw (spell-bare a.value) refl

pub spell_parameter-bare : (p : ParameterDeclaration) → spell_parameter (bare_parameter p) ≡ spell_parameter p
unfolding spell_parameter bare_parameter
spell_parameter-bare p = rw (spell_type-bare p.signed p.range, spell_separated-map spell_assignment bare_assignment spell_assignment-bare p.sets) refl

pub spell_pair-bare : (p : NetAssignment) → spell_pair (bare_pair p) ≡ spell_pair p
unfolding spell_pair bare_pair
spell_pair-bare p = rw (spell-bare p.target, spell-bare p.value) refl

pub spell_edge-bare : (e : EdgeEvent) → spell_edge (bare_edge e) ≡ spell_edge e
unfolding spell_edge bare_edge
spell_edge-bare e = refl

spell_more_edges-bare : (es : List EdgeEvent) (commas : List Bool) → spell_more_edges (map bare_edge es) commas ≡ spell_more_edges es commas
unfolding spell_more_edges
spell_more_edges-bare [] commas = refl
spell_more_edges-bare (e ∷ es) commas = rw (spell_edge-bare e, spell_more_edges-bare es (rest commas)) refl

spell_edges-bare : (es : List EdgeEvent) (commas : List Bool) → spell_edges (map bare_edge es) commas ≡ spell_edges es commas
unfolding spell_edges
spell_edges-bare [] commas = refl
spell_edges-bare (e ∷ es) commas = rw (spell_edge-bare e, spell_more_edges-bare es commas) refl

spell_more_levels-bare : (ts : Trees) (commas : List Bool) → spell_more_levels (bare_parts ts) commas ≡ spell_more_levels ts commas
unfolding spell_more_levels bare
spell_more_levels-bare End commas = refl
spell_more_levels-bare (More t ts) commas = rw (spell-bare t, spell_more_levels-bare ts (rest commas)) refl

spell_levels-bare : (ts : Trees) (commas : List Bool) → spell_levels (bare_parts ts) commas ≡ spell_levels ts commas
unfolding spell_levels bare
spell_levels-bare End commas = refl
spell_levels-bare (More t ts) commas = rw (spell-bare t, spell_more_levels-bare ts commas) refl

pub spell_events-bare : (e : EventControl) → spell_events (bare_events e) ≡ spell_events e
unfolding spell_events bare_events
spell_events-bare (Star brackets) = refl
spell_events-bare (Edges list commas) = rw (spell_edges-bare list commas) refl
spell_events-bare (Levels list commas) = rw (spell_levels-bare list commas) refl

spell_optional-bare : (v : Option Tree) → spell_optional (bare_value v) ≡ spell_optional v
unfolding spell_optional bare_value
spell_optional-bare None = refl
spell_optional-bare (Some t) = spell-bare t

pub spell_connection-bare : (c : NamedConnection) → spell_connection (bare_connection c) ≡ spell_connection c
unfolding spell_connection bare_connection
spell_connection-bare c = rw (spell_optional-bare c.value) refl

spell_connections-bare : (c : Connections) → spell_connections (bare_connections c) ≡ spell_connections c
unfolding spell_connections bare_connections
spell_connections-bare (Positions ts) = rw (spell_parts-bare ts) refl
spell_connections-bare (Names cs) = rw (spell_separated-map spell_connection bare_connection spell_connection-bare cs) refl

pub spell_overrides-bare : (c : Option Connections) → spell_overrides (bare_overrides c) ≡ spell_overrides c
unfolding spell_overrides bare_overrides
spell_overrides-bare None = refl
spell_overrides-bare (Some c) = rw (spell_connections-bare c) refl

pub spell_instance-bare : (i : ModuleInstance) → spell_instance (bare_instance i) ≡ spell_instance i
unfolding spell_instance bare_instance
spell_instance-bare i = rw (spell_connections-bare i.connections) refl

pub spell_item-bare : (i : ModuleItem) → spell_item (bare_item i) ≡ spell_item i
unfolding spell_item bare_item
spell_item-bare (Ports p) = rw (spell_port-bare p) refl
spell_item-bare (Nets signed range names) = rw (spell_type-bare signed range, spell_separated-map spell_declarator bare_declarator spell_declarator-bare names) refl
spell_item-bare (Variables signed range names) = rw (spell_type-bare signed range, spell_declarators-bare names) refl
spell_item-bare (Integers names) = rw (spell_names-bare names) refl
spell_item-bare (Parameters p) = rw (spell_parameter-bare p) refl
spell_item-bare (Assigns pairs) = rw (spell_separated-map spell_pair bare_pair spell_pair-bare pairs) refl
spell_item-bare (Always events s token) = rw (spell_events-bare events, spell_statement-bare s) refl
spell_item-bare (Initial s token) = rw (spell_statement-bare s) refl
spell_item-bare (Instances m token overrides list) = rw (spell_overrides-bare overrides, spell_separated-map spell_instance bare_instance spell_instance-bare list) refl

pub spell_parameters-bare : (ps : List ParameterDeclaration) → spell_parameters (map bare_parameter ps) ≡ spell_parameters ps
unfolding spell_parameters
spell_parameters-bare [] = refl
spell_parameters-bare (p ∷ ps) = rw (spell_separated-map spell_parameter bare_parameter spell_parameter-bare (p ∷ ps)) refl

pub spell_ports-bare : (header : Option (List Identifier)) (groups : List PortDeclaration) → spell_ports (bare_header header) (map bare_port groups) ≡ spell_ports header groups
unfolding spell_ports bare_header
spell_ports-bare None groups = refl
spell_ports-bare (Some names) groups = rw (spell_names-bare names, spell_separated-map spell_port bare_port spell_port-bare groups) refl

pub spell_module-bare : (m : ModuleDeclaration) → spell_module (bare_module m) ≡ spell_module m
unfolding spell_module bare_module
spell_module-bare m = rw (spell_parameters-bare m.params, spell_ports-bare m.header m.groups, spell_all-map spell_item bare_item spell_item-bare m.items) refl

pub spell_source-bare : (s : SourceText) → spell_source (bare_source s) ≡ spell_source s
unfolding spell_source bare_source
spell_source-bare s = spell_all-map spell_module bare_module spell_module-bare s.modules

-- rules
WellFormedRange-bare : (r : Option Range) → WellFormedRange (bare_range r) ≡ WellFormedRange r
unfolding WellFormedRange bare_range
WellFormedRange-bare None = refl
WellFormedRange-bare (Some r) = rw (WellFormed-bare r.left, WellFormed-bare r.right) refl

WellFormedValue-bare : (v : Option Tree) → WellFormedValue (bare_value v) ≡ WellFormedValue v
unfolding WellFormedValue bare_value
WellFormedValue-bare None = refl
WellFormedValue-bare (Some t) = WellFormed-bare t

WellFormedDeclarator-bare : (n : DeclaredName) → WellFormedDeclarator (bare_declarator n) ≡ WellFormedDeclarator n
unfolding WellFormedDeclarator bare_declarator
WellFormedDeclarator-bare n = rw (WellFormedRange-bare n.words, WellFormedValue-bare n.value) refl

IsNone-bare : (v : Option Tree) → IsNone (bare_value v) ≡ IsNone v
unfolding bare_value
IsNone-bare None = refl
IsNone-bare (Some t) = refl

IsNone-bare-range : (r : Option Range) → IsNone (bare_range r) ≡ IsNone r
unfolding bare_range
IsNone-bare-range None = refl
IsNone-bare-range (Some r) = refl

HasNoWords-bare : (n : DeclaredName) → HasNoWords (bare_declarator n) ≡ HasNoWords n
unfolding bare_declarator
HasNoWords-bare n = IsNone-bare-range n.words

IsVariableName-bare : (n : DeclaredName) → IsVariableName (bare_declarator n) ≡ IsVariableName n
unfolding bare_declarator
IsVariableName-bare n = rw (IsNone-bare-range n.words, IsNone-bare n.value) refl

MayStart-bare : (d : Dir) (n : DeclaredName) → MayStart d (bare_declarator n) ≡ MayStart d n
unfolding MayStart bare_declarator
MayStart-bare dir.OutputReg n = refl
MayStart-bare dir.Input n = IsNone-bare n.value
MayStart-bare dir.InputWire n = IsNone-bare n.value
MayStart-bare dir.Output n = IsNone-bare n.value
MayStart-bare dir.OutputWire n = IsNone-bare n.value

pub WellFormedPort-bare : (p : PortDeclaration) → WellFormedPort (bare_port p) ≡ WellFormedPort p
unfolding WellFormedPort bare_port
WellFormedPort-bare p =
    rw (WellFormedRange-bare p.range, length-map' bare_declarator p.names, all-map WellFormedDeclarator bare_declarator WellFormedDeclarator-bare p.names, all-map (MayStart p.dir) bare_declarator (MayStart-bare p.dir) p.names, all-map HasNoWords bare_declarator HasNoWords-bare p.names) refl

IsTypedOnce-bare : (integer signed : Bool) (r : Option Range) → IsTypedOnce integer signed (bare_range r) ≡ IsTypedOnce integer signed r
unfolding bare_range
IsTypedOnce-bare false signed r = refl
IsTypedOnce-bare true signed None = refl
IsTypedOnce-bare true signed (Some r) = refl

WellFormedAssignment-bare : (a : ParamAssignment) → WellFormedAssignment (bare_assignment a) ≡ WellFormedAssignment a
unfolding WellFormedAssignment bare_assignment
WellFormedAssignment-bare a = WellFormed-bare a.value

pub WellFormedParameter-bare : (p : ParameterDeclaration) → WellFormedParameter (bare_parameter p) ≡ WellFormedParameter p
unfolding WellFormedParameter bare_parameter
WellFormedParameter-bare p =
    rw (IsTypedOnce-bare p.integer p.signed p.range, WellFormedRange-bare p.range, length-map' bare_assignment p.sets, all-map WellFormedAssignment bare_assignment WellFormedAssignment-bare p.sets) refl

WellFormedPair-bare : (p : NetAssignment) → WellFormedPair (bare_pair p) ≡ WellFormedPair p
unfolding WellFormedPair bare_pair
WellFormedPair-bare p = rw (is_target-bare p.target, WellFormed-bare p.target, WellFormed-bare p.value) refl

count-bare : (ts : Trees) → count (bare_parts ts) ≡ count ts
unfolding count bare
count-bare End = refl
count-bare (More t ts) = ap suc (count-bare ts)

WellFormedEvents-bare : (e : EventControl) → WellFormedEvents (bare_events e) ≡ WellFormedEvents e
unfolding WellFormedEvents bare_events
WellFormedEvents-bare (Star brackets) = refl
WellFormedEvents-bare (Edges list commas) = rw (length-map' bare_edge list) refl
WellFormedEvents-bare (Levels list commas) = rw (count-bare list, WellFormedMore-bare list) refl

WellFormedConnection-bare : (c : NamedConnection) → WellFormedConnection (bare_connection c) ≡ WellFormedConnection c
unfolding WellFormedConnection bare_connection
WellFormedConnection-bare c = WellFormedValue-bare c.value

WellFormedConnections-bare : (c : Connections) → WellFormedConnections (bare_connections c) ≡ WellFormedConnections c
unfolding WellFormedConnections bare_connections
WellFormedConnections-bare (Positions ts) = WellFormedMore-bare ts
WellFormedConnections-bare (Names cs) = rw (length-map' bare_connection cs, all-map WellFormedConnection bare_connection WellFormedConnection-bare cs) refl

WellFormedOverrides-bare : (c : Option Connections) → WellFormedOverrides (bare_overrides c) ≡ WellFormedOverrides c
unfolding WellFormedOverrides bare_overrides
WellFormedOverrides-bare None = refl
WellFormedOverrides-bare (Some c) = WellFormedConnections-bare c

WellFormedInstance-bare : (i : ModuleInstance) → WellFormedInstance (bare_instance i) ≡ WellFormedInstance i
unfolding WellFormedInstance bare_instance
WellFormedInstance-bare i = WellFormedConnections-bare i.connections

pub WellFormedItem-bare : (i : ModuleItem) → WellFormedItem (bare_item i) ≡ WellFormedItem i
unfolding WellFormedItem bare_item
WellFormedItem-bare (Ports p) = WellFormedPort-bare p
WellFormedItem-bare (Nets signed range names) =
    rw (WellFormedRange-bare range, length-map' bare_declarator names, all-map WellFormedDeclarator bare_declarator WellFormedDeclarator-bare names, all-map HasNoWords bare_declarator HasNoWords-bare names) refl
WellFormedItem-bare (Variables signed range names) =
    rw (WellFormedRange-bare range, length-map' bare_declarator names, all-map WellFormedDeclarator bare_declarator WellFormedDeclarator-bare names, all-map IsVariableName bare_declarator IsVariableName-bare names) refl
WellFormedItem-bare (Integers names) = rw (length-map' bare_identifier names) refl
WellFormedItem-bare (Parameters p) = WellFormedParameter-bare p
WellFormedItem-bare (Assigns pairs) = rw (length-map' bare_pair pairs, all-map WellFormedPair bare_pair WellFormedPair-bare pairs) refl
WellFormedItem-bare (Always events s token) = rw (WellFormedEvents-bare events, WellFormedStatement-bare s) refl
WellFormedItem-bare (Initial s token) = rw (is_initial-bare s, WellFormedStatement-bare s) refl
WellFormedItem-bare (Instances m token overrides list) =
    rw (WellFormedOverrides-bare overrides, length-map' bare_instance list, all-map WellFormedInstance bare_instance WellFormedInstance-bare list) refl

WellFormedHead-bare : (p : ParameterDeclaration) → WellFormedHead (bare_parameter p) ≡ WellFormedHead p
unfolding WellFormedHead bare_parameter
WellFormedHead-bare p = rw (WellFormedParameter-bare p) refl

IsHeader-bare : (header : Option (List Identifier)) (groups : List PortDeclaration) → IsHeader (bare_header header) (map bare_port groups) ≡ IsHeader header groups
unfolding bare_header
IsHeader-bare None groups = rw (length-map' bare_port groups) refl
IsHeader-bare (Some names) groups = rw (length-map' bare_identifier names, length-map' bare_port groups) refl

pub WellFormedModule-bare : (m : ModuleDeclaration) → WellFormedModule (bare_module m) ≡ WellFormedModule m
unfolding WellFormedModule bare_module
WellFormedModule-bare m =
    rw (all-map WellFormedHead bare_parameter WellFormedHead-bare m.params, IsHeader-bare m.header m.groups, all-map WellFormedPort bare_port WellFormedPort-bare m.groups, all-map WellFormedItem bare_item WellFormedItem-bare m.items) refl

pub WellFormedSource-bare : (s : SourceText) → WellFormedSource (bare_source s) ≡ WellFormedSource s
unfolding WellFormedSource bare_source
WellFormedSource-bare s = all-map WellFormedModule bare_module WellFormedModule-bare s.modules

-- depth
depth_range-bare : (r : Option Range) → depth_range (bare_range r) ≡ depth_range r
unfolding depth_range bare_range
depth_range-bare None = refl
depth_range-bare (Some r) = rw (depth-bare r.left, depth-bare r.right) refl

depth_value-bare : (v : Option Tree) → depth_value (bare_value v) ≡ depth_value v
unfolding depth_value bare_value
depth_value-bare None = refl
depth_value-bare (Some t) = rw (depth-bare t) refl

depth_declarator-bare : (n : DeclaredName) → depth_declarator (bare_declarator n) ≡ depth_declarator n
unfolding depth_declarator bare_declarator
depth_declarator-bare n = rw (depth_range-bare n.words, depth_value-bare n.value) refl

depth_port-bare : (p : PortDeclaration) → depth_port (bare_port p) ≡ depth_port p
unfolding depth_port bare_port
depth_port-bare p = rw (depth_range-bare p.range, greatest-map depth_declarator bare_declarator depth_declarator-bare p.names) refl

depth_assignment-bare : (a : ParamAssignment) → depth_assignment (bare_assignment a) ≡ depth_assignment a
unfolding depth_assignment bare_assignment
depth_assignment-bare a = rw (depth-bare a.value) refl

depth_parameter-bare : (p : ParameterDeclaration) → depth_parameter (bare_parameter p) ≡ depth_parameter p
unfolding depth_parameter bare_parameter
depth_parameter-bare p = rw (depth_range-bare p.range, greatest-map depth_assignment bare_assignment depth_assignment-bare p.sets) refl

depth_pair-bare : (p : NetAssignment) → depth_pair (bare_pair p) ≡ depth_pair p
unfolding depth_pair bare_pair
depth_pair-bare p = rw (depth-bare p.target, depth-bare p.value) refl

depth_events-bare : (e : EventControl) → depth_events (bare_events e) ≡ depth_events e
unfolding depth_events bare_events
depth_events-bare (Star brackets) = refl
depth_events-bare (Edges list commas) = refl
depth_events-bare (Levels list commas) = height-bare list

depth_connection-bare : (c : NamedConnection) → depth_connection (bare_connection c) ≡ depth_connection c
unfolding depth_connection bare_connection
depth_connection-bare c = depth_value-bare c.value

depth_connections-bare : (c : Connections) → depth_connections (bare_connections c) ≡ depth_connections c
unfolding depth_connections bare_connections
depth_connections-bare (Positions ts) = height-bare ts
depth_connections-bare (Names cs) = greatest-map depth_connection bare_connection depth_connection-bare cs

depth_overrides-bare : (c : Option Connections) → depth_overrides (bare_overrides c) ≡ depth_overrides c
unfolding depth_overrides bare_overrides
depth_overrides-bare None = refl
depth_overrides-bare (Some c) = depth_connections-bare c

depth_instance-bare : (i : ModuleInstance) → depth_instance (bare_instance i) ≡ depth_instance i
unfolding depth_instance bare_instance
depth_instance-bare i = depth_connections-bare i.connections

pub depth_item-bare : (i : ModuleItem) → depth_item (bare_item i) ≡ depth_item i
unfolding depth_item bare_item
depth_item-bare (Ports p) = depth_port-bare p
depth_item-bare (Nets signed range names) = rw (depth_range-bare range, greatest-map depth_declarator bare_declarator depth_declarator-bare names) refl
depth_item-bare (Variables signed range names) = rw (depth_range-bare range, greatest-map depth_declarator bare_declarator depth_declarator-bare names) refl
depth_item-bare (Integers names) = refl
depth_item-bare (Parameters p) = depth_parameter-bare p
depth_item-bare (Assigns pairs) = greatest-map depth_pair bare_pair depth_pair-bare pairs
depth_item-bare (Always events s token) = rw (depth_events-bare events, depth_statement-bare s) refl
depth_item-bare (Initial s token) = ap suc (depth_statement-bare s)
depth_item-bare (Instances m token overrides list) = rw (depth_overrides-bare overrides, greatest-map depth_instance bare_instance depth_instance-bare list) refl

height_item-bare : (i : ModuleItem) → height_item (bare_item i) ≡ height_item i
unfolding height_item
height_item-bare i = ap suc (depth_item-bare i)

pub depth_module-bare : (m : ModuleDeclaration) → depth_module (bare_module m) ≡ depth_module m
unfolding depth_module bare_module
depth_module-bare m =
    rw (greatest-map depth_parameter bare_parameter depth_parameter-bare m.params, greatest-map depth_port bare_port depth_port-bare m.groups, greatest-map height_item bare_item height_item-bare m.items) refl

height_module-bare : (m : ModuleDeclaration) → height_module (bare_module m) ≡ height_module m
unfolding height_module
height_module-bare m = ap suc (depth_module-bare m)

pub depth_source-bare : (s : SourceText) → depth_source (bare_source s) ≡ depth_source s
unfolding depth_source bare_source
depth_source-bare s = greatest-map height_module bare_module height_module-bare s.modules

-- bare twice
bare_identifier-bare : (i : Identifier) → bare_identifier (bare_identifier i) ≡ bare_identifier i
unfolding bare_identifier
bare_identifier-bare i = refl

names-twice : (names : List Identifier) → map bare_identifier (map bare_identifier names) ≡ map bare_identifier names
names-twice names = map-map bare_identifier bare_identifier-bare names

bare_range-bare : (r : Option Range) → bare_range (bare_range r) ≡ bare_range r
unfolding bare_range
bare_range-bare None = refl
bare_range-bare (Some r) = rw (bare-bare r.left, bare-bare r.right) refl

bare_value-bare : (v : Option Tree) → bare_value (bare_value v) ≡ bare_value v
unfolding bare_value
bare_value-bare None = refl
bare_value-bare (Some t) = rw (bare-bare t) refl

bare_declarator-bare : (n : DeclaredName) → bare_declarator (bare_declarator n) ≡ bare_declarator n
unfolding bare_declarator
bare_declarator-bare n = rw (bare_range-bare n.words, bare_value-bare n.value) refl

bare_port-bare : (p : PortDeclaration) → bare_port (bare_port p) ≡ bare_port p
unfolding bare_port
bare_port-bare p = rw (bare_range-bare p.range, map-map bare_declarator bare_declarator-bare p.names) refl

bare_assignment-bare : (a : ParamAssignment) → bare_assignment (bare_assignment a) ≡ bare_assignment a
unfolding bare_assignment
bare_assignment-bare a = rw (bare-bare a.value) refl

bare_parameter-bare : (p : ParameterDeclaration) → bare_parameter (bare_parameter p) ≡ bare_parameter p
unfolding bare_parameter
bare_parameter-bare p = rw (bare_range-bare p.range, map-map bare_assignment bare_assignment-bare p.sets) refl

bare_pair-bare : (p : NetAssignment) → bare_pair (bare_pair p) ≡ bare_pair p
unfolding bare_pair
bare_pair-bare p = rw (bare-bare p.target, bare-bare p.value) refl

bare_edge-bare : (e : EdgeEvent) → bare_edge (bare_edge e) ≡ bare_edge e
unfolding bare_edge
bare_edge-bare e = refl

bare_events-bare : (e : EventControl) → bare_events (bare_events e) ≡ bare_events e
unfolding bare_events
bare_events-bare (Star brackets) = refl
bare_events-bare (Edges list commas) = rw (map-map bare_edge bare_edge-bare list) refl
bare_events-bare (Levels list commas) = rw (bare_parts-bare list) refl

bare_connection-bare : (c : NamedConnection) → bare_connection (bare_connection c) ≡ bare_connection c
unfolding bare_connection
bare_connection-bare c = rw (bare_value-bare c.value) refl

bare_connections-bare : (c : Connections) → bare_connections (bare_connections c) ≡ bare_connections c
unfolding bare_connections
bare_connections-bare (Positions ts) = rw (bare_parts-bare ts) refl
bare_connections-bare (Names cs) = rw (map-map bare_connection bare_connection-bare cs) refl

bare_overrides-bare : (c : Option Connections) → bare_overrides (bare_overrides c) ≡ bare_overrides c
unfolding bare_overrides
bare_overrides-bare None = refl
bare_overrides-bare (Some c) = rw (bare_connections-bare c) refl

bare_instance-bare : (i : ModuleInstance) → bare_instance (bare_instance i) ≡ bare_instance i
unfolding bare_instance
bare_instance-bare i = rw (bare_connections-bare i.connections) refl

pub bare_item-bare : (i : ModuleItem) → bare_item (bare_item i) ≡ bare_item i
unfolding bare_item
bare_item-bare (Ports p) = rw (bare_port-bare p) refl
bare_item-bare (Nets signed range names) = rw (bare_range-bare range, map-map bare_declarator bare_declarator-bare names) refl
bare_item-bare (Variables signed range names) = rw (bare_range-bare range, map-map bare_declarator bare_declarator-bare names) refl
bare_item-bare (Integers names) = rw (names-twice names) refl
bare_item-bare (Parameters p) = rw (bare_parameter-bare p) refl
bare_item-bare (Assigns pairs) = rw (map-map bare_pair bare_pair-bare pairs) refl
bare_item-bare (Always events s token) = rw (bare_events-bare events, bare_statement-bare s) refl
bare_item-bare (Initial s token) = rw (bare_statement-bare s) refl
bare_item-bare (Instances m token overrides list) = rw (bare_overrides-bare overrides, map-map bare_instance bare_instance-bare list) refl

bare_header-bare : (header : Option (List Identifier)) → bare_header (bare_header header) ≡ bare_header header
unfolding bare_header
bare_header-bare None = refl
bare_header-bare (Some names) = rw (names-twice names) refl

pub bare_module-bare : (m : ModuleDeclaration) → bare_module (bare_module m) ≡ bare_module m
unfolding bare_module
bare_module-bare m =
    rw (map-map bare_parameter bare_parameter-bare m.params, bare_header-bare m.header, map-map bare_port bare_port-bare m.groups, map-map bare_item bare_item-bare m.items) refl

pub bare_source-bare : (s : SourceText) → bare_source (bare_source s) ≡ bare_source s
unfolding bare_source
bare_source-bare s = rw (map-map bare_module bare_module-bare s.modules) refl
