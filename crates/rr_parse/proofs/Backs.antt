-- What is good is well-formed and within the depth.
use Rattle.std.proofs.Common.{◌≡◌, ℕ, suc, ◌≤◌, List, [], ◌∷◌, length, refl, arith, Bool, true, false, not, Option, Some, None, inl, inr}
use Rattle.std.specs.List.{AllByRecursion}
use Rattle.rr_syntax.specs.Tree.{Tree, Trees, End, More, Identifier, Range, PortDeclaration, ParamAssignment, ParameterDeclaration, DeclaredName, NetAssignment, EventControl, Star, Edges, Levels, NamedConnection, Connections, Positions, Names, ModuleInstance, ModuleItem, Ports, Nets, Variables, Integers, Parameters, Assigns, Always, Initial, Instances, ModuleDeclaration}
use Rattle.rr_syntax.specs.Expressions.{WellFormed, WellFormedMore, depth, height}
use Rattle.rr_syntax.specs.Items.{greatest, IsHeader, WellFormedRange, HasNoWords, IsVariableName, WellFormedPort, WellFormedAssignment, WellFormedParameter, WellFormedValue, WellFormedDeclarator, WellFormedPair, WellFormedEvents, WellFormedConnection, WellFormedConnections, WellFormedOverrides, WellFormedInstance, WellFormedItem, WellFormedHead, WellFormedModule, depth_range, depth_port, depth_assignment, depth_parameter, depth_value, depth_declarator, depth_pair, depth_events, depth_connection, depth_connections, depth_overrides, depth_instance, depth_item, height_item, depth_module, height_module}
use Rattle.rr_grammar.specs.Formats.{list}
use Rattle.rr_grammar.specs.Leaves.{expression, range, AllOption}
use Rattle.rr_grammar.specs.Declarations.{port, setting, declarator, single, variable, pair, parameter, head_parameter}
use Rattle.rr_grammar.specs.Parts.{AllTrees, events}
use Rattle.rr_grammar.specs.Connections.{optional_closed, connection, connections, overrides, one_instance}
use Rattle.rr_grammar.specs.ItemForms.{item}
use Rattle.rr_grammar.specs.ModuleForms.{heads, port_list, one_module}
use Rattle.rr_grammar.proofs.Goods.{WellFormedSingle, WellFormedVariable, words_back, variable_back, starts_back}

-- each of a list is good, so each is right, and the greatest is within the bound
all_back : {A : Type 0} (W G : A → Type 0) (f : A → ℕ) (n : ℕ) → ((a : A) → G a → W a × (f a ≤ n)) → (xs : List A) → AllByRecursion G xs → AllByRecursion W xs × (greatest f xs ≤ n)
unfolding greatest
all_back W G f n h [] w = (tt, omega arith)
all_back W G f n h (x ∷ xs) w = let p = h x w.0 in let q = all_back W G f n h xs w.1 in ((p.0, q.0), omega (arith, p.1, q.1))

range_back : (k : ℕ) (r : Option Range) → (range k).Good r → WellFormedRange r × (depth_range r ≤ suc k)
unfolding WellFormedRange depth_range
range_back k None w = (tt, omega arith)
range_back k (Some r) w = ((w.0.0, w.1.0), omega (arith, w.0.1, w.1.1))

value_back : (k : ℕ) (v : Option Tree) → AllOption (expression k).Good v → WellFormedValue v × (depth_value v ≤ suc k)
unfolding WellFormedValue depth_value
value_back k None w = (tt, omega arith)
value_back k (Some t) w = (w.0, omega (arith, w.1))

declarator_back : (k : ℕ) (n : DeclaredName) → (declarator k).Good n → WellFormedDeclarator n × (depth_declarator n ≤ suc k)
unfolding WellFormedDeclarator depth_declarator
declarator_back k n w = let r = range_back k n.words w.1.0 in let v = value_back k n.value w.1.1 in ((r.0, v.0), omega (arith, r.1, v.1))

single_back : (k : ℕ) (n : DeclaredName) → (single k).Good n → WellFormedSingle n × (depth_declarator n ≤ suc k)
single_back k n w = let d = declarator_back k n w.0 in ((d.0, words_back n w.1), d.1)

variable_name_back : (k : ℕ) (n : DeclaredName) → (variable k).Good n → WellFormedVariable n × (depth_declarator n ≤ suc k)
variable_name_back k n w = let d = declarator_back k n w.0 in ((d.0, variable_back n w.1), d.1)

-- of a list of which each has two properties, each has the first, and each has the second
apart : {A : Type 0} (P Q : A → Type 0) (xs : List A) → AllByRecursion (λ x. P x × Q x) xs → AllByRecursion P xs × AllByRecursion Q xs
apart P Q [] w = (tt, tt)
apart P Q (x ∷ xs) w = let r = apart P Q xs w.1 in ((w.0.0, r.0), (w.0.1, r.1))

singles_back : (k : ℕ) (ns : List DeclaredName) → AllByRecursion (single k).Good ns → AllByRecursion WellFormedDeclarator ns × AllByRecursion HasNoWords ns × (greatest depth_declarator ns ≤ suc k)
singles_back k ns w =
    let q = all_back WellFormedSingle (single k).Good depth_declarator (suc k) (single_back k) ns w in
    let a = apart WellFormedDeclarator HasNoWords ns q.0 in
    (a.0, a.1, q.1)

variables_back : (k : ℕ) (ns : List DeclaredName) → AllByRecursion (variable k).Good ns → AllByRecursion WellFormedDeclarator ns × AllByRecursion IsVariableName ns × (greatest depth_declarator ns ≤ suc k)
variables_back k ns w =
    let q = all_back WellFormedVariable (variable k).Good depth_declarator (suc k) (variable_name_back k) ns w in
    let a = apart WellFormedDeclarator IsVariableName ns q.0 in
    (a.0, a.1, q.1)

port_back : (k : ℕ) (p : PortDeclaration) → (port k).Good p → WellFormedPort p × (depth_port p ≤ suc k)
unfolding WellFormedPort depth_port
port_back k p w =
    let r = range_back k p.range w.0.1.0.1 in
    let q = singles_back k p.names w.0.1.1.1 in
    ((r.0, w.0.1.1.0, q.0, starts_back p.dir p.names w.1, q.1), omega (arith, r.1, q.2))

setting_back : (k : ℕ) (a : ParamAssignment) → (setting k).Good a → WellFormedAssignment a × (depth_assignment a ≤ suc k)
unfolding WellFormedAssignment depth_assignment
setting_back k a w = (w.1.0, omega (arith, w.1.1))

parameter_back : (k : ℕ) (p : ParameterDeclaration) → (parameter k).Good p → WellFormedParameter p × (depth_parameter p ≤ suc k)
unfolding WellFormedParameter depth_parameter
parameter_back k p w =
    let r = range_back k p.range w.1.0.1.1 in
    let s = all_back WellFormedAssignment (setting k).Good depth_assignment (suc k) (setting_back k) p.sets w.1.1.1 in
    ((w.1.0.0, r.0, w.1.1.0, s.0), omega (arith, r.1, s.1))

local_back : (b : Bool) → not b ≡ true → b ≡ false
local_back true h = absurd cc
local_back false h = refl

head_back : (k : ℕ) (p : ParameterDeclaration) → (head_parameter k).Good p → WellFormedHead p × (depth_parameter p ≤ suc k)
unfolding WellFormedHead
head_back k p w = let r = parameter_back k p w.0 in ((local_back p.local w.1, r.0), r.1)

pair_back : (k : ℕ) (p : NetAssignment) → (pair k).Good p → WellFormedPair p × (depth_pair p ≤ suc k)
unfolding WellFormedPair depth_pair
pair_back k p w = ((w.0.0, w.0.1, w.1.0), omega (arith, w.0.2, w.1.1))

trees_back : (k : ℕ) (ts : Trees) → AllTrees (expression k).Good ts → WellFormedMore ts × (height ts ≤ suc k)
unfolding WellFormed depth
trees_back k End w = (tt, omega arith)
trees_back k (More t ts) w = let r = trees_back k ts w.1 in ((w.0.0, r.0), omega (arith, w.0.1, r.1))

events_back : (k : ℕ) (e : EventControl) → (events k).Good e → WellFormedEvents e × (depth_events e ≤ suc k)
unfolding WellFormedEvents depth_events
events_back k (Star b) w = (tt, omega arith)
events_back k (Edges list commas) (inl w) = absurd w
events_back k (Edges list commas) (inr (inl w)) = absurd w
events_back k (Edges list commas) (inr (inr (inl w))) = (w, omega arith)
events_back k (Edges list commas) (inr (inr (inr w))) = absurd w
events_back k (Levels list commas) (inl w) = absurd w
events_back k (Levels list commas) (inr (inl w)) = absurd w
events_back k (Levels list commas) (inr (inr (inl w))) = absurd w
events_back k (Levels list commas) (inr (inr (inr w))) = let r = trees_back k list w.1 in ((w.0, r.0), r.1)

closed_back : (k : ℕ) (v : Option Tree) → (optional_closed k).Good v → WellFormedValue v × (depth_value v ≤ suc k)
unfolding WellFormedValue depth_value
closed_back k None w = (tt, omega arith)
closed_back k (Some t) (inl w) = absurd w
closed_back k (Some t) (inr w) = (w.0, omega (arith, w.1))

connection_back : (k : ℕ) (c : NamedConnection) → (connection k).Good c → WellFormedConnection c × (depth_connection c ≤ suc k)
unfolding WellFormedConnection depth_connection
connection_back k c w = closed_back k c.value w.1

connections_back : (k : ℕ) (c : Connections) → (connections k).Good c → WellFormedConnections c × (depth_connections c ≤ suc k)
unfolding WellFormedConnections depth_connections
connections_back k (Positions End) w = trees_back k End tt
connections_back k (Positions (More t ts)) (inl w) = absurd w
connections_back k (Positions (More t ts)) (inr (inl w)) = absurd w
connections_back k (Positions (More t ts)) (inr (inr w)) = trees_back k (More t ts) w
connections_back k (Names cs) (inl w) = absurd w
connections_back k (Names cs) (inr (inl w)) = let r = all_back WellFormedConnection (connection k).Good depth_connection (suc k) (connection_back k) cs w.1 in ((w.0, r.0), r.1)
connections_back k (Names cs) (inr (inr w)) = absurd w

overrides_back : (k : ℕ) (o : Option Connections) → (overrides k).Good o → WellFormedOverrides o × (depth_overrides o ≤ suc k)
unfolding WellFormedOverrides depth_overrides
overrides_back k None w = (tt, omega arith)
overrides_back k (Some c) w = connections_back k c w

instance_back : (k : ℕ) (i : ModuleInstance) → (one_instance k).Good i → WellFormedInstance i × (depth_instance i ≤ suc k)
unfolding WellFormedInstance depth_instance
instance_back k i w = connections_back k i.connections w.1

pub item_back : (k : ℕ) (i : ModuleItem) → (item k).Good i → WellFormedItem i × (depth_item i ≤ suc k)
unfolding WellFormedItem depth_item
item_back k (Ports p) (inl w) = port_back k p w
item_back k (Ports p) (inr (inl w)) = absurd w
item_back k (Ports p) (inr (inr (inl w))) = absurd w
item_back k (Ports p) (inr (inr (inr (inl w)))) = absurd w
item_back k (Ports p) (inr (inr (inr (inr (inl w))))) = absurd w
item_back k (Ports p) (inr (inr (inr (inr (inr (inl w)))))) = absurd w
item_back k (Ports p) (inr (inr (inr (inr (inr (inr (inl w))))))) = absurd w
item_back k (Ports p) (inr (inr (inr (inr (inr (inr (inr (inl w)))))))) = absurd w
item_back k (Ports p) (inr (inr (inr (inr (inr (inr (inr (inr w)))))))) = absurd w
item_back k (Nets s r ns) (inl w) = absurd w
item_back k (Nets s r ns) (inr (inl w)) = let r0 = range_back k r w.0.1 in let q = singles_back k ns w.1.1 in ((r0.0, w.1.0, q.0, q.1), omega (arith, r0.1, q.2))
item_back k (Nets s r ns) (inr (inr (inl w))) = absurd w
item_back k (Nets s r ns) (inr (inr (inr (inl w)))) = absurd w
item_back k (Nets s r ns) (inr (inr (inr (inr (inl w))))) = absurd w
item_back k (Nets s r ns) (inr (inr (inr (inr (inr (inl w)))))) = absurd w
item_back k (Nets s r ns) (inr (inr (inr (inr (inr (inr (inl w))))))) = absurd w
item_back k (Nets s r ns) (inr (inr (inr (inr (inr (inr (inr (inl w)))))))) = absurd w
item_back k (Nets s r ns) (inr (inr (inr (inr (inr (inr (inr (inr w)))))))) = absurd w
item_back k (Variables s r ns) (inl w) = absurd w
item_back k (Variables s r ns) (inr (inl w)) = absurd w
item_back k (Variables s r ns) (inr (inr (inl w))) = let r0 = range_back k r w.0.1 in let q = variables_back k ns w.1.1 in ((r0.0, w.1.0, q.0, q.1), omega (arith, r0.1, q.2))
item_back k (Variables s r ns) (inr (inr (inr (inl w)))) = absurd w
item_back k (Variables s r ns) (inr (inr (inr (inr (inl w))))) = absurd w
item_back k (Variables s r ns) (inr (inr (inr (inr (inr (inl w)))))) = absurd w
item_back k (Variables s r ns) (inr (inr (inr (inr (inr (inr (inl w))))))) = absurd w
item_back k (Variables s r ns) (inr (inr (inr (inr (inr (inr (inr (inl w)))))))) = absurd w
item_back k (Variables s r ns) (inr (inr (inr (inr (inr (inr (inr (inr w)))))))) = absurd w
item_back k (Integers ns) (inl w) = absurd w
item_back k (Integers ns) (inr (inl w)) = absurd w
item_back k (Integers ns) (inr (inr (inl w))) = absurd w
item_back k (Integers ns) (inr (inr (inr (inl w)))) = (w.0, omega arith)
item_back k (Integers ns) (inr (inr (inr (inr (inl w))))) = absurd w
item_back k (Integers ns) (inr (inr (inr (inr (inr (inl w)))))) = absurd w
item_back k (Integers ns) (inr (inr (inr (inr (inr (inr (inl w))))))) = absurd w
item_back k (Integers ns) (inr (inr (inr (inr (inr (inr (inr (inl w)))))))) = absurd w
item_back k (Integers ns) (inr (inr (inr (inr (inr (inr (inr (inr w)))))))) = absurd w
item_back k (Parameters p) (inl w) = absurd w
item_back k (Parameters p) (inr (inl w)) = absurd w
item_back k (Parameters p) (inr (inr (inl w))) = absurd w
item_back k (Parameters p) (inr (inr (inr (inl w)))) = absurd w
item_back k (Parameters p) (inr (inr (inr (inr (inl w))))) = parameter_back k p w
item_back k (Parameters p) (inr (inr (inr (inr (inr (inl w)))))) = absurd w
item_back k (Parameters p) (inr (inr (inr (inr (inr (inr (inl w))))))) = absurd w
item_back k (Parameters p) (inr (inr (inr (inr (inr (inr (inr (inl w)))))))) = absurd w
item_back k (Parameters p) (inr (inr (inr (inr (inr (inr (inr (inr w)))))))) = absurd w
item_back k (Assigns ps) (inl w) = absurd w
item_back k (Assigns ps) (inr (inl w)) = absurd w
item_back k (Assigns ps) (inr (inr (inl w))) = absurd w
item_back k (Assigns ps) (inr (inr (inr (inl w)))) = absurd w
item_back k (Assigns ps) (inr (inr (inr (inr (inl w))))) = absurd w
item_back k (Assigns ps) (inr (inr (inr (inr (inr (inl w)))))) = let q = all_back WellFormedPair (pair k).Good depth_pair (suc k) (pair_back k) ps w.1 in ((w.0, q.0), q.1)
item_back k (Assigns ps) (inr (inr (inr (inr (inr (inr (inl w))))))) = absurd w
item_back k (Assigns ps) (inr (inr (inr (inr (inr (inr (inr (inl w)))))))) = absurd w
item_back k (Assigns ps) (inr (inr (inr (inr (inr (inr (inr (inr w)))))))) = absurd w
item_back k (Always e s n) (inl w) = absurd w
item_back k (Always e s n) (inr (inl w)) = absurd w
item_back k (Always e s n) (inr (inr (inl w))) = absurd w
item_back k (Always e s n) (inr (inr (inr (inl w)))) = absurd w
item_back k (Always e s n) (inr (inr (inr (inr (inl w))))) = absurd w
item_back k (Always e s n) (inr (inr (inr (inr (inr (inl w)))))) = absurd w
item_back k (Always e s n) (inr (inr (inr (inr (inr (inr (inl w))))))) = let q = events_back k e w.1.0 in ((q.0, w.1.1.0), omega (arith, q.1, w.1.1.1))
item_back k (Always e s n) (inr (inr (inr (inr (inr (inr (inr (inl w)))))))) = absurd w
item_back k (Always e s n) (inr (inr (inr (inr (inr (inr (inr (inr w)))))))) = absurd w
item_back k (Initial s n) (inl w) = absurd w
item_back k (Initial s n) (inr (inl w)) = absurd w
item_back k (Initial s n) (inr (inr (inl w))) = absurd w
item_back k (Initial s n) (inr (inr (inr (inl w)))) = absurd w
item_back k (Initial s n) (inr (inr (inr (inr (inl w))))) = absurd w
item_back k (Initial s n) (inr (inr (inr (inr (inr (inl w)))))) = absurd w
item_back k (Initial s n) (inr (inr (inr (inr (inr (inr (inl w))))))) = absurd w
item_back k (Initial s n) (inr (inr (inr (inr (inr (inr (inr (inl w)))))))) = ((w.1.1, w.1.0.0), omega (arith, w.1.0.1))
item_back k (Initial s n) (inr (inr (inr (inr (inr (inr (inr (inr w)))))))) = absurd w
item_back k (Instances m n o is) (inl w) = absurd w
item_back k (Instances m n o is) (inr (inl w)) = absurd w
item_back k (Instances m n o is) (inr (inr (inl w))) = absurd w
item_back k (Instances m n o is) (inr (inr (inr (inl w)))) = absurd w
item_back k (Instances m n o is) (inr (inr (inr (inr (inl w))))) = absurd w
item_back k (Instances m n o is) (inr (inr (inr (inr (inr (inl w)))))) = absurd w
item_back k (Instances m n o is) (inr (inr (inr (inr (inr (inr (inl w))))))) = absurd w
item_back k (Instances m n o is) (inr (inr (inr (inr (inr (inr (inr (inl w)))))))) = absurd w
item_back k (Instances m n o is) (inr (inr (inr (inr (inr (inr (inr (inr w)))))))) = let q = overrides_back k o w.1.0 in let p = all_back WellFormedInstance (one_instance k).Good depth_instance (suc k) (instance_back k) is w.1.1.1 in ((q.0, w.1.1.0, p.0), omega (arith, q.1, p.1))

heads_back : (k : ℕ) (ps : List ParameterDeclaration) → (heads k).Good ps → AllByRecursion WellFormedHead ps × (greatest depth_parameter ps ≤ suc k)
unfolding greatest
heads_back k ps (inl w) = all_back WellFormedHead (head_parameter k).Good depth_parameter (suc k) (head_back k) ps w.1
heads_back k [] (inr w) = (tt, omega arith)
heads_back k (p ∷ ps) (inr w) = absurd (omega (arith, w))

no_ports_back : (k : ℕ) (g : List PortDeclaration) → length g ≡ 0 → AllByRecursion WellFormedPort g × (greatest depth_port g ≤ suc k)
unfolding greatest
no_ports_back k [] w = (tt, omega arith)
no_ports_back k (p ∷ g) w = absurd (omega (arith, w))

ports_back : (k : ℕ) (h : Option (List Identifier)) (g : List PortDeclaration) → (port_list k).Good (h, g) → IsHeader h g × (AllByRecursion WellFormedPort g × (greatest depth_port g ≤ suc k))
ports_back k None g (inl (inl w)) = absurd w
ports_back k None g (inl (inr (inl w))) = absurd w
ports_back k None g (inl (inr (inr w))) = absurd w
ports_back k None g (inr w) = (w, no_ports_back k g w)
ports_back k (Some names) g (inl (inl w)) = (inl w.0, no_ports_back k g w.1)
ports_back k (Some names) g (inl (inr (inl w))) = (inl w.0, all_back WellFormedPort (port k).Good depth_port (suc k) (port_back k) g w.1.1)
ports_back k (Some names) g (inl (inr (inr w))) = (inr w.1, no_ports_back k g w.1)
ports_back k (Some names) g (inr w) = absurd w

height_back : (j : ℕ) (i : ModuleItem) → (item j).Good i → WellFormedItem i × (height_item i ≤ suc (suc j))
unfolding height_item
height_back j i w = let r = item_back j i w in (r.0, omega (arith, r.1))

module_back : (k j n : ℕ) → suc k ≤ n → suc (suc j) ≤ n → (m : ModuleDeclaration) → (one_module k j).Good m → WellFormedModule m × (height_module m ≤ suc n)
unfolding WellFormedModule height_module depth_module
module_back k j n a b m w =
    let h = heads_back k m.params w.1.0 in
    let p = ports_back k m.header m.groups w.1.1.0 in
    let i = all_back WellFormedItem (item j).Good height_item (suc (suc j)) (height_back j) m.items w.1.1.1 in
    ((h.0, p.0, p.1.0, i.0), omega (arith, h.1, p.1.1, i.1, a, b))

-- in the brackets of the modules expressions of the depth k are read, in their items those of the depth j
pub modules_back : (k j n : ℕ) → suc k ≤ n → suc (suc j) ≤ n → (ms : List ModuleDeclaration) → AllByRecursion (one_module k j).Good ms → AllByRecursion WellFormedModule ms × (greatest height_module ms ≤ suc n)
modules_back k j n a b ms w = all_back WellFormedModule (one_module k j).Good height_module (suc n) (module_back k j n a b) ms w
