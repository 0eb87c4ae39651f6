-- What is well-formed and within the depth is good.
use Rattle.std.proofs.Common.{◌≡◌, ℕ, zero, suc, ◌+◌, ◌≤◌, ◌<◌, max, List, [], ◌∷◌, length, refl, sym, ◌∙◌, arith, Bool, true, false, not, ◌||◌, ◌&&◌, Option, Some, None, IsNone, ◌⊎◌, inl, inr}
use Rattle.std.specs.List.{AllByRecursion, list_all}
use Rattle.std.specs.Option.{is_some}
use Rattle.rr_syntax.specs.declared.tree.Dir.{Dir}
use Rattle.rr_syntax.specs.declared.tree.Dir.TheVariants as dir
use Rattle.rr_syntax.specs.Tree.{Tree, Trees, End, More, Identifier, Range, PortDeclaration, ParamAssignment, ParameterDeclaration, DeclaredName, NetAssignment, EdgeEvent, EventControl, Star, Edges, Levels, NamedConnection, Connections, Positions, Names, ModuleInstance, ModuleItem, Ports, Nets, Variables, Integers, Parameters, Assigns, Always, Initial, Instances, ModuleDeclaration}
use Rattle.rr_syntax.specs.Expressions.{WellFormed, WellFormedMore, depth, height, is_target}
use Rattle.rr_syntax.specs.Statements.{WellFormedStatement, depth_statement}
use Rattle.rr_syntax.specs.Items.{count, greatest, IsTypedOnce, IsHeader, WellFormedRange, HasNoWords, IsVariableName, MayStart, WellFormedPort, WellFormedAssignment, WellFormedParameter, WellFormedValue, WellFormedDeclarator, WellFormedPair, WellFormedEvents, WellFormedConnection, WellFormedConnections, WellFormedOverrides, WellFormedInstance, WellFormedItem, WellFormedHead, WellFormedModule, depth_range, depth_port, depth_assignment, depth_parameter, depth_value, depth_declarator, depth_pair, depth_events, depth_connection, depth_connections, depth_overrides, depth_instance, depth_item, height_item, depth_module, height_module}
use Rattle.rr_grammar.specs.Formats.{Format, list}
use Rattle.rr_grammar.specs.Leaves.{identifier, expression, range, AllOption}
use Rattle.rr_grammar.specs.Declarations.{declarator, has_no_words, single, is_variable_name, variable, is_output_reg, has_no_value, port, setting, pair, parameter, head_parameter}
use Rattle.rr_grammar.specs.Parts.{AllTrees, edge, events}
use Rattle.rr_grammar.specs.Connections.{optional_closed, connection, connections, overrides, one_instance}
use Rattle.rr_grammar.specs.ItemForms.{item}
use Rattle.rr_grammar.specs.ModuleForms.{IsNil, heads, port_list, one_module}

-- each of a list is at most the greatest
all_by : {A : Type 0} (W G : A → Type 0) (f : A → ℕ) (n : ℕ) → ((a : A) → W a → f a ≤ n → G a) → (xs : List A) → AllByRecursion W xs → greatest f xs ≤ n → AllByRecursion G xs
unfolding greatest
all_by W G f n h [] w d = tt
all_by W G f n h (x ∷ xs) w d = (h x w.0 (omega (arith, d)), all_by W G f n h xs w.1 (omega (arith, d)))

every : {A : Type 0} (G : A → Type 0) → ((a : A) → G a) → (xs : List A) → AllByRecursion G xs
every G h [] = tt
every G h (x ∷ xs) = (h x, every G h xs)

names_good : (ns : List Identifier) → 0 < length ns → (list identifier).Good ns
names_good ns h = (h, every identifier.Good (λ n. tt) ns)

range_good : (k : ℕ) (r : Option Range) → WellFormedRange r → depth_range r ≤ suc k → (range k).Good r
unfolding WellFormedRange depth_range
range_good k None w d = tt
range_good k (Some r) w d = ((w.0, omega (arith, d)), (w.1, omega (arith, d)))

value_good : (k : ℕ) (v : Option Tree) → WellFormedValue v → depth_value v ≤ suc k → AllOption (expression k).Good v
unfolding WellFormedValue depth_value
value_good k None w d = tt
value_good k (Some t) w d = (w, omega (arith, d))

declarator_good : (k : ℕ) (n : DeclaredName) → WellFormedDeclarator n → depth_declarator n ≤ suc k → (declarator k).Good n
unfolding WellFormedDeclarator depth_declarator
declarator_good k n w d = (tt, (range_good k n.words w.0 (omega (arith, d)), value_good k n.value w.1 (omega (arith, d))))

-- the names of a port pass the test exactly where each may have the value that it has
none_good : {A : Type 0} (v : Option A) → IsNone v → not (is_some v) ≡ true
none_good None w = refl
none_good (Some t) w = absurd (cc w)

none_back : {A : Type 0} (v : Option A) → not (is_some v) ≡ true → IsNone v
none_back None e = refl
none_back (Some t) e = absurd cc

both_true : (a b : Bool) → (a && b) ≡ true → (a ≡ true) × (b ≡ true)
both_true true b e = (refl, e)
both_true false b e = absurd cc

values_good : (ns : List DeclaredName) → AllByRecursion (λ n. IsNone n.value) ns → list_all has_no_value ns ≡ true
values_good [] w = refl
values_good (n ∷ ns) w = let e = none_good n.value w.0 in let f = values_good ns w.1 in rw (e, f) refl

values_back : (ns : List DeclaredName) → list_all has_no_value ns ≡ true → AllByRecursion (λ n. IsNone n.value) ns
values_back [] e = tt
values_back (n ∷ ns) e = let p = both_true (has_no_value n) (list_all has_no_value ns) e in (none_back n.value p.0, values_back ns p.1)

starts_good : (d : Dir) (ns : List DeclaredName) → AllByRecursion (MayStart d) ns → (is_output_reg d || list_all has_no_value ns) ≡ true
unfolding MayStart
starts_good dir.OutputReg ns w = refl
starts_good dir.Input ns w = values_good ns w
starts_good dir.InputWire ns w = values_good ns w
starts_good dir.Output ns w = values_good ns w
starts_good dir.OutputWire ns w = values_good ns w

pub starts_back : (d : Dir) (ns : List DeclaredName) → (is_output_reg d || list_all has_no_value ns) ≡ true → AllByRecursion (MayStart d) ns
unfolding MayStart
starts_back dir.OutputReg ns e = every (λ n. Unit {0}) (λ n. tt) ns
starts_back dir.Input ns e = values_back ns e
starts_back dir.InputWire ns e = values_back ns e
starts_back dir.Output ns e = values_back ns e
starts_back dir.OutputWire ns e = values_back ns e

-- the names of ports and nets, and those of variables, pass their tests
either_true : (a b : Bool) → (a ≡ true) ⊎ (b ≡ true) → (a || b) ≡ true
either_true true b w = refl
either_true false b (inl w) = absurd (cc w)
either_true false b (inr w) = w

either_back : (a b : Bool) → (a || b) ≡ true → (a ≡ true) ⊎ (b ≡ true)
either_back true b e = inl refl
either_back false b e = inr e

pub words_back : (n : DeclaredName) → has_no_words n ≡ true → HasNoWords n
words_back n e = none_back n.words e

pub variable_back : (n : DeclaredName) → is_variable_name n ≡ true → IsVariableName n
variable_back n e = elim (either_back (has_no_words n) (has_no_value n) e) [ inl h ↦ inl (none_back n.words h) | inr h ↦ inr (none_back n.value h) ]

abbrev pub WellFormedSingle : DeclaredName → Type 0
WellFormedSingle n = WellFormedDeclarator n × HasNoWords n

abbrev pub WellFormedVariable : DeclaredName → Type 0
WellFormedVariable n = WellFormedDeclarator n × IsVariableName n

single_good : (k : ℕ) (n : DeclaredName) → WellFormedSingle n → depth_declarator n ≤ suc k → (single k).Good n
single_good k n w d = (declarator_good k n w.0 d, none_good n.words w.1)

variable_good : (k : ℕ) (n : DeclaredName) → WellFormedVariable n → depth_declarator n ≤ suc k → (variable k).Good n
variable_good k n w d =
    (declarator_good k n w.0 d, either_true (has_no_words n) (has_no_value n) (elim (w.1) [ inl h ↦ inl (none_good n.words h) | inr h ↦ inr (none_good n.value h) ]))

together : {A : Type 0} (P Q : A → Type 0) (xs : List A) → AllByRecursion P xs → AllByRecursion Q xs → AllByRecursion (λ x. P x × Q x) xs
together P Q [] p q = tt
together P Q (x ∷ xs) p q = ((p.0, q.0), together P Q xs p.1 q.1)

singles_good : (k : ℕ) (ns : List DeclaredName) → AllByRecursion WellFormedDeclarator ns → AllByRecursion HasNoWords ns → greatest depth_declarator ns ≤ suc k → AllByRecursion (single k).Good ns
singles_good k ns w h d = all_by WellFormedSingle (single k).Good depth_declarator (suc k) (single_good k) ns (together WellFormedDeclarator HasNoWords ns w h) d

variables_good : (k : ℕ) (ns : List DeclaredName) → AllByRecursion WellFormedDeclarator ns → AllByRecursion IsVariableName ns → greatest depth_declarator ns ≤ suc k → AllByRecursion (variable k).Good ns
variables_good k ns w h d = all_by WellFormedVariable (variable k).Good depth_declarator (suc k) (variable_good k) ns (together WellFormedDeclarator IsVariableName ns w h) d

port_good : (k : ℕ) (p : PortDeclaration) → WellFormedPort p → depth_port p ≤ suc k → (port k).Good p
unfolding WellFormedPort depth_port
port_good k p w d = (
  (
    tt,
    (
      (tt, range_good k p.range w.0 (omega (arith, d))),
      (w.1, singles_good k p.names w.2 w.4 (omega (arith, d))),
    ),
  ),
  starts_good p.dir p.names w.3,
)

setting_good : (k : ℕ) (a : ParamAssignment) → WellFormedAssignment a → depth_assignment a ≤ suc k → (setting k).Good a
unfolding WellFormedAssignment depth_assignment
setting_good k a w d = (tt, (w, omega (arith, d)))

parameter_good : (k : ℕ) (p : ParameterDeclaration) → WellFormedParameter p → depth_parameter p ≤ suc k → (parameter k).Good p
unfolding WellFormedParameter depth_parameter
parameter_good k p w d =
    (tt, ((w.0, (tt, range_good k p.range w.1 (omega (arith, d)))), (w.2, all_by WellFormedAssignment (setting k).Good depth_assignment (suc k) (setting_good k) p.sets w.3 (omega (arith, d)))))

no_local : (b : Bool) → b ≡ false → not b ≡ true
no_local true h = absurd cc
no_local false h = refl

head_good : (k : ℕ) (p : ParameterDeclaration) → WellFormedHead p → depth_parameter p ≤ suc k → (head_parameter k).Good p
unfolding WellFormedHead
head_good k p w d = (parameter_good k p w.1 d, no_local p.local w.0)

pair_good : (k : ℕ) (p : NetAssignment) → WellFormedPair p → depth_pair p ≤ suc k → (pair k).Good p
unfolding WellFormedPair depth_pair
pair_good k p w d = ((w.0, w.1, omega (arith, d)), (w.2, omega (arith, d)))

trees_good : (k : ℕ) (ts : Trees) → WellFormedMore ts → height ts ≤ suc k → AllTrees (expression k).Good ts
unfolding WellFormed depth
trees_good k End w d = tt
trees_good k (More t ts) w d = ((w.0, omega (arith, d)), trees_good k ts w.1 (omega (arith, d)))

events_good : (k : ℕ) (e : EventControl) → WellFormedEvents e → depth_events e ≤ suc k → (events k).Good e
unfolding WellFormedEvents depth_events
events_good k (Star false) w d = inl refl
events_good k (Star true) w d = inr (inl refl)
events_good k (Edges list commas) w d = inr (inr (inl w))
events_good k (Levels list commas) w d = inr (inr (inr (w.0, trees_good k list w.1 d)))

closed_good : (k : ℕ) (v : Option Tree) → WellFormedValue v → depth_value v ≤ suc k → (optional_closed k).Good v
unfolding WellFormedValue depth_value
closed_good k None w d = inl tt
closed_good k (Some t) w d = inr (w, omega (arith, d))

connection_good : (k : ℕ) (c : NamedConnection) → WellFormedConnection c → depth_connection c ≤ suc k → (connection k).Good c
unfolding WellFormedConnection depth_connection
connection_good k c w d = (tt, closed_good k c.value w d)

connections_good : (k : ℕ) (c : Connections) → WellFormedConnections c → depth_connections c ≤ suc k → (connections k).Good c
unfolding WellFormedConnections depth_connections
connections_good k (Positions End) w d = inl tt
connections_good k (Positions (More t ts)) w d = inr (inr (trees_good k (More t ts) w d))
connections_good k (Names cs) w d = inr (inl (w.0, all_by WellFormedConnection (connection k).Good depth_connection (suc k) (connection_good k) cs w.1 d))

overrides_good : (k : ℕ) (o : Option Connections) → WellFormedOverrides o → depth_overrides o ≤ suc k → (overrides k).Good o
unfolding WellFormedOverrides depth_overrides
overrides_good k None w d = tt
overrides_good k (Some c) w d = connections_good k c w d

instance_good : (k : ℕ) (i : ModuleInstance) → WellFormedInstance i → depth_instance i ≤ suc k → (one_instance k).Good i
unfolding WellFormedInstance depth_instance
instance_good k i w d = (tt, connections_good k i.connections w d)

pub item_good : (k : ℕ) (i : ModuleItem) → WellFormedItem i → depth_item i ≤ suc k → (item k).Good i
unfolding WellFormedItem depth_item
item_good k (Ports p) w d = inl (port_good k p w d)
item_good k (Nets s r ns) w d = inr (inl ((tt, range_good k r w.0 (omega (arith, d))), (w.1, singles_good k ns w.2 w.3 (omega (arith, d)))))
item_good k (Variables s r ns) w d = inr (inr (inl ((tt, range_good k r w.0 (omega (arith, d))), (w.1, variables_good k ns w.2 w.3 (omega (arith, d))))))
item_good k (Integers ns) w d = inr (inr (inr (inl (names_good ns w))))
item_good k (Parameters p) w d = inr (inr (inr (inr (inl (parameter_good k p w d)))))
item_good k (Assigns ps) w d = inr (inr (inr (inr (inr (inl (w.0, all_by WellFormedPair (pair k).Good depth_pair (suc k) (pair_good k) ps w.1 d))))))
item_good k (Always e s n) w d = inr (inr (inr (inr (inr (inr (inl (tt, (events_good k e w.0 (omega (arith, d)), (w.1, omega (arith, d))))))))))
item_good k (Initial s n) w d = inr (inr (inr (inr (inr (inr (inr (inl (tt, ((w.1, omega (arith, d)), w.0)))))))))
item_good k (Instances m n o is) w d = inr (inr (inr (inr (inr (inr (inr (inr (tt, (overrides_good k o w.0 (omega (arith, d)), (w.1, all_by WellFormedInstance (one_instance k).Good depth_instance (suc k) (instance_good k) is w.2 (omega (arith, d))))))))))))

heads_good : (k : ℕ) (ps : List ParameterDeclaration) → AllByRecursion WellFormedHead ps → greatest depth_parameter ps ≤ suc k → (heads k).Good ps
heads_good k [] w d = inr refl
heads_good k (p ∷ ps) w d = inl (omega arith, all_by WellFormedHead (head_parameter k).Good depth_parameter (suc k) (head_good k) (p ∷ ps) w d)

ports_good : (k : ℕ) (h : Option (List Identifier)) (g : List PortDeclaration) → IsHeader h g → AllByRecursion WellFormedPort g → greatest depth_port g ≤ suc k → (port_list k).Good (h, g)
ports_good k None g w a d = inr w
ports_good k (Some (n ∷ ns)) g (inl w) a d = absurd (omega (arith, w))
ports_good k (Some (n ∷ ns)) g (inr w) a d = inl (inr (inr (names_good (n ∷ ns) (omega arith), w)))
ports_good k (Some []) [] w a d = inl (inl (refl, refl))
ports_good k (Some []) (p ∷ g) w a d = inl (inr (inl (refl, (omega arith, all_by WellFormedPort (port k).Good depth_port (suc k) (port_good k) (p ∷ g) a d))))

-- the depth of what stands in the brackets and that of the items
pub module_good : (k j : ℕ) (m : ModuleDeclaration) → WellFormedModule m → depth_module m ≤ suc k → depth_module m ≤ suc (suc j) → (one_module k j).Good m
unfolding WellFormedModule depth_module height_item
module_good k j m w d e = (
  tt,
  (
    heads_good k m.params w.0 (omega (arith, d)),
    (
      ports_good k m.header m.groups w.1 w.2 (omega (arith, d)),
      all_by WellFormedItem (item j).Good height_item (suc (suc j)) (λ i v n. item_good j i v (omega (arith, n))) m.items w.3 (omega (arith, e)),
    ),
  ),
)

pub modules_good : (k j : ℕ) (ms : List ModuleDeclaration) → AllByRecursion WellFormedModule ms → greatest height_module ms ≤ suc (suc k) → greatest height_module ms ≤ suc (suc (suc j)) → AllByRecursion (one_module k j).Good ms
unfolding greatest height_module
modules_good k j [] w d e = tt
modules_good k j (m ∷ ms) w d e = (module_good k j m w.0 (omega (arith, d)) (omega (arith, e)), modules_good k j ms w.1 (omega (arith, d)) (omega (arith, e)))
