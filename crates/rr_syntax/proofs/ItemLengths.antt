-- Lengths of the spellings of items and modules.
use Rattle.std.proofs.Common.{◌≡◌, ℕ, Bool, true, false, cond, ◌+◌, ◌-◌, ◌*◌, ◌<◌, List, [], ◌∷◌, length, map, Option, None, Some, refl, arith, length-append}
use Rattle.rr_syntax.specs.Words.{Word, Marked, mark_close_parenthesis, keyword_signed, keyword_integer}
use Rattle.rr_syntax.specs.declared.tree.Bounds.{Bounds}
use Rattle.rr_syntax.specs.declared.tree.Connection.{Connection}
use Rattle.rr_syntax.specs.declared.tree.Conns.{Conns}
use Rattle.rr_syntax.specs.declared.tree.Conns.TheVariants as conns
use Rattle.rr_syntax.specs.declared.tree.Dir.TheVariants as dir
use Rattle.rr_syntax.specs.declared.tree.Event.{Event}
use Rattle.rr_syntax.specs.declared.tree.Events.{Events}
use Rattle.rr_syntax.specs.declared.tree.Events.TheVariants as events
use Rattle.rr_syntax.specs.declared.tree.Expr.{Expr}
use Rattle.rr_syntax.specs.declared.tree.Group.{Group}
use Rattle.rr_syntax.specs.declared.tree.Instance.{Instance}
use Rattle.rr_syntax.specs.declared.tree.Item.TheVariants as item
use Rattle.rr_syntax.specs.declared.tree.Module.{Module}
use Rattle.rr_syntax.specs.declared.tree.Named.{Named as Name}
use Rattle.rr_syntax.specs.declared.tree.Declarator.{Declarator}
use Rattle.rr_syntax.specs.declared.tree.Pair.{Pair}
use Rattle.rr_syntax.specs.declared.tree.Params.{Params}
use Rattle.rr_syntax.specs.declared.tree.Setting.{Setting}
use Rattle.rr_syntax.specs.declared.tree.Source.{Source}
use Rattle.rr_syntax.specs.declared.tree.Stmt.{Stmt}
use Rattle.rr_syntax.specs.Tree.{Trees, End, More}
use Rattle.rr_syntax.specs.Expressions.{spell, spell_parts, spell_more}
use Rattle.rr_syntax.specs.Statements.{spell_label, spell_labels, spell_statement}
use Rattle.rr_syntax.specs.Items.{spell_each, spell_separated, spell_all, spell_where, spell_identifier, spell_range, spell_type, spell_dir, spell_port, spell_assignment, spell_parameter, spell_value, spell_declarator, spell_pair, spell_edge, spell_more_edges, spell_edges, spell_more_levels, spell_levels, rest, spell_events, spell_optional, spell_connection, spell_connections, spell_overrides, spell_instance, spell_item, spell_parameters, spell_ports, spell_module, spell_source}
use Rattle.rr_syntax.specs.View.{plain, plain_list, plain_label, plain_identifier, plain_statement, plain_range, plain_port, plain_assignment, plain_parameter, plain_value, plain_declarator, plain_pair, plain_edge, plain_events, plain_connection, plain_connections, plain_overrides, plain_instance, plain_item, plain_header, plain_module, plain_source}
use Rattle.rr_syntax.proofs.Equations.{statement_spellings}
use Rattle.rr_syntax.proofs.Lengths.{parts_len}
use Rattle.rr_syntax.proofs.Sums.{IsSum}
use denote.Ref.{Bor}

-- a list of parts, each with a comma before it
abbrev pub each_len : {R A : Type 0} → (A → List Word) → (R → A) → List R → ℕ
each_len f g xs = length (spell_each f (map g xs))

abbrev pub comma_len : {R A : Type 0} → (A → List Word) → (R → A) → R → ℕ
comma_len f g x = 1 + length (f (g x))

pub each_sum : {R A : Type 0} (f : A → List Word) (g : R → A) → IsSum (each_len f g) (comma_len f g)
unfolding spell_each
each_sum f g = record { none = refl; more = λ x xs. omega (arith, length-append (f (g x)) (spell_each f (map g xs))) }

-- a list of parts with nothing between
abbrev pub all_len : {R A : Type 0} → (A → List Word) → (R → A) → List R → ℕ
all_len f g xs = length (spell_all f (map g xs))

abbrev pub own_len : {R A : Type 0} → (A → List Word) → (R → A) → R → ℕ
own_len f g x = length (f (g x))

pub all_sum : {R A : Type 0} (f : A → List Word) (g : R → A) → IsSum (all_len f g) (own_len f g)
unfolding spell_all
all_sum f g = record { none = refl; more = λ x xs. length-append (f (g x)) (spell_all f (map g xs)) }

pub separated_len : {A : Type 0} (f : A → List Word) (xs : List A) → length (spell_separated f xs) ≡ length (spell_each f xs) - 1
unfolding spell_separated spell_each
separated_len f [] = refl
separated_len f (x ∷ xs) = omega arith

each_names : (ns : List Name) → length (spell_each spell_identifier (map plain_identifier ns)) ≡ 2 * length ns
unfolding spell_each spell_identifier
each_names [] = refl
each_names (n ∷ ns) = omega (arith, each_names ns)

pub names_len : (ns : List Name) → length (spell_separated spell_identifier (map plain_identifier ns)) ≡ 2 * length ns - 1
names_len ns = omega (arith, separated_len spell_identifier (map plain_identifier ns), each_names ns)

pub label_none : length (spell_label (plain_label None)) ≡ 0
unfolding spell_label plain_label
label_none = refl

pub label_some : (n : Name) → length (spell_label (plain_label (Some n))) ≡ 2
unfolding spell_label plain_label
label_some n = refl

pub labels_none : (ts : List Expr) (colon : Bool) → length ts ≡ 0 → length (spell_labels (plain_list ts) colon) ≡ cond colon 2 1
unfolding plain_list
labels_none [] true h = simp statement_spellings refl
labels_none [] false h = simp statement_spellings refl
labels_none (t ∷ ts) colon h = absurd (omega arith)

pub labels_some : (ts : List Expr) (colon : Bool) → 0 < length ts → length (spell_labels (plain_list ts) colon) ≡ length (spell_parts (plain_list ts)) + 1
unfolding plain_list
labels_some [] colon h = absurd (omega arith)
labels_some (t ∷ ts) colon h = simp (statement_spellings, length-append) (omega arith)

where_len : (b : Bool) (k : ℕ) → length (spell_where b k) ≡ cond b 1 0
unfolding spell_where
where_len true k = refl
where_len false k = refl

pub size-range-none : length (spell_range (plain_range None)) ≡ 0
unfolding spell_range plain_range
size-range-none = refl

pub size-range-some : (b : Bounds) → length (spell_range (plain_range (Some b))) ≡ 3 + length (spell (plain b.left.now)) + length (spell (plain b.right.now))
unfolding spell_range plain_range
size-range-some b = simp length-append (omega arith)

pub size-type : (signed : Bool) (r : Option Bounds) → length (spell_type signed (plain_range r)) ≡ cond signed 1 0 + length (spell_range (plain_range r))
unfolding spell_type
size-type signed r = rw length-append (omega (arith, where_len signed keyword_signed))

pub port_input : length (spell_dir dir.Input) ≡ 1
unfolding spell_dir
port_input = refl

pub port_input_wire : length (spell_dir dir.InputWire) ≡ 2
unfolding spell_dir
port_input_wire = refl

pub port_output : length (spell_dir dir.Output) ≡ 1
unfolding spell_dir
port_output = refl

pub port_output_wire : length (spell_dir dir.OutputWire) ≡ 2
unfolding spell_dir
port_output_wire = refl

pub port_output_reg : length (spell_dir dir.OutputReg) ≡ 2
unfolding spell_dir
port_output_reg = refl

pub size-port : (g : Group) → length (spell_port (plain_port g)) ≡ length (spell_dir g.dir) + length (spell_type g.signed (plain_range g.range)) + length (spell_separated spell_declarator (map plain_declarator g.names.now))
unfolding spell_port plain_port
size-port g = simp length-append (omega arith)

pub size-setting : (s : Setting) → length (spell_assignment (plain_assignment s)) ≡ 2 + length (spell (plain s.value.now))
unfolding spell_assignment plain_assignment
size-setting s = omega arith

pub size-parameter : (p : Params) → length (spell_parameter (plain_parameter p)) ≡ 1 + cond p.integer 1 0 + length (spell_type p.signed (plain_range p.range)) + length (spell_separated spell_assignment (map plain_assignment p.sets.now))
unfolding spell_parameter plain_parameter
size-parameter p = simp length-append (omega (arith, where_len p.integer keyword_integer))

pub size-value-none : length (spell_value (plain_value None)) ≡ 0
unfolding spell_value plain_value
size-value-none = refl

pub size-value-some : (e : Bor Expr) → length (spell_value (plain_value (Some e))) ≡ 1 + length (spell (plain e.now))
unfolding spell_value plain_value
size-value-some e = omega arith

pub size-declarator : (n : Declarator) → length (spell_declarator (plain_declarator n)) ≡ 1 + length (spell_range (plain_range n.words)) + length (spell_value (plain_value n.value))
unfolding spell_declarator plain_declarator
size-declarator n = simp length-append (omega arith)

pub size-pair : (p : Pair) → length (spell_pair (plain_pair p)) ≡ 1 + length (spell (plain p.target.now)) + length (spell (plain p.value.now))
unfolding spell_pair plain_pair
size-pair p = simp length-append (omega arith)

pub size-star : (brackets : Bool) → length (spell_events (plain_events (events.Star brackets))) ≡ cond brackets 3 1
unfolding spell_events plain_events
size-star true = refl
size-star false = refl

more_edges_len : (es : List Event) (commas : List Bool) → length (spell_more_edges (map plain_edge es) commas) ≡ 3 * length es
unfolding spell_more_edges spell_edge
more_edges_len [] commas = refl
more_edges_len (e ∷ es) commas = omega (arith, more_edges_len es (rest commas))

edges_len : (es : List Event) (commas : List Bool) → length (spell_edges (map plain_edge es) commas) ≡ 3 * length es - 1
unfolding spell_edges spell_edge
edges_len [] commas = refl
edges_len (e ∷ es) commas = omega (arith, more_edges_len es commas)

pub size-edges : (list : Bor (List Event)) (commas : Bor (List Bool)) → length (spell_events (plain_events (events.Edges list commas))) ≡ 2 + (3 * length list.now - 1)
unfolding spell_events plain_events
size-edges list commas = simp length-append (omega (arith, edges_len list.now commas.now))

more_levels_len : (ts : Trees) (commas : List Bool) → length (spell_more_levels ts commas) ≡ length (spell_more ts)
unfolding spell_more_levels spell
more_levels_len End commas = refl
more_levels_len (More t ts) commas = simp length-append (omega (arith, more_levels_len ts (rest commas)))

levels_len : (ts : Trees) (commas : List Bool) → length (spell_levels ts commas) ≡ length (spell_parts ts)
unfolding spell_levels spell
levels_len End commas = refl
levels_len (More t ts) commas = simp length-append (omega (arith, more_levels_len ts commas))

pub size-levels : (list : Bor (List Expr)) (commas : Bor (List Bool)) → length (spell_events (plain_events (events.Levels list commas))) ≡ 2 + length (spell_parts (plain_list list.now))
unfolding spell_events plain_events
size-levels list commas = simp length-append (omega (arith, levels_len (plain_list list.now) commas.now))

pub size-connection-none : (c : Connection) → c.value ≡ None → length (spell_connection (plain_connection c)) ≡ 4
unfolding spell_connection plain_connection spell_optional plain_value
size-connection-none c h = rw h refl

pub size-connection-some : (c : Connection) (e : Bor Expr) → c.value ≡ Some e → length (spell_connection (plain_connection c)) ≡ 4 + length (spell (plain e.now))
unfolding spell_connection plain_connection spell_optional plain_value
size-connection-some c e h = rw h (omega (arith, length-append (spell (plain e.now)) (Marked mark_close_parenthesis ∷ [])))

pub size-positions : (list : Bor (List Expr)) → length (spell_connections (plain_connections (conns.Positions list))) ≡ 2 + length (spell_parts (plain_list list.now))
unfolding spell_connections plain_connections
size-positions list = simp length-append (omega arith)

pub size-named : (list : Bor (List Connection)) → length (spell_connections (plain_connections (conns.Names list))) ≡ 2 + length (spell_separated spell_connection (map plain_connection list.now))
unfolding spell_connections plain_connections
size-named list = simp length-append (omega arith)

pub size-overrides-none : length (spell_overrides (plain_overrides None)) ≡ 0
unfolding spell_overrides plain_overrides
size-overrides-none = refl

pub size-overrides-some : (c : Conns) → length (spell_overrides (plain_overrides (Some c))) ≡ 1 + length (spell_connections (plain_connections c))
unfolding spell_overrides plain_overrides
size-overrides-some c = omega arith

pub size-instance : (i : Instance) → length (spell_instance (plain_instance i)) ≡ 1 + length (spell_connections (plain_connections i.conns))
unfolding spell_instance plain_instance
size-instance i = omega arith

pub size-Ports : (g : Group) → length (spell_item (plain_item (item.Ports g))) ≡ length (spell_port (plain_port g)) + 1
unfolding spell_item plain_item
size-Ports g = simp length-append (omega arith)

pub size-Nets : (signed : Bool) (range : Option Bounds) (names : Bor (List Declarator)) → length (spell_item (plain_item (item.Nets signed range names))) ≡ 2 + length (spell_type signed (plain_range range)) + length (spell_separated spell_declarator (map plain_declarator names.now))
unfolding spell_item plain_item
size-Nets signed range names = simp length-append (omega arith)

pub size-Variables : (signed : Bool) (range : Option Bounds) (names : Bor (List Declarator)) → length (spell_item (plain_item (item.Variables signed range names))) ≡ 2 + length (spell_type signed (plain_range range)) + length (spell_separated spell_declarator (map plain_declarator names.now))
unfolding spell_item plain_item
size-Variables signed range names = simp length-append (omega arith)

pub size-Integers : (names : Bor (List Name)) → length (spell_item (plain_item (item.Integers names))) ≡ 2 + length (spell_separated spell_identifier (map plain_identifier names.now))
unfolding spell_item plain_item
size-Integers names = simp length-append (omega arith)

pub size-Parameters : (p : Params) → length (spell_item (plain_item (item.Parameters p))) ≡ length (spell_parameter (plain_parameter p)) + 1
unfolding spell_item plain_item
size-Parameters p = simp length-append (omega arith)

pub size-Assigns : (pairs : Bor (List Pair)) → length (spell_item (plain_item (item.Assigns pairs))) ≡ 2 + length (spell_separated spell_pair (map plain_pair pairs.now))
unfolding spell_item plain_item
size-Assigns pairs = simp length-append (omega arith)

pub size-Always : (e : Events) (s : Bor Stmt) (token : ℕ) → length (spell_item (plain_item (item.Always e s token))) ≡ 2 + length (spell_events (plain_events e)) + length (spell_statement (plain_statement s.now))
unfolding spell_item plain_item
size-Always e s token = simp length-append (omega arith)

pub size-Initial : (s : Bor Stmt) (token : ℕ) → length (spell_item (plain_item (item.Initial s token))) ≡ 1 + length (spell_statement (plain_statement s.now))
unfolding spell_item plain_item
size-Initial s token = omega arith

pub size-Instances : (m : Bor (List ℕ)) (token : ℕ) (o : Option Conns) (list : Bor (List Instance)) → length (spell_item (plain_item (item.Instances m token o list))) ≡ 2 + length (spell_overrides (plain_overrides o)) + length (spell_separated spell_instance (map plain_instance list.now))
unfolding spell_item plain_item
size-Instances m token o list = simp length-append (omega arith)

pub head_none : (ps : List Params) → length ps ≡ 0 → length (spell_parameters (map plain_parameter ps)) ≡ 0
unfolding spell_parameters
head_none [] h = refl
head_none (p ∷ ps) h = absurd (omega arith)

pub head_some : (ps : List Params) → 0 < length ps → length (spell_parameters (map plain_parameter ps)) ≡ 3 + length (spell_separated spell_parameter (map plain_parameter ps))
unfolding spell_parameters
head_some [] h = absurd (omega arith)
head_some (p ∷ ps) h = simp length-append (omega arith)

pub header_none : (gs : List Group) → length (spell_ports (plain_header None) (map plain_port gs)) ≡ 0
unfolding spell_ports plain_header
header_none gs = refl

pub header_some : (ns : Bor (List Name)) (gs : List Group) → length (spell_ports (plain_header (Some ns)) (map plain_port gs)) ≡ 2 + length (spell_separated spell_identifier (map plain_identifier ns.now)) + length (spell_separated spell_port (map plain_port gs))
unfolding spell_ports plain_header
header_some ns gs = simp length-append (omega arith)

pub size-module : (m : Module) → length (spell_module (plain_module m)) ≡ 4 + length (spell_parameters (map plain_parameter m.params.now)) + length (spell_ports (plain_header m.header) (map plain_port m.groups.now)) + length (spell_all spell_item (map plain_item m.items.now))
unfolding spell_module plain_module
size-module m = simp length-append (omega arith)

pub source_len : (s : Source) → length (spell_source (plain_source s)) ≡ length (spell_all spell_module (map plain_module s.modules.now))
unfolding spell_source plain_source
source_len s = refl

pub ruleset item_sizes = (size-Ports, size-Nets, size-Variables, size-Integers, size-Parameters, size-Assigns, size-Always, size-Initial, size-Instances, separated_len)

pub ruleset connection_sizes = (size-connection-none, size-connection-some)

pub ruleset connections_sizes = (size-positions, size-named, parts_len, separated_len)

pub ruleset events_sizes = (size-star, size-edges, size-levels, parts_len)

pub ruleset range_sizes = (size-range-none, size-range-some)

pub ruleset type_sizes = size-type

pub ruleset value_sizes = (size-value-none, size-value-some)

pub ruleset declarator_sizes = size-declarator

pub ruleset overrides_sizes = (size-overrides-none, size-overrides-some)

pub ruleset parameter_sizes = (size-parameter, separated_len)

pub ruleset port_sizes = (size-port, separated_len, port_input, port_input_wire, port_output, port_output_wire, port_output_reg)

pub ruleset module_sizes = (size-module, head_none, head_some, header_none, header_some, separated_len)
