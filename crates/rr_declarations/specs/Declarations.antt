-- The declarations of a module (IEEE 1364-2005 sections 3.2, 3.3, 3.9, 3.11, 4.9.3 and 12.3).
use Rattle.std.specs.Prelude.{ℕ, ◌+◌, ◌*◌, Bool, true, false, not, List, [], ◌∷◌, ◌++◌, length, fold, Option, Some, None, Result, Ok, Err, is_some, is_none, nat_lt, nat_eq, ◌&&◌, ◌||◌, if◌then◌else◌, slice_index_or, slice_set}
use Rattle.rr_syntax.specs.declared.tree.Dir.{Dir}
use Rattle.rr_syntax.specs.declared.tree.Dir.TheVariants as dir
use Rattle.rr_syntax.specs.Tree.{Tree, Identifier, DeclaredName, PortDeclaration, Range, ModuleItem, Ports, Nets, Variables, Integers, Parameters, Assigns, Always, Initial, Instances, ModuleDeclaration}
use Rattle.rr_expr.specs.Scopes.{Names, lookup, range_width}
use Rattle.rr_expr.specs.declared.types.Entity.{Entity}
use Rattle.rr_expr.specs.declared.types.Entity.TheVariants as entity
use Rattle.rr_flat.specs.declared.signal.Port.{Port}
use Rattle.rr_flat.specs.declared.signal.Port.TheVariants.{Inner, Input, Output}
use Rattle.rr_declarations.specs.declared.declare.Declaration.{Declaration}
use Rattle.rr_flat.specs.declared.fault.Limit.TheVariants.{Words, FlatBits}
use Rattle.rr_flat.specs.declared.fault.FlatFault.{FlatFault}
use Rattle.rr_flat.specs.declared.fault.FlatFault.TheVariants.{NameTwice, UnknownName, BadRange, TooMany}
use Rattle.rr_flat.specs.Faults.{fault_if, faults_in, first_fault_or, and_then, each}
use Rattle.rr_starts.specs.Starts.{start_of, constant_faults}
pub use Rattle.rr_memory_words.specs.Words.{words_of, word_count}
use Rattle.rr_declarations.specs.Values.{range_in}
use Rattle.rr_flat.specs.Signals.{with_name}
use Rattle.rr_declarations.specs.Parameters.{width_faults}
use Rattle.rr_flat.specs.Signals.{Text, Signal, no_signal}

-- Names that are declared anywhere in the module

-- a net or a variable, of which a range may know no more than that it is no constant
abbrev pub know : Names → Text → Names
know names name = with_name names name (entity.Signal 0 None false)

abbrev pub know_identifier : Names → Identifier → Names
know_identifier names i = know names i.text

abbrev pub know_declarator : Names → DeclaredName → Names
know_declarator names n = know names n.text

unfoldable pub know_ports : Names → PortDeclaration → Names
know_ports names p = fold know_declarator names p.names

unfoldable pub know_item : Names → ModuleItem → Names
know_item names (Ports p) = know_ports names p
know_item names (Nets signed range list) = fold know_declarator names list
know_item names (Variables signed range list) = fold know_declarator names list
know_item names (Integers list) = fold know_identifier names list
know_item names (Parameters p) = names
know_item names (Assigns pairs) = names
know_item names (Always events body token) = names
know_item names (Initial body token) = names
know_item names (Instances m token overrides list) = names

-- what a range may name: the parameters, and each net and variable wherever it stands
unfoldable pub known : ModuleDeclaration → Names → Names
known m names = fold know_item (fold know_ports names m.groups) m.items

-- The port brackets

unfoldable pub know_port_item : Names → ModuleItem → Names
know_port_item names (Ports p) = know_ports names p
know_port_item names (Nets signed range list) = names
know_port_item names (Variables signed range list) = names
know_port_item names (Integers list) = names
know_port_item names (Parameters p) = names
know_port_item names (Assigns pairs) = names
know_port_item names (Always events body token) = names
know_port_item names (Initial body token) = names
know_port_item names (Instances m token overrides list) = names

abbrev pub plain_names : Option (List Identifier) → List Identifier
plain_names None = []
plain_names (Some list) = list

-- a plain name stands once, and is declared as an input or output by an item
unfoldable pub add_plain_name : Names → Identifier → Names → Result Names FlatFault
add_plain_name directed i names =
    first_fault_or (fault_if (is_some (lookup i.text names)) (NameTwice i.token) ++ fault_if (is_none (lookup i.text directed)) (UnknownName i.token)) (know names i.text)

-- the names in the port brackets of a module
unfoldable pub brackets : ModuleDeclaration → Result Names FlatFault
brackets m = and_then (each (add_plain_name (fold know_port_item [] m.items)) (plain_names m.header) []) (λ names. Ok (fold know_ports names m.groups))

-- Starting values

-- the expression of the value that a variable begins with (section 6.2.1); that of a net drives it (section 6.1.1)
abbrev pub starting : Declaration → DeclaredName → Option Tree
starting k n = if k.variable then n.value else None

-- it is constant
abbrev pub start_faults : Names → Option Tree → List FlatFault
start_faults known None = []
start_faults known (Some t) = constant_faults known t

-- the value that a variable of w bits begins with, where it began with another
abbrev pub start_or : Names → ℕ → ℕ → Option Tree → ℕ
start_or known w start None = start
start_or known w start (Some t) = start_of known w t

-- Signals

-- a signal, with the lowest index and the number of its words where it has words (section 4.9.3), and that a `wire` or `reg` may
-- declare it once more: a port without `reg`
pub record Declared : Type 0 where
  pub signal : Signal
  pub words : Option (ℕ × ℕ)
  pub again : Bool

-- the signals of an instance in the order of their declarations, and the bits of the design so far; names are the
-- parameters, and the signals by their places in the list
pub record Declarations : Type 0 where
  pub instance : ℕ
  pub names : Names
  pub list : List Declared
  pub bits : ℕ

abbrev pub is_port : Port → Bool
is_port Inner = false
is_port Input = true
is_port Output = true

abbrev pub signal_of : ℕ → Declaration → DeclaredName → ℕ → Signal
signal_of i k n start = record {
  instance = i;
  name = n.text;
  variable = k.variable;
  port = k.port;
  range = k.range;
  signed = k.signed;
  width = range_width k.range;
  token = n.token;
  word = None;
  start = start;
}

-- the bits of all words
abbrev pub declared_bits : Declaration → Option (ℕ × ℕ) → ℕ
declared_bits k words = word_count words * range_width k.range

abbrev pub with_signal : Declaration → DeclaredName → Option (ℕ × ℕ) → ℕ → Declarations → Declarations
with_signal k n words start d = record d {
  names = with_name d.names n.text (entity.Signal (length d.list) None false);
  list = d.list ++ (record { signal = signal_of d.instance k n start; words = words; again = is_port k.port && not k.variable }) ∷ [];
  bits = d.bits + declared_bits k words;
}

-- the declaration that lifts the bits of the design above 65,536
abbrev pub counted : Declaration → DeclaredName → Option (ℕ × ℕ) → ℕ → Declarations → Result Declarations FlatFault
counted k n words start d =
    first_fault_or (fault_if (nat_lt 65536 (d.bits + declared_bits k words)) (TooMany FlatBits (d.bits + declared_bits k words))) (with_signal k n words start d)

-- the bounds of the words of a name: only a variable that is no port has some
abbrev pub indices : Declaration → DeclaredName → Option Range
indices k n = if k.variable && not (is_port k.port) then n.words else None

-- its words, where the bounds have no fault
abbrev pub words_in : Result (Option (ℕ × ℕ)) FlatFault → Option (ℕ × ℕ)
words_in (Ok r) = words_of r
words_in (Err f) = None

abbrev pub declared_words : Names → Declaration → DeclaredName → Option (ℕ × ℕ)
declared_words known k n = words_in (range_in known (indices k n))

-- more words than 256
abbrev pub words_faults : Option (ℕ × ℕ) → List FlatFault
words_faults words = fault_if (nat_lt 256 (word_count words)) (TooMany Words (word_count words))

-- of a new name, which in a port must stand in the brackets
abbrev pub new_faults : Names → Names → Declaration → DeclaredName → Declarations → List FlatFault
new_faults brackets known k n d =
    fault_if (is_some (lookup n.text d.names)) (NameTwice n.token) ++ (fault_if (is_port k.port && is_none (lookup n.text brackets)) (UnknownName n.token) ++ (faults_in (range_in known (indices k n)) ++ (width_faults n.token k.range ++ start_faults known (starting k n))))

-- one more signal
unfoldable pub declare_new : Names → Names → Declaration → DeclaredName → Declarations → Result Declarations FlatFault
declare_new brackets known k n d =
    and_then (first_fault_or (new_faults brackets known k n d) d) (λ e.
    and_then (first_fault_or (words_faults (declared_words known k n)) e)
    (counted k n (declared_words known k n) (start_or known (range_width k.range) 0 (starting k n))))

abbrev pub no_declared : Declared
no_declared = record { signal = no_signal; words = None; again = false }

abbrev pub declared_at : List Declared → ℕ → Declared
declared_at list place = slice_index_or list place no_declared

abbrev pub is_same_range : Option (ℕ × ℕ) → Option (ℕ × ℕ) → Bool
is_same_range None None = true
is_same_range None (Some s) = false
is_same_range (Some r) None = false
is_same_range (Some r) (Some s) = nat_eq r.0 s.0 && nat_eq r.1 s.1

abbrev pub redeclared : Declaration → ℕ → Declared → Declared
redeclared k start x = record { signal = record x.signal { variable = k.variable; signed = k.signed || x.signal.signed; start = start }; words = None; again = false }

-- what a port begins with that is declared once more
abbrev pub start_again : Names → Option Tree → Declared → ℕ
start_again known value x = start_or known x.signal.width x.signal.start value

-- a port once more, with the same range
unfoldable pub declare_again : Names → Declaration → DeclaredName → ℕ → Declarations → Result Declarations FlatFault
declare_again known k n place d =
    first_fault_or (fault_if (not (is_same_range (declared_at d.list place).signal.range k.range)) (BadRange n.token) ++ start_faults known (starting k n))
    (record d { list = slice_set d.list place (redeclared k (start_again known (starting k n) (declared_at d.list place)) (declared_at d.list place)) })

-- the place of a port that may be declared once more
abbrev pub again_place : Option Entity → List Declared → Option ℕ
again_place None list = None
again_place (Some (entity.Constant bits signed)) list = None
again_place (Some (entity.Signal id range signed)) list = if (declared_at list id).again then Some id else None
again_place (Some (entity.Memory first low words range signed)) list = None
again_place (Some entity.Instance) list = None

abbrev pub repeated_place : Bool → Option ℕ → Option ℕ
repeated_place repeats place = if repeats then place else None

abbrev pub declare_at : Names → Names → Declaration → DeclaredName → Declarations → Option ℕ → Result Declarations FlatFault
declare_at brackets known k n d None = declare_new brackets known k n d
declare_at brackets known k n d (Some place) = declare_again known k n place d

-- a name with words declares no port once more
unfoldable pub declare : Names → Names → Declaration → DeclaredName → Declarations → Result Declarations FlatFault
declare brackets known k n d = declare_at brackets known k n d (repeated_place (k.repeats && is_none n.words) (again_place (lookup n.text d.names) d.list))

-- Declarations and what they say of their names

abbrev pub port_of : Dir → Port
port_of dir.Input = Input
port_of dir.InputWire = Input
port_of dir.Output = Output
port_of dir.OutputWire = Output
port_of dir.OutputReg = Output

abbrev pub is_reg : Dir → Bool
is_reg dir.Input = false
is_reg dir.InputWire = false
is_reg dir.Output = false
is_reg dir.OutputWire = false
is_reg dir.OutputReg = true

abbrev pub port_declaration : PortDeclaration → Option (ℕ × ℕ) → Declaration
port_declaration p range = record { port = port_of p.dir; variable = is_reg p.dir; repeats = false; signed = p.signed; range = range }

abbrev pub inner_declaration : Bool → Bool → Option (ℕ × ℕ) → Declaration
inner_declaration variable signed range = record { port = Inner; variable = variable; repeats = true; signed = signed; range = range }

abbrev pub integer_declaration : Declaration
integer_declaration = record { port = Inner; variable = true; repeats = false; signed = true; range = Some (31, 0) }

-- an `integer` has no words and no starting value here
abbrev pub integer_name : Identifier → DeclaredName
integer_name i = record { token = i.token; text = i.text; words = None; value = None }

abbrev pub declare_integer : Names → Names → Identifier → Declarations → Result Declarations FlatFault
declare_integer brackets known i d = declare brackets known integer_declaration (integer_name i) d

-- the range first, then each name
unfoldable pub declare_ports : Names → Names → PortDeclaration → Declarations → Result Declarations FlatFault
declare_ports brackets known p d = and_then (range_in known p.range) (λ range. each (declare brackets known (port_declaration p range)) p.names d)

unfoldable pub declare_nets : Names → Names → Bool → Option Range → List DeclaredName → Declarations → Result Declarations FlatFault
declare_nets brackets known signed range list d = and_then (range_in known range) (λ r. each (declare brackets known (inner_declaration false signed r)) list d)

unfoldable pub declare_variables : Names → Names → Bool → Option Range → List DeclaredName → Declarations → Result Declarations FlatFault
declare_variables brackets known signed range list d = and_then (range_in known range) (λ r. each (declare brackets known (inner_declaration true signed r)) list d)

unfoldable pub declare_item : Names → Names → ModuleItem → Declarations → Result Declarations FlatFault
declare_item brackets known (Ports p) d = declare_ports brackets known p d
declare_item brackets known (Nets signed range list) d = declare_nets brackets known signed range list d
declare_item brackets known (Variables signed range list) d = declare_variables brackets known signed range list d
declare_item brackets known (Integers list) d = each (declare_integer brackets known) list d
declare_item brackets known (Parameters p) d = Ok d
declare_item brackets known (Assigns pairs) d = Ok d
declare_item brackets known (Always events body token) d = Ok d
declare_item brackets known (Initial body token) d = Ok d
declare_item brackets known (Instances m token overrides list) d = Ok d

-- the declarations in the port brackets, then those among the items
unfoldable pub declarations : Names → Names → ModuleDeclaration → Declarations → Result Declarations FlatFault
declarations brackets known m d = and_then (each (declare_ports brackets known) m.groups d) (each (declare_item brackets known) m.items)
