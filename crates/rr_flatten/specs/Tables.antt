-- The modules of a source, and the parameters and ports of a module, by name (IEEE 1364-2005 sections 12.1 to 12.3).
use Rattle.std.specs.Prelude.{ℕ, ◌+◌, Bool, false, List, [], ◌∷◌, ◌++◌, length, fold, Option, Some, None, Result, is_some, if◌then◌else◌}
use Rattle.rr_syntax.specs.Tree.{Identifier, DeclaredName, ParamAssignment, ParameterDeclaration, PortDeclaration, ModuleItem, Ports, Nets, Variables, Integers, Parameters, Assigns, Always, Initial, Instances, ModuleDeclaration}
use Rattle.rr_expr.specs.Scopes.{Names, lookup}
use Rattle.rr_expr.specs.declared.types.Entity.{Entity}
use Rattle.rr_expr.specs.declared.types.Entity.TheVariants as entity
use Rattle.rr_flat.specs.Signals.{Text}
use Rattle.rr_flat.specs.Faults.{first_fault_or, fault_if}
use Rattle.rr_flat.specs.Signals.{with_name}
use Rattle.rr_declarations.specs.Declarations.{plain_names}
use Rattle.rr_flat.specs.declared.fault.FlatFault.{FlatFault}
use Rattle.rr_flat.specs.declared.fault.FlatFault.TheVariants.{NameTwice}

-- a table gives names their places
abbrev pub at_place : Names → Text → ℕ → Names
at_place table name place = with_name table name (entity.Signal place None false)

abbrev pub place_of : Option Entity → Option ℕ
place_of None = None
place_of (Some (entity.Constant bits signed)) = None
place_of (Some (entity.Signal id range signed)) = Some id
place_of (Some (entity.Memory first low words range signed)) = None
place_of (Some entity.Instance) = None

-- a second module of a name
unfoldable pub add_module : ModuleDeclaration → Names → Result Names FlatFault
add_module m table = first_fault_or (fault_if (is_some (lookup m.text table)) (NameTwice m.token)) (at_place table m.text (length table))

-- the names of the modules that a module instantiates
unfoldable pub instantiated_by_item : Names → ModuleItem → Names
instantiated_by_item names (Ports p) = names
instantiated_by_item names (Nets signed range list) = names
instantiated_by_item names (Variables signed range list) = names
instantiated_by_item names (Integers list) = names
instantiated_by_item names (Parameters p) = names
instantiated_by_item names (Assigns pairs) = names
instantiated_by_item names (Always events body token) = names
instantiated_by_item names (Initial body token) = names
instantiated_by_item names (Instances m token overrides list) = at_place names m 0

unfoldable pub instantiated_by : Names → ModuleDeclaration → Names
instantiated_by names m = fold instantiated_by_item names m.items

-- the last module, from the one with number k on, that is not instantiated
unfoldable pub last_free : Names → ℕ → List ModuleDeclaration → Option ℕ → Option ℕ
last_free names k [] found = found
last_free names k (m ∷ ms) found = last_free names (k + 1) ms (if is_some (lookup m.text names) then found else Some k)

-- parameters in order, each with the mark of a `localparam`
abbrev pub add_parameter_name : Bool → Names → ParamAssignment → Names
add_parameter_name local table a = with_name table a.text (entity.Signal 0 None local)

unfoldable pub add_parameter_names : Names → ParameterDeclaration → Names
add_parameter_names table p = fold (add_parameter_name p.local) table p.sets

unfoldable pub add_item_parameter_names : Names → ModuleItem → Names
add_item_parameter_names table (Ports p) = table
add_item_parameter_names table (Nets signed range list) = table
add_item_parameter_names table (Variables signed range list) = table
add_item_parameter_names table (Integers list) = table
add_item_parameter_names table (Parameters p) = add_parameter_names table p
add_item_parameter_names table (Assigns pairs) = table
add_item_parameter_names table (Always events body token) = table
add_item_parameter_names table (Initial body token) = table
add_item_parameter_names table (Instances m token overrides list) = table

unfoldable pub parameter_table : ModuleDeclaration → Names
parameter_table m = fold add_item_parameter_names (fold add_parameter_names [] m.params) m.items

-- the names of the parameters that positions override, in order
abbrev pub add_open_name : List Text → ParamAssignment → List Text
add_open_name names a = names ++ a.text ∷ []

unfoldable pub add_open_names : List Text → ParameterDeclaration → List Text
add_open_names names p = if p.local then names else fold add_open_name names p.sets

unfoldable pub add_item_open_names : List Text → ModuleItem → List Text
add_item_open_names names (Ports p) = names
add_item_open_names names (Nets signed range list) = names
add_item_open_names names (Variables signed range list) = names
add_item_open_names names (Integers list) = names
add_item_open_names names (Parameters p) = add_open_names names p
add_item_open_names names (Assigns pairs) = names
add_item_open_names names (Always events body token) = names
add_item_open_names names (Initial body token) = names
add_item_open_names names (Instances m token overrides list) = names

unfoldable pub open_names : ModuleDeclaration → List Text
open_names m = fold add_item_open_names (fold add_open_names [] m.params) m.items

-- the names of the ports in the order of the brackets
abbrev pub add_port_name : List Text → Identifier → List Text
add_port_name names i = names ++ i.text ∷ []

abbrev pub add_declarator_name : List Text → DeclaredName → List Text
add_declarator_name names n = names ++ n.text ∷ []

unfoldable pub add_port_names : List Text → PortDeclaration → List Text
add_port_names names p = fold add_declarator_name names p.names

unfoldable pub port_names : ModuleDeclaration → List Text
port_names m = fold add_port_names (fold add_port_name [] (plain_names m.header)) m.groups

-- a set of names
abbrev pub add_text : Names → Text → Names
add_text table name = at_place table name 0

unfoldable pub name_set : List Text → Names
name_set names = fold add_text [] names
