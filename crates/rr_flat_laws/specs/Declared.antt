-- What a module declares (IEEE 1364-2005 sections 3.2, 3.9, 4.9.3 and 12.3).
use Rattle.std.specs.Prelude.{◌⊎◌, Bool, false, List, [], ◌++◌, map, Option, Some, None, is_some}
use Rattle.std.specs.List.{Contains, flat_map}
use Rattle.rr_syntax.specs.declared.tree.Dir.{Dir}
use Rattle.rr_syntax.specs.declared.tree.Dir.TheVariants as dir
use Rattle.rr_syntax.specs.Tree.{Identifier, DeclaredName, PortDeclaration, ModuleItem, Ports, Nets, Variables, Integers, Parameters, Assigns, Always, Initial, Instances, ModuleDeclaration}
use Rattle.rr_flat.specs.declared.signal.Port.{Port}
use Rattle.rr_flat.specs.declared.signal.Port.TheVariants.{Input, Output}
use Rattle.rr_flat.specs.Signals.{Text}

abbrev pub texts_of : List Identifier → List Text
texts_of list = map (λ i. i.text) list

abbrev pub names_of : List DeclaredName → List Text
names_of list = map (λ n. n.text) list

abbrev pub ports_by : PortDeclaration → List Text
ports_by p = names_of p.names

-- the nets and variables that an item declares (IEEE 1364-2005 sections 3.2, 3.9 and 12.3.3)
abbrev pub declared_by : ModuleItem → List Text
declared_by (Ports p) = ports_by p
declared_by (Nets signed range list) = names_of list
declared_by (Variables signed range list) = names_of list
declared_by (Integers list) = texts_of list
declared_by (Parameters p) = []
declared_by (Assigns pairs) = []
declared_by (Always events body token) = []
declared_by (Initial body token) = []
declared_by (Instances m token overrides list) = []

-- a name, and whether it stands for a memory: of the names that are declared the variables alone have words (section 4.9.3)
abbrev pub single : DeclaredName → Text × Bool
single n = (n.text, false)

abbrev pub sorted : DeclaredName → Text × Bool
sorted n = (n.text, is_some n.words)

abbrev pub single_integer : Identifier → Text × Bool
single_integer i = (i.text, false)

abbrev pub sorts_by : ModuleItem → List (Text × Bool)
sorts_by (Ports p) = map single p.names
sorts_by (Nets signed range list) = map single list
sorts_by (Variables signed range list) = map sorted list
sorts_by (Integers list) = map single_integer list
sorts_by (Parameters p) = []
sorts_by (Assigns pairs) = []
sorts_by (Always events body token) = []
sorts_by (Initial body token) = []
sorts_by (Instances m token overrides list) = []

-- a port declaration of a module, in its port brackets or among its items (section 12.3.3)
abbrev pub HasDeclaration : ModuleDeclaration → PortDeclaration → Type 0
HasDeclaration m p = Contains m.groups p ⊎ Contains m.items (Ports p)

-- its ports are inputs, or outputs
abbrev pub way_of : Dir → Port
way_of dir.Input = Input
way_of dir.InputWire = Input
way_of dir.Output = Output
way_of dir.OutputWire = Output
way_of dir.OutputReg = Output

-- a net or a variable of a module: its port brackets declare it, or an item does (section 12.3.4)
abbrev pub Declares : ModuleDeclaration → Text → Type 0
Declares m name =
    ((p : PortDeclaration) × (Contains m.groups p × Contains (ports_by p) name)) ⊎ ((x : ModuleItem) × (Contains m.items x × Contains (declared_by x) name))

-- it does so as a memory, or else as one signal
abbrev pub DeclaresAs : ModuleDeclaration → Bool → Text → Type 0
DeclaresAs m memory name =
    ((p : PortDeclaration) × (Contains m.groups p × Contains (map single p.names) (name, memory))) ⊎ ((x : ModuleItem) × (Contains m.items x × Contains (sorts_by x) (name, memory)))

abbrev pub plain_ports : Option (List Identifier) → List Text
plain_ports None = []
plain_ports (Some list) = texts_of list

-- the ports of a module in the order of its port brackets, which have plain names or declarations (section 12.3.2)
abbrev pub ports_of : ModuleDeclaration → List Text
ports_of m = plain_ports m.header ++ flat_map ports_by m.groups
