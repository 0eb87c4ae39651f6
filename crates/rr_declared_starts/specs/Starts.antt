-- What the declarations of a module give its variables to begin with (IEEE 1364-2005 sections 4.9.3, 6.2.1 and 12.3.3).
use Rattle.std.specs.Prelude.{◌≡◌, ℕ, ◌<◌, List, [], ◌∷◌, ◌++◌, length, map, All, Option, Some, None, Ok, true, false}
use Rattle.std.specs.List.{flat_map, IsDistinct}
use Rattle.std.specs.Str.{bytes_eq}
use Rattle.rr_syntax.specs.declared.tree.Dir.{Dir}
use Rattle.rr_syntax.specs.declared.tree.Dir.TheVariants as dir
use Rattle.rr_syntax.specs.Tree.{Tree, Range, DeclaredName, PortDeclaration, ModuleItem, Ports, Nets, Variables, Integers, Parameters, Assigns, Always, Initial, Instances, ModuleDeclaration, SourceText}
use Rattle.rr_expr.specs.Scopes.{Names, meant, range_width}
use Rattle.rr_expr.specs.Faults.{fault}
use Rattle.rr_flat.specs.Plain.{Flat}
use Rattle.rr_flat.specs.Signals.{Text, Signal, signal_at}
use Rattle.rr_flat.specs.Writers.{scope_at, entity_of_signal}
use Rattle.rr_starts.specs.Starts.{start_of}
use Rattle.rr_declarations.specs.Values.{range_in}
use Rattle.rr_flat_laws.specs.Declared.{DeclaresAs}
use Rattle.rr_flat_laws.specs.Names.{module_of, IsSignalOf}

-- Declarations with a value

-- a variable that a declaration with this range gives a value to begin with
pub record Valued : Type 0 where
  pub name : Text
  pub range : Option Range
  pub value : Tree

abbrev pub value_of : Option Range → Text → Option Tree → List Valued
value_of range name None = []
value_of range name (Some t) = record { name = name; range = range; value = t } ∷ []

abbrev pub values_in : Option Range → List DeclaredName → List Valued
values_in range list = flat_map (λ n. value_of range n.text n.value) list

-- of the ports an `output reg` alone is a variable
abbrev pub values_by : Dir → Option Range → List DeclaredName → List Valued
values_by dir.Input range list = []
values_by dir.InputWire range list = []
values_by dir.Output range list = []
values_by dir.OutputWire range list = []
values_by dir.OutputReg range list = values_in range list

abbrev pub port_values : PortDeclaration → List Valued
port_values p = values_by p.dir p.range p.names

-- the value of a net drives it (section 6.1.1)
abbrev pub item_values : ModuleItem → List Valued
item_values (Ports p) = port_values p
item_values (Nets signed range list) = []
item_values (Variables signed range list) = values_in range list
item_values (Integers list) = []
item_values (Parameters p) = []
item_values (Assigns pairs) = []
item_values (Always events body token) = []
item_values (Initial body token) = []
item_values (Instances m token overrides list) = []

-- those of a module, in its port brackets and among its items
abbrev pub values_of : ModuleDeclaration → List Valued
values_of m = flat_map port_values m.groups ++ flat_map item_values m.items

abbrev pub names_in : List Valued → List Text
names_in values = map (λ v. v.name) values

-- Signals

-- a signal has the range of that declaration, and begins with the value as the right side of an assignment to it, where names
-- have these meanings; no signal stands in the value
pub record BeginsAs (scope : Names) (v : Valued) (s : Signal) : Type 0 where
  pub ranged : range_in scope v.range ≡ Ok s.range
  pub constant : fault scope v.value true ≡ None
  pub begins : s.start ≡ start_of scope (range_width s.range) v.value

-- its name stands in instance i for a signal that begins so
pub record IsOneBegun (flat : Flat) (i : ℕ) (v : Valued) : Type 0 where
  pub id : ℕ
  pub is : IsSignalOf flat i v.name id
  pub means : meant (scope_at flat i) v.name ≡ entity_of_signal flat id
  pub begins : BeginsAs (scope_at flat i) v (signal_at flat.signals id)

-- so it is where module m declares it without words; each signal of that name begins so, as each word would
pub record IsGiven (m : ModuleDeclaration) (flat : Flat) (i : ℕ) (v : Valued) : Type 0 where
  pub one : DeclaresAs m false v.name → IsOneBegun flat i v
  pub each : (id : ℕ) → IsSignalOf flat i v.name id → BeginsAs (scope_at flat i) v (signal_at flat.signals id)

-- a signal begins with 0 where none of these declarations is one of its name
abbrev pub IsElseZero : List Valued → Signal → Type 0
IsElseZero values s = All (λ v. v.name ≡ s.name → ⊥) values → s.start ≡ 0

abbrev pub values_at : SourceText → Flat → ℕ → List Valued
values_at source flat i = values_of (module_of source flat i)

-- in each instance each variable that its module declares with a value begins with it, and each other signal, as the words of
-- memories are, with 0; no name is given two values
pub record AreStarts (source : SourceText) (flat : Flat) : Type 0 where
  pub given : (i : ℕ) → i < length flat.owners → All (IsGiven (module_of source flat i) flat i) (values_at source flat i)
  pub once : (i : ℕ) → i < length flat.owners → IsDistinct bytes_eq (names_in (values_at source flat i))
  pub none : (id : ℕ) → id < length flat.signals → IsElseZero (values_at source flat (signal_at flat.signals id).instance) (signal_at flat.signals id)
