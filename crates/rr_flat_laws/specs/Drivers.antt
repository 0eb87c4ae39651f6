-- The continuous assignments of an instance, and the connections of its ports (IEEE 1364-2005 sections 6.1 and 12.3).
use Rattle.std.specs.Prelude.{ℕ, Bool, false, not, ◌&&◌, List, [], ◌∷◌, map, Option, Some, None, nat_eq, if◌then◌else◌}
use Rattle.std.specs.List.{flat_map}
use Rattle.std.specs.Str.{bytes_eq}
use Rattle.rr_syntax.specs.Tree.{Tree, Trees, End, More, DeclaredName, NetAssignment, NamedConnection, Connections, Positions, ModuleInstance, ModuleItem, Ports, Nets, Variables, Integers, Parameters, Assigns, Always, Initial, Instances, ModuleDeclaration}
use Rattle.rr_syntax.specs.Tree.{Names as Named}
use Rattle.rr_expr.specs.Faults.{first}
use Rattle.rr_expr.specs.Scopes.{lookup}
use Rattle.rr_expr.specs.declared.types.Entity.{Entity}
use Rattle.rr_expr.specs.declared.types.Entity.TheVariants as entity
use Rattle.rr_flat.specs.declared.signal.Port.{Port}
use Rattle.rr_flat.specs.declared.signal.Port.TheVariants.{Inner, Input, Output}
use Rattle.rr_flat.specs.Plain.{Side, Written, Whole, Driver, Flat}
use Rattle.rr_flat.specs.Signals.{Text, signal_at}
use Rattle.rr_flat.specs.Writers.{scope_at}
use Rattle.rr_flat_laws.specs.Declared.{ports_of}

-- the instance of a signal
abbrev pub signal_instance : Flat → ℕ → ℕ
signal_instance flat id = (signal_at flat.signals id).instance

abbrev pub number_in : Option Entity → ℕ
number_in None = 0
number_in (Some (entity.Constant bits signed)) = 0
number_in (Some (entity.Signal id range signed)) = id
number_in (Some (entity.Memory first low words range signed)) = 0
number_in (Some entity.Instance) = 0

-- the number of the signal that a name of an instance stands for
abbrev pub signal_number : Flat → ℕ → Text → ℕ
signal_number flat i name = number_in (lookup name (scope_at flat i))

-- Continuous assignments

-- `assign target = value` in instance i (section 6.1.2)
abbrev pub driver_of_pair : ℕ → NetAssignment → Driver
driver_of_pair i p = record { target = Written p.target i; value = Written p.value i; token = first p.target }

-- a net that is declared with a value in instance i (section 6.1.1)
abbrev pub driver_of_value : Flat → ℕ → DeclaredName → Option Tree → List Driver
driver_of_value flat i n None = []
driver_of_value flat i n (Some t) = record { target = Whole (signal_number flat i n.text); value = Written t i; token = n.token } ∷ []

abbrev pub driver_of_net : Flat → ℕ → DeclaredName → List Driver
driver_of_net flat i n = driver_of_value flat i n n.value

-- the continuous assignments of an item of instance i, in the order of the text
abbrev pub assigned_by : Flat → ℕ → ModuleItem → List Driver
assigned_by flat i (Ports p) = []
assigned_by flat i (Nets signed range list) = flat_map (driver_of_net flat i) list
assigned_by flat i (Variables signed range list) = []
assigned_by flat i (Integers list) = []
assigned_by flat i (Parameters p) = []
assigned_by flat i (Assigns pairs) = map (driver_of_pair i) pairs
assigned_by flat i (Always events body token) = []
assigned_by flat i (Initial body token) = []
assigned_by flat i (Instances m token overrides list) = []

-- a driver within instance i: from a text there to a text there, or to a net of it
abbrev pub is_within : Flat → ℕ → Side → Side → Bool
is_within flat i (Written t j) (Written v k) = nat_eq j i && nat_eq k i
is_within flat i (Whole id) (Written v k) = nat_eq (signal_instance flat id) i && nat_eq k i
is_within flat i (Written t j) (Whole id) = false
is_within flat i (Whole x) (Whole id) = false

abbrev pub is_assignment : Flat → ℕ → Driver → Bool
is_assignment flat i d = is_within flat i d.target d.value

-- Connections

-- an instance below the top: the instance in which it stands, the name of its module, and its text (section 12.1.2)
pub record Child : Type 0 where
  pub parent : ℕ
  pub module_name : Text
  pub text : ModuleInstance

-- the instances that an item of instance i makes, in the order of the text
abbrev pub children_by : ℕ → ModuleItem → List Child
children_by i (Ports p) = []
children_by i (Nets signed range list) = []
children_by i (Variables signed range list) = []
children_by i (Integers list) = []
children_by i (Parameters p) = []
children_by i (Assigns pairs) = []
children_by i (Always events body token) = []
children_by i (Initial body token) = []
children_by i (Instances m token overrides list) = map (λ x. record { parent = i; module_name = m; text = x }) list

abbrev pub is_child_of : ℕ → Child → Bool
is_child_of i c = nat_eq c.parent i

-- the ports that have an expression, by position in the order of the ports (section 12.3.5)
unfoldable pub connected_in_order : List Text → Trees → List (Text × Tree)
connected_in_order ports End = []
connected_in_order [] (More t ts) = []
connected_in_order (p ∷ ps) (More t ts) = (p, t) ∷ connected_in_order ps ts

-- each expression stands at the place of a port
unfoldable pub HavePorts : List Text → Trees → Type 0
HavePorts ports End = Unit {0}
HavePorts [] (More t ts) = ⊥
HavePorts (p ∷ ps) (More t ts) = HavePorts ps ts

abbrev pub connected_value : Text → Option Tree → List (Text × Tree)
connected_value name None = []
connected_value name (Some t) = (name, t) ∷ []

abbrev pub connected_name : NamedConnection → List (Text × Tree)
connected_name n = connected_value n.text n.value

-- or by name (section 12.3.6)
abbrev pub connected : ModuleDeclaration → Connections → List (Text × Tree)
connected m (Positions ts) = connected_in_order (ports_of m) ts
connected m (Named list) = flat_map connected_name list

-- no expression is too many
abbrev pub Fits : ModuleDeclaration → Connections → Type 0
Fits m (Positions ts) = HavePorts (ports_of m) ts
Fits m (Named list) = Unit {0}

-- from an expression of instance i to an input, from an output to the expression (section 12.3.9.2)
abbrev pub port_driver : Port → ℕ → ℕ → Tree → List Driver
port_driver Inner id i t = []
port_driver Input id i t = record { target = Whole id; value = Written t i; token = first t } ∷ []
port_driver Output id i t = record { target = Written t i; value = Whole id; token = first t } ∷ []

-- the driver of a connected port of instance k
abbrev pub driver_of_connection : Flat → ℕ → ℕ → Text × Tree → List Driver
driver_of_connection flat i k c = port_driver (signal_at flat.signals (signal_number flat k c.0)).port (signal_number flat k c.0) i c.1

-- a driver between a signal of instance k and a text of another instance
abbrev pub is_between : Flat → ℕ → Side → Side → Bool
is_between flat k (Written t j) (Written v i) = false
is_between flat k (Whole id) (Written v i) = nat_eq (signal_instance flat id) k && not (nat_eq i k)
is_between flat k (Written t i) (Whole id) = nat_eq (signal_instance flat id) k && not (nat_eq i k)
is_between flat k (Whole x) (Whole id) = false

abbrev pub is_connection : Flat → ℕ → Driver → Bool
is_connection flat k d = is_between flat k d.target d.value

-- Ports one by one

-- the expression that is connected to a port, if there is one
unfoldable pub expression_of : Text → List (Text × Tree) → Option Tree
expression_of port [] = None
expression_of port (c ∷ cs) = if bytes_eq port c.0 then Some c.1 else expression_of port cs

-- its driver, or none
abbrev pub driver_of_port : Flat → ℕ → ℕ → Text → Option Tree → List Driver
driver_of_port flat i k port None = []
driver_of_port flat i k port (Some t) = driver_of_connection flat i k (port, t)

-- a driver between a signal and a text of another instance than its own
abbrev pub is_joined : Flat → ℕ → Side → Side → Bool
is_joined flat id (Written t j) (Written v i) = false
is_joined flat id (Whole x) (Written v i) = nat_eq x id && not (nat_eq i (signal_instance flat id))
is_joined flat id (Written t i) (Whole x) = nat_eq x id && not (nat_eq i (signal_instance flat id))
is_joined flat id (Whole x) (Whole y) = false

abbrev pub joins : Flat → ℕ → Driver → Bool
joins flat id d = is_joined flat id d.target d.value
