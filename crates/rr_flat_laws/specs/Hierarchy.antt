-- What drives what in a flat design: each continuous assignment and each connected port is one driver, and there are no
-- others (IEEE 1364-2005 sections 6.1, 12.1.2 and 12.3.9.2).
use Rattle.std.specs.Prelude.{◌≡◌, ◌⊎◌, ℕ, ◌+◌, ◌<◌, ◌≤◌, true, List, [], length, Option, Some, None, get_or}
use Rattle.std.specs.List.{Contains, filter, flat_map}
use Rattle.rr_syntax.specs.Tree.{Tree, ModuleItem, ModuleDeclaration, SourceText}
use Rattle.rr_flat.specs.Plain.{Driver, Flat}
use Rattle.rr_flat.specs.Signals.{Text, signal_at}
use Rattle.rr_flat_laws.specs.Declared.{ports_of}
use Rattle.rr_flat_laws.specs.Drivers.{signal_number, Child, children_by, is_child_of, assigned_by, is_assignment, connected, Fits, driver_of_connection, is_connection, expression_of, driver_of_port, joins}
use Rattle.rr_flat_laws.specs.Names.{module_of, IsPort}

-- the top is the module with the given name; where none is given it is one that no module instantiates (section 12.1.1)
abbrev pub IsTop : SourceText → Option Text → ModuleDeclaration → Type 0
IsTop source None m = (n : ModuleDeclaration) (x : ModuleItem) (c : Child) → Contains source.modules n → Contains n.items x → Contains (children_by 0 x) c → c.module_name ≡ m.text → ⊥
IsTop source (Some name) m = m.text ≡ name

-- the drivers within an instance are its continuous assignments, in the order of the text
abbrev pub AreAssignments : SourceText → Flat → ℕ → Type 0
AreAssignments source flat i = filter (is_assignment flat i) flat.drivers ≡ flat_map (assigned_by flat i) (module_of source flat i).items

-- the children of an instance are those that its module instantiates, in the order of the text
abbrev pub AreChildren : SourceText → Flat → List Child → ℕ → Type 0
AreChildren source flat children i = filter (is_child_of i) children ≡ flat_map (children_by i) (module_of source flat i).items

-- what is connected to the ports of a child
abbrev pub connected_to : ModuleDeclaration → Child → List (Text × Tree)
connected_to m c = connected m c.text.connections

-- instance k of module m is this child: a later one than its parent, of the module that its text names; only ports are
-- connected, which are inputs and outputs; the drivers between it and other instances are its connections, in the order of
-- the text; so a port that has an expression has exactly one, and a port that has none has none
pub record IsChild (m : ModuleDeclaration) (flat : Flat) (k : ℕ) (c : Child) : Type 0 where
  pub later : c.parent < k
  pub named : m.text ≡ c.module_name
  pub only : (x : Text × Tree) → Contains (connected_to m c) x → Contains (ports_of m) x.0
  pub fits : Fits m c.text.connections
  pub ways : (p : Text) → Contains (ports_of m) p → IsPort (signal_at flat.signals (signal_number flat k p))
  pub all : filter (is_connection flat k) flat.drivers ≡ flat_map (driver_of_connection flat c.parent k) (connected_to m c)
  pub port : (p : Text) → Contains (ports_of m) p → filter (joins flat (signal_number flat k p)) flat.drivers ≡ driver_of_port flat c.parent k p (expression_of p (connected_to m c))

-- each instance is one of a module of the source; those below the top in the order of their numbers, which begin at 1, are
-- the children of all instances; the top has no connections
pub record AreConnections (source : SourceText) (flat : Flat) : Type 0 where
  pub owned : (i : ℕ) → i < length flat.owners → get_or flat.owners i 0 < length source.modules
  pub children : List Child
  pub count : length flat.owners ≡ length children + 1
  pub each : (i : ℕ) → i < length flat.owners → AreChildren source flat children i
  pub child : (j : ℕ) (d : Child) → j < length children → IsChild (module_of source flat (j + 1)) flat (j + 1) (get_or children j d)
  pub top : filter (is_connection flat 0) flat.drivers ≡ []

-- a continuous assignment of an instance, or a connection of one below the top
abbrev pub IsDue : Flat → Driver → Type 0
IsDue flat d = ((i : ℕ) × ((i < length flat.owners) × (is_assignment flat i d ≡ true))) ⊎ ((k : ℕ) × ((1 ≤ k) × ((k < length flat.owners) × (is_connection flat k d ≡ true))))
