-- The overwrite sites of a module: for the body of each `always`, the variables that a last assignment may write.
use Rattle.std.specs.Prelude.{ℕ, Bool, true, false, not, ◌&&◌, ◌||◌, List, [], ◌∷◌, ◌++◌, length, map, filter, flat_map, nat_eq, Option, Some, None}
use Rattle.std.specs.List.{list_any}
use Rattle.std.specs.Str.{bytes_eq}
use Rattle.rr_syntax.specs.declared.tree.Dir.{Dir}
use Rattle.rr_syntax.specs.declared.tree.Dir.TheVariants as dir
use Rattle.rr_syntax.specs.Tree.{Identifier, Range, PortDeclaration, Statement, ModuleItem, Ports, Nets, Variables, Integers, Parameters, Assigns, Always, Initial, Instances, ModuleDeclaration}
use Rattle.rr_expr.specs.Scopes.{Names, meant, entity_shape}
use Rattle.rr_flat.specs.Reads.{Assigned, assigned_by, names_in}
use Rattle.rr_flat.specs.Signals.{Text}
use Rattle.rr_instance.specs.Firsts.{first_token}
use Rattle.rr_choice.specs.Sites as sites
use Rattle.rr_choice.specs.Sites.{Site}
use Rattle.rr_change_places.specs.Spots.{Spot, Body, Test, Value, is_clocked, spots_of_item}
use Rattle.rr_guard.specs.Names.{net_name, wordless_name, names_at, whole_name}

-- Targets

-- a variable that is assigned as a whole, by `=` where `now`
pub record Target : Type 0 where
  pub text : Text
  pub now : Bool

abbrev pub target_if : Option Text → Bool → List Target
target_if None now = []
target_if (Some name) now = (record { text = name; now = now }) ∷ []

abbrev pub whole_target : Assigned → List Target
whole_target a = target_if (whole_name a.part) a.now

-- each variable once, at its first whole target
unfoldable pub first_targets : List Target → List Target
first_targets [] = []
first_targets (x ∷ xs) = x ∷ filter (λ y. not (bytes_eq y.text x.text)) (first_targets xs)

-- the variables that stand as whole targets in a statement, in no loop of it, in the order of their first such targets; the
-- parts of a concatenated target count as targets (IEEE 1364-2005 section 9.2)
unfoldable pub targets_of : Statement → List Target
targets_of s = first_targets (flat_map whole_target (assigned_by s))

-- Declarations

-- a range in which a name stands, which is that of a parameter (section 3.3.1)
abbrev pub is_open : Option Range → Bool
is_open None = false
is_open (Some r) = not (nat_eq (length (names_in r.left ++ names_in r.right)) 0)

abbrev pub is_in : Text → List Identifier → Bool
is_in name list = list_any (λ (x : Identifier). bytes_eq name x.text) list

abbrev pub port_opens : Text → PortDeclaration → Bool
port_opens name p = is_open p.range && is_in name (map net_name p.names)

-- a declaration of a name as `integer`, or with such a range and no words
unfoldable pub item_opens : Text → ModuleItem → Bool
item_opens name (Ports p) = port_opens name p
item_opens name (Nets signed range list) = is_open range && is_in name (map net_name list)
item_opens name (Variables signed range list) = is_open range && is_in name (flat_map wordless_name list)
item_opens name (Integers list) = is_in name list
item_opens name (Parameters p) = false
item_opens name (Assigns pairs) = false
item_opens name (Always events body token) = false
item_opens name (Initial s token) = false
item_opens name (Instances m token overrides list) = false

abbrev pub is_reg : Dir → Bool
is_reg dir.Input = false
is_reg dir.InputWire = false
is_reg dir.Output = false
is_reg dir.OutputWire = false
is_reg dir.OutputReg = true

-- a declaration of a name by `reg`; a memory, which has words, is never assigned as a whole (section 4.9.3)
abbrev pub port_sets : Text → PortDeclaration → Bool
port_sets name p = is_reg p.dir && is_in name (map net_name p.names)

unfoldable pub item_sets : Text → ModuleItem → Bool
item_sets name (Ports p) = port_sets name p
item_sets name (Nets signed range list) = false
item_sets name (Variables signed range list) = is_in name (flat_map wordless_name list)
item_sets name (Integers list) = false
item_sets name (Parameters p) = false
item_sets name (Assigns pairs) = false
item_sets name (Always events body token) = false
item_sets name (Initial s token) = false
item_sets name (Instances m token overrides list) = false

abbrev pub is_variable : ModuleDeclaration → Text → Bool
is_variable m name = list_any (port_sets name) m.groups || list_any (item_sets name) m.items

-- a variable that is no `integer` and has no range that names a parameter
abbrev pub may_overwrite : ModuleDeclaration → Target → Bool
may_overwrite m t = is_variable m t.text && (not (list_any (port_opens t.text) m.groups) && not (list_any (item_opens t.text) m.items))

-- Sites

-- the width of a variable in one instance of the module
abbrev pub width_in : Names → Text → ℕ
width_in scope name = (entity_shape (meant scope name)).width

abbrev pub overwrite_of : ℕ → Names → List Text → Statement → Target → Site
overwrite_of owner scope names s t = record { kind = sites.Overwrite owner t.text (width_in scope t.text) t.now names; token = first_token s }

-- the overwrites of a body in the module with this number, where `names` tells the names at each token
abbrev pub overwrites_of : ModuleDeclaration → ℕ → Names → (ℕ → List Text) → Spot → List Site
overwrites_of m owner scope names (Body s) = map (overwrite_of owner scope (names (first_token s)) s) (filter (may_overwrite m) (targets_of s))
overwrites_of m owner scope names (Test t) = []
overwrites_of m owner scope names (Value token n) = []

-- the same with the names of the module's clock, in a clocked block or elsewhere
abbrev pub overwrites_at : ModuleDeclaration → ℕ → Names → List Text → Bool → Spot → List Site
overwrites_at m owner scope clocks clocked spot = overwrites_of m owner scope (names_at m clocks clocked) spot

-- in the order of the text, with the widths of one instance
unfoldable pub overwrite_sites : ModuleDeclaration → ℕ → Names → List Text → List Site
overwrite_sites m owner scope clocks = flat_map (λ x. flat_map (overwrites_at m owner scope clocks (is_clocked x)) (spots_of_item x)) m.items
