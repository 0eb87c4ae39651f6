-- The names that a guard may be at a token of a module.
use Rattle.std.specs.Prelude.{ℕ, Bool, false, not, ◌&&◌, ◌||◌, if◌then◌else◌, List, [], ◌∷◌, ◌++◌, map, filter, take, flat_map, fold, nat_lt, Option, Some, None}
use Rattle.std.specs.List.{list_any}
use Rattle.std.specs.Str.{bytes_eq}
use Rattle.rr_syntax.specs.Tree.{Tree, Name, Literal, Bit, Part, Indexed, Unary, Binary, Cond, Concat, Repeat, Cast, Paren, Identifier, Range, PortDeclaration, DeclaredName, ModuleItem, Ports, Nets, Variables, Integers, Parameters, Assigns, Always, Initial, Instances, ModuleDeclaration}
use Rattle.rr_flat.specs.Reads.{Assigned, assigned_by}
use Rattle.rr_flat.specs.Signals.{Text}
use Rattle.rr_flat.specs.Targets.{part_name}
use Rattle.rr_change_places.specs.Spots.{has_edges}
use Rattle.rr_guard.specs.Anywhere.{anywhere_at_edges}

-- Declarations

-- names are scalars where no range stands
abbrev pub scalars_if : Option Range → List Identifier → List Identifier
scalars_if None names = names
scalars_if (Some r) names = []

-- the name of a declared net or variable
abbrev pub net_name : DeclaredName → Identifier
net_name n = record { token = n.token; text = n.text }

-- a variable with words is a memory, no scalar (section 4.9.3)
abbrev pub unless_words : Option Range → Identifier → List Identifier
unless_words None x = x ∷ []
unless_words (Some r) x = []

abbrev pub wordless_name : DeclaredName → List Identifier
wordless_name n = unless_words n.words (net_name n)

abbrev pub port_scalars : PortDeclaration → List Identifier
port_scalars p = scalars_if p.range (map net_name p.names)

unfoldable pub item_scalars : ModuleItem → List Identifier
item_scalars (Ports p) = port_scalars p
item_scalars (Nets signed range list) = scalars_if range (map net_name list)
item_scalars (Variables signed range list) = scalars_if range (flat_map wordless_name list)
item_scalars (Integers list) = []
item_scalars (Parameters p) = []
item_scalars (Assigns pairs) = []
item_scalars (Always events body token) = []
item_scalars (Initial s token) = []
item_scalars (Instances m token overrides list) = []

-- the inputs, nets and variables of a module that are declared without a range, not as `integer` and as no memory, in the order
-- of their declarations
unfoldable pub scalars : ModuleDeclaration → List Identifier
scalars m = flat_map port_scalars m.groups ++ flat_map item_scalars m.items

abbrev pub texts_of : List Identifier → List Text
texts_of names = map (λ x. x.text) names

-- each name once, at its first declaration
abbrev pub with_first : List Identifier → Identifier → List Identifier
with_first list x = if list_any (λ (y : Identifier). bytes_eq y.text x.text) list then list else list ++ x ∷ []

unfoldable pub firsts : List Identifier → List Identifier
firsts xs = fold with_first [] xs

-- Clocked blocks

-- what an `always` with edges assigns outside its loops
unfoldable pub assigned_at_edges : ModuleItem → List Assigned
assigned_at_edges (Ports p) = []
assigned_at_edges (Nets signed range list) = []
assigned_at_edges (Variables signed range list) = []
assigned_at_edges (Integers list) = []
assigned_at_edges (Parameters p) = []
assigned_at_edges (Assigns pairs) = []
assigned_at_edges (Always events body token) = if has_edges events then assigned_by body else []
assigned_at_edges (Initial s token) = []
assigned_at_edges (Instances m token overrides list) = []

-- the name that a target is as a whole
abbrev pub whole_name : Tree → Option Text
whole_name (Name token x) = Some x
whole_name (Literal token n) = None
whole_name (Bit token x i) = None
whole_name (Part token x l r) = None
whole_name (Indexed token x f n up) = None
whole_name (Unary op t) = None
whole_name (Binary op l r) = None
whole_name (Cond a b c) = None
whole_name (Concat ts) = None
whole_name (Repeat n ts) = None
whole_name (Cast signed t) = None
whole_name (Paren t) = None

abbrev pub is_text : Text → Option Text → Bool
is_text name None = false
is_text name (Some x) = bytes_eq x name

-- a name, or a part of it, by `=`
abbrev pub is_now : Text → Assigned → Bool
is_now name a = a.now && bytes_eq (part_name a.part) name

-- a whole name by `<=`; no part of a scalar is ever written
abbrev pub is_later : Text → Assigned → Bool
is_later name a = not a.now && is_text name (whole_name a.part)

-- whether a clocked block of a module writes a name so: by `=` in a loop or outside, by `<=` outside its loops
abbrev pub writes_now : ModuleDeclaration → Text → Bool
writes_now m name = list_any (is_now name) (flat_map anywhere_at_edges m.items)

abbrev pub writes_later : ModuleDeclaration → Text → Bool
writes_later m name = list_any (is_later name) (flat_map assigned_at_edges m.items)

-- Names of guards

-- a name that is the clock in no instance of the module, by the list of those that are, and that no clocked block writes by
-- `=`; outside clocked blocks one of these writes it by `<=`
abbrev pub may_guard : ModuleDeclaration → List Text → Bool → Text → Bool
may_guard m clocks clocked name = not (list_any (bytes_eq name) clocks) && (not (writes_now m name) && (clocked || writes_later m name))

-- the names that a guard may be in a clocked block, or elsewhere, in the order of their declarations
unfoldable pub guard_names : ModuleDeclaration → List Text → Bool → List Identifier
guard_names m clocks clocked = filter (λ x. may_guard m clocks clocked x.text) (firsts (scalars m))

abbrev pub is_before : ℕ → Identifier → Bool
is_before token x = nat_lt x.token token

-- the first 64 of a list that are declared before a token
unfoldable pub first_names : List Identifier → ℕ → List Text
first_names list token = take 64 (texts_of (filter (is_before token) list))

-- the names that a guard may be at a token
abbrev pub names_at : ModuleDeclaration → List Text → Bool → ℕ → List Text
names_at m clocks clocked token = first_names (guard_names m clocks clocked) token
