-- Parameters of a module (IEEE 1364-2005 sections 4.10 and 12.2).
use Rattle.std.specs.Prelude.{ℕ, Bool, true, List, [], ◌++◌, Option, Some, None, Result, Ok, is_some, nat_lt, ◌||◌, if◌then◌else◌}
use Rattle.rr_bits.specs.Words.{extend}
use Rattle.rr_syntax.specs.Tree.{ParamAssignment, ParameterDeclaration, ModuleItem, Ports, Nets, Variables, Integers, Parameters, Assigns, Always, Initial, Instances, ModuleDeclaration}
use Rattle.rr_expr.specs.Scopes.{Names, lookup, range_width}
use Rattle.rr_expr.specs.declared.types.Entity.{Entity}
use Rattle.rr_expr.specs.declared.types.Entity.TheVariants.{Constant, Signal, Memory, Instance}
use Rattle.rr_flat.specs.declared.fault.FlatFault.{FlatFault}
use Rattle.rr_flat.specs.declared.fault.FlatFault.TheVariants.{NameTwice, TooWide}
use Rattle.rr_flat.specs.Faults.{fault_if, among, and_then, each}
use Rattle.rr_declarations.specs.Values.{constant, range_in}
use Rattle.rr_flat.specs.Signals.{with_name}

-- the value with which an instance overrides a parameter, else its own
abbrev pub given_or : Option Entity → List Bool × Bool → List Bool × Bool
given_or None own = own
given_or (Some (Constant bits signed)) own = (bits, signed)
given_or (Some (Signal id range signed)) own = own
given_or (Some (Memory first low words range signed)) own = own
given_or (Some Instance) own = own

-- a `localparam` is not overridden
abbrev pub override_of : Bool → Option Entity → Option Entity
override_of local given = if local then None else given

-- with a range the value is converted to it; without one the width is the value's, and so is the sign where
-- `signed` does not stand
abbrev pub typed : Bool → Option (ℕ × ℕ) → List Bool × Bool → Entity
typed signed None v = Constant v.0 (signed || v.1)
typed signed (Some r) v = Constant (extend (range_width (Some r)) v.1 v.0) signed

-- an `integer` is 32 bits signed
abbrev pub parameter : ParameterDeclaration → Option (ℕ × ℕ) → List Bool × Bool → Entity
parameter p range v = if p.integer then Constant (extend 32 v.1 v.0) true else typed p.signed range v

-- too many bits for a value
abbrev pub width_faults : ℕ → Option (ℕ × ℕ) → List FlatFault
width_faults at range = fault_if (nat_lt 128 (range_width range)) (TooWide at (range_width range))

-- one more parameter; its own expression sees the parameters before it alone
unfoldable pub add_parameter : Names → ParameterDeclaration → Option (ℕ × ℕ) → ParamAssignment → Names → Result Names FlatFault
add_parameter given p range a names =
    and_then (among (fault_if (is_some (lookup a.text names)) (NameTwice a.token) ++ width_faults a.token range) (constant names a.value)) (λ own.
    Ok (with_name names a.text (parameter p range (given_or (override_of p.local (lookup a.text given)) own))))

unfoldable pub add_parameters : Names → ParameterDeclaration → Names → Result Names FlatFault
add_parameters given p names = and_then (range_in names p.range) (λ range. each (add_parameter given p range) p.sets names)

unfoldable pub add_item_parameters : Names → ModuleItem → Names → Result Names FlatFault
add_item_parameters given (Ports p) names = Ok names
add_item_parameters given (Nets signed range list) names = Ok names
add_item_parameters given (Variables signed range list) names = Ok names
add_item_parameters given (Integers list) names = Ok names
add_item_parameters given (Parameters p) names = add_parameters given p names
add_item_parameters given (Assigns pairs) names = Ok names
add_item_parameters given (Always events body token) names = Ok names
add_item_parameters given (Initial body token) names = Ok names
add_item_parameters given (Instances m token overrides list) names = Ok names

-- the parameters of a module in order, those before its ports and those among its items
unfoldable pub parameters : Names → ModuleDeclaration → Result Names FlatFault
parameters given m = and_then (each (add_parameters given) m.params []) (each (add_item_parameters given) m.items)
