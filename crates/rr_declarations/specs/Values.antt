-- Constant expressions and ranges (IEEE 1364-2005 sections 3.3.1, 5.2.1 and 12.2).
use Rattle.std.specs.Prelude.{ℕ, ◌-◌, Bool, true, false, List, ◌++◌, Option, Some, None, Result, Ok, Err, is_none, unwrap_or, nat_lt, if◌then◌else◌, ℤ, pos, negsuc}
use Rattle.rr_bits.specs.Words.{reading}
use Rattle.rr_syntax.specs.Tree.{Tree, Range}
use Rattle.rr_expr.specs.Scopes.{Names}
use Rattle.rr_expr.specs.Values.{form, own, nowhere}
use Rattle.rr_expr.specs.Faults.{fault, first}
use Rattle.rr_flat.specs.declared.fault.FlatFault.{FlatFault}
use Rattle.rr_flat.specs.declared.fault.FlatFault.TheVariants.{BadRange}
use Rattle.rr_flat.specs.Faults.{answer_of, faults_in, fault_if, first_fault_or}

-- the word and the sign of a constant expression, or its first fault
unfoldable pub constant : Names → Tree → Result (List Bool × Bool) FlatFault
constant names t = answer_of (fault names t true) (own names t nowhere, (form names t).signed)

-- a bound of a range is 0 to 65,535
abbrev pub bound_of : ℤ → Option ℕ
bound_of (pos n) = if nat_lt n 65536 then Some n else None
bound_of (negsuc n) = None

-- a bound that has a value but may not have it
abbrev pub is_beyond : Result (List Bool × Bool) FlatFault → Bool
is_beyond (Ok v) = is_none (bound_of (reading v.1 v.0))
is_beyond (Err f) = false

abbrev pub bound_or_zero : Result (List Bool × Bool) FlatFault → ℕ
bound_or_zero (Ok v) = unwrap_or (bound_of (reading v.1 v.0)) 0
bound_or_zero (Err f) = 0

-- the faults of a bound, in a range that begins at that token
abbrev pub bound_faults : ℕ → Result (List Bool × Bool) FlatFault → List FlatFault
bound_faults at v = faults_in v ++ fault_if (is_beyond v) (BadRange at)

abbrev pub between : ℕ → Result (List Bool × Bool) FlatFault → Result (List Bool × Bool) FlatFault → Result (Option (ℕ × ℕ)) FlatFault
between at left right = first_fault_or (bound_faults at left ++ bound_faults at right) (Some (bound_or_zero left, bound_or_zero right))

-- `[left:right]`, which begins at its bracket, or no range
unfoldable pub range_in : Names → Option Range → Result (Option (ℕ × ℕ)) FlatFault
range_in names None = Ok None
range_in names (Some r) = between (first r.left - 1) (constant names r.left) (constant names r.right)
