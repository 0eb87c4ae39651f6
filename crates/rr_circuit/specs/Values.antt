-- what the wires of a circuit carry, for given values of the inputs
use Rattle.std.specs.Prelude.{◌≡◌, ℕ, ◌+◌, ◌*◌, ◌/◌, ◌%◌, ◌<◌, ◌≤◌, ◌==◌, Bool, true, false, not, ◌&&◌, if◌then◌else◌, List, [], ◌∷◌, ◌++◌, length, map, fold, slice_index_or, All}
use Rattle.std.specs.List.{range_with_len}
use Rattle.rr_circuit.specs.declared.Wire.{Wire}
use Rattle.rr_circuit.specs.declared.Gate.{Gate}

-- a state of a builder: how many inputs there are, and the gates in order
pub record Netlist : Type 0 where
  pub inputs : ℕ
  pub gates : List Gate

-- the variables of a netlist: the constant 0, the inputs, the gates
abbrev pub variables : Netlist → ℕ
variables n = 1 + n.inputs + length n.gates

-- the value of a literal over the values of the variables
abbrev pub literal_value : List Bool → ℕ → Bool
literal_value values w = if (w % 2) == 1 then not (slice_index_or values (w / 2) false) else slice_index_or values (w / 2) false

-- the values with that of one gate more
abbrev pub with_gate : List Bool → Gate → List Bool
with_gate values g = values ++ (literal_value values g.left.0 && literal_value values g.right.0) ∷ []

-- the values of the constant and the inputs
abbrev pub input_values : ℕ → (ℕ → Bool) → List Bool
input_values n env = false ∷ map env (range_with_len 0 n)

-- the values of all variables
unfoldable pub variable_values : Netlist → (ℕ → Bool) → List Bool
variable_values n env = fold with_gate (input_values n.inputs env) n.gates

-- the value of a wire, for every input
unfoldable pub wire_value : Netlist → (ℕ → Bool) → Wire → Bool
wire_value n env w = literal_value (variable_values n env) w.0

-- the wire is a constant, an input, a gate, or the negation of one
unfoldable pub IsWire : Netlist → Wire → Type 0
IsWire n w = w.0 < 2 * variables n

-- a literal names an input or one of the first k gates, and no constant
abbrev pub IsOperandAt : ℕ → ℕ → Wire → Type 0
IsOperandAt inputs k w = (2 ≤ w.0) × (w.0 < 2 * (1 + inputs + k))

-- the k-th gate names inputs and earlier gates, and no constant
abbrev pub IsGateAt : ℕ → ℕ → Gate → Type 0
IsGateAt inputs k g = IsOperandAt inputs k g.left × IsOperandAt inputs k g.right

abbrev pub IsNetlist : ℕ → List Gate → Type 0
IsNetlist inputs gates = (k : ℕ) (d : Gate) → k < length gates → IsGateAt inputs k (slice_index_or gates k d)

-- each gate's left operand is at least its right one
abbrev pub AreOrdered : List Gate → Type 0
AreOrdered gates = All (λ g. g.right.0 ≤ g.left.0) gates

-- the wire carries the conjunction of the gate's operands
pub record Computes (n : Netlist) (g : Gate) (w : Wire) : Type 0 where
  pub left : IsWire n g.left
  pub right : IsWire n g.right
  pub wire : IsWire n w
  pub value : (env : ℕ → Bool) → wire_value n env w ≡ (wire_value n env g.left && wire_value n env g.right)

-- wires that are known to carry gates
abbrev pub AreKnown : Netlist → List (Gate × Wire) → Type 0
AreKnown n known = All (λ e. Computes n e.0 e.1) known

-- the new netlist has the old one's wires, with their values
pub record Extends (old new : Netlist) : Type 0 where
  pub inputs : new.inputs ≡ old.inputs
  pub wires : (w : Wire) → IsWire old w → IsWire new w
  pub values : (env : ℕ → Bool) (w : Wire) → IsWire old w → wire_value new env w ≡ wire_value old env w

abbrev pub xor : Bool → Bool → Bool
xor true b = not b
xor false b = b

-- lists of wires, lowest bit first
abbrev pub AreWires : Netlist → List Wire → Type 0
AreWires n ws = All (IsWire n) ws

abbrev pub wire_values : Netlist → (ℕ → Bool) → List Wire → List Bool
wire_values n env ws = map (wire_value n env) ws

-- a netlist with its outputs
pub record OutputNetlist : Type 0 where
  pub netlist : Netlist
  pub outputs : List Wire

-- the outputs for given inputs
abbrev pub output_values : OutputNetlist → (ℕ → Bool) → List Bool
output_values c env = wire_values c.netlist env c.outputs

-- the inputs that a list gives
abbrev pub given : List Bool → ℕ → Bool
given bits i = slice_index_or bits i false

-- the equations of a circuit's wires (AIGER, "Format"): the constant, the negations, the inputs
-- and the gates
pub record IsValuation (n : Netlist) (env : ℕ → Bool) (value : Wire → Bool) : Type 0 where
  pub constant : value (record { 0 = 0 }) ≡ false
  pub negation : (v : ℕ) → value (record { 0 = 2 * v + 1 }) ≡ not (value (record { 0 = 2 * v }))
  pub input : (k : ℕ) → k < n.inputs → value (record { 0 = 2 * (k + 1) }) ≡ env k
  pub gate : (k : ℕ) (d : Gate) → k < length n.gates →
      value (record { 0 = 2 * (1 + n.inputs + k) }) ≡ (value (slice_index_or n.gates k d).left && value (slice_index_or n.gates k d).right)

-- for every input, the wires' values solve the equations, and nothing else does
abbrev pub SolvesItsEquations : Netlist → Type 0
SolvesItsEquations n = (env : ℕ → Bool) →
    IsValuation n env (wire_value n env) × ((value : Wire → Bool) → IsValuation n env value → (w : Wire) → IsWire n w → value w ≡ wire_value n env w)

-- the outputs depend on the circuit's inputs alone
abbrev pub DependsOnInputs : OutputNetlist → Type 0
DependsOnInputs c = (e f : ℕ → Bool) → ((k : ℕ) → k < c.netlist.inputs → e k ≡ f k) → output_values c e ≡ output_values c f
