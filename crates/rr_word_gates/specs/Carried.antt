-- What wires carry, for every input of their circuit.
use Rattle.std.specs.Prelude.{◌≡◌, ℕ, Bool, List}
use Rattle.rr_circuit.specs.declared.Wire.{Wire}
use Rattle.rr_circuit.specs.Values.{Netlist, IsWire, AreWires, wire_value, wire_values}

-- the wires carry the word that f gives for each input
pub record Carries (n : Netlist) (ws : List Wire) (f : (ℕ → Bool) → List Bool) : Type 0 where
  pub wires : AreWires n ws
  pub value : (input : ℕ → Bool) → wire_values n input ws ≡ f input

-- the wire carries the truth value that f gives for each input
pub record CarriesBit (n : Netlist) (w : Wire) (f : (ℕ → Bool) → Bool) : Type 0 where
  pub wire : IsWire n w
  pub value : (input : ℕ → Bool) → wire_value n input w ≡ f input
