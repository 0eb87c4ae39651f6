-- what is known of a copy of a circuit, after some of its gates
use Rattle.std.specs.Prelude.{◌≡◌, ℕ, Bool, List, fold, take}
use Rattle.rr_circuit.specs.declared.Wire.{Wire}
use Rattle.rr_circuit.specs.Values.{Netlist, Extends, AreWires, wire_values, with_gate, input_values, given}

pub record Copied (start now : Netlist) (inputs : List Wire) (circuit : Netlist) (copies : List Wire) (i : ℕ) : Type 0 where
  pub extends : Extends start now
  pub wires : AreWires now copies
  pub value : (env : ℕ → Bool) → wire_values now env copies ≡ fold with_gate (input_values circuit.inputs (given (wire_values start env inputs))) (take i circuit.gates)
