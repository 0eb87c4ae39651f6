-- The wires of signals.
use Rattle.std.specs.Prelude.{ℕ, Bool, List, map, All, Vec}
use Rattle.std.specs.Global.{Global}
use Rattle.rr_circuit.specs.declared.Wire.{Wire}
use Rattle.rr_circuit.specs.Values.{Netlist, AreWires, wire_values}

-- one list of wires for each signal
abbrev pub AreSignals : Netlist → List (Vec Wire Global) → Type 0
AreSignals n signals = All (λ (v : Vec Wire Global). AreWires n v.items) signals

-- the bits of each signal
unfoldable pub signal_values : Netlist → (ℕ → Bool) → List (Vec Wire Global) → List (List Bool)
signal_values n input signals = map (λ (v : Vec Wire Global). wire_values n input v.items) signals
