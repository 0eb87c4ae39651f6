-- Choices on wires.
use Rattle.std.specs.Prelude.{◌≡◌, ℕ, Bool, List, length}
use Rattle.rr_circuit.specs.Values.{Netlist, AreWires, wire_values}
use Rattle.rr_choice.specs.declared.pick.Pick.{Pick}
use Rattle.rr_choice.specs.Choices.{decode, total_bits}
use Rattle.rr_blast_terms.specs.declared.choice.ChoiceWires.{ChoiceWires}

-- the picks that the wires of a choice carry
abbrev pub picks_of : Netlist → (ℕ → Bool) → ChoiceWires → List Pick
picks_of n env c = decode c.sites.now (wire_values n env c.wires.now)

-- the wires of a choice are wires of the circuit, one for each of its bits
abbrev pub IsReady : Netlist → ChoiceWires → Type 0
IsReady n c = AreWires n c.wires.now × (length c.wires.now ≡ total_bits c.sites.now)
