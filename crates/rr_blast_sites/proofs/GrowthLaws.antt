-- What the wires of names and of a choice carry while the circuit grows.
use Rattle.std.proofs.Common.{◌≡◌, Bool, true, false, [], if◌then◌else◌, ◌∙◌, ap}
use Rattle.rr_circuit.specs.Values.{Netlist, Extends}
use Rattle.rr_circuit.proofs.Netlists.{AreWires-extends}
use Rattle.rr_word_gates.proofs.Carrying.{Carries-extends}
use Rattle.rr_blast_sites.specs.declared.inputs.Inputs.{Inputs}
use Rattle.rr_blast_sites.specs.Instances.{HasWires, World, Reads, listed}
use Rattle.rr_blast_sites.proofs.SignalLaws.{AreSignals-extends, signal_values-extends}

-- inputs while the circuit grows

pub HasWires-extends : (old new : Netlist) (i : Inputs) → Extends old new → HasWires old i → HasWires new i
HasWires-extends old new i e h = record {
  signals = AreSignals-extends old new i.signals.now e h.signals;
  choice = AreWires-extends old new i.choice.now e h.choice;
  room = h.room;
}

pub Reads-extends : (old new : Netlist) (i : Inputs) (W : World) → Extends old new → Reads old i W → Reads new i W
Reads-extends old new i W e h = record {
  wires = HasWires-extends old new i e h.wires;
  signals = λ input. signal_values-extends old new input i.signals.now e h.wires.signals ∙ h.signals input;
  choice = Carries-extends old new i.choice.now W.choice e h.choice;
}

-- the sites of inputs

pub listed_still : (i : Inputs) → i.still ≡ true → listed i ≡ []
listed_still i e = ap (λ (b : Bool). if b then [] else i.sites.now) e

pub listed_all : (i : Inputs) → i.still ≡ false → listed i ≡ i.sites.now
listed_all i e = ap (λ (b : Bool). if b then [] else i.sites.now) e
