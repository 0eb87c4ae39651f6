-- choices on wires, while their circuit grows
use Rattle.std.proofs.Common.{◌≡◌, ap, ℕ, Bool}
use Rattle.rr_circuit.specs.Values.{Netlist, Extends}
use Rattle.rr_circuit.proofs.Netlists.{AreWires-extends, wire_values-extends}
use Rattle.rr_choice.specs.Choices.{decode}
use Rattle.rr_blast_terms.specs.declared.choice.ChoiceWires.{ChoiceWires}
use Rattle.rr_blast_terms.specs.Choosing.{IsReady, picks_of}

pub picks-extends : (old new : Netlist) (env : ℕ → Bool) (c : ChoiceWires) → Extends old new → IsReady old c → picks_of new env c ≡ picks_of old env c
picks-extends old new env c e h = ap (decode c.sites.now) (wire_values-extends old new c.wires.now env e h.0)

pub ready-extends : (old new : Netlist) (c : ChoiceWires) → Extends old new → IsReady old c → IsReady new c
ready-extends old new c e h = (AreWires-extends old new c.wires.now e h.0, h.1)
