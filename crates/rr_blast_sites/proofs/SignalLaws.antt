-- the wires of signals, while their circuit grows
use Rattle.std.proofs.Common.{◌≡◌, ℕ, zero, suc, ◌<◌, ◌≤◌, Bool, List, [], ◌∷◌, length, get_or, refl, sym, ◌∙◌, ap, ap₂, arith}
use Rattle.std.specs.Prelude.{Vec}
use Rattle.std.specs.Global.{Global}
use Rattle.std.proofs.lemmas.List.{get_or-map}
use Rattle.std.proofs.lemmas.List.Elements.{All-head, All-tail}
use Rattle.rr_circuit.specs.declared.Wire.{Wire}
use Rattle.rr_circuit.specs.Values.{Netlist, Extends, AreWires, wire_values}
use Rattle.rr_circuit.proofs.Netlists.{AreWires-extends, wire_values-extends}
use Rattle.rr_blast_sites.specs.Signals.{AreSignals, signal_values}

pub AreSignals-extends : (old new : Netlist) (signals : List (Vec Wire Global)) → Extends old new → AreSignals old signals → AreSignals new signals
AreSignals-extends old new signals e h k d l = AreWires-extends old new _ e (h k d l)

pub signal_values-extends : (old new : Netlist) (input : ℕ → Bool) (signals : List (Vec Wire Global)) → Extends old new → AreSignals old signals → signal_values new input signals ≡ signal_values old input signals
unfolding signal_values
signal_values-extends old new input [] e h = refl
signal_values-extends old new input (v ∷ vs) e h =
    ap₂ (λ x xs. x ∷ xs) (wire_values-extends old new v.items input e (All-head (λ (u : Vec Wire Global). AreWires old u.items) v vs h))
    (signal_values-extends old new input vs e (All-tail (λ (u : Vec Wire Global). AreWires old u.items) v vs h))

pub signal_at : (n : Netlist) (input : ℕ → Bool) (signals : List (Vec Wire Global)) (k : ℕ) (v : Vec Wire Global) → k < length signals → v ≡ get_or signals k v → wire_values n input v.items ≡ get_or (signal_values n input signals) k []
unfolding signal_values
signal_at n input signals k v l e = ap (λ (u : Vec Wire Global). wire_values n input u.items) e ∙ sym (get_or-map (λ (u : Vec Wire Global). wire_values n input u.items) signals k v [] l)

pub signal_past : (n : Netlist) (input : ℕ → Bool) (signals : List (Vec Wire Global)) (k : ℕ) → length signals ≤ k → [] ≡ get_or (signal_values n input signals) k []
unfolding signal_values
signal_past n input [] k l = refl
signal_past n input (v ∷ vs) zero l = absurd (omega arith)
signal_past n input (v ∷ vs) (suc k) l = signal_past n input vs k (omega arith)
