use Rattle.std.proofs.Common.{◌≡◌, All, take}
use Rattle.std.specs.Prelude.{Vec}
use Rattle.std.specs.Global.{Global}
use Rattle.rr_circuit.specs.declared.Wire.{Wire}
use Rattle.rr_blast_steps.specs.Designs.{signal_widths}
use Rattle.rr_signal_wires.specs.Words.{widths_of}
use Rattle.rr_blast.proofs.beginning.zero_words.Given as goal

abbrev pub invariant-loop-signal : goal.invariant-loop-signal
invariant-loop-signal l = record {
  widths : widths_of l.words.items ≡ signal_widths (take l.signal-index l.signal-items);
  same : All (λ (v : Vec Wire Global). All (λ w. w ≡ l.zero) v.items) l.words.items;
}
