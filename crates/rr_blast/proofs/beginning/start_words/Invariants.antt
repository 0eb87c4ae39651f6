use Rattle.std.proofs.Common.{◌≡◌, ◌<◌, ℕ, [], Bool, get_or, take}
use Rattle.rr_bits.specs.Words.{word}
use Rattle.rr_blast_steps.specs.Designs.{signal_widths}
use Rattle.rr_signal_wires.specs.Words.{AreWords, widths_of, word_values}
use Rattle.rr_blast.proofs.beginning.start_words.Given as goal

abbrev pub invariant-loop-at : goal.invariant-loop-at
invariant-loop-at l = record {
  words : AreWords l.b l.words.items;
  widths : widths_of l.words.items ≡ signal_widths (take l.at l.signal-items);
  values : (env : ℕ → Bool) (k : ℕ) → k < l.at → get_or (word_values l.b env l.words.items) k [] ≡ word (get_or (signal_widths l.signal-items) k 0) (get_or l.starts.items k 0);
}
