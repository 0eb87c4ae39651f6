use Rattle.std.proofs.Common.{◌≡◌, ℕ, ◌++◌, map, All}
use Rattle.rr_flat.specs.Sound.{IsOwn}
use Rattle.rr_flat.specs.View.{plain_signal}
use Rattle.rr_memory_words.specs.Words.{all_words}
use Rattle.rr_memory_words.proofs.words.add_all.Given as goal

abbrev pub invariant-loop-place : goal.invariant-loop-place
invariant-loop-place l = record {
  value : map plain_signal l.signals.items ≡ map plain_signal l.fn.signals.items ++ all_words (plain_signal l.signal) l.low l.place;
  sound : (i : ℕ) → IsOwn i l.signal → All (IsOwn i) l.fn.signals.items → All (IsOwn i) l.signals.items;
}
