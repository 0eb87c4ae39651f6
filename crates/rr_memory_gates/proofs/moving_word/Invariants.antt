use Rattle.std.proofs.Common.{◌≡◌, length}
use Rattle.rr_circuit.specs.Values.{Extends}
use Rattle.rr_word_gates.specs.Carried.{Carries}
use Rattle.rr_memory_gates.specs.Reading.{first_words}
use Rattle.rr_memory_gates.proofs.WordReads.{read_from}
use Rattle.rr_memory_gates.proofs.moving_word.Given as goal

abbrev pub invariant-loop-word : goal.invariant-loop-word
invariant-loop-word l = record {
  extends : Extends l.fn.b l.b;
  width : length l.out.items ≡ l.memory.width;
  value : Carries l.b l.out.items (read_from l.fn.b l.signals l.ys l.signed (first_words l.word l.memory));
}
