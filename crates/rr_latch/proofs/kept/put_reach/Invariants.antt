use Rattle.rr_named_bits.specs.Lists.{reaches}
use Rattle.rr_writers.specs.Tables.{entry}
use Rattle.rr_writers.proofs.Reaching.{first_words}
use Rattle.rr_latch.proofs.Putting.{Put}
use Rattle.rr_latch.proofs.kept.put_reach.Given as goal

abbrev pub invariant-loop-word : goal.invariant-loop-word
invariant-loop-word l = Put l.number (reaches (first_words l.reach l.word)) (entry l.fn.table) (entry l.table)
