use Rattle.std.proofs.Common.{true}
use Rattle.rr_named_bits.specs.Lists.{reaches}
use Rattle.rr_writers.specs.Marks.{SetMarked}
use Rattle.rr_writers.specs.Tables.{entry}
use Rattle.rr_writers.proofs.Reaching.{first_words}
use Rattle.rr_writers.proofs.marks.mark_reach.Given as goal

abbrev pub invariant-loop-word : goal.invariant-loop-word
invariant-loop-word l = SetMarked true l.number (reaches (first_words l.reach l.word)) (entry l.fn.table) (entry l.table)
