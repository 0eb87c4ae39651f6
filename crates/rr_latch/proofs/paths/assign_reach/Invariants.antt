use Rattle.rr_named_bits.specs.Lists.{reaches}
use Rattle.rr_writers.proofs.Reaching.{first_words}
use Rattle.rr_latch.specs.Paths.{assigned}
use Rattle.rr_latch.proofs.Scanning.{Assigning}
use Rattle.rr_latch.proofs.paths.assign_reach.Given as goal

abbrev pub invariant-loop-word : goal.invariant-loop-word
invariant-loop-word l = Assigning (reaches (first_words l.reach l.word)) (assigned l.fn.path.unassigned) (assigned l.path.unassigned) l.fn.path.log.items l.path.log.items
