use Rattle.rr_count.proofs.Adders.{Written}
use Rattle.rr_count.proofs.binary.constant_word.Given as goal

abbrev pub invariant-loop : goal.invariant-loop
invariant-loop l = Written l.b l.value l.rest l.word.items l.counter
