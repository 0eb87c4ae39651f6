use Rattle.std.proofs.Common.{◌≡◌, take}
use Rattle.rr_blast_steps.proofs.clocking.copy_of.Given as goal

abbrev pub invariant-loop-wire : goal.invariant-loop-wire
invariant-loop-wire l = l.copy.items ≡ take l.wire-index l.word
