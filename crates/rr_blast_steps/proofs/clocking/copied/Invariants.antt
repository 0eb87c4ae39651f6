use Rattle.std.proofs.Common.{◌≡◌, take}
use Rattle.rr_blast_steps.proofs.CopyLaws.{lists_of}
use Rattle.rr_blast_steps.proofs.clocking.copied.Given as goal

abbrev pub invariant-loop-word : goal.invariant-loop-word
invariant-loop-word l = lists_of l.copies.items ≡ lists_of (take l.word-index l.words)
