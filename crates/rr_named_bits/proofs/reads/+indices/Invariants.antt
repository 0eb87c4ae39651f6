use Rattle.rr_named_bits.proofs.Naming.{ReadsLeft}
use Rattle.rr_named_bits.proofs.reads.+indices.Given as goal

abbrev pub invariant-add_targets_reads-loop-target : goal.invariant-add_targets_reads-loop-target
invariant-add_targets_reads-loop-target l = ReadsLeft l.scope l.targets l.target-index l.fn.list.items l.list.items
