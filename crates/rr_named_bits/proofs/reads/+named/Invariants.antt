use Rattle.rr_named_bits.proofs.Naming.{NamesLeft}
use Rattle.rr_named_bits.proofs.reads.+named.Given as goal

abbrev pub invariant-add_named_by_all-loop-part : goal.invariant-add_named_by_all-loop-part
invariant-add_named_by_all-loop-part l = NamesLeft l.scope l.parts l.part-index l.fn.list.items l.list.items
