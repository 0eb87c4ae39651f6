use Rattle.rr_named_bits.specs.Pieces.{all_bits}
use Rattle.rr_order.proofs.Wirings.{TakenLeft}
use Rattle.rr_order.proofs.wiring.+taking.Given as goal

abbrev pub invariant-add_all_taken-loop-part : goal.invariant-add_all_taken-loop-part
invariant-add_all_taken-loop-part l = TakenLeft l.scope l.parts l.part-index (all_bits l.fn.list.items) (all_bits l.list.items)
