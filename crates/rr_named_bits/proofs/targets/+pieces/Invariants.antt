use Rattle.rr_expr.specs.Scopes.{env_of}
use Rattle.rr_named_bits.specs.Pieces.{all_bits}
use Rattle.rr_named_bits.proofs.Writing.{BitsLeft}
use Rattle.rr_named_bits.proofs.targets.+pieces.Given as goal

abbrev pub invariant-add_pieces_of_all-loop-target : goal.invariant-add_pieces_of_all-loop-target
invariant-add_pieces_of_all-loop-target l = BitsLeft l.scope (env_of l.env.values.items) l.targets l.target-index (all_bits l.fn.list.items) (all_bits l.list.items)
