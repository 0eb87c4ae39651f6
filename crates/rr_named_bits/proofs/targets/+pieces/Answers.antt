use Rattle.std.proofs.Common.{rules}
use Rattle.rr_syntax.specs.declared.tree.Expr.{the_lemmas}
use Rattle.rr_expr.specs.Scopes.{env_of}
use Rattle.rr_named_bits.specs.Pieces.{all_bits}
use Rattle.rr_named_bits.proofs.Writing.{bits_start, bits_here, bits_more, bits_done}
use Rattle.rr_named_bits.proofs.targets.+pieces.Goals as goal

pub add_pieces_of_all-loop-target-init : goal.add_pieces_of_all-loop-target-init
add_pieces_of_all-loop-target-init t c = bits_start c.args.scope.now (env_of c.args.env.now.values.items) c.args.targets.now (all_bits c.args.list.now.items) c.requires

pub add_pieces_of_all-add_pieces-requires : goal.add_pieces_of_all-add_pieces-requires
add_pieces_of_all-add_pieces-requires t c = (search (rules, the_lemmas), bits_here c.args.scope.now (env_of c.args.env.now.values.items) c.args.targets.now c.loop-target.target-index c.target-item.result (all_bits c.args.list.now.items) (all_bits c.loop-target.list.items) c.loop-target-test.true c.target-item.is c.loop-target.invariant)

pub add_pieces_of_all-loop-target-preserved : goal.add_pieces_of_all-loop-target-preserved
add_pieces_of_all-loop-target-preserved t c = bits_more c.args.scope.now (env_of c.args.env.now.values.items) c.args.targets.now c.loop-target.target-index c.target-item.result (all_bits c.args.list.now.items) (all_bits c.loop-target.list.items) _ c.loop-target-test.true c.target-item.is c.loop-target.invariant c.in_ok-add_pieces.ensures

pub add_pieces_of_all-returns : goal.add_pieces_of_all-returns
add_pieces_of_all-returns t c = bits_done c.args.scope.now (env_of c.args.env.now.values.items) c.args.targets.now c.loop-target.target-index (all_bits c.args.list.now.items) (all_bits c.loop-target.list.items) c.loop-target-test.false c.loop-target.invariant
