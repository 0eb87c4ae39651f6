use Rattle.std.proofs.Common.{◌∙◌, ap, arith}
use Rattle.rr_syntax.specs.View.{plain}
use Rattle.rr_expr.specs.Values.{nowhere}
use Rattle.rr_flat.specs.Targets.{target_bits}
use Rattle.rr_cycle.specs.Exec.{write}
use Rattle.rr_signal_wires.specs.Words.{carried}
use Rattle.rr_signal_wires.proofs.NameLaws.{few_bits}
use Rattle.rr_signal_wires.proofs.GuardedPieceLaws.{no_guarded_pieces}
use Rattle.rr_blast_terms.proofs.targets.guarded_pieces_of.Goals as goal

pub add_guarded_pieces-requires-clause-few : goal.add_guarded_pieces-requires-clause-few
add_guarded_pieces-requires-clause-few c = omega (arith, few_bits c.args.scope.now nowhere (plain c.args.target.now) c.requires.shaped)

pub returns-clause-value : goal.returns-clause-value
returns-clause-value c = λ env vs e.
    c.in_ok-add_guarded_pieces.ensures.value env vs e
    ∙ ap (write (target_bits c.args.scope.now (carried c.args.b.now env c.args.words.now) (plain c.args.target.now)) vs) (no_guarded_pieces c.args.b.now env c.new-list.result.items vs e c.new-list.ensures.items)
