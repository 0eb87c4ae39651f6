use Rattle.std.proofs.Common.{arith, false}
use Rattle.rr_syntax.specs.View.{plain}
use Rattle.rr_expr.proofs.Sound.{fits_without_fault, width_positive}
use Rattle.rr_blast_expr.proofs.Worths.{worth_all}
use Rattle.rr_blast_expr.proofs.wires.Goals as goal

pub word_in-requires-clause-positive : goal.word_in-requires-clause-positive
word_in-requires-clause-positive c =
    let p = width_positive c.args.scope.now (plain c.args.expr.now) (fits_without_fault c.args.scope.now false (plain c.args.expr.now) c.requires.none) in
    omega (arith, p, c.requires.low)

pub returns-clause-value : goal.returns-clause-value
returns-clause-value c =
    worth_all _ _ _ (plain c.args.expr.now) _ _ (record { signals = c.requires.signals; choice = c.requires.choice; room = c.requires.room }) c.in_ok-out.ensures.value
