use Rattle.rr_syntax.specs.View.{plain}
use Rattle.rr_blast_expr.proofs.Worths.{test_all}
use Rattle.rr_blast_expr.proofs.condition.Goals as goal

pub returns-clause-value : goal.returns-clause-value
returns-clause-value c =
    test_all _ _ _ _ (plain c.args.test.now) _ _ (record { signals = c.requires.signals; choice = c.requires.choice; room = c.requires.room }) c.in_ok-before.ensures.extends c.in_ok-before.ensures.value c.in_ok-out.ensures.value
