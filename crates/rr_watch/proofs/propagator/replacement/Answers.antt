use Rattle.rr_watch.proofs.Choices.{gone_round}
use Rattle.rr_watch.proofs.propagator.replacement.Goals as goal

pub returns-in-None : goal.returns-in-None
returns-in-None c = gone_round c.args.trail.now.entries c.args.clause.now c.args.other c.args.from c.replacement_in-in-None.result c.in-None.ensures c.replacement_in-in-None.ensures
