use Rattle.rr_trace.specs.View.{plain_table}
use Rattle.rr_unroll.proofs.InstanceLaws.{instance_matches}
use Rattle.rr_unroll.proofs.WalkingLaws.{judged_by_miss}
use Rattle.rr_unroll.proofs.judging.judges.Goals as goal

pub returns-clause-judged : goal.returns-clause-judged
returns-clause-judged c = judged_by_miss c.args.transition.now c.args.choice.now (plain_table c.args.table.now) c.in_ok-missed.missed c.is_none.result c.in_ok-missed.ensures.first c.is_none.ensures

pub returns-clause-matches : goal.returns-clause-matches
returns-clause-matches c = instance_matches c.args.transition.now (plain_table c.args.table.now) c.args.choice.now c.is_none.result c.requires (returns-clause-judged c)
