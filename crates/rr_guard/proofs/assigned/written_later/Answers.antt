use Rattle.rr_text_names.specs.View.{plain_target}
use Rattle.rr_guard.specs.Names.{is_later}
use Rattle.rr_guard.proofs.Lists.{any_more, any_end}
use Rattle.rr_guard.proofs.assigned.written_later.Goals as goal

pub loop-target-preserved : goal.loop-target-preserved
loop-target-preserved c = λ name.
    any_more (is_later name) plain_target _ _ _ c.args.targets.now c.loop-target.target-index _ c.loop-target-test.true (c.in_ok-add_later.ensures name) (c.loop-target.invariant name)

pub returns : goal.returns
returns c = λ name. any_end (is_later name) plain_target _ _ c.args.targets.now c.loop-target.target-index c.loop-target-test.false (c.loop-target.invariant name)
