use Rattle.std.proofs.Common.{◌∙◌, ap₂, ◌++◌, map}
use Rattle.rr_text_names.specs.View.{plain_target}
use Rattle.rr_overwrite.specs.Variables.{plain_whole}
use Rattle.rr_overwrite.proofs.FirstTargets.{one_gathered, end_gathered, gathered, gathered_all}
use Rattle.rr_overwrite.proofs.targets.first_targets.Goals as goal

pub loop-target-init : goal.loop-target-init
loop-target-init c = ap₂ (λ xs s. map plain_whole xs ++ gathered s (map plain_target c.args.targets.now)) c.new-list.ensures.items c.new-seen.ensures ∙ gathered_all (map plain_target c.args.targets.now)

pub loop-target-preserved : goal.loop-target-preserved
loop-target-preserved c =
    one_gathered c.args.targets.now c.loop-target.target-index _ c.loop-target.seen _ (map plain_whole c.loop-target.list.items) _ _ c.loop-target-test.true c.in_ok-add_first.ensures.seen c.in_ok-add_first.ensures.added c.loop-target.invariant

pub returns : goal.returns
returns c = end_gathered c.args.targets.now c.loop-target.target-index c.loop-target.seen (map plain_whole c.loop-target.list.items) _ c.loop-target-test.false c.loop-target.invariant
