use Rattle.std.proofs.Common.{◌∙◌, refl}
use Rattle.rr_flat.specs.View.{plain_flat}
use Rattle.rr_assign.proofs.Kinding.{targets_more, targets_done}
use Rattle.rr_assign.proofs.kinds.add_assignments.Goals as goal

pub loop-target-preserved : goal.loop-target-preserved
loop-target-preserved c =
    targets_more (plain_flat c.args.flat.now) c.args.scope c.args.combinational c.loop-target.list.items c.push.new.self.items _ c.args.targets.now c.loop-target.target-index _ c.loop-target-test.true c.in_ok-push.ensures.items refl
    ∙ c.loop-target.invariant

pub returns : goal.returns
returns c = targets_done (plain_flat c.args.flat.now) c.args.scope c.args.combinational c.loop-target.list.items c.args.targets.now c.loop-target.target-index c.loop-target-test.false ∙ c.loop-target.invariant
