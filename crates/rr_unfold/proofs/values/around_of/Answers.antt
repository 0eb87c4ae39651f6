use Rattle.rr_unfold.proofs.Entering.{around_none, around_more_at, around_all}
use Rattle.rr_unfold.proofs.values.around_of.Goals as goal

pub loop-at-init : goal.loop-at-init
loop-at-init c = around_none c.new-names.result.items c.args.turn.now c.new-names.ensures.items

pub loop-at-preserved : goal.loop-at-preserved
loop-at-preserved c = around_more_at c.loop-at.names.items c.add_name.new.names.items c.args.turn.now c.loop-at.at c.name_at.result c.loop-at-test.true c.name_at.ensures c.loop-at.invariant c.in_ok-add_name.ensures

pub returns : goal.returns
returns c = around_all c.loop-at.names.items c.args.turn.now c.loop-at.at c.loop-at-test.false c.loop-at.invariant
