use Rattle.rr_patch.specs.Changes.{plain_changes}
use Rattle.rr_lint.proofs.Items.{cleared_start, cleared_next, cleared_full}
use Rattle.rr_lint.proofs.changes.clear_all.Goals as goal

pub loop-name-init : goal.loop-name-init
loop-name-init c = record { done = cleared_start (plain_changes c.args.out.now.items) c.args.place }

pub loop-name-preserved : goal.loop-name-preserved
loop-name-preserved c = record {
  done = cleared_next (plain_changes c.args.out.now.items) (plain_changes c.loop-name.out.items) (plain_changes c.put_all.new.out.items) c.args.place c.args.names.now c.loop-name.name-index _ c.loop-name-test.true c.loop-name.invariant.done
      c.in_ok-put_all.ensures;
}

pub returns : goal.returns
returns c = cleared_full (plain_changes c.args.out.now.items) (plain_changes c.loop-name.out.items) c.args.place c.args.names.now c.loop-name.name-index c.loop-name-test.false c.loop-name.invariant.done
