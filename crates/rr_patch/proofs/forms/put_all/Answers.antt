use Rattle.rr_patch.specs.declared.change.Added.TheVariants as added
use Rattle.rr_patch.specs.declared.change.Fixed.TheVariants as fixed
use Rattle.rr_patch.specs.Changes.{plain_changes}
use Rattle.rr_patch.proofs.Walks.{puts_start, puts_more}
use Rattle.rr_patch.proofs.forms.put_all.Goals as goal

pub loop-new-init : goal.loop-new-init
loop-new-init c = puts_start (plain_changes c.args.out.now.items) c.args.place c.args.list.now

pub loop-new-preserved : goal.loop-new-preserved
loop-new-preserved c =
    puts_more (plain_changes c.args.out.now.items) (plain_changes c.loop-new.out.items) (plain_changes c.put.new.out.items) c.args.place c.args.list.now c.loop-new.new-index (added.Fixed fixed.Begin) c.loop-new-test.true
    c.loop-new.invariant c.in_ok-put.ensures
