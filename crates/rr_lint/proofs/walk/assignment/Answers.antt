use Rattle.rr_patch.specs.Changes.{plain_changes}
use Rattle.rr_lint.proofs.Walking.{mark_now, mark_later}
use Rattle.rr_lint.proofs.walk.assignment.Goals as goal

pub returns-then-now : goal.returns-then-now
returns-then-now c = mark_now (plain_changes c.args.out.now.items) c.args.mark c.args.now c.if-now.true

pub returns : goal.returns
returns c = mark_later c.args.out.now.items c.add.new.out.items c.args.mark c.args.now c.if-now.false c.in_ok-add.ensures
