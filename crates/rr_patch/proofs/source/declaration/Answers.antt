use Rattle.rr_patch.specs.Changes.{plain_changes}
use Rattle.rr_patch.proofs.ItemWalks.{module_adds}
use Rattle.rr_patch.proofs.source.declaration.Goals as goal

pub returns : goal.returns
returns c = module_adds c.args.list.now c.args.choice.now.picks.items (plain_changes c.args.out.now.items) (plain_changes c.items.new.out.items) c.args.declaration.now c.in_ok-items.ensures
