use Rattle.std.proofs.Common.{◌+◌, arith}
use Rattle.rr_patch.specs.Changes.{plain_changes}
use Rattle.rr_patch.proofs.ItemWalks.{child_adds}
use Rattle.rr_patch.proofs.connections.child.Goals as goal

pub returns : goal.returns
returns c = let e = c.from-bracket.ensures in child_adds c.args.list.now c.args.choice.now.picks.items (plain_changes c.args.out.now.items) (plain_changes c.connections.new.out.items) (c.from-bracket.result + 1) c.args.instance.now (omega (arith, e)) c.in_ok-connections.ensures
