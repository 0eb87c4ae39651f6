use Rattle.rr_patch.specs.Changes.{plain_changes}
use Rattle.rr_patch.proofs.ItemWalks.{made_positions, named_adds}
use Rattle.rr_patch.proofs.connections.connections.Goals as goal

pub returns-in_ok-expressions-in-Positions : goal.returns-in_ok-expressions-in-Positions
returns-in_ok-expressions-in-Positions c = λ n. made_positions c.args.list.now c.args.choice.now.picks.items (plain_changes c.args.out.now.items) (plain_changes c.expressions.new.out.items) c.args.at c.args.conns.now c.in-Positions.entries c.in-Positions.is c.in_ok-expressions-in-Positions.ensures.made

pub returns-in_ok-named-in-Names : goal.returns-in_ok-named-in-Names
returns-in_ok-named-in-Names c = λ n. named_adds c.args.list.now c.args.choice.now.picks.items (plain_changes c.args.out.now.items) (plain_changes c.named.new.out.items) c.args.at c.args.conns.now c.in-Names.entries c.in-Names.is c.in_ok-named-in-Names.ensures n
