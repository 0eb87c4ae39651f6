use Rattle.std.proofs.Common.{◌+◌, arith}
use Rattle.rr_patch.specs.Changes.{plain_changes}
use Rattle.rr_patch.proofs.ItemWalks.{pair_adds}
use Rattle.rr_patch.proofs.item.pair.Goals as goal

pub returns : goal.returns
returns c = let a = c.from.ensures in let b = c.first_token.ensures in let d = c.expression_len.ensures in pair_adds c.args.list.now c.args.choice.now.picks.items (plain_changes c.args.out.now.items) (plain_changes c.expression.new.out.items) (c.from.result + c.expression_len.result) c.args.pair.now (omega (arith, a, b, d)) c.in_ok-expression.ensures.made
