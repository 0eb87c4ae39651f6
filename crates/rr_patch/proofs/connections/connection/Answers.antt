use Rattle.std.proofs.Common.{◌+◌, arith}
use Rattle.rr_patch.specs.Changes.{plain_changes}
use Rattle.rr_patch.proofs.ItemWalks.{connection_some}
use Rattle.rr_patch.proofs.connections.connection.Goals as goal

pub returns-in_ok-expression-in-Some : goal.returns-in_ok-expression-in-Some
returns-in_ok-expression-in-Some c = let e = c.from-start.ensures in connection_some c.args.list.now c.args.choice.now.picks.items (plain_changes c.args.out.now.items) (plain_changes c.expression.new.out.items) (c.from-start.result + 2) c.args.connection.now c.in-Some.value c.in-Some.is (omega (arith, e)) c.in_ok-expression-in-Some.ensures.made
