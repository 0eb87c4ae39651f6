use Rattle.rr_syntax.specs.View.{plain_connection}
use Rattle.rr_flat.specs.Sound.{IsConnection, names_at}
use Rattle.rr_flatten.proofs.Grown.{each_at}
use Rattle.rr_flatten.proofs.instances.join_named.Goals as goal

pub join_one-requires-clause-there : goal.join_one-requires-clause-there
join_one-requires-clause-there c = rw c.loop-one.invariant.same.scopes c.requires.there

pub join_one-requires-clause-inside : goal.join_one-requires-clause-inside
join_one-requires-clause-inside c = rw c.loop-one.invariant.same.scopes c.requires.inside

pub join_one-requires-clause-connected : goal.join_one-requires-clause-connected
join_one-requires-clause-connected c = rw c.loop-one.invariant.same.scopes
    (each_at (IsConnection (names_at c.args.walked.now.flat.scopes c.args.number)) plain_connection c.args.list.now c.loop-one.one-index _ c.requires.connected c.loop-one-test.true)
