use Rattle.std.proofs.Common.{[]}
use Rattle.rr_watch.proofs.StateLaws.{State-room}
use Rattle.rr_watch.proofs.propagator.Propagator.add.Goals as goal

pub returns-in_err-expect-clause-whole : goal.returns-in_err-expect-clause-whole
returns-in_err-expect-clause-whole c =
    let o = c.args.self.now in
    let w = State-room o.trail o.hand.held o.lists o.short.items o.settled o.head o.late c.requires.whole c.expect.new.self [] c.in_err-expect.ensures.err in
    rw c.reserve.ensures.items w

pub place-requires-clause-whole : goal.place-requires-clause-whole
place-requires-clause-whole c =
    let o = c.args.self.now in
    let w = State-room o.trail o.hand.held o.lists o.short.items o.settled o.head o.late c.requires.whole c.expect.new.self c.args.clause.now c.in_ok-expect.ensures.ok in
    rw c.reserve.ensures.items w
