use Rattle.std.proofs.Common.{sym, subst}
use Rattle.rr_watch.specs.Lists.{Whole}
use Rattle.rr_watch.proofs.StateLaws.{State-rewind}
use Rattle.rr_watch.proofs.propagator.Propagator.rewind.Goals as goal

pub returns-after-loop-self-clause-whole : goal.returns-after-loop-self-clause-whole
returns-after-loop-self-clause-whole c =
    let o = c.args.self.now in
    let i = c.loop-self.invariant in
    subst Whole (sym i.state) (State-rewind o.trail o.hand.held o.lists o.short.items o.settled o.head o.late c.requires.whole c.loop-self.self.head i.low i.again)

pub returns-then-level_at-depth-clause-whole : goal.returns-then-level_at-depth-clause-whole
returns-then-level_at-depth-clause-whole c =
    let o = c.args.self.now in
    let i = c.loop-self.invariant in
    subst Whole (sym i.state) (State-rewind o.trail o.hand.held o.lists o.short.items o.settled o.head o.late c.requires.whole c.loop-self.self.head i.low i.again)
