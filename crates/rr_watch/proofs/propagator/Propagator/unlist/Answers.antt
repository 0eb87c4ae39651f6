use Rattle.rr_cnf.specs.Codes.{code_of}
use Rattle.rr_watch_lists.proofs.ListLaws.{unlisted_count}
use Rattle.rr_watch.proofs.StateLaws.{State-unlist}
use Rattle.rr_watch.proofs.StateSteps.{served_unlisted}
use Rattle.rr_watch.proofs.propagator.Propagator.unlist.Goals as goal

pub returns-clause-whole : goal.returns-clause-whole
returns-clause-whole c =
    let o = c.args.self.now in
    State-unlist o.trail o.hand.held o.lists o.short.items o.settled o.head o.late c.requires.whole c.remove.new.self c.args.falsified c.args.at c.requires.at c.remove.ensures c.requires.other

pub returns-clause-stepped : goal.returns-clause-stepped
returns-clause-stepped c =
    let o = c.args.self.now in
    (served_unlisted o.trail.entries o.hand.held o.lists c.remove.new.self c.args.falsified c.args.at c.requires.at c.remove.ensures c.requires.served, unlisted_count o.lists c.remove.new.self (code_of c.args.falsified) c.args.at c.remove.ensures c.requires.at)
