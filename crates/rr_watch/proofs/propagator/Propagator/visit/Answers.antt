use Rattle.std.proofs.Common.{arith}
use Rattle.rr_watch.proofs.AdvanceLaws.{Advances-trans, KeepsPlace-trans, next_more}
use Rattle.rr_watch.proofs.StateLaws.{State-next}
use Rattle.rr_watch.proofs.propagator.Propagator.visit.Goals as goal

pub loop-at-preserved-in-Kept : goal.loop-at-preserved-in-Kept
loop-at-preserved-in-Kept c =
    let i = c.loop-at.invariant in
    let e = c.step.ensures in
    record {
      whole = e.whole;
      advances = Advances-trans c.args.self.now c.loop-at.self c.step.new.self i.advances e.advances;
      keeps = KeepsPlace-trans c.args.self.now c.loop-at.self c.step.new.self i.keeps e.keeps;
      served = c.in-Kept.ensures.stepped.0;
    }

pub loop-at-preserved : goal.loop-at-preserved
loop-at-preserved c =
    let i = c.loop-at.invariant in
    let e = c.step.ensures in
    record {
      whole = e.whole;
      advances = Advances-trans c.args.self.now c.loop-at.self c.step.new.self i.advances e.advances;
      keeps = KeepsPlace-trans c.args.self.now c.loop-at.self c.step.new.self i.keeps e.keeps;
      served = c.in-Moved.ensures.stepped.0;
    }

pub returns-in-False-clause-advances : goal.returns-in-False-clause-advances
returns-in-False-clause-advances c = Advances-trans c.args.self.now c.loop-at.self c.step.new.self c.loop-at.invariant.advances c.step.ensures.advances

pub returns-clause-whole : goal.returns-clause-whole
returns-clause-whole c =
    let s = c.loop-at.self in
    let i = c.loop-at.invariant in
    let q = c.args.falsified in
    let n = next_more c.args.self.now s q c.requires.next i.advances i.keeps in
    State-next s.trail s.hand.held s.lists s.short.items s.settled s.head s.late i.whole q n.inside n.literal (λ k b. i.served k (omega (arith, c.loop-at-test.false, c.len.ensures, b)))
