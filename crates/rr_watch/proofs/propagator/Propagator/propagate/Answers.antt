use Rattle.std.proofs.Common.{◌∙◌, ap, sym, subst, arith, length}
use Rattle.rr_watch.specs.Lists.{AreForcedShort}
use Rattle.rr_trail.proofs.EntryLaws.{length_lits}
use Rattle.rr_watch.proofs.AdvanceLaws.{Advances-trans, forced_more}
use Rattle.rr_watch.proofs.StateLaws.{quiet_at_rest}
use Rattle.rr_watch.proofs.propagator.Propagator.propagate.Goals as goal

pub returns-in-Some-force_short-clause-advances : goal.returns-in-Some-force_short-clause-advances
returns-in-Some-force_short-clause-advances c = Advances-trans c.args.self.now c.skip.new.self c.force_short.new.self c.skip.ensures.advances c.force_short.ensures.advances

pub loop-self-init : goal.loop-self-init
loop-self-init c = record { whole = c.force_short.ensures.whole; advances = Advances-trans c.args.self.now c.skip.new.self c.force_short.new.self c.skip.ensures.advances c.force_short.ensures.advances; short = c.in_default-force_short.ensures.forced }

pub loop-self-preserved : goal.loop-self-preserved
loop-self-preserved c =
    let i = c.loop-self.invariant in
    let s = c.loop-self.self in
    let n = c.visit.new.self in
    let e = c.visit.ensures in
    let f = forced_more s n i.whole e.advances e.short (length s.short.items) (omega arith) i.short in
    record {
      whole = e.whole;
      advances = Advances-trans c.args.self.now s n i.advances e.advances;
      short = subst (λ x. AreForcedShort n (length x)) (sym e.short) f;
    }

pub returns-clause-quiet : goal.returns-clause-quiet
returns-clause-quiet c =
    let i = c.loop-self.invariant in
    let s = c.loop-self.self in
    let len = ap length c.lits.ensures.lits ∙ length_lits s.trail.entries in
    quiet_at_rest s.trail s.hand.held s.lists s.short.items s.settled s.head s.late i.whole (omega (arith, len, c.loop-self-test.false)) i.short
