use Rattle.std.proofs.Common.{◌≡◌, ◌∙◌, ap, sym, subst, arith, length}
use Rattle.rr_watch.specs.Lists.{AreForcedShort, IsPropagator}
use Rattle.rr_watch.proofs.AdvanceLaws.{Advances-none, Advances-trans, forced_settled, forced_more, forced_next}
use Rattle.rr_watch.proofs.StateLaws.{State-settle}
use Rattle.rr_watch.proofs.propagator.Propagator.force_short.Goals as goal

pub loop-place-init : goal.loop-place-init
loop-place-init c = record { whole = c.requires.whole; advances = Advances-none c.args.self.now; end = omega (arith, c.args.self.now.short.ok.0); done = forced_settled c.args.self.now c.requires.whole }

pub returns-in-Some-clause-advances : goal.returns-in-Some-clause-advances
returns-in-Some-clause-advances c = Advances-trans c.args.self.now c.loop-place.self c.force_one.new.self c.loop-place.invariant.advances c.force_one.ensures.advances

pub loop-place-preserved : goal.loop-place-preserved
loop-place-preserved c =
    let i = c.loop-place.invariant in
    let f = c.force_one.ensures in
    let n = c.force_one.new.self in
    record {
      whole = f.whole;
      advances = Advances-trans c.args.self.now c.loop-place.self n i.advances f.advances;
      end = i.end ∙ sym (ap length f.keeps.short);
      done = forced_next n c.loop-place.place (forced_more c.loop-place.self n i.whole f.advances f.keeps.short c.loop-place.place (omega (arith, c.loop-place-test.true, i.end)) i.done) c.in_default.ensures.forced;
    }

pub returns-then-depth-eq0-clause-whole : goal.returns-then-depth-eq0-clause-whole
returns-then-depth-eq0-clause-whole c =
    let i = c.loop-place.invariant in
    let s = c.loop-place.self in
    let h = c.depth.ensures in
    let all : AreForcedShort s (length s.short.items) = λ n b. i.done n (omega (arith, b, i.end, c.loop-place-test.false)) in
    let n : length s.short.items ≡ c.len-self.result = omega (arith, c.len-self.ensures, s.short.ok.0) in
    subst (λ k. IsPropagator s.trail s.hand.held s.lists s.short.items k s.head s.late) n
    (State-settle s.trail s.hand.held s.lists s.short.items s.settled s.head s.late i.whole (sym h ∙ c.if-depth-eq0.true) all)
