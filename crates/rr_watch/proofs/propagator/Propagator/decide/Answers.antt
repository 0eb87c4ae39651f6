use Rattle.std.proofs.Common.{◌≡◌, ◌∙◌, ap, sym, arith, length}
use Rattle.std.specs.Prelude.{None, Some}
use Rattle.rr_trail.proofs.EntryLaws.{length_lits}
use Rattle.rr_watch.proofs.StateLaws.{State-push}
use Rattle.rr_watch.proofs.propagator.Propagator.decide.Goals as goal

pub returns-clause-whole : goal.returns-clause-whole
returns-clause-whole c =
    let o = c.args.self.now in
    let e = c.decide.ensures.state in
    let n : length c.lits.result.now ≡ length o.trail.entries = ap length c.lits.ensures.lits ∙ length_lits o.trail.entries in
    State-push o.trail o.hand.held o.lists o.short.items o.settled o.head o.late c.requires.whole c.decide.new.self _ c.late_with-self.result (ap (λ s. s.vars) e) (ap (λ s. s.entries) e) c.decide.ensures.lawful c.decide.ensures.room c.requires.within (sym (ap (λ s. s.depth) e))
    c.late_with-self.ensures.low (λ k a b x. absurd (let z = c.late_with-self.ensures.pending (omega (arith, n)) in omega (arith, z))) (λ id r. absurd (let z : None ≡ Some id = r in cc))
