use Rattle.std.proofs.Common.{◌≡◌, ◌∙◌, ap, sym, arith, length, inl, inr}
use Rattle.std.proofs.lemmas.Bool.{eqb-true, cases_lt}
use Rattle.rr_trail.specs.Trails.{entry}
use Rattle.rr_watch.proofs.StateLaws.{State-back}
use Rattle.rr_trail.proofs.EntryLaws.{length_lits}
use Rattle.rr_watch.proofs.propagator.Propagator.back.Goals.{then-self-len, else-self-len}
use Rattle.rr_watch.proofs.propagator.Propagator.back.Goals as goal

pub returns-then-level_at-level-clause-whole : goal.returns-then-level_at-level-clause-whole
returns-then-level_at-level-clause-whole c =
    let o = c.args.self.now in
    let t = c.back.new.self.entries in
    let n : length c.lits-len.result.now ≡ length t = ap length c.lits-len.ensures.lits ∙ length_lits t in
    State-back o.trail o.hand.held o.lists o.short.items o.settled o.head o.late c.requires.whole c.back.new.self c.args.level c.min-self.result 18446744073709551615 c.back.ensures.back c.back.ensures.lawful c.back.ensures.room
    (omega (arith, c.min.ensures, c.min-self.ensures)) (omega (arith, c.min.ensures, c.min-self.ensures)) (omega (arith, c.min-self.ensures, n))
    (λ k a b x. elim c.if-self-len.branch [
      | then-self-len w ↦ absurd (let h = w.if-self-len.true in omega (arith, h, n))
      | else-self-len w ↦ (let e : (entry t c.min-self.result).level ≡ c.args.level = sym w.level_at.ensures ∙ eqb-true w.level_at.result c.args.level (sym w.value-is ∙ c.if-level_at-level.true) in
          let top = c.back.ensures.lawful.below k b in
          let deep = c.back.ensures.back.depth in
          elim (cases_lt c.min-self.result k) [
            | inl y ↦ (let up = c.back.ensures.lawful.rising c.min-self.result k y b in omega (arith, e, top, deep, up))
            | inr y ↦ (let q : c.min-self.result ≡ k = omega (arith, a, y) in ap (λ i. (entry t i).level) (sym q) ∙ e ∙ sym deep)
          ])
    ])

pub returns-else-level_at-level-clause-whole : goal.returns-else-level_at-level-clause-whole
returns-else-level_at-level-clause-whole c =
    let o = c.args.self.now in
    let t = c.back.new.self.entries in
    let n : length c.lits-len.result.now ≡ length t = ap length c.lits-len.ensures.lits ∙ length_lits t in
    State-back o.trail o.hand.held o.lists o.short.items o.settled o.head o.late c.requires.whole c.back.new.self c.args.level c.min-self.result c.min-self.result c.back.ensures.back c.back.ensures.lawful c.back.ensures.room
    (omega (arith, c.min.ensures, c.min-self.ensures)) (omega (arith, c.min.ensures, c.min-self.ensures)) (omega (arith, c.min-self.ensures, n)) (λ k a b x. absurd (omega arith))
