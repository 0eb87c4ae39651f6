use Rattle.std.proofs.Common.{◌∙◌, ◌+◌, ◌<◌, sym, subst, arith, length}
use Rattle.rr_watch_lists.specs.Holdings.{Adds}
use Rattle.rr_watch_lists.specs.declared.hand.Source.TheVariants.{OfFormula}
use Rattle.rr_watch.proofs.NumberLaws.{Loaded, Loaded-more, loaded_below, loaded_source, not_missing}
use Rattle.rr_watch.proofs.watch.Watch.new.Goals.{in-Some+in_ok-add, in_default}
use Rattle.rr_watch.proofs.watch.Watch.new.Goals as goal

pub add-requires-clause-id : goal.add-requires-clause-id
add-requires-clause-id c =
    let f = c.args.formula.now in
    let i = c.loop-index.index in
    loaded_below f c.loop-index.propagator i c.loop-index.invariant (omega (arith, c.loop-index-test.true, c.len-index-end.ensures)) c.in-Some.clause.now (c.in-Some.ensures.found (omega arith))

pub add-requires-clause-from : goal.add-requires-clause-from
add-requires-clause-from c =
    let f = c.args.formula.now in
    let i = c.loop-index.index in
    let s = loaded_source f c.loop-index.propagator i c.loop-index.invariant (omega (arith, c.loop-index-test.true, c.len-index-end.ensures)) c.in-Some.clause.now (c.in-Some.ensures.found (omega arith)) in
    (s.0, s.1, c.lits.ensures ∙ s.2)

pub loop-index-preserved : goal.loop-index-preserved
loop-index-preserved c =
    let f = c.args.formula.now in
    let i = c.loop-index.index in
    let h : i < length f.clauses = omega (arith, c.loop-index-test.true, c.len-index-end.ensures) in
    elim c.match-clause.branch [
      | in-Some+in_ok-add w ↦
          let x = w.in-Some.clause.now in
          let old = c.loop-index.propagator in
          let new = w.add.new.self in
          subst (λ p. Loaded f p (i + 1)) (sym w.propagator-is)
          (Loaded-more f old i c.loop-index.invariant h x (w.in-Some.ensures.found (omega arith)) new w.add.ensures.whole w.add.ensures.trail
          (subst (λ y. Adds old.hand new.hand OfFormula y) w.lits.ensures w.in_ok-add.ensures.ok))
      | in_default w ↦ absurd (not_missing f.clauses i h (w.in_default.ensures.found (omega arith)))
    ]
