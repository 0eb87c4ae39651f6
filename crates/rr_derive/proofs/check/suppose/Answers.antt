use Rattle.std.proofs.Common.{arith, subst, sym, ◌<◌, length}
use Rattle.std.proofs.lemmas.Bool.{MatchBool-at_false, MatchBool-at_true}
use Rattle.std.proofs.lemmas.List.{take_all}
use Rattle.std.proofs.lemmas.List.Elements.{All-contains}
use Rattle.rr_derive.proofs.MarkLaws.{take_read, Supposed, Supposed-none, Supposed-again, Supposed-new, Supposed-tautology}
use Rattle.rr_derive.proofs.check.suppose.Goals as goal
use Rattle.rr_derive.proofs.check.suppose.Goals.{in-Some-false, in-None}

pub loop-lit-init : goal.loop-lit-init
loop-lit-init c = Supposed-none _ _ c.requires.fresh

pub loop-lit-preserved : goal.loop-lit-preserved
loop-lit-preserved c =
    let xs = c.args.clause.now in
    let i = c.loop-lit.lit-index in
    let l = c.lit-item.result in
    let e = take_read xs i l c.loop-lit-test.true c.lit-item.is in
    let inside = All-contains (λ k. k.var < length c.args.marks.now) xs l c.requires.within (i, c.loop-lit-test.true, sym c.lit-item.is) in
    let within : l.var < length c.loop-lit.marks = omega (arith, c.loop-lit.auto.marks) in
    subst (λ ys. Supposed c.match-value.marks c.args.stamp ys) e
    (elim c.match-value.branch [
      | in-Some-false w ↦ rw w.marks-is (Supposed-again _ _ _ l c.loop-lit.invariant within (MatchBool-at_false _ _ w.in-Some-false.field-0-test w.in-Some-false.ensures))
      | in-None w ↦ rw (w.marks-is, w.assume.ensures, w.negated.ensures) (Supposed-new _ _ _ l c.loop-lit.invariant within w.in-None.ensures)
    ])

pub returns-in-Some-true-clause-result : goal.returns-in-Some-true-clause-result
returns-in-Some-true-clause-result c =
    let l = c.lit-item.result in
    let inside = All-contains (λ k. k.var < length c.args.marks.now) c.args.clause.now l c.requires.within (c.loop-lit.lit-index, c.loop-lit-test.true, sym c.lit-item.is) in
    let within : l.var < length c.loop-lit.marks = omega (arith, c.loop-lit.auto.marks) in
    Supposed-tautology _ _ _ _ _ c.loop-lit.invariant c.loop-lit-test.true c.lit-item.is within (MatchBool-at_true _ _ c.in-Some-true.field-0-test c.in-Some-true.ensures)

pub returns-clause-result : goal.returns-clause-result
returns-clause-result c =
    let s = subst (λ ys. Supposed c.loop-lit.marks c.args.stamp ys) (take_all c.loop-lit.lit-index c.args.clause.now c.loop-lit-test.false) c.loop-lit.invariant in
    (s.plain, s.held)
