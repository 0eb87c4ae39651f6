use Rattle.std.proofs.Common.{subst, sym, take}
use Rattle.std.proofs.lemmas.List.{take_all}
use Rattle.std.specs.Prelude.{None}
use Rattle.std.proofs.lemmas.Bool.{MatchBool-at_false, eqb-true, not-false}
use Rattle.rr_cnf.specs.Codes.{same_code}
use Rattle.rr_derive.specs.Marks.{OpenIn}
use Rattle.rr_derive.proofs.MarkLaws.{take_read, OpenIn-false, OpenIn-open, OpenIn-same}
use Rattle.rr_derive.proofs.check.look.Goals as goal
use Rattle.rr_derive.proofs.check.look.Goals.{in-Some-false, in-None+in-None-candidate, in-None+in-Some+else-ne}

pub loop-lit-preserved : goal.loop-lit-preserved
loop-lit-preserved c =
    let m = c.args.marks.now in
    let s = c.args.stamp in
    let xs = take c.loop-lit.lit-index c.args.clause.now in
    let e = take_read c.args.clause.now c.loop-lit.lit-index c.lit-item.result c.loop-lit-test.true c.lit-item.is in
    subst (λ ys. OpenIn m s ys c.match-value.candidate) e
    (elim c.match-value.branch [
      | in-Some-false w ↦ rw w.candidate-is (OpenIn-false m s xs _ _ c.loop-lit.invariant (MatchBool-at_false _ _ w.in-Some-false.field-0-test w.in-Some-false.ensures))
      | in-None+in-None-candidate w ↦ rw w.candidate-is (OpenIn-open m s xs _ (subst (OpenIn m s xs) w.in-None-candidate.is c.loop-lit.invariant) w.in-None.ensures)
      | in-None+in-Some+else-ne w ↦ rw w.candidate-is (OpenIn-same m s xs _ _ (subst (OpenIn m s xs) w.in-Some.is c.loop-lit.invariant) (sym (same_code _ _ (eqb-true _ _ (not-false _ (sym w.if-ne.ensures))))))
    ])

pub returns-in-None-candidate-2 : goal.returns-in-None-candidate-2
returns-in-None-candidate-2 c =
    let m = c.args.marks.now in
    let s = c.args.stamp in
    let h = subst (OpenIn m s (take c.loop-lit.lit-index c.args.clause.now)) c.in-None-candidate-2.is c.loop-lit.invariant in
    subst (λ ys. OpenIn m s ys None) (take_all c.loop-lit.lit-index c.args.clause.now c.loop-lit-test.false) h
