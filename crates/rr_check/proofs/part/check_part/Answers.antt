use Rattle.std.proofs.Common.{refl, slice_index_or, ◌≡◌, ◌<◌, ◌∙◌, sym, ap, subst, arith, length}
use Rattle.std.proofs.lemmas.Bool.{eqb-true, eqb-false, false≢true}
use Rattle.std.proofs.lemmas.List.{nil_from_length}
use Rattle.rr_check.proofs.Checks.{Checked-bad, Checked-empty, Checked-other, Checked-accepted, Checked-without}
use Rattle.rr_check.proofs.part.check_part.Goals as goal
use Rattle.rr_check.proofs.part.check_part.Goals.{then-is_empty, else-is_empty}

pub returns-then-not-check_line-clause-verdict : goal.returns-then-not-check_line-clause-verdict
returns-then-not-check_line-clause-verdict c =
    let i = c.loop-index.invariant in
    let h : c.loop-index.index < c.args.part.end = omega arith in
    Checked-bad _ c.args.journal.now.lines _ _ _ _ i.checked i.low h (λ p. false≢true (c.if-not-check_line.ensures.result.1 p))

pub loop-index-preserved : goal.loop-index-preserved
loop-index-preserved c =
    let lines = c.args.journal.now.lines in
    let i = c.loop-index.invariant in
    let s = c.index-lines-index.result in
    let h : c.loop-index.index < length lines = omega (arith, c.requires.part.1) in
    let e = subst (λ xs. s ≡ slice_index_or xs c.loop-index.index s) c.lines.ensures.lines c.index-lines-index.is in
    let clause : c.lits.result.now ≡ s.clause = c.lits.ensures ∙ ap (λ x. x.clause) c.line.view_is in
    let passes = c.if-not-check_line.ensures.result.0 refl in
    record {
      room = c.check_line.ensures.room ∙ i.room;
      low = omega (arith, i.low);
      checked = elim c.if-is_empty.branch [
        | then-is_empty w ↦ rw w.has_empty-is (Checked-empty _ lines _ _ _ s i.checked i.low h e passes (sym clause ∙ nil_from_length _ (eqb-true _ 0 (sym c.is_empty.ensures ∙ w.if-is_empty.true))))
        | else-is_empty w ↦ rw w.has_empty-is (Checked-other _ lines _ _ _ s i.checked h e passes (λ z. eqb-false _ 0 (sym c.is_empty.ensures ∙ w.if-is_empty.false) (ap length (clause ∙ z))))
      ];
    }

pub returns-then-has_empty-clause-verdict : goal.returns-then-has_empty-clause-verdict
returns-then-has_empty-clause-verdict c = Checked-accepted _ c.args.journal.now.lines _ _ _ _ c.loop-index.invariant.checked (omega arith) c.if-has_empty.true

pub returns-else-has_empty-clause-verdict : goal.returns-else-has_empty-clause-verdict
returns-else-has_empty-clause-verdict c = Checked-without _ c.args.journal.now.lines _ _ _ _ c.loop-index.invariant.checked (omega arith) c.if-has_empty.false
