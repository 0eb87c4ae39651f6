use Rattle.std.proofs.Common.{◌≡◌, ◌∙◌, ◌+◌, length, ap, sym, subst, arith}
use Rattle.std.proofs.lemmas.List.{length_push}
use Rattle.rr_solver.specs.Searches.{SteppedIs}
use Rattle.rr_solver.specs.declared.engine.Status.TheVariants.{Running, Refuted}
use Rattle.rr_solver.proofs.Ends.{refuted_of, spent_of}
use Rattle.rr_solver.proofs.outcome.solve.Goals as goal

pub loop-number-preserved : goal.loop-number-preserved
loop-number-preserved c =
    let i = c.loop-number.invariant in
    let e = c.in_ok-conflict_step.ensures in
    let p = subst (SteppedIs c.loop-number.solver c.conflict_step.new.self) c.in-Learned.is (e.running i.status) in
    record {
      formula = e.same.formula ∙ i.formula;
      inputs = e.same.inputs ∙ i.inputs;
      handed = e.same.handed ∙ i.handed;
      lines = ap length p.1.0.lines ∙ length_push c.loop-number.solver.lines p.1.0.added ∙ ap (λ n. n + 1) i.lines;
      status = p.0;
    }

pub returns-in-Refuted : goal.returns-in-Refuted
returns-in-Refuted c =
    let i = c.loop-number.invariant in
    let e = c.in_ok-conflict_step.ensures in
    let p = subst (SteppedIs c.loop-number.solver c.conflict_step.new.self) c.in-Refuted.is (e.running i.status) in
    refuted_of c.args.formula.now c.conflict_step.new.self c.into_journal.result.lines c.into_journal.ensures.log p.0 (e.same.formula ∙ i.formula) (e.same.handed ∙ i.handed) c.into_journal.ensures.lines

pub returns : goal.returns
returns c =
    let i = c.loop-number.invariant in
    let j = c.into_journal-2.ensures in
    let end : length c.loop-number.solver.lines ≡ c.args.budget = omega (arith, i.lines, c.loop-number-test.false, c.loop-number.auto._number-end) in
    spent_of c.args.formula.now c.args.inputs c.args.budget c.loop-number.solver c.into_journal-2.result.lines j.log (j.fresh (λ q. absurd (let z : Running ≡ Refuted = sym i.status ∙ q in cc))) i.formula i.inputs i.handed j.lines end
