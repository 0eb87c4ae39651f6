use Rattle.std.proofs.Common.{◌≡◌, ◌∙◌, ap, refl, arith, rules, Some}
use Rattle.rr_syntax.specs.View.{plain, plain_list}
use Rattle.rr_expr.specs.declared.types.ExprFault.{ExprFault}
use Rattle.rr_expr.specs.declared.types.Shape.{Shape}
use Rattle.rr_expr.specs.Values.{form}
use Rattle.rr_expr.specs.Faults.{fault, faults}
use Rattle.rr_expr.proofs.Parts.{widths_none, widths_next, faults_here, faults_on, faults_end}
use Rattle.rr_expr.proofs.Sound.{fit_without_faults}
use Rattle.rr_expr.proofs.shapes.+shapes.Goals as goal

pub parts_bits-loop-part-init : goal.parts_bits-loop-part-init
parts_bits-loop-part-init t c = (widths_none c.args.scope.now, omega arith, refl, c.requires.noted)

pub parts_bits-returns-in_err-bits-clause-fault : goal.parts_bits-returns-in_err-bits-clause-fault
parts_bits-returns-in_err-bits-clause-fault t c =
    let stop : (f : ExprFault) → fault c.args.scope.now (plain c.part-item.result) c.args.constant ≡ Some f → faults c.args.scope.now (plain_list c.args.parts.now) c.args.constant ≡ Some f = λ f h. c.loop-part.invariant.2 ∙ faults_here c.args.scope.now c.args.constant c.args.parts.now c.loop-part.part-index c.part-item.result f c.loop-part-test.true c.part-item.is h in
    search (rules, stop)

pub parts_bits-loop-part-preserved : goal.parts_bits-loop-part-preserved
parts_bits-loop-part-preserved t c =
    let n = widths_next c.args.scope.now c.args.parts.now c.loop-part.part-index c.part-item.result c.loop-part-test.true c.part-item.is in
    let w : c.in_ok-bits.field-0.width ≡ (form c.args.scope.now (plain c.part-item.result)).width = ap (λ (a : Shape). a.width) c.in_ok-bits.ensures.value in
    let k = faults_on c.args.scope.now c.args.constant c.args.parts.now c.loop-part.part-index c.part-item.result c.loop-part-test.true c.part-item.is c.in_ok-bits.ensures.none in
    (omega (arith, n, w, c.loop-part.invariant.0), omega (arith, c.loop-part.invariant.1, c.in_ok-bits.ensures.high), c.loop-part.invariant.2 ∙ k, c.shape_in.ensures.noted)

pub parts_bits-returns-clause-none : goal.parts_bits-returns-clause-none
parts_bits-returns-clause-none t c = c.loop-part.invariant.2 ∙ faults_end c.args.scope.now c.args.constant c.args.parts.now c.loop-part.part-index (omega (arith, c.loop-part-test.false))

pub parts_bits-returns-clause-fit : goal.parts_bits-returns-clause-fit
parts_bits-returns-clause-fit t c = fit_without_faults c.args.scope.now c.args.constant (plain_list c.args.parts.now) (c.loop-part.invariant.2 ∙ faults_end c.args.scope.now c.args.constant c.args.parts.now c.loop-part.part-index (omega (arith, c.loop-part-test.false)))
