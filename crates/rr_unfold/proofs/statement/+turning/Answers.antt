use Rattle.std.proofs.Common.{◌∙◌, sym, ap, ap₂, inr, arith, refl, Ok}
use Rattle.rr_syntax.specs.Tree.{CaseItem}
use Rattle.rr_syntax.specs.View.{plain_arms, plain_loop, plain_statement, plain_statements}
use Rattle.rr_declarations.proofs.Steps.{refused}
use Rattle.rr_loop_names.specs.View.{plain_turn}
use Rattle.rr_unfold.specs.Unfold.{counted, each_turn, inside, opening, tokens_of, turns_from, unfold_statement, values_from}
use Rattle.rr_unfold.specs.View.{plain_counts}
use Rattle.rr_unfold.proofs.Growing.{statements_none, statements_more, arms_none, arms_more, arm_made, all_next, all_stops, all_done, arms_next, arms_stop, arms_done}
use Rattle.rr_unfold.proofs.Openings.{refuses_then, then_is, values_begin}
use Rattle.rr_unfold.proofs.Turning.{beside_start, turns_step, turns_end, turns_refuse, turns_fail, turns_spent, made_step, made_end}
use Rattle.rr_unfold.proofs.statement.+turning.Goals as goal

-- statements

pub statements-loop-stmt-init : goal.statements-loop-stmt-init
statements-loop-stmt-init t c = (refl, statements_none c.args.scope.now (plain_turn c.args.turn.now) c.new-list.result.items c.new-list.ensures.items)

pub statements-loop-stmt-preserved : goal.statements-loop-stmt-preserved
statements-loop-stmt-preserved t c = (
  all_next c.args.limit c.args.names.now c.args.scope.now (plain_turn c.args.turn.now) c.args.body.now c.loop-stmt.stmt-index c.stmt-item.result (plain_counts c.loop-stmt.counts) (plain_counts c.statement.new.counts) c.loop-stmt-test.true c.stmt-item.is c.in_ok-new.ensures.counted ∙ c.loop-stmt.invariant.0,
  statements_more c.args.scope.now (plain_turn c.args.turn.now) c.loop-stmt.list.items c.add_statement.new.list.items c.args.body.now c.loop-stmt.stmt-index c.stmt-item.result c.in_ok-new.new c.loop-stmt-test.true c.stmt-item.is c.loop-stmt.invariant.1 c.in_ok-new.ensures.made c.in_ok-add_statement.ensures,
)

pub statements-returns-in_err-new-clause-counted : goal.statements-returns-in_err-new-clause-counted
statements-returns-in_err-new-clause-counted t c =
    let h = all_stops c.args.limit c.args.names.now c.args.scope.now (plain_turn c.args.turn.now) c.args.body.now c.loop-stmt.stmt-index c.stmt-item.result (plain_counts c.loop-stmt.counts) c.in_err-new.field-0.0 c.loop-stmt-test.true c.stmt-item.is c.in_err-new.ensures.counted in
    refused c.from_residual.result _ _ c.in_err-new.field-0.0 c.from_residual.ensures.1 (rw c.loop-stmt.invariant.0 at h)

pub statements-returns-clause-counted : goal.statements-returns-clause-counted
statements-returns-clause-counted t c =
    sym c.loop-stmt.invariant.0 ∙ all_done c.args.limit c.args.names.now c.args.scope.now (plain_turn c.args.turn.now) c.args.body.now c.loop-stmt.stmt-index (plain_counts c.loop-stmt.counts) c.loop-stmt-test.false

-- arms

pub cases-loop-arm-init : goal.cases-loop-arm-init
cases-loop-arm-init t c = (refl, arms_none c.args.scope.now (plain_turn c.args.turn.now) c.new-list.result.items c.new-list.ensures.items)

pub cases-loop-arm-preserved : goal.cases-loop-arm-preserved
cases-loop-arm-preserved t c = (
  arms_next c.args.limit c.args.names.now c.args.scope.now (plain_turn c.args.turn.now) c.args.arms.now c.loop-arm.arm-index c.arm-item.result (plain_counts c.loop-arm.counts) (plain_counts c.statement.new.counts) c.loop-arm-test.true c.arm-item.is c.in_ok-body.ensures.counted ∙ c.loop-arm.invariant.0,
  arms_more c.args.scope.now (plain_turn c.args.turn.now) c.loop-arm.list.items c.add_arm.new.list.items c.args.arms.now c.loop-arm.arm-index c.arm-item.result c.in_ok-new.new c.loop-arm-test.true c.arm-item.is c.loop-arm.invariant.1
      (c.in_ok-new.ensures ∙ ap₂ (λ x y. CaseItem x c.arm-item.result.colon y) c.in_ok-labels.ensures c.in_ok-body.ensures.made ∙ sym (arm_made c.args.scope.now (plain_turn c.args.turn.now) c.arm-item.result))
      c.in_ok-add_arm.ensures,
)

pub cases-returns-in_err-body-clause-counted : goal.cases-returns-in_err-body-clause-counted
cases-returns-in_err-body-clause-counted t c =
    let h = arms_stop c.args.limit c.args.names.now c.args.scope.now (plain_turn c.args.turn.now) c.args.arms.now c.loop-arm.arm-index c.arm-item.result (plain_counts c.loop-arm.counts) c.in_err-body.field-0.0 c.loop-arm-test.true c.arm-item.is c.in_err-body.ensures.counted in
    refused c.from_residual.result _ _ c.in_err-body.field-0.0 c.from_residual.ensures.1 (rw c.loop-arm.invariant.0 at h)

pub cases-returns-clause-counted : goal.cases-returns-clause-counted
cases-returns-clause-counted t c =
    sym c.loop-arm.invariant.0 ∙ arms_done c.args.limit c.args.names.now c.args.scope.now (plain_turn c.args.turn.now) c.args.arms.now c.loop-arm.arm-index (plain_counts c.loop-arm.counts) c.loop-arm-test.false

-- turns

pub turns-loop-left-init : goal.turns-loop-left-init
turns-loop-left-init t c = (refl, beside_start c.new-list.result.items _ c.new-list.ensures.items)

pub turns-loop-left-preserved : goal.turns-loop-left-preserved
turns-loop-left-preserved t c =
    let is = ap plain_turn c.as_slice-inner.ensures.value ∙ c.in_ok-entered.ensures in
    let next = c.in_ok-next.ensures ∙ ap Ok c.in-Some.is in (
      turns_step c.args.limit c.args.scope.now (plain_turn c.args.turn.now) (plain_loop c.args.head.now) (tokens_of (plain_statement c.args.body.now)) (λ t d. counted c.args.limit c.args.names.now c.args.scope.now t (plain_statement c.args.body.now) d) c.loop-left.left c.loop-left.value _ (plain_counts c.loop-left.counts) (plain_counts c.in_turn.new.counts)
          (plain_turn c.as_slice-inner.result.now) is c.loop-left-test.true next c.in_ok-new.ensures.counted ∙ c.loop-left.invariant.0,
      made_step c.args.scope.now (plain_turn c.args.turn.now) (plain_loop c.args.head.now) (λ v. unfold_statement c.args.scope.now (inside (plain_loop c.args.head.now) (plain_turn c.args.turn.now) v) (plain_statement c.args.body.now)) c.loop-left.left c.loop-left.value _ (plain_turn c.as_slice-inner.result.now)
          c.loop-left.list.items c.add_statement.new.list.items c.in_ok-new.new _ is c.loop-left-test.true next
          (c.in_ok-new.ensures.made ∙ ap (λ i. unfold_statement c.args.scope.now i (plain_statement c.args.body.now)) is) c.in_ok-add_statement.ensures c.loop-left.invariant.1,
    )

pub turns-returns-in_err-next-clause-counted : goal.turns-returns-in_err-next-clause-counted
turns-returns-in_err-next-clause-counted t c =
    let is = ap plain_turn c.as_slice-inner.ensures.value ∙ c.in_ok-entered.ensures in
    let h = turns_refuse c.args.limit c.args.scope.now (plain_turn c.args.turn.now) (plain_loop c.args.head.now) (tokens_of (plain_statement c.args.body.now)) (λ t d. counted c.args.limit c.args.names.now c.args.scope.now t (plain_statement c.args.body.now) d) c.loop-left.left c.loop-left.value (plain_counts c.loop-left.counts)
    (plain_turn c.as_slice-inner.result.now) c.in_err-next.field-0.0 is c.loop-left-test.true c.in_err-next.ensures in
    refused c.from_residual-in_err-next.result _ _ c.in_err-next.field-0.0 c.from_residual-in_err-next.ensures.1 (rw c.loop-left.invariant.0 at h)

pub turns-returns-in_err-new-clause-counted : goal.turns-returns-in_err-new-clause-counted
turns-returns-in_err-new-clause-counted t c =
    let is = ap plain_turn c.as_slice-inner.ensures.value ∙ c.in_ok-entered.ensures in
    let h = turns_fail c.args.limit c.args.scope.now (plain_turn c.args.turn.now) (plain_loop c.args.head.now) (tokens_of (plain_statement c.args.body.now)) (λ t d. counted c.args.limit c.args.names.now c.args.scope.now t (plain_statement c.args.body.now) d) c.loop-left.left c.loop-left.value _ (plain_counts c.loop-left.counts)
    (plain_turn c.as_slice-inner.result.now) c.in_err-new.field-0.0 is c.loop-left-test.true (c.in_ok-next.ensures ∙ ap Ok c.in-Some.is) c.in_err-new.ensures.counted in
    refused c.from_residual-in_err-new.result _ _ c.in_err-new.field-0.0 c.from_residual-in_err-new.ensures.1 (rw c.loop-left.invariant.0 at h)

pub turns-returns-in_default-clause-counted : goal.turns-returns-in_default-clause-counted
turns-returns-in_default-clause-counted t c =
    let is = ap plain_turn c.as_slice-inner.ensures.value ∙ c.in_ok-entered.ensures in
    sym c.loop-left.invariant.0 ∙ turns_end c.args.limit c.args.scope.now (plain_turn c.args.turn.now) (plain_loop c.args.head.now) (tokens_of (plain_statement c.args.body.now)) (λ t d. counted c.args.limit c.args.names.now c.args.scope.now t (plain_statement c.args.body.now) d) c.loop-left.left c.loop-left.value (plain_counts c.loop-left.counts)
    (plain_turn c.as_slice-inner.result.now) is c.loop-left-test.true (c.in_ok-next.ensures ∙ ap Ok c.in_default.is)

pub turns-returns-in_default-clause-made : goal.turns-returns-in_default-clause-made
turns-returns-in_default-clause-made t c =
    let is = ap plain_turn c.as_slice-inner.ensures.value ∙ c.in_ok-entered.ensures in
    ap plain_statements c.into_bump_slice.ensures
    ∙ made_end c.args.scope.now (plain_turn c.args.turn.now) (plain_loop c.args.head.now) (λ v. unfold_statement c.args.scope.now (inside (plain_loop c.args.head.now) (plain_turn c.args.turn.now) v) (plain_statement c.args.body.now)) c.loop-left.left c.loop-left.value (plain_turn c.as_slice-inner.result.now)
    c.loop-left.list.items _ is c.loop-left-test.true (c.in_ok-next.ensures ∙ ap Ok c.in_default.is) c.loop-left.invariant.1

pub turns-returns-clause-counted : goal.turns-returns-clause-counted
turns-returns-clause-counted t c =
    inr (sym c.loop-left.invariant.0 ∙ turns_spent c.args.limit c.args.scope.now (plain_turn c.args.turn.now) (plain_loop c.args.head.now) (tokens_of (plain_statement c.args.body.now)) (λ t d. counted c.args.limit c.args.names.now c.args.scope.now t (plain_statement c.args.body.now) d) c.loop-left.left c.loop-left.value (plain_counts c.loop-left.counts) (omega arith))

-- a loop

pub looped-returns-in_err-first-clause-counted : goal.looped-returns-in_err-first-clause-counted
looped-returns-in_err-first-clause-counted t c =
    refused c.from_residual.result _ _ c.in_err-first.field-0.0 c.from_residual.ensures.1
    (refuses_then (opening c.args.names.now c.args.scope.now (plain_turn c.args.turn.now) (plain_loop c.args.head.now)) _ c.in_err-first.field-0.0 c.in_err-first.ensures)

pub looped-returns-clause-counted : goal.looped-returns-clause-counted
looped-returns-clause-counted t c =
    let e = then_is (opening c.args.names.now c.args.scope.now (plain_turn c.args.turn.now) (plain_loop c.args.head.now))
    (λ v. turns_from 65537 c.args.limit c.args.scope.now (plain_turn c.args.turn.now) (plain_loop c.args.head.now) (tokens_of (plain_statement c.args.body.now)) (λ t d. counted c.args.limit c.args.names.now c.args.scope.now t (plain_statement c.args.body.now) d) v (plain_counts c.args.counts.now))
    c.in_ok-first.first c.in_ok-first.ensures in
    rw e c.turns.ensures.counted

pub looped-returns-clause-made : goal.looped-returns-clause-made
looped-returns-clause-made t c =
    let e = values_begin c.args.names.now c.args.scope.now (plain_turn c.args.turn.now) (plain_loop c.args.head.now) c.in_ok-first.first c.in_ok-first.ensures in
    rw e c.turns.ensures.made
