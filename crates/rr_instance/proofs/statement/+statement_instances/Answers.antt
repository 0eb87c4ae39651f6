use Rattle.std.proofs.Common.{rules, arith, ap₂, sym, ◌∙◌}
use Rattle.rr_syntax.specs.declared.tree.Stmt.{the_lemmas}
use Rattle.rr_syntax.specs.Tree.{CaseItem}
use Rattle.rr_syntax.specs.View.{plain_list}
use Rattle.rr_syntax.proofs.Lengths.{body_len, stmt_len, body_sum, cases_len, case_len, cases_sum}
use Rattle.rr_syntax.proofs.Sums.{sum_within}
use Rattle.rr_instance.proofs.Snocs.{statements_none, statements_more, arms_none, arms_more, arm_instance, labels_within}
use Rattle.rr_instance.proofs.statement.+statement_instances.Goals as goal

pub statements-loop-stmt-init : goal.statements-loop-stmt-init
statements-loop-stmt-init t c = statements_none c.args.sites.now c.args.choice.now.picks.items c.new-list.result.items c.new-list.ensures.items

pub statements-statement-requires : goal.statements-statement-requires
statements-statement-requires t c = (
  search (rules, the_lemmas),
  let f = c.requires.fits in
      let w = sum_within body_len stmt_len body_sum c.args.body.now c.loop-stmt.stmt-index c.stmt-item.result c.loop-stmt-test.true c.stmt-item.is in
      omega (arith, f, w),
)

pub statements-loop-stmt-preserved : goal.statements-loop-stmt-preserved
statements-loop-stmt-preserved t c =
    statements_more c.args.sites.now c.args.choice.now.picks.items c.loop-stmt.list.items c.add_statement.new.list.items c.args.body.now c.loop-stmt.stmt-index c.stmt-item.result c.in_ok-new.new
    c.loop-stmt-test.true c.stmt-item.is c.loop-stmt.invariant c.in_ok-new.ensures c.in_ok-add_statement.ensures

pub case_arms-loop-arm-init : goal.case_arms-loop-arm-init
case_arms-loop-arm-init t c = arms_none c.args.sites.now c.args.choice.now.picks.items c.new-list.result.items c.new-list.ensures.items

pub case_arms-expression_instances-requires : goal.case_arms-expression_instances-requires
case_arms-expression_instances-requires t c =
    let f = c.requires.fits in
    let w = sum_within cases_len case_len cases_sum c.args.arms.now c.loop-arm.arm-index c.arm-item.result c.loop-arm-test.true c.arm-item.is in
    let l = labels_within (plain_list c.arm-item.result.labels.now) c.arm-item.result.colon in
    omega (arith, f, w, l)

pub case_arms-statement-requires : goal.case_arms-statement-requires
case_arms-statement-requires t c = (
  search (rules, the_lemmas),
  let f = c.requires.fits in
      let w = sum_within cases_len case_len cases_sum c.args.arms.now c.loop-arm.arm-index c.arm-item.result c.loop-arm-test.true c.arm-item.is in
      omega (arith, f, w),
)

pub case_arms-loop-arm-preserved : goal.case_arms-loop-arm-preserved
case_arms-loop-arm-preserved t c =
    arms_more c.args.sites.now c.args.choice.now.picks.items c.loop-arm.list.items c.add_arm.new.list.items c.args.arms.now c.loop-arm.arm-index c.arm-item.result c.in_ok-new.new
    c.loop-arm-test.true c.arm-item.is c.loop-arm.invariant
    (c.in_ok-new.ensures ∙ ap₂ (λ x y. CaseItem x c.arm-item.result.colon y) c.in_ok-labels.ensures c.in_ok-body.ensures ∙ sym (arm_instance c.args.sites.now c.args.choice.now.picks.items c.arm-item.result))
    c.in_ok-add_arm.ensures
