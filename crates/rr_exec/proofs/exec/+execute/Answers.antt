use Rattle.std.proofs.Common.{◌≡◌, ◌∙◌, sym, ap, rules, true, false, List}
use Rattle.std.proofs.lemmas.Result.{on_ok_weaker}
use Rattle.rr_syntax.specs.declared.token.Keyword.{Keyword}
use Rattle.rr_syntax.specs.declared.tree.Stmt.{the_lemmas}
use Rattle.rr_syntax.specs.View.{plain, plain_arms, plain_list, plain_statement}
use Rattle.rr_expr.specs.Scopes.{env_of}
use Rattle.rr_cycle.specs.Exec.{Environment, Update, applied, executed, executed_case, executed_default, is_matched, updates, updates_of_case, updates_of_default}
use Rattle.rr_exec.specs.declared.exec.Machine.{Machine}
use Rattle.rr_exec.specs.Work.{updates_in}
use Rattle.rr_exec.proofs.Loops.{arm_body_shaped, arm_labels_shaped, case_done, case_hit, case_is, case_left, case_more, default_done, default_hit, default_more, left_case_done, left_case_hit, left_case_more, left_default_done, left_default_hit, left_default_more, left_done, left_more, narrow_labels_at, no_labels, run_done, run_more, shaped_at, some_labels}
use Rattle.rr_exec.proofs.Nodes.{left-Case, none_applied, run-Case, shaped-Case-arms, shaped-Case-on}
use Rattle.rr_exec.proofs.exec.+execute.Goals as goal

pub execute-execute_arms-requires : goal.execute-execute_arms-requires
execute-execute_arms-requires t c =
    let s = c.selector_of-selector.ensures in
    (search (rules, the_lemmas), (shaped-Case-arms _ _ _ _ (rw c.in-Case.is at c.requires.shaped), (s.narrow, (s.width, (s.high, (c.requires.holds, c.requires.fits))))))

pub execute-selector_of-selector-requires-clause-on : goal.execute-selector_of-selector-requires-clause-on
execute-selector_of-selector-requires-clause-on t c = shaped-Case-on _ _ _ _ (rw c.in-Case.is at c.requires.shaped)

pub execute-selector_of-selector-requires-clause-arms : goal.execute-selector_of-selector-requires-clause-arms
execute-selector_of-selector-requires-clause-arms t c = shaped-Case-arms _ _ _ _ (rw c.in-Case.is at c.requires.shaped)

pub execute-returns-in-Case-clause-env : goal.execute-returns-in-Case-clause-env
execute-returns-in-Case-clause-env t c =
    let s = c.args.scope.now in
    let e : Environment = env_of c.args.machine.now.env.values.items in
    let r = c.selector_of-selector.result in
    on_ok_weaker c.execute_arms.result
    (λ g. rw c.in-Case.is
    (g ∙ ap (λ (k : Keyword). executed_case s k.0 r.shape r.value (plain_arms c.in-Case.arms.now) (executed_default s (plain_arms c.in-Case.arms.now) e) e) c.selector_of-selector.ensures.kind
    ∙ case_is s c.in-Case.kind.0 (plain c.in-Case.on.now) (plain_arms c.in-Case.arms.now) e r.shape r.value c.selector_of-selector.ensures.shape c.selector_of-selector.ensures.value
    ∙ sym (run-Case s c.in-Case.kind c.in-Case.on c.in-Case.arms e)))
    c.execute_arms.ensures.env

pub execute-returns-in-Case-clause-later : goal.execute-returns-in-Case-clause-later
execute-returns-in-Case-clause-later t c =
    let s = c.args.scope.now in
    let e : Environment = env_of c.args.machine.now.env.values.items in
    let r = c.selector_of-selector.result in
    on_ok_weaker c.execute_arms.result
    (λ h d. rw c.in-Case.is
    (h d ∙ ap (λ (us : List Update). applied us (applied (updates_in c.args.machine.now.later.items) d))
    (ap (λ (k : Keyword). updates_of_case s k.0 r.shape r.value (plain_arms c.in-Case.arms.now) (updates_of_default s (plain_arms c.in-Case.arms.now) e) e) c.selector_of-selector.ensures.kind
    ∙ case_left s c.in-Case.kind.0 (plain c.in-Case.on.now) (plain_arms c.in-Case.arms.now) e r.shape r.value c.selector_of-selector.ensures.shape c.selector_of-selector.ensures.value
    ∙ sym (left-Case s c.in-Case.kind c.in-Case.on c.in-Case.arms e))))
    c.execute_arms.ensures.later

pub execute_all-execute-requires : goal.execute_all-execute-requires
execute_all-execute-requires t c = (
  search (rules, the_lemmas),
  (
    shaped_at c.args.scope.now c.args.body.now c.loop-stmt.stmt-index c.stmt-item.result c.loop-stmt-test.true c.stmt-item.is c.requires.shaped,
    (rw c.loop-stmt.invariant.count c.requires.holds, rw c.loop-stmt.invariant.count c.loop-stmt.invariant.fits),
  ),
)

pub execute_all-loop-stmt-preserved : goal.execute_all-loop-stmt-preserved
execute_all-loop-stmt-preserved t c = record {
  env = rw c.in_ok-execute.ensures.env
      (run_more c.args.scope.now c.args.body.now c.loop-stmt.stmt-index c.stmt-item.result (env_of c.loop-stmt.machine.env.values.items) _ c.loop-stmt-test.true c.stmt-item.is c.loop-stmt.invariant.env);
  later = λ e. rw c.in_ok-execute.ensures.env
      (left_more c.args.scope.now c.args.body.now c.loop-stmt.stmt-index c.stmt-item.result (env_of c.loop-stmt.machine.env.values.items) (applied (updates_in c.loop-stmt.machine.later.items) e) (applied (updates_in c.execute.new.machine.later.items) e) _
      c.loop-stmt-test.true c.stmt-item.is (c.loop-stmt.invariant.later e) (c.in_ok-execute.ensures.later e));
  fits = rw (← c.loop-stmt.invariant.count) c.in_ok-execute.ensures.fits;
  count = c.in_ok-execute.ensures.count ∙ c.loop-stmt.invariant.count;
  none = c.in_ok-execute.ensures.none ∙ c.loop-stmt.invariant.none;
}

pub execute_all-returns-clause-env : goal.execute_all-returns-clause-env
execute_all-returns-clause-env t c = run_done c.args.scope.now c.args.body.now c.loop-stmt.stmt-index (env_of c.loop-stmt.machine.env.values.items) _ c.loop-stmt-test.false c.loop-stmt.invariant.env

pub execute_all-returns-clause-later : goal.execute_all-returns-clause-later
execute_all-returns-clause-later t c = λ e.
    left_done c.args.scope.now c.args.body.now c.loop-stmt.stmt-index (env_of c.loop-stmt.machine.env.values.items) (applied (updates_in c.loop-stmt.machine.later.items) e) _ c.loop-stmt-test.false (c.loop-stmt.invariant.later e)

pub execute_arms-is_matched-requires-clause-shaped : goal.execute_arms-is_matched-requires-clause-shaped
execute_arms-is_matched-requires-clause-shaped t c = arm_labels_shaped c.args.scope.now c.args.arms.now c.loop-arm.arm-index c.arm-item.result c.loop-arm-test.true c.arm-item.is c.requires.arms

pub execute_arms-is_matched-requires-clause-narrow : goal.execute_arms-is_matched-requires-clause-narrow
execute_arms-is_matched-requires-clause-narrow t c = narrow_labels_at c.args.scope.now c.args.selector.now.shape.width c.args.arms.now c.loop-arm.arm-index c.arm-item.result c.loop-arm-test.true c.arm-item.is c.requires.narrow

pub execute_arms-execute-requires : goal.execute_arms-execute-requires
execute_arms-execute-requires t c = (
  search (rules, the_lemmas),
  (
    arm_body_shaped c.args.scope.now c.args.arms.now c.loop-arm.arm-index c.arm-item.result c.loop-arm-test.true c.arm-item.is c.requires.arms,
    (rw c.loop-arm.invariant.same c.requires.holds, rw c.loop-arm.invariant.same c.requires.fits),
  ),
)

pub execute_arms-returns-then-is_matched-clause-env : goal.execute_arms-returns-then-is_matched-clause-env
execute_arms-returns-then-is_matched-clause-env t c =
    let s = c.args.scope.now in
    let a = c.args.selector.now in
    let x = c.arm-item.result in
    let e : Environment = env_of c.args.machine.now.env.values.items in
    let v : env_of c.loop-arm.machine.env.values.items ≡ e = ap (λ (m : Machine). env_of m.env.values.items) c.loop-arm.invariant.same in
    let m : is_matched s a.kind.0 a.shape a.value (plain_list x.labels.now) e ≡ true = sym (c.is_matched.ensures ∙ ap (is_matched s a.kind.0 a.shape a.value (plain_list x.labels.now)) v) ∙ c.if-is_matched.true in
    on_ok_weaker c.execute.result
    (λ g. g ∙ ap (executed s (plain_statement x.body.now)) v
    ∙ case_hit s a.kind.0 a.shape a.value c.args.arms.now c.loop-arm.arm-index x (executed_default s (plain_arms c.args.arms.now) e) e _ c.loop-arm-test.true c.arm-item.is m c.loop-arm.invariant.env)
    c.execute.ensures.env

pub execute_arms-returns-then-is_matched-clause-later : goal.execute_arms-returns-then-is_matched-clause-later
execute_arms-returns-then-is_matched-clause-later t c =
    let s = c.args.scope.now in
    let a = c.args.selector.now in
    let x = c.arm-item.result in
    let e : Environment = env_of c.args.machine.now.env.values.items in
    let v : env_of c.loop-arm.machine.env.values.items ≡ e = ap (λ (m : Machine). env_of m.env.values.items) c.loop-arm.invariant.same in
    let m : is_matched s a.kind.0 a.shape a.value (plain_list x.labels.now) e ≡ true = sym (c.is_matched.ensures ∙ ap (is_matched s a.kind.0 a.shape a.value (plain_list x.labels.now)) v) ∙ c.if-is_matched.true in
    on_ok_weaker c.execute.result
    (λ h d. h d
    ∙ ap (λ (m : Machine). applied (updates s (plain_statement x.body.now) (env_of m.env.values.items)) (applied (updates_in m.later.items) d)) c.loop-arm.invariant.same
    ∙ ap (λ (us : List Update). applied us (applied (updates_in c.args.machine.now.later.items) d))
    (left_case_hit s a.kind.0 a.shape a.value c.args.arms.now c.loop-arm.arm-index x (updates_of_default s (plain_arms c.args.arms.now) e) _ e c.loop-arm-test.true c.arm-item.is m c.loop-arm.invariant.later))
    c.execute.ensures.later

pub execute_arms-loop-arm-preserved : goal.execute_arms-loop-arm-preserved
execute_arms-loop-arm-preserved t c =
    let s = c.args.scope.now in
    let a = c.args.selector.now in
    let x = c.arm-item.result in
    let e : Environment = env_of c.args.machine.now.env.values.items in
    let v : env_of c.loop-arm.machine.env.values.items ≡ e = ap (λ (m : Machine). env_of m.env.values.items) c.loop-arm.invariant.same in
    let m : is_matched s a.kind.0 a.shape a.value (plain_list x.labels.now) e ≡ false = sym (c.is_matched.ensures ∙ ap (is_matched s a.kind.0 a.shape a.value (plain_list x.labels.now)) v) ∙ c.if-is_matched.false in
    record {
      same = c.loop-arm.invariant.same;
      env = case_more s a.kind.0 a.shape a.value c.args.arms.now c.loop-arm.arm-index x (executed_default s (plain_arms c.args.arms.now) e) e _ c.loop-arm-test.true c.arm-item.is m c.loop-arm.invariant.env;
      later = left_case_more s a.kind.0 a.shape a.value c.args.arms.now c.loop-arm.arm-index x (updates_of_default s (plain_arms c.args.arms.now) e) _ e c.loop-arm-test.true c.arm-item.is m c.loop-arm.invariant.later;
    }

pub execute_arms-loop-other-init : goal.execute_arms-loop-other-init
execute_arms-loop-other-init t c =
    let s = c.args.scope.now in
    let a = c.args.selector.now in
    let e : Environment = env_of c.args.machine.now.env.values.items in
    record {
      same = c.loop-arm.invariant.same;
      env = case_done s a.kind.0 a.shape a.value c.args.arms.now c.loop-arm.arm-index (executed_default s (plain_arms c.args.arms.now) e) e _ c.loop-arm-test.false c.loop-arm.invariant.env;
      later = left_case_done s a.kind.0 a.shape a.value c.args.arms.now c.loop-arm.arm-index (updates_of_default s (plain_arms c.args.arms.now) e) _ e c.loop-arm-test.false c.loop-arm.invariant.later;
    }

pub execute_arms-execute-requires-then-is_empty : goal.execute_arms-execute-requires-then-is_empty
execute_arms-execute-requires-then-is_empty t c = (
  search (rules, the_lemmas),
  (
    arm_body_shaped c.args.scope.now c.args.arms.now c.loop-other.other-index c.other-item.result c.loop-other-test.true c.other-item.is c.requires.arms,
    (rw c.loop-other.invariant.same c.requires.holds, rw c.loop-other.invariant.same c.requires.fits),
  ),
)

pub execute_arms-returns-then-is_empty-clause-env : goal.execute_arms-returns-then-is_empty-clause-env
execute_arms-returns-then-is_empty-clause-env t c =
    let s = c.args.scope.now in
    let x = c.other-item.result in
    let e : Environment = env_of c.args.machine.now.env.values.items in
    on_ok_weaker c.execute-then-is_empty.result
    (λ g. g ∙ ap (λ (m : Machine). executed s (plain_statement x.body.now) (env_of m.env.values.items)) c.loop-other.invariant.same
    ∙ default_hit s c.args.arms.now c.loop-other.other-index x e _ c.loop-other-test.true c.other-item.is (no_labels x.labels.now _ c.is_empty.ensures c.if-is_empty.true) c.loop-other.invariant.env)
    c.execute-then-is_empty.ensures.env

pub execute_arms-returns-then-is_empty-clause-later : goal.execute_arms-returns-then-is_empty-clause-later
execute_arms-returns-then-is_empty-clause-later t c =
    let s = c.args.scope.now in
    let x = c.other-item.result in
    let e : Environment = env_of c.args.machine.now.env.values.items in
    on_ok_weaker c.execute-then-is_empty.result
    (λ h d. h d
    ∙ ap (λ (m : Machine). applied (updates s (plain_statement x.body.now) (env_of m.env.values.items)) (applied (updates_in m.later.items) d)) c.loop-other.invariant.same
    ∙ ap (λ (us : List Update). applied us (applied (updates_in c.args.machine.now.later.items) d))
    (left_default_hit s c.args.arms.now c.loop-other.other-index x _ e c.loop-other-test.true c.other-item.is (no_labels x.labels.now _ c.is_empty.ensures c.if-is_empty.true) c.loop-other.invariant.later))
    c.execute-then-is_empty.ensures.later

pub execute_arms-loop-other-preserved : goal.execute_arms-loop-other-preserved
execute_arms-loop-other-preserved t c =
    let s = c.args.scope.now in
    let x = c.other-item.result in
    let e : Environment = env_of c.args.machine.now.env.values.items in
    record {
      same = c.loop-other.invariant.same;
      env = default_more s c.args.arms.now c.loop-other.other-index x e _ c.loop-other-test.true c.other-item.is (some_labels x.labels.now _ c.is_empty.ensures c.if-is_empty.false) c.loop-other.invariant.env;
      later = left_default_more s c.args.arms.now c.loop-other.other-index x _ e c.loop-other-test.true c.other-item.is (some_labels x.labels.now _ c.is_empty.ensures c.if-is_empty.false) c.loop-other.invariant.later;
    }

pub execute_arms-returns-clause-env : goal.execute_arms-returns-clause-env
execute_arms-returns-clause-env t c =
    ap (λ (m : Machine). env_of m.env.values.items) c.loop-other.invariant.same
    ∙ default_done c.args.scope.now c.args.arms.now c.loop-other.other-index (env_of c.args.machine.now.env.values.items) _ c.loop-other-test.false c.loop-other.invariant.env

pub execute_arms-returns-clause-later : goal.execute_arms-returns-clause-later
execute_arms-returns-clause-later t c = λ d.
    ap (λ (m : Machine). applied (updates_in m.later.items) d) c.loop-other.invariant.same
    ∙ sym (none_applied (applied (updates_in c.args.machine.now.later.items) d))
    ∙ ap (λ (us : List Update). applied us (applied (updates_in c.args.machine.now.later.items) d))
    (left_default_done c.args.scope.now c.args.arms.now c.loop-other.other-index _ (env_of c.args.machine.now.env.values.items) c.loop-other-test.false c.loop-other.invariant.later)
