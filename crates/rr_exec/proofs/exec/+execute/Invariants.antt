use Rattle.std.proofs.Common.{◌≡◌, drop, length, All}
use Rattle.rr_syntax.specs.View.{plain_arms, plain_statements}
use Rattle.rr_expr.specs.Scopes.{env_of}
use Rattle.rr_cycle.specs.Exec.{Environment, applied, executed_all, executed_case, executed_default, updates_of_all, updates_of_case, updates_of_default}
use Rattle.rr_exec.specs.Work.{IsLater, updates_in}
use Rattle.rr_exec.proofs.exec.+execute.Given as goal

abbrev pub invariant-execute_all-loop-stmt : goal.invariant-execute_all-loop-stmt
invariant-execute_all-loop-stmt l = record {
  env : executed_all l.scope (plain_statements (drop l.stmt-index l.body)) (env_of l.machine.env.values.items) ≡ executed_all l.scope (plain_statements l.body) (env_of l.fn.machine.env.values.items);
  later : (e : Environment) → applied (updates_of_all l.scope (plain_statements (drop l.stmt-index l.body)) (env_of l.machine.env.values.items)) (applied (updates_in l.machine.later.items) e)
      ≡ applied (updates_of_all l.scope (plain_statements l.body) (env_of l.fn.machine.env.values.items)) (applied (updates_in l.fn.machine.later.items) e);
  fits : All (IsLater (length l.fn.machine.env.values.items)) l.machine.later.items;
  count : length l.machine.env.values.items ≡ length l.fn.machine.env.values.items;
  none : l.machine.none ≡ l.fn.machine.none;
}

abbrev pub invariant-execute_arms-loop-arm : goal.invariant-execute_arms-loop-arm
invariant-execute_arms-loop-arm l = record {
  same : l.machine ≡ l.fn.machine;
  env : executed_case l.scope l.selector.kind.0 l.selector.shape l.selector.value (plain_arms (drop l.arm-index l.arms)) (executed_default l.scope (plain_arms l.arms) (env_of l.fn.machine.env.values.items)) (env_of l.fn.machine.env.values.items)
      ≡ executed_case l.scope l.selector.kind.0 l.selector.shape l.selector.value (plain_arms l.arms) (executed_default l.scope (plain_arms l.arms) (env_of l.fn.machine.env.values.items)) (env_of l.fn.machine.env.values.items);
  later : updates_of_case l.scope l.selector.kind.0 l.selector.shape l.selector.value (plain_arms (drop l.arm-index l.arms)) (updates_of_default l.scope (plain_arms l.arms) (env_of l.fn.machine.env.values.items)) (env_of l.fn.machine.env.values.items)
      ≡ updates_of_case l.scope l.selector.kind.0 l.selector.shape l.selector.value (plain_arms l.arms) (updates_of_default l.scope (plain_arms l.arms) (env_of l.fn.machine.env.values.items)) (env_of l.fn.machine.env.values.items);
}

abbrev pub invariant-execute_arms-loop-other : goal.invariant-execute_arms-loop-other
invariant-execute_arms-loop-other l = record {
  same : l.machine ≡ l.fn.machine;
  env : executed_default l.scope (plain_arms (drop l.other-index l.arms)) (env_of l.fn.machine.env.values.items)
      ≡ executed_case l.scope l.selector.kind.0 l.selector.shape l.selector.value (plain_arms l.arms) (executed_default l.scope (plain_arms l.arms) (env_of l.fn.machine.env.values.items)) (env_of l.fn.machine.env.values.items);
  later : updates_of_default l.scope (plain_arms (drop l.other-index l.arms)) (env_of l.fn.machine.env.values.items)
      ≡ updates_of_case l.scope l.selector.kind.0 l.selector.shape l.selector.value (plain_arms l.arms) (updates_of_default l.scope (plain_arms l.arms) (env_of l.fn.machine.env.values.items)) (env_of l.fn.machine.env.values.items);
}
