use Rattle.std.proofs.Common.{◌≡◌, ℕ, Bool, cond, drop}
use Rattle.rr_circuit.specs.Values.{Extends, IsWire, wire_value, wire_values}
use Rattle.rr_syntax.specs.View.{plain_arms, plain_statements}
use Rattle.rr_instance.specs.Instances.{instance_arms, instance_statements}
use Rattle.rr_blast_stmt.specs.Running.{IsMachine, held, ran_all, ran_arms, ran_default}
use Rattle.rr_signal_wires.specs.Words.{widths_of}
use Rattle.rr_blast_terms.specs.Choosing.{picks_of}
use Rattle.rr_blast_stmt.proofs.RanLaws.{Left, ran_rest}
use Rattle.rr_blast_stmt.proofs.statements.+execute.Given as goal

abbrev pub invariant-execute_all-loop-stmt : goal.invariant-execute_all-loop-stmt
invariant-execute_all-loop-stmt l = record {
  extends : Extends l.fn.b l.b;
  machine : IsMachine l.b (widths_of l.fn.machine.now.items) l.machine;
  ran : (env : ℕ → Bool) →
      cond (wire_value l.fn.b env l.guard) (ran_all l.scope (instance_statements l.choice.sites.now (picks_of l.fn.b env l.choice) (plain_statements (drop l.stmt-index l.body))) (held l.b env l.machine)) (held l.b env l.machine)
      ≡ cond (wire_value l.fn.b env l.guard) (ran_all l.scope (instance_statements l.choice.sites.now (picks_of l.fn.b env l.choice) (plain_statements l.body)) (held l.fn.b env l.fn.machine)) (held l.fn.b env l.fn.machine);
}

abbrev pub invariant-execute_arms-loop-arm : goal.invariant-execute_arms-loop-arm
invariant-execute_arms-loop-arm l = record {
  extends : Extends l.fn.b l.b;
  wire : IsWire l.b l.rest;
  machine : IsMachine l.b (widths_of l.fn.machine.now.items) l.machine;
  ran : (env : ℕ → Bool) → Left (wire_value l.fn.b env l.fn.guard) (wire_value l.b env l.rest) (held l.fn.b env l.fn.machine) (held l.b env l.machine)
      (ran_rest l.scope l.selector.kind.0 l.selector.shape (wire_values l.fn.b env l.selector.value.now) (instance_arms l.choice.sites.now (picks_of l.fn.b env l.choice) (plain_arms l.arms)) (instance_arms l.choice.sites.now (picks_of l.fn.b env l.choice) (plain_arms (drop l.arm-index l.arms))) (held l.fn.b env l.fn.machine))
      (ran_arms l.scope l.selector.kind.0 l.selector.shape (wire_values l.fn.b env l.selector.value.now) (instance_arms l.choice.sites.now (picks_of l.fn.b env l.choice) (plain_arms l.arms)) (held l.fn.b env l.fn.machine));
}

abbrev pub invariant-execute_default-loop-arm : goal.invariant-execute_default-loop-arm
invariant-execute_default-loop-arm l = record {
  same : l.machine ≡ l.fn.machine;
  builder : l.b ≡ l.fn.b;
  ran : (env : ℕ → Bool) → ran_default l.scope (instance_arms l.choice.sites.now (picks_of l.fn.b env l.choice) (plain_arms (drop l.arm-index l.arms))) (held l.fn.b env l.fn.machine)
      ≡ ran_default l.scope (instance_arms l.choice.sites.now (picks_of l.fn.b env l.choice) (plain_arms l.arms)) (held l.fn.b env l.fn.machine);
}
