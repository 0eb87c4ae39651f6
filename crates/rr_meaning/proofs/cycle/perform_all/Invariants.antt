use Rattle.std.proofs.Common.{◌≡◌, All, drop, length}
use Rattle.rr_expr.specs.Scopes.{env_of}
use Rattle.rr_flat.specs.View.{plain_flat}
use Rattle.rr_cycle.specs.Performing.{performed}
use Rattle.rr_exec.specs.Work.{IsLater}
use Rattle.rr_meaning.proofs.cycle.perform_all.Given as goal

abbrev pub invariant-loop-step : goal.invariant-loop-step
invariant-loop-step l = record {
  env : performed (plain_flat l.flat) (drop l.step-index l.steps) (env_of l.machine.env.values.items) ≡ performed (plain_flat l.flat) l.steps (env_of l.fn.machine.env.values.items);
  count : length l.machine.env.values.items ≡ length l.flat.signals;
  fits : All (IsLater (length l.flat.signals)) l.machine.later.items;
  none : l.machine.none ≡ l.fn.machine.none;
}
