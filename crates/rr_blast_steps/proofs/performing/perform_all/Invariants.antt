use Rattle.std.proofs.Common.{◌≡◌, ℕ, Bool, drop}
use Rattle.rr_circuit.specs.Values.{Extends}
use Rattle.rr_flat.specs.View.{plain_flat}
use Rattle.rr_cycle.specs.Performing.{performed}
use Rattle.rr_blast_steps.specs.Designs.{signal_widths}
use Rattle.rr_flat_instance.specs.Flats.{instance_flat}
use Rattle.rr_blast_stmt.specs.Running.{IsMachine}
use Rattle.rr_signal_wires.specs.Words.{carried}
use Rattle.rr_blast_terms.specs.Choosing.{picks_of}
use Rattle.rr_blast_steps.proofs.performing.perform_all.Given as goal

abbrev pub invariant-loop-step : goal.invariant-loop-step
invariant-loop-step l = record {
  extends : Extends l.fn.b l.b;
  machine : IsMachine l.b (signal_widths l.flat.signals) l.machine;
  env : (env : ℕ → Bool) →
      performed (instance_flat l.choice.sites.now (picks_of l.fn.b env l.choice) (plain_flat l.flat)) (drop l.step-index l.steps) (carried l.b env l.machine.now.items)
      ≡ performed (instance_flat l.choice.sites.now (picks_of l.fn.b env l.choice) (plain_flat l.flat)) l.steps (carried l.fn.b env l.fn.machine.now.items);
}
