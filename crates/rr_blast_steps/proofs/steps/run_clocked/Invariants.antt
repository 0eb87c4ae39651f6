use Rattle.std.proofs.Common.{◌≡◌, ℕ, Bool, drop, map}
use Rattle.rr_circuit.specs.Values.{Extends}
use Rattle.rr_flat.specs.View.{plain_block, plain_flat}
use Rattle.rr_blast_steps.specs.Designs.{ran_blocks, signal_widths}
use Rattle.rr_flat_instance.specs.Flats.{instance_block, instance_flat}
use Rattle.rr_blast_stmt.specs.Running.{IsMachine, held}
use Rattle.rr_blast_terms.specs.Choosing.{picks_of}
use Rattle.rr_blast_steps.proofs.steps.run_clocked.Given as goal

abbrev pub invariant-loop-block : goal.invariant-loop-block
invariant-loop-block l = record {
  extends : Extends l.fn.b l.b;
  machine : IsMachine l.b (signal_widths l.flat.signals) l.machine;
  ran : (env : ℕ → Bool) →
      ran_blocks (instance_flat l.choice.sites.now (picks_of l.fn.b env l.choice) (plain_flat l.flat)) (map (instance_block l.choice.sites.now (picks_of l.fn.b env l.choice)) (map plain_block (drop l.block-index l.block-items))) (held l.b env l.machine)
      ≡ ran_blocks (instance_flat l.choice.sites.now (picks_of l.fn.b env l.choice) (plain_flat l.flat)) (map (instance_block l.choice.sites.now (picks_of l.fn.b env l.choice)) (map plain_block l.block-items)) (held l.fn.b env l.fn.machine);
}
