use Rattle.std.proofs.Common.{◌≡◌, All, drop, length, map}
use Rattle.rr_expr.specs.Scopes.{env_of}
use Rattle.rr_flat.specs.View.{plain_block, plain_flat}
use Rattle.rr_cycle.specs.Exec.{Environment, applied}
use Rattle.rr_cycle.specs.Performing.{run_blocks, updates_of_blocks}
use Rattle.rr_exec.specs.Work.{IsLater, updates_in}
use Rattle.rr_meaning.proofs.cycle.run_all.Given as goal

abbrev pub invariant-loop-block : goal.invariant-loop-block
invariant-loop-block l = record {
  env : run_blocks (plain_flat l.fn.flat) (map plain_block (drop l.block-index l.block-items)) (env_of l.machine.env.values.items)
      ≡ run_blocks (plain_flat l.fn.flat) (map plain_block l.block-items) (env_of l.fn.machine.env.values.items);
  later : (e : Environment) → applied (updates_of_blocks (plain_flat l.fn.flat) (map plain_block (drop l.block-index l.block-items)) (env_of l.machine.env.values.items)) (applied (updates_in l.machine.later.items) e)
      ≡ applied (updates_of_blocks (plain_flat l.fn.flat) (map plain_block l.block-items) (env_of l.fn.machine.env.values.items)) (applied (updates_in l.fn.machine.later.items) e);
  count : length l.machine.env.values.items ≡ length l.fn.flat.signals;
  fits : All (IsLater (length l.fn.flat.signals)) l.machine.later.items;
  none : l.machine.none ≡ l.fn.machine.none;
}
