use Rattle.std.proofs.Common.{◌≡◌, ◌≤◌, drop, length}
use Rattle.rr_expr.specs.Scopes.{env_of}
use Rattle.rr_flat.specs.View.{plain_flat}
use Rattle.rr_meaning.specs.Work.{given_over}
use Rattle.rr_meaning.proofs.cycle.give.Given as goal

abbrev pub invariant-loop-left : goal.invariant-loop-left
invariant-loop-left l = record {
  env : env_of l.values.items ≡ given_over (plain_flat l.flat).signals (drop l.left l.inputs) (drop l.left l.row) (env_of l.fn.values.items);
  left : l.left ≤ length l.inputs;
  count : length l.values.items ≡ length l.fn.values.items;
}

abbrev pub decreases-loop-left : goal.decreases-loop-left
decreases-loop-left l = l.left
