use Rattle.std.proofs.Common.{◌≡◌, ◌≤◌, drop, length}
use Rattle.rr_expr.specs.Scopes.{env_of}
use Rattle.rr_named_bits.specs.Pieces.{all_bits}
use Rattle.rr_cycle.specs.Exec.{write}
use Rattle.rr_exec.proofs.writes.write_pieces.Given as goal

abbrev pub invariant-loop-left : goal.invariant-loop-left
invariant-loop-left l = record {
  env : env_of l.values.items ≡ write (all_bits (drop l.left l.pieces)) l.bits (env_of l.fn.values.items);
  from : l.from ≡ length (all_bits (drop l.left l.pieces));
  left : l.left ≤ length l.pieces;
  count : length l.values.items ≡ length l.fn.values.items;
}

abbrev pub decreases-loop-left : goal.decreases-loop-left
decreases-loop-left l = l.left
