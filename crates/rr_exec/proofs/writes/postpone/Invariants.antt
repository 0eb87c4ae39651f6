use Rattle.std.proofs.Common.{◌≡◌, ◌≤◌, ℕ, All, drop, length}
use Rattle.rr_named_bits.specs.Pieces.{all_bits}
use Rattle.rr_cycle.specs.Exec.{Environment, applied, write}
use Rattle.rr_exec.specs.Work.{Fits, IsLater, updates_in}
use Rattle.rr_exec.proofs.writes.postpone.Given as goal

abbrev pub invariant-loop-left : goal.invariant-loop-left
invariant-loop-left l = record {
  later : (e : Environment) → applied (updates_in l.list.items) e ≡ write (all_bits (drop l.left l.pieces)) l.bits (applied (updates_in l.fn.list.items) e);
  from : l.from ≡ length (all_bits (drop l.left l.pieces));
  left : l.left ≤ length l.pieces;
  fits : (n : ℕ) → All (Fits n) l.pieces → All (IsLater n) l.fn.list.items → All (IsLater n) l.list.items;
}

abbrev pub decreases-loop-left : goal.decreases-loop-left
decreases-loop-left l = l.left
