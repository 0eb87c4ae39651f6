use Rattle.std.proofs.Common.{◌≡◌, ◌&&◌, ◌-◌, not, take, drop}
use Rattle.rr_expr.specs.declared.types.Bit.{Bit}
use Rattle.rr_latch.specs.Paths.{assigned, listed}
use Rattle.rr_latch.proofs.paths.undo.Given as goal

abbrev pub invariant-loop-at : goal.invariant-loop-at
invariant-loop-at l =
    ((b : Bit) → assigned l.path.unassigned b ≡ (assigned l.fn.path.unassigned b && not (listed (take (l.at - l.length_then) (drop l.length_then l.fn.path.log.items)) b)))
    × (l.path.log.items ≡ l.fn.path.log.items)
