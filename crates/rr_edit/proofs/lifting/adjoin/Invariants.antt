use Rattle.std.proofs.Common.{length, drop, ◌-◌, ◌≡◌, ◌≤◌}
use Rattle.rr_edit.specs.Lifted.{adjoin}
use Rattle.rr_edit.proofs.lifting.adjoin.Given as goal

abbrev pub invariant-loop-i : goal.invariant-loop-i
invariant-loop-i l = record {
  within : l.i ≤ length l.origins;
  rest : adjoin l.origins ≡ adjoin (drop l.i l.origins);
}

abbrev pub decreases-loop-i : goal.decreases-loop-i
decreases-loop-i l = length l.origins - l.i
