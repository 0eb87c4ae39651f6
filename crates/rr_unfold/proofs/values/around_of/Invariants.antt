use Rattle.std.proofs.Common.{◌≡◌, ◌-◌, length, take}
use Rattle.rr_loop_names.specs.View.{plain_turn}
use Rattle.rr_loop_rules.specs.View.{plain_around}
use Rattle.rr_unfold.specs.Unfold.{around}
use Rattle.rr_unfold.proofs.values.around_of.Given as goal

abbrev pub invariant-loop-at : goal.invariant-loop-at
invariant-loop-at l = plain_around l.names.items ≡ around (plain_turn (take l.at l.turn))

abbrev pub decreases-loop-at : goal.decreases-loop-at
decreases-loop-at l = length l.turn - l.at
