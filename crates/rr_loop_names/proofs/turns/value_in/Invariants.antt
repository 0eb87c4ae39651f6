use Rattle.std.proofs.Common.{◌≡◌, take}
use Rattle.rr_loop_names.specs.Turns.{turned}
use Rattle.rr_loop_names.specs.View.{plain_turn}
use Rattle.rr_loop_names.proofs.turns.value_in.Given as goal

abbrev pub invariant-loop-inner : goal.invariant-loop-inner
invariant-loop-inner l = l.value ≡ turned l.name (plain_turn (take l.inner-index l.turn))
