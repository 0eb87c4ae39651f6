use Rattle.std.proofs.Common.{◌≡◌, take}
use Rattle.rr_syntax.specs.View.{plain_list}
use Rattle.rr_loop_names.specs.Turns.{put_targets}
use Rattle.rr_loop_names.specs.View.{plain_turn}
use Rattle.rr_loop_names.proofs.turns.+aiming.Given as goal

abbrev pub invariant-put_targets-loop-target : goal.invariant-put_targets-loop-target
invariant-put_targets-loop-target l = plain_list l.parts.items ≡ put_targets (plain_turn l.turn) (plain_list (take l.target-index l.list))
