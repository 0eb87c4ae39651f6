use Rattle.std.proofs.Common.{◌≡◌, drop, false}
use Rattle.rr_syntax.specs.View.{plain_list, texts}
use Rattle.rr_flatten.specs.Walk.{fold_trees, check_position}
use Rattle.rr_flatten.specs.View.{plain_checked}
use Rattle.rr_flatten.proofs.settings.Checked.check_positions.Given as goal

abbrev pub invariant-loop-place : goal.invariant-loop-place
invariant-loop-place l =
    fold_trees (check_position l.names) (record { left = drop l.place (texts l.free); over = l.over; checked = plain_checked l.self }) (plain_list (drop l.place l.list))
    ≡ fold_trees (check_position l.names) (record { left = texts l.free; over = false; checked = plain_checked l.fn.self }) (plain_list l.list)
