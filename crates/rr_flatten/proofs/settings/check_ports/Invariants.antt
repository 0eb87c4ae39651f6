use Rattle.std.proofs.Common.{◌≡◌, drop, false}
use Rattle.rr_syntax.specs.View.{plain_list, texts}
use Rattle.rr_flatten.specs.Walk.{fold_trees, check_port}
use Rattle.rr_flatten.proofs.settings.check_ports.Given as goal

abbrev pub invariant-loop-place : goal.invariant-loop-place
invariant-loop-place l =
    fold_trees (check_port l.loops l.names) (record { left = drop l.place (texts l.ports); over = l.over; found = l.found }) (plain_list (drop l.place l.list))
    ≡ fold_trees (check_port l.loops l.names) (record { left = texts l.ports; over = false; found = l.fn.found }) (plain_list l.list)
