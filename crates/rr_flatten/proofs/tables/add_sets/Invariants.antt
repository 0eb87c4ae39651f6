use Rattle.std.proofs.Common.{◌≡◌, map, drop, fold}
use Rattle.rr_syntax.specs.View.{plain_assignment, texts}
use Rattle.rr_flatten.specs.Tables.{add_open_name}
use Rattle.rr_flatten.proofs.tables.add_sets.Given as goal

abbrev pub invariant-loop-set : goal.invariant-loop-set
invariant-loop-set l = fold add_open_name (texts l.names.items) (map plain_assignment (drop l.set-index l.sets)) ≡ fold add_open_name (texts l.fn.names.items) (map plain_assignment l.sets)
