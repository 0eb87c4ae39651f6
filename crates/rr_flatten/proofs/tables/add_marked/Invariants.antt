use Rattle.std.proofs.Common.{◌≡◌, map, drop, fold}
use Rattle.rr_syntax.specs.View.{plain_assignment}
use Rattle.rr_flatten.specs.Tables.{add_parameter_name}
use Rattle.rr_flatten.proofs.tables.add_marked.Given as goal

abbrev pub invariant-loop-set : goal.invariant-loop-set
invariant-loop-set l = fold (add_parameter_name l.local) l.table (map plain_assignment (drop l.set-index l.sets)) ≡ fold (add_parameter_name l.local) l.fn.table (map plain_assignment l.sets)
