use Rattle.std.proofs.Common.{◌≡◌, map, drop, fold}
use Rattle.rr_syntax.specs.View.{plain_parameter}
use Rattle.rr_flatten.specs.Tables.{add_parameter_names}
use Rattle.rr_flatten.proofs.tables.add_names_of_params.Given as goal

abbrev pub invariant-loop-one : goal.invariant-loop-one
invariant-loop-one l = fold add_parameter_names l.table (map plain_parameter (drop l.one-index l.params)) ≡ fold add_parameter_names l.fn.table (map plain_parameter l.params)
