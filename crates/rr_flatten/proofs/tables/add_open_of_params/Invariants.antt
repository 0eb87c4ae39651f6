use Rattle.std.proofs.Common.{◌≡◌, map, drop, fold}
use Rattle.rr_syntax.specs.View.{plain_parameter, texts}
use Rattle.rr_flatten.specs.Tables.{add_open_names}
use Rattle.rr_flatten.proofs.tables.add_open_of_params.Given as goal

abbrev pub invariant-loop-one : goal.invariant-loop-one
invariant-loop-one l = fold add_open_names (texts l.names.items) (map plain_parameter (drop l.one-index l.params)) ≡ fold add_open_names (texts l.fn.names.items) (map plain_parameter l.params)
