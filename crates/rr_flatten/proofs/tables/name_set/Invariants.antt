use Rattle.std.proofs.Common.{◌≡◌, drop, fold, []}
use Rattle.rr_flatten.specs.Tables.{add_text}
use Rattle.rr_syntax.specs.View.{texts}
use Rattle.rr_flatten.proofs.tables.name_set.Given as goal

abbrev pub invariant-loop-name : goal.invariant-loop-name
invariant-loop-name l = fold add_text l.table (texts (drop l.name-index l.names)) ≡ fold add_text [] (texts l.names)
