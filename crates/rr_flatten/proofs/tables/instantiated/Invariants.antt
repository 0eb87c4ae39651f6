use Rattle.std.proofs.Common.{◌≡◌, map, drop, fold, []}
use Rattle.rr_syntax.specs.View.{plain_module}
use Rattle.rr_flatten.specs.Tables.{instantiated_by}
use Rattle.rr_flatten.proofs.tables.instantiated.Given as goal

abbrev pub invariant-loop-own : goal.invariant-loop-own
invariant-loop-own l = fold instantiated_by l.names (map plain_module (drop l.own-index l.modules)) ≡ fold instantiated_by [] (map plain_module l.modules)
