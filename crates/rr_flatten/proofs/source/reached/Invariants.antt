use Rattle.std.proofs.Common.{◌≡◌, ◌++◌, map, drop}
use Rattle.rr_syntax.specs.View.{plain_module}
use Rattle.rr_flatten.specs.Walk.{reached_from}
use Rattle.rr_flatten.proofs.source.reached.Given as goal

abbrev pub invariant-loop-place : goal.invariant-loop-place
invariant-loop-place l = l.reached.items ++ reached_from l.owners l.place (drop l.place (map plain_module l.modules)) ≡ reached_from l.owners 0 (map plain_module l.modules)
