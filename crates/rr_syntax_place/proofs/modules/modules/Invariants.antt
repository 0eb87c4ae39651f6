use Rattle.std.proofs.Common.{◌-◌}
use Rattle.rr_syntax_place.specs.Going.{Goes}
use Rattle.rr_syntax_place.proofs.modules.modules.Given as goal

abbrev pub invariant-loop-cursor : goal.invariant-loop-cursor
invariant-loop-cursor l = Goes l.fn.cursor l.cursor

abbrev pub decreases-loop-cursor : goal.decreases-loop-cursor
decreases-loop-cursor l = l.cursor.end - l.cursor.at
