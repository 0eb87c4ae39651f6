use Rattle.std.proofs.Common.{◌-◌}
use Rattle.rr_syntax_place.specs.Going.{Goes}
use Rattle.rr_syntax_place.proofs.lists.listed.Given as goal

abbrev pub invariant-loop-part : goal.invariant-loop-part
invariant-loop-part g l = Goes l.fn.cursor l.cursor

abbrev pub decreases-loop-part : goal.decreases-loop-part
decreases-loop-part g l = l.cursor.end - l.cursor.at
