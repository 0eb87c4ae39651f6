use Rattle.std.proofs.Common.{◌+◌, ◌*◌, ◌-◌}
use Rattle.rr_syntax_place.specs.Going.{Goes}
use Rattle.rr_syntax_place.proofs.statements.+statements.Given as goal

abbrev pub decreases-statement : goal.decreases-statement
decreases-statement l = 4 * l.room

abbrev pub decreases-block : goal.decreases-block
decreases-block l = 4 * l.room - 1

abbrev pub decreases-conditional : goal.decreases-conditional
decreases-conditional l = 4 * l.inside + 1

abbrev pub decreases-looped : goal.decreases-looped
decreases-looped l = 4 * l.inside + 1

abbrev pub decreases-cases : goal.decreases-cases
decreases-cases l = 4 * l.inside

abbrev pub decreases-arm : goal.decreases-arm
decreases-arm l = 4 * l.inside + 1

abbrev pub invariant-block-loop-room : goal.invariant-block-loop-room
invariant-block-loop-room l = Goes l.fn.cursor l.cursor

abbrev pub decreases-block-loop-room : goal.decreases-block-loop-room
decreases-block-loop-room l = l.cursor.end - l.cursor.at

abbrev pub invariant-cases-loop-cursor : goal.invariant-cases-loop-cursor
invariant-cases-loop-cursor l = Goes l.fn.cursor l.cursor

abbrev pub decreases-cases-loop-cursor : goal.decreases-cases-loop-cursor
decreases-cases-loop-cursor l = l.cursor.end - l.cursor.at
