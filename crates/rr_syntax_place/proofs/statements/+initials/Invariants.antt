use Rattle.std.proofs.Common.{◌+◌, ◌*◌, ◌-◌}
use Rattle.rr_syntax_place.specs.Going.{Goes}
use Rattle.rr_syntax_place.proofs.statements.+initials.Given as goal

abbrev pub decreases-initial_statement : goal.decreases-initial_statement
decreases-initial_statement l = 2 * l.room

abbrev pub decreases-initial_block : goal.decreases-initial_block
decreases-initial_block l = 2 * l.room - 1

abbrev pub decreases-initial_loop : goal.decreases-initial_loop
decreases-initial_loop l = 2 * l.inside + 1

abbrev pub invariant-initial_block-loop-room : goal.invariant-initial_block-loop-room
invariant-initial_block-loop-room l = Goes l.fn.cursor l.cursor

abbrev pub decreases-initial_block-loop-room : goal.decreases-initial_block-loop-room
decreases-initial_block-loop-room l = l.cursor.end - l.cursor.at
