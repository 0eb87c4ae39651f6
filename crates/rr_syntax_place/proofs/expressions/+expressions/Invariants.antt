use Rattle.std.proofs.Common.{◌<◌, ◌+◌, ◌*◌, ◌-◌}
use Rattle.rr_syntax_place.specs.Going.{Goes}
use Rattle.rr_syntax_place.proofs.expressions.+expressions.Given as goal

abbrev pub decreases-climb : goal.decreases-climb
decreases-climb l = 8 * l.room + 3

abbrev pub decreases-branches : goal.decreases-branches
decreases-branches l = 8 * l.room

abbrev pub decreases-operand : goal.decreases-operand
decreases-operand l = 8 * l.room + 2

abbrev pub decreases-primary : goal.decreases-primary
decreases-primary l = 8 * l.room + 1

abbrev pub decreases-selected : goal.decreases-selected
decreases-selected l = 8 * l.room

abbrev pub decreases-parenthesised : goal.decreases-parenthesised
decreases-parenthesised l = 8 * l.room

abbrev pub decreases-braces : goal.decreases-braces
decreases-braces l = 8 * l.room

abbrev pub decreases-list : goal.decreases-list
decreases-list l = 8 * l.room + 4

abbrev pub invariant-climb-loop-found : goal.invariant-climb-loop-found
invariant-climb-loop-found l = Goes l.fn.cursor l.cursor × (l.depth < l.room)

abbrev pub decreases-climb-loop-found : goal.decreases-climb-loop-found
decreases-climb-loop-found l = l.cursor.end - l.cursor.at

abbrev pub invariant-list-loop-cursor : goal.invariant-list-loop-cursor
invariant-list-loop-cursor l = Goes l.fn.cursor l.cursor × (l.depth < l.room)

abbrev pub decreases-list-loop-cursor : goal.decreases-list-loop-cursor
decreases-list-loop-cursor l = l.cursor.end - l.cursor.at
