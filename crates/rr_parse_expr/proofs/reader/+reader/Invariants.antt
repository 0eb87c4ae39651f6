use Rattle.std.proofs.Common.{◌+◌, ◌*◌, ◌-◌, length, drop}
use Rattle.rr_syntax.specs.Words.{words}
use Rattle.rr_parse_expr.specs.Reading.{below, parts_from}
use Rattle.rr_parse_expr.specs.Answer.{form}
use Rattle.rr_parse_expr.specs.Loops.{Climbing, Collecting}
use Rattle.rr_parse_expr.proofs.reader.+reader.Given as goal

abbrev pub decreases-read_at : goal.decreases-read_at
decreases-read_at l = 12 * l.room

abbrev pub decreases-closed : goal.decreases-closed
decreases-closed l = 12 * l.limit + 1

abbrev pub decreases-parts_from : goal.decreases-parts_from
decreases-parts_from l = 12 * l.limit + 1

abbrev pub decreases-operation : goal.decreases-operation
decreases-operation l = 12 * l.limit + 1

abbrev pub decreases-conditional : goal.decreases-conditional
decreases-conditional l = 12 * l.limit + 2

abbrev pub decreases-step : goal.decreases-step
decreases-step l = 12 * l.limit + 3

abbrev pub decreases-repeated : goal.decreases-repeated
decreases-repeated l = 12 * l.limit + 2

abbrev pub decreases-braces : goal.decreases-braces
decreases-braces l = 12 * l.limit + 3

abbrev pub decreases-after_mark : goal.decreases-after_mark
decreases-after_mark l = 12 * l.limit + 4

abbrev pub decreases-after_index : goal.decreases-after_index
decreases-after_index l = 12 * l.limit + 2

abbrev pub decreases-select : goal.decreases-select
decreases-select l = 12 * l.limit + 3

abbrev pub decreases-named : goal.decreases-named
decreases-named l = 12 * l.limit + 4

abbrev pub decreases-system : goal.decreases-system
decreases-system l = 12 * l.limit + 2

abbrev pub decreases-operand : goal.decreases-operand
decreases-operand l = 12 * l.limit + 5

abbrev pub invariant-read_at-loop-more : goal.invariant-read_at-loop-more
invariant-read_at-loop-more l = Climbing l.tokens l.from l.low (l.room - 1) l.left

abbrev pub decreases-read_at-loop-more : goal.decreases-read_at-loop-more
decreases-read_at-loop-more l = l.room - l.left.depth

abbrev pub invariant-parts_from-loop-from : goal.invariant-parts_from-loop-from
invariant-parts_from-loop-from l = Collecting l.tokens l.from l.limit (parts_from (below l.limit) (form l.first.expr) (drop l.first.next (words l.tokens))) l.parts.items l.next l.depth

abbrev pub decreases-parts_from-loop-from : goal.decreases-parts_from-loop-from
decreases-parts_from-loop-from l = length l.tokens - l.next
