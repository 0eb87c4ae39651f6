use Rattle.std.proofs.Common.{suc, ◌+◌, ◌*◌, ◌-◌, length, drop}
use Rattle.rr_syntax.specs.Words.{words}
use Rattle.rr_syntax.specs.Tree.{Done, NoArms}
use Rattle.rr_parse_stmt.specs.Reading.{body, arms, below_statement, below_arm}
use Rattle.rr_parse_stmt.specs.Loops.{Bodied, Armed}
use Rattle.rr_parse_stmt.proofs.reader.+statements.Given as goal

abbrev pub decreases-statement : goal.decreases-statement
decreases-statement l = 8 * l.room

abbrev pub decreases-block : goal.decreases-block
decreases-block l = 8 * l.limit + 2

abbrev pub decreases-statements : goal.decreases-statements
decreases-statements l = 8 * l.limit + 1

abbrev pub decreases-conditional : goal.decreases-conditional
decreases-conditional l = 8 * l.limit + 3

abbrev pub decreases-branches : goal.decreases-branches
decreases-branches l = 8 * l.limit + 2

abbrev pub decreases-otherwise : goal.decreases-otherwise
decreases-otherwise l = 8 * l.limit + 1

abbrev pub decreases-looped : goal.decreases-looped
decreases-looped l = 8 * l.limit + 2

abbrev pub decreases-turn : goal.decreases-turn
decreases-turn l = 8 * l.limit + 1

abbrev pub decreases-cases : goal.decreases-cases
decreases-cases l = 8 * l.limit + 5

abbrev pub decreases-arms_from : goal.decreases-arms_from
decreases-arms_from l = 8 * l.limit + 4

abbrev pub decreases-arm : goal.decreases-arm
decreases-arm l = 8 * l.room + 3

abbrev pub decreases-default_arm : goal.decreases-default_arm
decreases-default_arm l = 8 * l.limit + 2

abbrev pub decreases-default_body : goal.decreases-default_body
decreases-default_body l = 8 * l.limit + 1

abbrev pub decreases-labelled_arm : goal.decreases-labelled_arm
decreases-labelled_arm l = 8 * l.limit + 2

abbrev pub decreases-labelled_body : goal.decreases-labelled_body
decreases-labelled_body l = 8 * l.limit + 1

abbrev pub invariant-statements-loop-from : goal.invariant-statements-loop-from
invariant-statements-loop-from l = Bodied l.tokens l.from l.limit (body (below_statement l.limit) (suc (length (drop l.from (words l.tokens)))) Done (drop l.from (words l.tokens))) l.body.items l.next

abbrev pub decreases-statements-loop-from : goal.decreases-statements-loop-from
decreases-statements-loop-from l = length l.tokens - l.next

abbrev pub invariant-arms_from-loop-piece : goal.invariant-arms_from-loop-piece
invariant-arms_from-loop-piece l = Armed l.tokens l.from l.limit (arms (below_arm l.limit) (suc (length (drop l.from (words l.tokens)))) NoArms (drop l.from (words l.tokens))) l.arms.items l.next l.defaults

abbrev pub decreases-arms_from-loop-piece : goal.decreases-arms_from-loop-piece
decreases-arms_from-loop-piece l = length l.tokens - l.next
