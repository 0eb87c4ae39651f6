use Rattle.std.proofs.Common.{◌≤◌, ◌-◌, length}
use Rattle.rr_parse_expr.specs.Lists.{Row}
use Rattle.rr_parse_expr.proofs.lists.list.Given as goal

abbrev pub invariant-loop-read : goal.invariant-loop-read
invariant-loop-read g l = Row (λ at o. goal.F-post g l.fn.read at o) l.tokens l.fn.from l.items.items l.next × (l.next ≤ length l.tokens)

abbrev pub decreases-loop-read : goal.decreases-loop-read
decreases-loop-read g l = length l.tokens - l.next
