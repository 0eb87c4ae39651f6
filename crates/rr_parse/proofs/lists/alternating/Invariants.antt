use Rattle.std.proofs.Common.{◌≤◌, ◌-◌, length}
use Rattle.rr_parse.specs.Chains.{Alternate}
use Rattle.rr_parse.proofs.lists.alternating.Given as goal

abbrev pub invariant-loop-between : goal.invariant-loop-between
invariant-loop-between g l = Alternate (λ at o. goal.F-post g l.fn.read at o) l.tokens l.fn.from l.commas.items l.items.items l.next × (l.next ≤ length l.tokens)

abbrev pub decreases-loop-between : goal.decreases-loop-between
decreases-loop-between g l = length l.tokens - l.next
