use Rattle.std.proofs.Common.{◌≡◌, ◌+◌, ◌*◌, length}
use Rattle.rr_watch_lists.proofs.watchers.rooms.Given as goal

abbrev pub invariant-loop-index : goal.invariant-loop-index
invariant-loop-index l = length l.rooms.items ≡ 2 * l.formula.vars + 2

abbrev pub invariant-loop-lit : goal.invariant-loop-lit
invariant-loop-lit l = length l.rooms.items ≡ 2 * l.formula.vars + 2
