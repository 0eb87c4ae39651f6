use Rattle.std.proofs.Common.{◌≡◌, ◌+◌, ◌*◌, ◌≤◌, drop, length}
use Rattle.rr_syntax.specs.View.{plain_list}
use Rattle.rr_expr.specs.Values.{widths}
use Rattle.rr_wiring.proofs.parts.+parts.Given as goal

abbrev pub invariant-part_in-loop-left : goal.invariant-part_in-loop-left
invariant-part_in-loop-left l = record {
  left : l.left ≤ length l.parts;
  rest : widths l.scope (plain_list (drop l.left l.parts)) + l.rest ≡ l.place;
}

abbrev pub decreases-part_in-loop-left : goal.decreases-part_in-loop-left
decreases-part_in-loop-left l = l.left

abbrev pub decreases-part_at : goal.decreases-part_at
decreases-part_at l = 2 * (goal.size-part_at l)

abbrev pub decreases-part_in : goal.decreases-part_in
decreases-part_in l = 2 * (goal.size-part_in l) + 1
