use Rattle.std.proofs.Common.{◌≡◌, ◌≤◌, ◌+◌, ◌*◌, max, take, drop}
use Rattle.rr_syntax.specs.View.{plain_list}
use Rattle.rr_expr.specs.Notes.{Noted}
use Rattle.rr_expr.specs.Values.{widths}
use Rattle.rr_expr.specs.Faults.{faults}
use Rattle.rr_expr.proofs.shapes.+shapes.Given as goal

abbrev pub invariant-parts_bits-loop-part : goal.invariant-parts_bits-loop-part
invariant-parts_bits-loop-part l =
    (l.bits ≡ widths l.scope (plain_list (take l.part-index l.parts)))
    × (l.bits ≤ 128 * l.part-index)
    × (faults l.scope (plain_list l.parts) l.constant ≡ faults l.scope (plain_list (drop l.part-index l.parts)) l.constant)
    × Noted l.scope l.notes

abbrev pub decreases-shape_in : goal.decreases-shape_in
decreases-shape_in l = 3 * (goal.size-shape_in l)

abbrev pub decreases-parts_bits : goal.decreases-parts_bits
decreases-parts_bits l = 3 * (goal.size-parts_bits l) + 1

abbrev pub decreases-bit_in : goal.decreases-bit_in
decreases-bit_in l = 3 * (goal.size-bit_in l) + 1

abbrev pub decreases-part_in : goal.decreases-part_in
decreases-part_in l = 3 * (max (goal.size-part_in l) (goal.size-part_in (record l { left = l.right }))) + 2

abbrev pub decreases-indexed_in : goal.decreases-indexed_in
decreases-indexed_in l = 3 * (max (goal.size-indexed_in l) (goal.size-indexed_in (record l { from = l.width }))) + 2

abbrev pub decreases-binary_in : goal.decreases-binary_in
decreases-binary_in l = 3 * (max (goal.size-binary_in l) (goal.size-binary_in (record l { left = l.right }))) + 1

abbrev pub decreases-chosen_in : goal.decreases-chosen_in
decreases-chosen_in l = 3 * (max (max (goal.size-chosen_in l) (goal.size-chosen_in (record l { test = l.yes }))) (goal.size-chosen_in (record l { test = l.no }))) + 1

abbrev pub decreases-index_in : goal.decreases-index_in
decreases-index_in l = 3 * (goal.size-index_in l) + 1
