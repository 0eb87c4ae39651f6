use Rattle.std.proofs.Common.{◌≡◌, ◌+◌, ◌*◌, max, take, length}
use Rattle.rr_syntax.specs.View.{plain_list}
use Rattle.rr_expr.specs.Notes.{Noted}
use Rattle.rr_expr.specs.Scopes.{env_of}
use Rattle.rr_expr.specs.Values.{widths, values}
use Rattle.rr_expr.proofs.Parts.{so_far}
use Rattle.rr_expr.proofs.values.+values.Given as goal

abbrev pub invariant-parts_value-loop-part : goal.invariant-parts_value-loop-part
invariant-parts_value-loop-part l =
    (so_far l.whole ≡ values l.scope (plain_list (take l.part-index l.parts)) (env_of l.env))
    × (length (so_far l.whole) ≡ widths l.scope (plain_list (take l.part-index l.parts)))
    × Noted l.scope l.notes

abbrev pub invariant-parts_width-loop-part : goal.invariant-parts_width-loop-part
invariant-parts_width-loop-part l = (l.total ≡ widths l.scope (plain_list (take l.part-index l.parts))) × Noted l.scope l.notes

abbrev pub decreases-own_shape : goal.decreases-own_shape
decreases-own_shape l = 4 * (goal.size-own_shape l)

abbrev pub decreases-prefix_own_shape : goal.decreases-prefix_own_shape
decreases-prefix_own_shape l = 4 * (goal.size-prefix_own_shape l) + 1

abbrev pub decreases-infix_own_shape : goal.decreases-infix_own_shape
decreases-infix_own_shape l = 4 * (max (goal.size-infix_own_shape l) (goal.size-infix_own_shape (record l { left = l.right }))) + 1

abbrev pub decreases-value_in : goal.decreases-value_in
decreases-value_in l = 4 * (goal.size-value_in l)

abbrev pub decreases-own_value : goal.decreases-own_value
decreases-own_value l = 4 * (goal.size-own_value l) + 1

abbrev pub decreases-own_index : goal.decreases-own_index
decreases-own_index l = 4 * (goal.size-own_index l) + 1

abbrev pub decreases-constant_index : goal.decreases-constant_index
decreases-constant_index l = 4 * (goal.size-constant_index l) + 2

abbrev pub decreases-is_true : goal.decreases-is_true
decreases-is_true l = 4 * (goal.size-is_true l) + 2

abbrev pub decreases-parts_width : goal.decreases-parts_width
decreases-parts_width l = 4 * (goal.size-parts_width l) + 1

abbrev pub decreases-parts_value : goal.decreases-parts_value
decreases-parts_value l = 4 * (goal.size-parts_value l) + 2

abbrev pub decreases-bit_value : goal.decreases-bit_value
decreases-bit_value l = 4 * (goal.size-bit_value l) + 2

abbrev pub decreases-part_value : goal.decreases-part_value
decreases-part_value l = 4 * (max (goal.size-part_value l) (goal.size-part_value (record l { left = l.right }))) + 3

abbrev pub decreases-indexed_value : goal.decreases-indexed_value
decreases-indexed_value l = 4 * (max (goal.size-indexed_value l) (goal.size-indexed_value (record l { from = l.width }))) + 3

abbrev pub decreases-unary_value : goal.decreases-unary_value
decreases-unary_value l = 4 * (goal.size-unary_value l) + 2

abbrev pub decreases-compares : goal.decreases-compares
decreases-compares l = 4 * (max (goal.size-compares l) (goal.size-compares (record l { left = l.right }))) + 1

abbrev pub decreases-binary_value : goal.decreases-binary_value
decreases-binary_value l = 4 * (max (goal.size-binary_value l) (goal.size-binary_value (record l { left = l.right }))) + 3

abbrev pub decreases-chosen_value : goal.decreases-chosen_value
decreases-chosen_value l = 4 * (max (max (goal.size-chosen_value l) (goal.size-chosen_value (record l { test = l.yes }))) (goal.size-chosen_value (record l { test = l.no }))) + 2
