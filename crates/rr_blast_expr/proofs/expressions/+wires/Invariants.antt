use Rattle.std.proofs.Common.{◌+◌, ◌*◌, max}
use Rattle.rr_blast_expr.proofs.Worths.{Listed}
use Rattle.rr_blast_expr.proofs.expressions.+wires.Given as goal

abbrev pub invariant-parts_word-loop-i : goal.invariant-parts_word-loop-i
invariant-parts_word-loop-i l = Listed l.inputs l.fn.b l.b l.parts l.out.items l.i

abbrev pub decreases-word_in : goal.decreases-word_in
decreases-word_in l = 8 * (goal.size-word_in l)

abbrev pub decreases-own_word : goal.decreases-own_word
decreases-own_word l = 8 * (goal.size-own_word l) + 1

abbrev pub decreases-is_true : goal.decreases-is_true
decreases-is_true l = 8 * (goal.size-is_true l) + 2

abbrev pub decreases-bits_at : goal.decreases-bits_at
decreases-bits_at l = 8 * (goal.size-bits_at l) + 2

abbrev pub decreases-memory_word : goal.decreases-memory_word
decreases-memory_word l = 8 * (goal.size-memory_word l) + 2

abbrev pub decreases-bit_select : goal.decreases-bit_select
decreases-bit_select l = 8 * (goal.size-bit_select l) + 3

abbrev pub decreases-indexed_select : goal.decreases-indexed_select
decreases-indexed_select l = 8 * (goal.size-indexed_select l) + 3

abbrev pub decreases-prefix_word : goal.decreases-prefix_word
decreases-prefix_word l = 8 * (goal.size-prefix_word l) + 3

abbrev pub decreases-operation_word : goal.decreases-operation_word
decreases-operation_word l = 8 * (max (goal.size-operation_word l) (goal.size-operation_word (record l { left = l.right }))) + 1

abbrev pub decreases-shift_word : goal.decreases-shift_word
decreases-shift_word l = 8 * (max (goal.size-shift_word l) (goal.size-shift_word (record l { left = l.right }))) + 2

abbrev pub decreases-relation_word : goal.decreases-relation_word
decreases-relation_word l = 8 * (max (goal.size-relation_word l) (goal.size-relation_word (record l { left = l.right }))) + 1

abbrev pub decreases-logic_word : goal.decreases-logic_word
decreases-logic_word l = 8 * (max (goal.size-logic_word l) (goal.size-logic_word (record l { left = l.right }))) + 3

abbrev pub decreases-infix_word : goal.decreases-infix_word
decreases-infix_word l = 8 * (max (goal.size-infix_word (record l { expr = l.left })) (goal.size-infix_word (record l { expr = l.right }))) + 4

abbrev pub decreases-chosen_word : goal.decreases-chosen_word
decreases-chosen_word l = 8 * (max (max (goal.size-chosen_word l) (goal.size-chosen_word (record l { test = l.yes }))) (goal.size-chosen_word (record l { test = l.no }))) + 3

abbrev pub decreases-parts_word : goal.decreases-parts_word
decreases-parts_word l = 8 * (goal.size-parts_word l) + 2

abbrev pub decreases-concat_word : goal.decreases-concat_word
decreases-concat_word l = 8 * (goal.size-concat_word l) + 3

abbrev pub decreases-repeat_word : goal.decreases-repeat_word
decreases-repeat_word l = 8 * (goal.size-repeat_word l) + 3

abbrev pub decreases-cast_word : goal.decreases-cast_word
decreases-cast_word l = 8 * (goal.size-cast_word l) + 2
