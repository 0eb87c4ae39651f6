use Rattle.std.proofs.Common.{◌≡◌, ◌+◌, ◌*◌, max, take}
use Rattle.rr_syntax.specs.View.{plain_list}
use Rattle.rr_expr.specs.Values.{widths}
use Rattle.rr_blast_expr.proofs.shapes.+shapes.Given as goal

abbrev pub invariant-parts_width-loop-i : goal.invariant-parts_width-loop-i
invariant-parts_width-loop-i l = l.total ≡ widths l.scope (plain_list (take l.i l.parts))

abbrev pub decreases-own_form : goal.decreases-own_form
decreases-own_form l = 2 * (goal.size-own_form l)

abbrev pub decreases-prefix_form : goal.decreases-prefix_form
decreases-prefix_form l = 2 * (goal.size-prefix_form l) + 1

abbrev pub decreases-infix_form : goal.decreases-infix_form
decreases-infix_form l = 2 * (max (goal.size-infix_form (record l { expr = l.left })) (goal.size-infix_form (record l { expr = l.right }))) + 1

abbrev pub decreases-parts_width : goal.decreases-parts_width
decreases-parts_width l = 2 * (goal.size-parts_width l) + 1
