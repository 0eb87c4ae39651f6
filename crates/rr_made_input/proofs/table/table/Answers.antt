use Rattle.std.proofs.Common.{◌∙◌}
use Rattle.rr_made_input.proofs.DrawLaws.{steps_count}
use Rattle.rr_made_input.proofs.TextLaws.{Tabled-more, Tabled-none}
use Rattle.rr_made_input.proofs.table.table.Goals as goal

pub loop-row-init : goal.loop-row-init
loop-row-init c =
    Tabled-none c.args.seed c.args.draws.state c.extend_from_slice.new.self.items c.in_ok-values.values.items c.requires.drawn (c.in_ok-values.ensures.items_if_clones_equal (λ y h. h)) (rw c.new-text.ensures.items at c.in_ok-extend_from_slice.ensures.items)

pub loop-row-preserved : goal.loop-row-preserved
loop-row-preserved c =
    let l = c.loop-row in
    Tabled-more c.args.seed l.row l.draws.state c.inputs-reset.new.draws.state c.inputs-reset.result.0 c.inputs-reset.result.1 l.text.items c.push_row.new.text.items l.values.items c.in_ok-values-2.values.items
    l.invariant
    (c.inputs-reset.ensures c.args.seed l.invariant.drawn)
    (rw c.as_slice.ensures.value at c.in_ok-push_row.ensures)
    (rw (c.as_slice-in-loop-row.ensures.value, c.requires.steps) at c.in_ok-values-2.ensures.value)
    (c.in_ok-values-2.ensures.count ∙ steps_count c.args.seed c.args.right.now c.requires.steps)
