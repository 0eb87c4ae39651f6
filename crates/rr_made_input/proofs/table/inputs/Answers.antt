use Rattle.std.proofs.Common.{◌≤◌, arith, ◌∙◌}
use Rattle.rr_made_input.proofs.DrawLaws.{after_row, first_enable, first_reset, row_enable, row_reset, second_enable, second_reset}
use Rattle.rr_made_input.proofs.table.inputs.Goals as goal

pub returns-in-0 : goal.returns-in-0
returns-in-0 c = λ seed at. rw c.in-0.is (rw c.in-0.is at at, first_reset seed, first_enable seed)

pub returns-in-1 : goal.returns-in-1
returns-in-1 c = λ seed at. rw c.in-1.is (rw c.in-1.is at at, second_reset seed, second_enable seed)

pub returns-in_default : goal.returns-in_default
returns-in_default c = λ seed at.
    let row = c.args.row in
    let late : 2 ≤ c.args.row = omega (arith, c.in_default) in
    let a = c.args.draws.now.state in
    let b = c.draw.new.self.state in
    let e = c.draw-enable.new.self.state in
    (after_row seed row a b e late at c.draw.ensures.state c.draw-enable.ensures.state, rw c.draw.ensures.value at c.is_zero-reset.ensures ∙ row_reset seed row a b e late at c.draw.ensures.state c.draw-enable.ensures.state, c.draw-enable.ensures.value ∙ row_enable seed row a b e late at c.draw.ensures.state c.draw-enable.ensures.state)
