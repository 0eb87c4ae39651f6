use Rattle.std.proofs.Common.{◌≡◌, ◌++◌, Bool, List, length, take, drop, sym, ◌∙◌, ap, ap₂, arith}
use Rattle.std.specs.List.{sum}
use Rattle.std.proofs.lemmas.List.{length-drop, take-map, drop-map}
use Rattle.rr_circuit.specs.Values.{wire_value, wire_values, output_values, given}
use Rattle.rr_circuit.proofs.Netlists.{wire_values-extends}
use Rattle.rr_unroll.specs.Questions.{agree_row}
use Rattle.rr_unroll.proofs.rows.push_row.Goals as goal

pub split_at-requires : goal.split_at-requires
split_at-requires c =
    let w = ap length c.as_slice.ensures.value ∙ c.in_ok-bits.ensures.width ∙ c.requires.outputs in
    let s : c.transition.inside.state_bits ≡ c.args.transition.now.state_bits = ap (λ x. x.state_bits) c.transition.view_is in
    omega arith

pub ask_row-requires-clause-width : goal.ask_row-requires-clause-width
ask_row-requires-clause-width c =
    let w = ap length c.as_slice.ensures.value ∙ c.in_ok-bits.ensures.width ∙ c.requires.outputs in
    let s : c.transition.inside.state_bits ≡ c.args.transition.now.state_bits = ap (λ x. x.state_bits) c.transition.view_is in
    let o : sum c.as_slice-2.result.now ≡ sum c.args.transition.now.output_widths = ap sum (c.as_slice-2.ensures.value ∙ ap (λ x. x.output_widths) c.transition.view_is) in
    let b = ap length c.split_at.ensures.back ∙ length-drop c.transition.inside.state_bits c.as_slice.result.now in
    omega arith

pub returns-clause-asked : goal.returns-clause-asked
returns-clause-asked c = λ env.
    let n = c.cycle.new.b in
    let k = c.transition.inside.state_bits in
    let bits : List Bool = output_values c.args.circuit.now (given (wire_values c.args.b.now env c.args.choice.now ++ wire_values c.args.b.now env c.args.state.now)) in
    let before = wire_values-extends c.args.b.now n c.args.out.now.items env c.in_ok-bits.ensures.extends c.requires.out in
    let found =
    ap (wire_values n env) (c.split_at.ensures.back ∙ ap (drop k) c.as_slice.ensures.value)
    ∙ sym (drop-map (wire_value n env) k c.in_ok-bits.bits.items)
    ∙ ap (drop k) (c.in_ok-bits.ensures.value env)
    ∙ ap (λ x. drop x.state_bits bits) c.transition.view_is in
    let widths = c.as_slice-2.ensures.value ∙ ap (λ x. x.output_widths) c.transition.view_is in
    c.in_ok-ask_row.ensures.value env ∙ ap₂ (λ xs ys. xs ++ ys) before (ap₂ (λ ws fs. agree_row ws c.args.cells.now fs) widths found)

pub returns-clause-next : goal.returns-clause-next
returns-clause-next c = λ env.
    let n = c.cycle.new.b in
    let k = c.transition.inside.state_bits in
    let bits : List Bool = output_values c.args.circuit.now (given (wire_values c.args.b.now env c.args.choice.now ++ wire_values c.args.b.now env c.args.state.now)) in
    ap (wire_values n env) (c.in_ok-extend_from_slice.ensures.items ∙ ap (λ xs. xs ++ c.split_at.result.0.now) c.new-after.ensures.items ∙ c.split_at.ensures.front ∙ ap (take k) c.as_slice.ensures.value)
    ∙ sym (take-map (wire_value n env) k c.in_ok-bits.bits.items)
    ∙ ap (take k) (c.in_ok-bits.ensures.value env)
    ∙ ap (λ x. take x.state_bits bits) c.transition.view_is
