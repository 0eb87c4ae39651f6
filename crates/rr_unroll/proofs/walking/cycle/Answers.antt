use Rattle.std.proofs.Common.{◌≡◌, ◌++◌, length, ◌∙◌, ap, arith, length-append}
use Rattle.std.specs.List.{sum}
use Rattle.rr_transition.proofs.WordLaws.{length_words}
use Rattle.rr_unroll.proofs.walking.cycle.Goals as goal

pub eval-requires : goal.eval-requires
eval-requires c =
    let k = c.transition.invariant in
    let t = c.transition.view_is in
    let bits : length c.as_slice-2.result.now ≡ sum c.as_slice.result.now = ap length (c.as_slice-2.ensures.value ∙ c.in_ok-bits.ensures) ∙ length_words c.as_slice.result.now c.args.row.now in
    let widths : sum c.as_slice.result.now ≡ sum c.transition.inside.input_widths.items = ap sum c.as_slice.ensures.value in
    let choice : c.transition.inside.choice_bits ≡ c.args.transition.now.choice_bits = ap (λ x. x.choice_bits) t in
    let state : c.transition.inside.state_bits ≡ c.args.transition.now.state_bits = ap (λ x. x.state_bits) t in
    let first = ap length (c.in_ok-extend_from_slice.ensures.items ∙ ap (λ xs. xs ++ c.args.choice.now) c.in_ok-inputs.ensures.items) in
    let second = ap length c.in_ok-extend_from_slice-2.ensures.items ∙ length-append c.extend_from_slice.new.self.items c.args.state.now in
    let third = ap length (c.as_slice-3.ensures.value ∙ c.in_ok-extend_from_slice-3.ensures.items) ∙ length-append c.extend_from_slice-2.new.self.items c.as_slice-2.result.now in
    let from = k.inputs in
    let rows = k.input_bits in
    let cw = c.requires.choice in
    let sw = c.requires.state in
    omega arith
