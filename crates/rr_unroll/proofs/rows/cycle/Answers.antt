use Rattle.std.proofs.Common.{◌++◌, List, ◌∙◌, ap, length, length-append}
use Rattle.std.proofs.lemmas.List.{length-map}
use Rattle.std.proofs.lemmas.List.Elements.{All-append}
use Rattle.rr_circuit.specs.declared.Wire.{Wire}
use Rattle.rr_circuit.specs.Values.{IsWire, output_values, wire_values, given}
use Rattle.rr_unroll.proofs.WireLaws.{wires_width, both_values}
use Rattle.rr_unroll.proofs.rows.cycle.Goals as goal

pub copy_onto-requires-clause-inputs : goal.copy_onto-requires-clause-inputs
copy_onto-requires-clause-inputs c =
    let e = c.as_slice.ensures.value ∙ c.in_ok-extend_from_slice-2.ensures.items ∙ ap (λ (xs : List Wire). xs ++ c.args.state.now) (c.in_ok-extend_from_slice.ensures.items ∙ ap (λ (xs : List Wire). xs ++ c.args.choice.now) c.in_ok-inputs.ensures.items) in
    rw e (All-append (IsWire c.args.b.now) _ _ c.requires.choice c.requires.state)

pub copy_onto-requires-clause-count : goal.copy_onto-requires-clause-count
copy_onto-requires-clause-count c =
    let e = c.as_slice.ensures.value ∙ c.in_ok-extend_from_slice-2.ensures.items ∙ ap (λ (xs : List Wire). xs ++ c.args.state.now) (c.in_ok-extend_from_slice.ensures.items ∙ ap (λ (xs : List Wire). xs ++ c.args.choice.now) c.in_ok-inputs.ensures.items) in
    ap length e ∙ length-append c.args.choice.now c.args.state.now ∙ c.requires.count

pub returns-clause-width : goal.returns-clause-width
returns-clause-width c =
    wires_width c.copy_onto.new.b c.in_ok-out.out.items (λ env. output_values c.args.circuit.now (given (wire_values c.args.b.now env c.as_slice.result.now))) _ c.in_ok-out.ensures.value
    (length-map c.args.circuit.now.outputs _)

pub returns-clause-value : goal.returns-clause-value
returns-clause-value c = λ env.
    let e = c.as_slice.ensures.value ∙ c.in_ok-extend_from_slice-2.ensures.items ∙ ap (λ (xs : List Wire). xs ++ c.args.state.now) (c.in_ok-extend_from_slice.ensures.items ∙ ap (λ (xs : List Wire). xs ++ c.args.choice.now) c.in_ok-inputs.ensures.items) in
    c.in_ok-out.ensures.value env ∙ ap (λ xs. output_values c.args.circuit.now (given xs)) (both_values c.args.b.now env _ c.args.choice.now c.args.state.now e)
