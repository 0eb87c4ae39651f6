use Rattle.std.proofs.Common.{◌≡◌, ◌+◌, ◌++◌, ℕ, Bool, List, length, sym, ◌∙◌, ap, ap₂, append_assoc, length-append}
use Rattle.std.proofs.lemmas.List.{length-map}
use Rattle.rr_circuit.specs.Values.{output_values, wire_values, given}
use Rattle.rr_transition.specs.Transitions.{Transition}
use Rattle.rr_unroll.proofs.WireLaws.{given_back, wires_width}
use Rattle.rr_unroll.proofs.copies.fixed.Goals as goal

pub copy_onto-requires-clause-count : goal.copy_onto-requires-clause-count
copy_onto-requires-clause-count c =
    let view = c.transition.view_is in
    let all = ap length c.as_slice-2.ensures.value ∙ c.in_ok-all.ensures.width in
    let free = ap length c.as_slice.ensures.value ∙ c.in_ok-free.ensures.width in
    let row : length c.args.row.now ≡ c.transition.inside.input_bits = c.requires ∙ sym (ap (λ (t : Transition). t.input_bits) view) in
    let inputs = c.transition.invariant.inputs in
    all ∙ ap₂ (λ x y. x + y) free row ∙ sym inputs

pub returns : goal.returns
returns c =
    let t = c.args.transition.now in
    let view = c.transition.view_is in
    let built = c.copy_onto.new.b in
    let outputs = c.in_ok-outputs.outputs.items in
    let count : c.transition.inside.choice_bits + c.transition.inside.state_bits ≡ t.choice_bits + t.state_bits = ap (λ (x : Transition). x.choice_bits + x.state_bits) view in
    record {
      inputs = c.in_ok-swept.ensures.inputs ∙ ap (λ x. x.netlist.inputs) c.finish-circuit.ensures.result ∙ c.in_ok-outputs.ensures.extends.inputs ∙ ap (λ x. x.inputs) c.in_ok-b.ensures ∙ count;
      outputs =
          c.in_ok-swept.ensures.outputs ∙ ap (λ x. length x.outputs) c.finish-circuit.ensures.result
          ∙ wires_width built outputs (λ env. output_values c.transition.inside.circuit (given (wire_values c.in_ok-b.b env c.as_slice-2.result.now))) _ c.in_ok-outputs.ensures.value (length-map c.transition.inside.circuit.outputs _)
          ∙ ap (λ (x : Transition). length x.circuit.outputs) view;
      values = λ choice state lc ls.
          let env : ℕ → Bool = given (choice ++ state) in
          let size : length (choice ++ state) ≡ c.transition.inside.choice_bits + c.transition.inside.state_bits = length-append choice state ∙ ap₂ (λ x y. x + y) lc ls ∙ sym count in
          let free : wire_values c.in_ok-b.b env c.as_slice.result.now ≡ choice ++ state = ap (wire_values c.in_ok-b.b env) c.as_slice.ensures.value ∙ c.in_ok-free.ensures.value env ∙ given_back (choice ++ state) _ size in
          let all : wire_values c.in_ok-b.b env c.as_slice-2.result.now ≡ choice ++ (state ++ c.args.row.now) =
          ap (wire_values c.in_ok-b.b env) c.as_slice-2.ensures.value ∙ c.in_ok-all.ensures.value env ∙ ap (λ (xs : List Bool). xs ++ c.args.row.now) free ∙ append_assoc choice state c.args.row.now in
          c.in_ok-swept.ensures.values env
          ∙ ap (λ x. output_values x env) c.finish-circuit.ensures.result
          ∙ c.in_ok-outputs.ensures.value env
          ∙ ap₂ (λ x xs. output_values x (given xs)) (ap (λ (x : Transition). x.circuit) view) all;
      used = c.in_ok-swept.ensures.used;
    }
