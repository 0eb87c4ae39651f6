use Rattle.std.proofs.Common.{◌≡◌, ◌∙◌, sym, ap, subst, arith, List, length, map}
use Rattle.std.proofs.lemmas.List.{length-map}
use Rattle.std.specs.List.{sum}
use Rattle.rr_expr.specs.declared.types.Bit.{Bit}
use Rattle.rr_flat.specs.declared.design.Step.{Step}
use Rattle.rr_flat.specs.Inputs.{row_inputs}
use Rattle.rr_flat.specs.View.{Design, plain_flat}
use Rattle.rr_cycle.specs.Cycles.{beginning}
use Rattle.rr_meaning.proofs.Scoping.{IsSound}
use Rattle.rr_transition.specs.Cycles.{Design as Sourced, widths_of}
use Rattle.rr_transition.specs.Transitions.{Transition}
use Rattle.rr_blast.specs.Circuits.{FitsArguments, PerformsCycles}
use Rattle.rr_blast.specs.Rows.{bits_of_row}
use Rattle.rr_blast.proofs.BaseLaws.{narrow_of}
use Rattle.rr_blast.proofs.FitLaws.{bases_of, register_wires, row_length, stands, switches_inside}
use Rattle.rr_blast.proofs.making.swept_cycle.Goals as goal

pub cycle_circuit-requires-clause-bases : goal.cycle_circuit-requires-clause-bases
cycle_circuit-requires-clause-bases c = bases_of c.requires.fits.0 (plain_flat c.args.flat.now) c.args.order.now.clock c.args.order.now.rising c.args.order.now.steps.items c.args.list.now c.requires.fits.1

pub cycle_circuit-requires-clause-there : goal.cycle_circuit-requires-clause-there
cycle_circuit-requires-clause-there c = rw c.as_slice-3.ensures.value (register_wires c.args.flat.now c.in_ok-registers.registers.items c.in_ok-registers.ensures.there)

pub invariant_of-result : goal.invariant_of-result
invariant_of-result c =
    let F = plain_flat c.args.flat.now in
    let ids : c.as_slice.result.now ≡ row_inputs c.args.order.now.clock c.args.flat.now.inputs = c.as_slice.ensures.value ∙ c.in_ok-ids.ensures.value in
    let row : c.in_ok-row.row.items ≡ bits_of_row F.signals (row_inputs c.args.order.now.clock c.args.flat.now.inputs) = c.in_ok-row.ensures.value ∙ ap (bits_of_row F.signals) ids in
    let ins : c.in_ok-input_widths.input_widths.items ≡ widths_of F (row_inputs c.args.order.now.clock c.args.flat.now.inputs) = c.in_ok-input_widths.ensures ∙ ap (widths_of F) (c.as_slice-6.ensures.value ∙ c.in_ok-ids.ensures.value) in
    let outs : c.in_ok-output_widths.output_widths.items ≡ widths_of F c.args.flat.now.outputs = c.in_ok-output_widths.ensures ∙ ap (widths_of F) (c.as_slice-7.ensures.value ∙ ap (λ (d : Design). d.outputs) c.flat.view_is) in
    let st : c.in_ok-start.start.items ≡ map (beginning F) c.in_ok-registers.registers.items = c.in_ok-start.ensures ∙ ap (map (beginning F)) c.as_slice-5.ensures.value in
    let a : c.len.result ≡ length c.in_ok-registers.registers.items = omega (arith, c.len.ensures, c.in_ok-registers.registers.ok.0) in
    let b : c.len-2.result ≡ length c.in_ok-row.row.items = omega (arith, c.len-2.ensures, c.in_ok-row.row.ok.0) in
    record {
      inputs = omega (arith, c.in_ok-circuit.ensures.inputs, c.bits.ensures, a, b, ap length c.as_slice-3.ensures.value, ap length c.as_slice-4.ensures.value);
      outputs = omega (arith, c.in_ok-circuit.ensures.outputs, a, ap length c.as_slice-3.ensures.value, ap sum outs);
      few = omega (arith, c.requires.few, c.bits.ensures, a, b, ap length c.in_ok-registers.ensures.value, ap length row);
      start = ap length st ∙ length-map c.in_ok-registers.registers.items (beginning F) ∙ sym a;
      input_bits = b ∙ ap length row ∙ row_length F.signals (row_inputs c.args.order.now.clock c.args.flat.now.inputs) ∙ sym (ap sum ins);
      switches = rw c.in_ok-switches.ensures (switches_inside c.args.list.now c.bits.result c.bits.ensures);
    }

pub returns : goal.returns
returns c =
    let F = plain_flat c.args.flat.now in
    let f : IsSound c.args.flat.now = subst IsSound c.flat.view_is c.flat.invariant in
    let a : c.len.result ≡ length c.in_ok-registers.registers.items = omega (arith, c.len.ensures, c.in_ok-registers.registers.ok.0) in
    let performs : PerformsCycles F c.args.order.now.clock c.args.order.now.steps.items c.args.list.now c.in_ok-registers.registers.items c.in_ok-circuit.circuit =
    subst (λ (s : List Step). PerformsCycles F c.args.order.now.clock s c.args.list.now c.in_ok-registers.registers.items c.in_ok-circuit.circuit) c.as_slice-2.ensures.value
    (subst (λ (bs : List Bit). PerformsCycles F c.args.order.now.clock c.as_slice-2.result.now c.args.list.now bs c.in_ok-circuit.circuit) c.as_slice-3.ensures.value c.in_ok-circuit.ensures.performs) in
    let made : Transition = record {
      circuit = c.in_ok-circuit.circuit;
      choice_bits = c.bits.result;
      state_bits = c.len.result;
      input_bits = c.len-2.result;
      start = c.in_ok-start.start.items;
      switches = c.in_ok-switches.switches.items;
      input_widths = c.in_ok-input_widths.input_widths.items;
      output_widths = c.in_ok-output_widths.output_widths.items;
    } in
    let over = λ (j : Sourced) (fits : FitsArguments j F c.args.order.now.clock c.args.order.now.rising c.args.order.now.steps.items c.args.list.now).
    stands F c.args.order.now.clock c.args.order.now.rising c.args.order.now.steps.items c.args.list.now c.in_ok-registers.registers.items made
    (record {
      narrow = narrow_of c.args.flat.now f;
      kept = c.in_ok-registers.ensures.all;
      choice_bits = c.bits.ensures;
      state_bits = a;
      start = c.in_ok-start.ensures ∙ ap (map (beginning F)) c.as_slice-5.ensures.value;
      switches = c.in_ok-switches.ensures;
      input_widths = c.in_ok-input_widths.ensures ∙ ap (widths_of F) (c.as_slice-6.ensures.value ∙ c.in_ok-ids.ensures.value);
      output_widths = c.in_ok-output_widths.ensures ∙ ap (widths_of F) (c.as_slice-7.ensures.value ∙ ap (λ (d : Design). d.outputs) c.flat.view_is);
      performs = performs;
    })
    j fits in
    record {
      stands = λ j fits. (over j fits).0;
      registers = λ j fits. ((over j fits).0, (over j fits).1 ∙ c.in_ok-registers.ensures.value);
      used = c.in_ok-circuit.ensures.used;
    }
