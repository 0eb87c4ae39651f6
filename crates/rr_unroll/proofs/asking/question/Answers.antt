use Rattle.std.proofs.Common.{◌++◌, [], ◌∷◌, length, sym, ◌∙◌, ap, ap₂}
use Rattle.std.proofs.lemmas.List.{map_push}
use Rattle.std.proofs.lemmas.List.Elements.{All-push}
use Rattle.rr_circuit.specs.Values.{IsWire, output_values, wire_value, wire_values, given}
use Rattle.rr_circuit.proofs.Netlists.{AreWires-extends, wire_values-extends}
use Rattle.rr_count.specs.Counts.{is_at_most}
use Rattle.rr_trace.specs.View.{plain_table}
use Rattle.rr_unroll.specs.Questions.{judged}
use Rattle.rr_transition.specs.Transitions.{switched}
use Rattle.rr_unroll.proofs.FaithfulLaws.{faithful}
use Rattle.rr_unroll.proofs.WireLaws.{given_back}
use Rattle.rr_unroll.proofs.asking.question.Goals as goal

pub judged-requires-clause-width : goal.judged-requires-clause-width
judged-requires-clause-width g c = ap length c.as_slice-3.ensures.value ∙ c.in_ok-choice.ensures.width ∙ ap (λ x. x.choice_bits) c.transition.view_is

pub switched-requires-clause-inside : goal.switched-requires-clause-inside
switched-requires-clause-inside g c =
    rw (c.as_slice-5.ensures.value, c.as_slice-4.ensures.value, c.in_ok-choice.ensures.width) c.transition.invariant.switches

pub finish-circuit-requires : goal.finish-circuit-requires
finish-circuit-requires g c =
    rw c.in_ok-push.ensures.items
    (All-push (IsWire c.at_most.new.b) c.in_ok-outputs.outputs.items c.in_ok-cheap.cheap
    (AreWires-extends c.judged.new.b c.at_most.new.b c.in_ok-outputs.outputs.items c.in_ok-cheap.ensures.extends c.in_ok-outputs.ensures.wires) c.in_ok-cheap.ensures.wire)

pub returns-clause-inputs : goal.returns-clause-inputs
returns-clause-inputs g c =
    c.in_ok-swept.ensures.inputs ∙ ap (λ x. x.netlist.inputs) c.finish-circuit.ensures.result
    ∙ c.in_ok-cheap.ensures.extends.inputs ∙ c.in_ok-outputs.ensures.extends.inputs ∙ ap (λ x. x.inputs) c.in_ok-b.ensures ∙ ap (λ x. x.choice_bits) c.transition.view_is

pub returns-clause-outputs : goal.returns-clause-outputs
returns-clause-outputs g c = λ bits l.
    let first = c.in_ok-b.b in
    let asking = c.judged.new.b in
    let last = c.at_most.new.b in
    let env = given bits in
    let t = c.args.transition.now in
    let outputs = c.in_ok-outputs.outputs.items in
    let wires = c.in_ok-choice.choice.items in
    let e = c.in_ok-outputs.ensures in
    let choice = c.in_ok-choice.ensures.value env ∙ given_back bits c.transition.inside.choice_bits (l ∙ sym (ap (λ x. x.choice_bits) c.transition.view_is)) in
    let asked =
    wire_values-extends asking last outputs env c.in_ok-cheap.ensures.extends e.wires
    ∙ e.value env
    ∙ ap (λ xs. judged t xs t.start (plain_table c.args.table.now).inputs (plain_table c.args.table.now).expected)
    (ap (wire_values first env) c.as_slice-3.ensures.value ∙ choice) in
    let switches =
    ap (wire_values asking env) c.as_slice-6.ensures.value
    ∙ c.in_ok-switches.ensures.value env
    ∙ ap₂ switched (c.as_slice-5.ensures.value ∙ ap (λ x. x.switches) c.transition.view_is)
    (ap (wire_values asking env) c.as_slice-4.ensures.value ∙ wire_values-extends first asking wires env e.extends c.in_ok-choice.ensures.wires ∙ choice) in
    c.in_ok-swept.ensures.values env ∙ ap (λ x. output_values x env) c.finish-circuit.ensures.result
    ∙ ap (wire_values last env) c.in_ok-push.ensures.items
    ∙ map_push (wire_value last env) outputs c.in_ok-cheap.cheap
    ∙ ap₂ (λ xs x. xs ++ x ∷ []) asked (c.in_ok-cheap.ensures.value env ∙ ap (is_at_most c.args.bound) switches)

pub returns-clause-faithful : goal.returns-clause-faithful
returns-clause-faithful g c = faithful c.args.transition.now c.in_ok-swept.swept (plain_table c.args.table.now) c.args.bound (returns-clause-inputs g c) (returns-clause-outputs g c)
