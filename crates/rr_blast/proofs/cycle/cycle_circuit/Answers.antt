use Rattle.std.proofs.Common.{◌≡◌, ◌∙◌, sym, ap, arith, refl, Bool, ℕ, ◌+◌, ◌++◌, [], false, length}
use Rattle.std.proofs.lemmas.List.{length-map}
use Rattle.rr_circuit.specs.Values.{Netlist, OutputNetlist, given, output_values, wire_value, wire_values}
use Rattle.rr_flat.specs.View.{plain_flat}
use Rattle.rr_blast.specs.Circuits.{PerformsCycles}
use Rattle.rr_blast.proofs.CycleLaws.{given_last, given_middle, same_answers}
use Rattle.rr_blast.proofs.FitLaws.{answers_length}
use Rattle.rr_blast.proofs.cycle.cycle_circuit.Goals as goal

pub returns-clause-performs : goal.returns-clause-performs
unfolding PerformsCycles
returns-clause-performs c = λ choice state row lc ls lr.
    let n : Netlist = c.in_ok-b.b in
    let env : ℕ → Bool = given (choice ++ (state ++ row)) in
    let k1 : c.bits-first.result ≡ length choice = c.bits-first.ensures ∙ sym lc in
    let k2 : length c.args.registers.now ≡ length state = sym ls in
    let k3 : length c.args.inputs.now ≡ length row = ap length c.requires.inputs ∙ sym lr in
    c.in_ok-circuit.ensures.values env
    ∙ ap (λ (o : OutputNetlist). output_values o env) c.finish-whole.ensures.result
    ∙ c.in_ok-answers.ensures.value env
    ∙ same_answers (plain_flat c.args.flat.now) c.args.clock c.args.sites.now c.args.steps.now c.args.registers.now _ choice _ state _ row
    (ap (wire_values n env) c.as_slice.ensures.value ∙ c.in_ok-picks.ensures.value env ∙ given_middle [] choice (state ++ row) 0 c.bits-first.result refl k1)
    (ap (wire_values n env) c.as_slice-2.ensures.value ∙ c.in_ok-state.ensures.value env ∙ given_middle choice state row c.bits-first.result (length c.args.registers.now) k1 k2)
    (ap (wire_values n env) c.as_slice-3.ensures.value ∙ c.in_ok-given.ensures.value env ∙ given_last choice state row (c.bits-first.result + length c.args.registers.now) (length c.args.inputs.now) (omega (arith, k1, k2)) k3)

pub returns-clause-outputs : goal.returns-clause-outputs
returns-clause-outputs c =
    let n : Netlist = c.cycle_answers.new.b in
    c.in_ok-circuit.ensures.outputs
    ∙ ap (λ (o : OutputNetlist). length o.outputs) c.finish-whole.ensures.result
    ∙ sym (length-map c.in_ok-answers.answers.items (wire_value n (λ k. false)))
    ∙ ap length (c.in_ok-answers.ensures.value (λ k. false))
    ∙ answers_length (plain_flat c.args.flat.now) c.args.sites.now _ c.args.registers.now _
