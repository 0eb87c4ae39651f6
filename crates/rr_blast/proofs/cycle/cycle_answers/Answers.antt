use Rattle.std.proofs.Common.{◌∙◌, ap, List, map, ◌++◌}
use Rattle.std.specs.Prelude.{Vec}
use Rattle.std.specs.Global.{Global}
use Rattle.std.proofs.lemmas.List.{map-append}
use Rattle.std.proofs.lemmas.List.Elements.{All-append}
use Rattle.rr_circuit.specs.declared.Wire.{Wire}
use Rattle.rr_circuit.specs.Values.{AreWires, IsWire, wire_value, wire_values}
use Rattle.rr_flat.specs.View.{Design, plain_flat}
use Rattle.rr_flat_instance.specs.Flats.{instance_flat}
use Rattle.rr_cycle.specs.Performing.{next_after}
use Rattle.rr_transition.specs.Cycles.{output_bits}
use Rattle.rr_signal_wires.specs.Words.{carried}
use Rattle.rr_blast_terms.specs.Choosing.{picks_of}
use Rattle.rr_blast.proofs.CycleLaws.{answers_are}
use Rattle.rr_signal_wires.proofs.WordLaws.{carried-extends}
use Rattle.rr_blast_terms.proofs.ChoiceLaws.{picks-extends}
use Rattle.rr_blast.proofs.cycle.cycle_answers.Goals as goal

pub returns-clause-wires : goal.returns-clause-wires
returns-clause-wires c =
    let n = c.edge.new.b in
    let x : AreWires n c.in_ok-answers.answers.items = c.in_ok-answers.ensures.wires n (rw c.as_slice-2.ensures.value c.in_ok-next.ensures.words) in
    let y : AreWires n c.as_slice-4.result.now = rw c.as_slice-4.ensures.value c.in_ok-outputs.ensures.wires in
    rw c.in_ok-add_word.ensures (All-append (IsWire n) c.in_ok-answers.answers.items c.as_slice-4.result.now x y)

pub returns-clause-value : goal.returns-clause-value
returns-clause-value c = λ env.
    let d : Design = c.args.flat.now in
    let n1 = c.perform_all.new.b in
    let n2 = c.edge.new.b in
    let x = c.in_ok-perform_all.ensures in
    let y = c.in_ok-next.ensures in
    let ws : List (Vec Wire Global) = c.perform_all.new.machine.now.items in
    let ss = c.args.choice.now.sites.now in
    answers_are (plain_flat d) c.args.clock ss (picks_of c.args.b.now env c.args.choice.now) (picks_of n1 env c.args.choice.now) c.args.steps.now c.args.registers.now c.args.inputs.now _ _
    (carried c.args.b.now env c.in_ok-now.now.items) (carried n1 env ws) (carried n2 env ws) (carried n2 env c.in_ok-next.next.items)
    (wire_values n2 env c.in_ok-answers.answers.items) (wire_values n2 env c.in_ok-outputs.outputs.items) _
    c.in_ok-later.ensures.narrow c.in_ok-now.ensures.above c.requires.registers c.requires.bases c.requires.inputs
    (c.in_ok-now.ensures.value env) (x.env env) (picks-extends c.args.b.now n1 env c.args.choice.now x.extends c.requires.choice)
    (y.value env ∙ ap (λ (vs : List (Vec Wire Global)). next_after (instance_flat ss (picks_of n1 env c.args.choice.now) (plain_flat d)) (carried n1 env vs)) c.as_slice.ensures.value)
    (carried-extends n1 n2 env ws y.extends x.machine.now)
    (c.in_ok-answers.ensures.value n2 env ∙ ap (λ (vs : List (Vec Wire Global)). map (carried n2 env vs) c.args.registers.now) c.as_slice-2.ensures.value)
    (c.in_ok-outputs.ensures.value env ∙ ap (λ (vs : List (Vec Wire Global)). output_bits (plain_flat d) (carried n2 env vs)) c.as_slice-3.ensures.value)
    (ap (wire_values n2 env) (c.in_ok-add_word.ensures ∙ ap (λ (vs : List Wire). c.in_ok-answers.answers.items ++ vs) c.as_slice-4.ensures.value)
    ∙ map-append (wire_value n2 env) c.in_ok-answers.answers.items c.in_ok-outputs.outputs.items)
