use Rattle.std.proofs.Common.{◌≡◌, ◌∙◌, sym, ap, ap₂, refl, arith, ℕ, Bool, List, ◌&&◌, ◌+◌, ◌<◌, length}
use Rattle.std.proofs.lemmas.List.{drop-map}
use Rattle.std.proofs.lemmas.List.Elements.{All-get_or}
use Rattle.rr_circuit.specs.Values.{IsWire, wire_value, wire_values}
use Rattle.rr_syntax.specs.View.{texts}
use Rattle.rr_instance_laws.specs.Truth.{name_truth}
use Rattle.rr_cycle.specs.Exec.{Environment}
use Rattle.rr_word_gates.proofs.Carrying.{value-read}
use Rattle.rr_blast_sites.specs.Instances.{World}
use Rattle.rr_blast_sites.specs.Signals.{signal_values}
use Rattle.rr_blast_sites.proofs.GuardLaws.{rest_whole}
use Rattle.rr_signal_wires.specs.Words.{carried}
use Rattle.rr_blast_terms.proofs.WildLaws.{carried_signals}
use Rattle.rr_blast_body.specs.Lasts.{gated}
use Rattle.rr_blast_body.proofs.LastLaws.{gate_read}
use Rattle.rr_blast_body.proofs.lasts.last_guard.Goals as goal

pub returns-clause-value : goal.returns-clause-value
returns-clause-value c = λ env.
    let n = c.args.b.now in
    let s = c.args.scope.now in
    let bits = c.args.bits.now in
    let k : ℕ = 1 + c.args.last.now.width in
    let vs : List Bool = wire_values n env bits in
    let W : World = record { signals = λ input. signal_values n input c.args.words.now; choice = λ input. wire_values n input c.args.choice.now.wires.now } in
    let l : 0 < length bits = omega (arith, c.requires.last.room) in
    let gate = c.in_ok-gate.ensures.value W
    (record {
      wires = record { signals = c.requires.words; choice = c.requires.choice.0; room = c.requires.choice.1 };
      signals = λ input. refl;
      choice = record { wires = c.requires.choice.0; value = λ input. refl };
    }) in
    c.in_ok-out.ensures.value env
    ∙ ap₂ (λ (a b : Bool). a && b)
    (c.in_ok-gate.ensures.extends.values env _ (All-get_or (IsWire n) bits 0 _ l c.requires.bits) ∙ value-read n env bits 0 _ l)
    (gate.value env
    ∙ ap₂ (λ (xs : List Bool) (e : Environment). gated (texts c.args.last.now.names.now) xs (name_truth s e))
    (ap (wire_values n env) (rest_whole bits k) ∙ sym (drop-map (wire_value n env) k bits)) (carried_signals n env c.args.words.now)
    ∙ gate_read s (carried n env c.args.words.now) c.args.last.now vs)
