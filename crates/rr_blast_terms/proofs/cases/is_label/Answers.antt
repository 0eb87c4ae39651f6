use Rattle.std.proofs.Common.{◌∙◌, sym, ap, ap₂, arith, length, List, Bool, false}
use Rattle.std.proofs.lemmas.List.{length-map}
use Rattle.rr_circuit.specs.Values.{wire_value, wire_values}
use Rattle.rr_circuit.proofs.Netlists.{Extends-trans, wire_values-extends}
use Rattle.rr_syntax.specs.View.{plain}
use Rattle.rr_expr.specs.Values.{value}
use Rattle.rr_choice.specs.declared.pick.Pick.{Pick}
use Rattle.rr_instance.specs.Instances.{instance_tree}
use Rattle.rr_cycle.specs.Exec.{Environment, is_equal, wild}
use Rattle.rr_named_bits.proofs.Nodes.{shaped_positive}
use Rattle.rr_exec.proofs.Labels.{length_wild}
use Rattle.rr_wiring.proofs.Widths.{length_value}
use Rattle.rr_signal_wires.specs.Words.{carried}
use Rattle.rr_blast_terms.specs.Choosing.{picks_of}
use Rattle.rr_signal_wires.proofs.WordLaws.{carried-extends}
use Rattle.rr_blast_terms.proofs.ChoiceLaws.{picks-extends}
use Rattle.rr_blast_terms.proofs.cases.is_label.Goals as goal

pub wild_wires-requires-clause-low : goal.wild_wires-requires-clause-low
wild_wires-requires-clause-low c = omega (arith, shaped_positive c.args.scope.now (plain c.args.label.now) c.requires.shaped, c.requires.narrow)

pub equal_but-requires-clause-one : goal.equal_but-requires-clause-one
equal_but-requires-clause-one c =
    ap length c.as_slice.ensures.value
    ∙ sym (length-map c.in_ok-wilds.wilds.items (wire_value c.wild_wires.new.b (λ k. false)))
    ∙ ap length (c.in_ok-wilds.ensures.value (λ k. false))
    ∙ length_wild c.args.selector.now.kind.0 _ c.args.selector.now.shape.width ∙ sym c.requires.width

pub equal_but-requires-clause-two : goal.equal_but-requires-clause-two
equal_but-requires-clause-two c =
    ap length c.as_slice-2.ensures.value
    ∙ sym (length-map c.in_ok-word.word.items (wire_value c.wires.new.b (λ k. false)))
    ∙ ap length (c.in_ok-word.ensures.value (λ k. false))
    ∙ length_value c.args.scope.now _ (carried c.wild_wires.new.b (λ k. false) c.args.words.now) c.args.selector.now.shape.width c.args.selector.now.shape.signed ∙ sym c.requires.width

pub returns-clause-value : goal.returns-clause-value
returns-clause-value c = λ env.
    let p = c.in_ok-wilds.ensures in
    let q = c.in_ok-word.ensures in
    let x = Extends-trans _ _ _ p.extends q.extends in
    let s = c.args.selector.now in
    let ss = c.args.choice.now.sites.now in
    let t = plain c.args.label.now in
    let k : List Pick = picks_of c.args.b.now env c.args.choice.now in
    let m : Environment = carried c.args.b.now env c.args.words.now in
    c.in_ok-wire.ensures.value env
    ∙ ap (λ (w : List Bool). is_equal w (wire_values c.wires.new.b env s.value.now) (wire_values c.wires.new.b env c.as_slice-2.result.now))
    (ap (wire_values c.wires.new.b env) c.as_slice.ensures.value ∙ wire_values-extends c.wild_wires.new.b c.wires.new.b c.in_ok-wilds.wilds.items env q.extends p.wires ∙ p.value env)
    ∙ ap₂ (λ (y z : List Bool). is_equal (wild s.kind.0 (instance_tree ss k t) s.shape.width) y z)
    (wire_values-extends c.args.b.now c.wires.new.b s.value.now env x c.requires.selector)
    (ap (wire_values c.wires.new.b env) c.as_slice-2.ensures.value ∙ q.value env
    ∙ ap₂ (λ (ps : List Pick) (e : Environment). value c.args.scope.now (instance_tree ss ps t) e s.shape.width s.shape.signed)
    (picks-extends c.args.b.now c.wild_wires.new.b env c.args.choice.now p.extends c.requires.choice) (carried-extends c.args.b.now c.wild_wires.new.b env c.args.words.now p.extends c.requires.words))
