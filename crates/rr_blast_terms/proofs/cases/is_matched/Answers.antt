use Rattle.std.proofs.Common.{◌∙◌, ap, ap₂, Bool, List, ◌||◌}
use Rattle.rr_circuit.specs.Values.{wire_value, wire_values}
use Rattle.rr_circuit.proofs.Netlists.{Extends-trans, wire_values-extends}
use Rattle.rr_syntax.specs.View.{plain}
use Rattle.rr_expr.specs.Values.{value}
use Rattle.rr_flat.proofs.Shaping.{clear}
use Rattle.rr_choice.specs.declared.pick.Pick.{Pick}
use Rattle.rr_instance.specs.Instances.{instance_tree}
use Rattle.rr_cycle.specs.Exec.{Environment, is_equal, wild}
use Rattle.rr_exec.proofs.Loops.{label_shaped, narrow_at}
use Rattle.rr_signal_wires.specs.Words.{carried}
use Rattle.rr_blast_terms.specs.Choosing.{picks_of}
use Rattle.rr_blast_terms.proofs.CaseLaws.{match_done, match_more}
use Rattle.rr_signal_wires.proofs.WordLaws.{carried-extends}
use Rattle.rr_blast_terms.proofs.ChoiceLaws.{picks-extends}
use Rattle.rr_blast_terms.proofs.cases.is_matched.Goals as goal

pub is_label-requires-clause-shaped : goal.is_label-requires-clause-shaped
is_label-requires-clause-shaped c = clear c.args.scope.now _ (label_shaped c.args.scope.now c.args.labels.now c.loop-label.label-index c.label-item.result c.loop-label-test.true c.label-item.is c.requires.shaped)

pub is_label-requires-clause-narrow : goal.is_label-requires-clause-narrow
is_label-requires-clause-narrow c = narrow_at c.args.scope.now c.args.selector.now.shape.width c.args.labels.now c.loop-label.label-index c.label-item.result c.loop-label-test.true c.label-item.is c.requires.narrow

pub loop-label-preserved : goal.loop-label-preserved
loop-label-preserved c =
    let h = c.loop-label.invariant in
    let p = c.in_ok-here.ensures in
    let q = c.in_ok-found.ensures in
    let s = c.args.selector.now in
    let ss = c.args.choice.now.sites.now in
    let t = plain c.label-item.result in
    record {
      extends = Extends-trans _ _ _ (Extends-trans _ _ _ h.extends p.extends) q.extends;
      wire = q.wire;
      value = λ env.
          let k : List Pick = picks_of c.args.b.now env c.args.choice.now in
          let m : Environment = carried c.args.b.now env c.args.words.now in
          let v : List Bool = wire_values c.args.b.now env s.value.now in
          match_more c.args.scope.now s.kind.0 s.shape v ss k c.args.labels.now c.loop-label.label-index c.label-item.result m
          (wire_value c.loop-label.b env c.loop-label.found) (wire_value c.is_label.new.b env c.in_ok-here.here) (wire_value c.or.new.self env c.in_ok-found.found) _ c.loop-label-test.true c.label-item.is
          (p.value env
          ∙ ap₂ (λ (ps : List Pick) (e : Environment). is_equal (wild s.kind.0 (instance_tree ss ps t) s.shape.width) (wire_values c.loop-label.b env s.value.now) (value c.args.scope.now (instance_tree ss ps t) e s.shape.width s.shape.signed))
          (picks-extends c.args.b.now c.loop-label.b env c.args.choice.now h.extends c.requires.choice) (carried-extends c.args.b.now c.loop-label.b env c.args.words.now h.extends c.requires.words)
          ∙ ap (λ (w : List Bool). is_equal (wild s.kind.0 (instance_tree ss k t) s.shape.width) w (value c.args.scope.now (instance_tree ss k t) m s.shape.width s.shape.signed)) (wire_values-extends c.args.b.now c.loop-label.b s.value.now env h.extends c.requires.selector))
          (q.value env ∙ ap (λ (z : Bool). z || wire_value c.is_label.new.b env c.in_ok-here.here) (p.extends.values env c.loop-label.found h.wire))
          (h.value env);
    }

pub returns-clause-value : goal.returns-clause-value
returns-clause-value c = λ env.
    let s = c.args.selector.now in
    match_done c.args.scope.now s.kind.0 s.shape (wire_values c.args.b.now env s.value.now) c.args.choice.now.sites.now (picks_of c.args.b.now env c.args.choice.now) c.args.labels.now c.loop-label.label-index (carried c.args.b.now env c.args.words.now)
    (wire_value c.loop-label.b env c.loop-label.found) _ c.loop-label-test.false (c.loop-label.invariant.value env)
