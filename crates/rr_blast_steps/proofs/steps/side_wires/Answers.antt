use Rattle.std.proofs.Common.{◌≡◌, ◌∙◌, ap, subst, arith, length, ◌<◌}
use Rattle.std.specs.Prelude.{Vec}
use Rattle.std.specs.Global.{Global}
use Rattle.std.proofs.lemmas.List.{length-map}
use Rattle.rr_circuit.specs.declared.Wire.{Wire}
use Rattle.rr_circuit.specs.Values.{wire_values}
use Rattle.rr_bits.specs.Words.{extend}
use Rattle.rr_syntax.specs.View.{plain}
use Rattle.rr_expr.specs.Scopes.{Names}
use Rattle.rr_expr.specs.Values.{value}
use Rattle.rr_flat.specs.declared.signal.Signal.{Signal}
use Rattle.rr_flat.specs.View.{Design, plain_flat}
use Rattle.rr_flat.specs.Writers.{scope_at}
use Rattle.rr_instance.specs.Instances.{instance_tree}
use Rattle.rr_cycle.specs.Cycles.{side_shape, side_value}
use Rattle.rr_signal_wires.specs.Words.{carried}
use Rattle.rr_blast_terms.specs.Choosing.{picks_of}
use Rattle.rr_meaning.proofs.Scoping.{IsSound, scope_read}
use Rattle.rr_blast_steps.proofs.SideLaws.{signal_wires}
use Rattle.rr_signal_wires.proofs.WordLaws.{count_of}
use Rattle.rr_blast_steps.proofs.steps.side_wires.Goals as goal

pub wires-requires-clause-low : goal.wires-requires-clause-low
unfolding side_shape
wires-requires-clause-low c =
    let d : Design = c.args.flat.now in
    let f : IsSound d = subst IsSound c.flat.view_is c.flat.invariant in
    let r = rw c.in-Text.is at c.requires.side in
    let x : c.index-scope.result.now ≡ scope_at (plain_flat d) c.in-Text.scope = scope_read d c.in-Text.scope c.index-scope.result.now c.flat.inside.scopes.items r.0 c.index-scope.ensures (ap (λ (z : Design). z.scopes) c.flat.view_is) in
    rw x (rw c.in-Text.is at c.requires.low)

pub returns-in_ok-bits-in-Text-clause-value : goal.returns-in_ok-bits-in-Text-clause-value
unfolding side_value
returns-in_ok-bits-in-Text-clause-value c = λ env.
    let d : Design = c.args.flat.now in
    let f : IsSound d = subst IsSound c.flat.view_is c.flat.invariant in
    let r = rw c.in-Text.is at c.requires.side in
    let x : c.index-scope.result.now ≡ scope_at (plain_flat d) c.in-Text.scope = scope_read d c.in-Text.scope c.index-scope.result.now c.flat.inside.scopes.items r.0 c.index-scope.ensures (ap (λ (z : Design). z.scopes) c.flat.view_is) in
    rw c.in-Text.is
    (c.in_ok-bits-in-Text.ensures.value env
    ∙ ap (λ (s : Names). value s (instance_tree c.args.choice.now.sites.now (picks_of c.args.b.now env c.args.choice.now) (plain c.in-Text.expr.now)) (carried c.args.b.now env c.args.words.now) c.args.width c.args.signed) x)

pub bounds-words-id : goal.bounds-words-id
bounds-words-id c =
    let r = rw c.in-Whole.is at c.requires.side in
    omega (arith, r, count_of c.args.words.now, ap length c.requires.widths, length-map c.args.flat.now.signals (λ (s : Signal). s.width))

pub extended-requires : goal.extended-requires
extended-requires c =
    let r = rw c.in-Whole.is at c.requires.side in
    let m : c.in-Whole.id < length c.args.words.now = omega (arith, r, count_of c.args.words.now, ap length c.requires.widths, length-map c.args.flat.now.signals (λ (s : Signal). s.width)) in
    rw (c.as_slice.ensures.value ∙ ap (λ (v : Vec Wire Global). v.items) c.index-words-id.is) (c.requires.words c.in-Whole.id c.index-words-id.result m)

pub returns-in_ok-bits-in-Whole-clause-value : goal.returns-in_ok-bits-in-Whole-clause-value
unfolding side_value
returns-in_ok-bits-in-Whole-clause-value c = λ env.
    let d : Design = c.args.flat.now in
    let f : IsSound d = subst IsSound c.flat.view_is c.flat.invariant in
    let r = rw c.in-Whole.is at c.requires.side in
    rw c.in-Whole.is
    (c.in_ok-bits-in-Whole.ensures.value.value env
    ∙ ap (extend c.args.width c.args.signed) (ap (wire_values c.args.b.now env) c.as_slice.ensures.value ∙ signal_wires c.args.b.now env d c.args.words.now c.in-Whole.id c.index-words-id.result f r c.requires.widths c.index-words-id.is))
