use Rattle.std.proofs.Common.{◌≡◌, ◌∙◌, ap, subst, get_or}
use Rattle.rr_syntax.specs.View.{plain}
use Rattle.rr_expr.specs.Scopes.{Names}
use Rattle.rr_expr.specs.Values.{form}
use Rattle.rr_flat.specs.Signals as head
use Rattle.rr_flat.specs.View.{Design, plain_flat}
use Rattle.rr_flat.specs.Writers.{scope_at}
use Rattle.rr_cycle.specs.Cycles.{side_shape}
use Rattle.rr_meaning.proofs.Scoping.{IsSound, scope_read}
use Rattle.rr_meaning.proofs.Scoping.{signal_read}
use Rattle.rr_blast_steps.proofs.steps.side_shape.Goals as goal

pub returns-in-Text-clause-value : goal.returns-in-Text-clause-value
unfolding side_shape
returns-in-Text-clause-value c =
    let d : Design = c.args.flat.now in
    let f : IsSound d = subst IsSound c.flat.view_is c.flat.invariant in
    let r = rw c.in-Text.is at c.requires in
    let x : c.index.result.now ≡ scope_at (plain_flat d) c.in-Text.scope = scope_read d c.in-Text.scope c.index.result.now c.flat.inside.scopes.items r.0 c.index.ensures (ap (λ (z : Design). z.scopes) c.flat.view_is) in
    rw c.in-Text.is (c.shape_of.ensures.value ∙ ap (λ (s : Names). form s (plain c.in-Text.expr.now)) x)

pub returns-in-Whole-clause-value : goal.returns-in-Whole-clause-value
unfolding side_shape
returns-in-Whole-clause-value c =
    let r = rw c.in-Whole.is at c.requires in
    rw c.in-Whole.is
    (ap (λ (s : head.Signal). record { width = s.width; signed = s.signed }) (signal_read c.args.flat.now.signals c.in-Whole.id c.index-signal.result.now c.index-signal.result.now r
    (c.index-signal.ensures ∙ ap (λ (d : Design). get_or d.signals c.in-Whole.id c.index-signal.result.now) c.flat.view_is)))
