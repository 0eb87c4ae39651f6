use Rattle.std.proofs.Common.{◌≡◌, ◌∙◌, ap, get_or}
use Rattle.rr_syntax.specs.View.{plain}
use Rattle.rr_expr.specs.Scopes.{Names}
use Rattle.rr_expr.specs.Values.{form}
use Rattle.rr_flat.specs.View.{Design, plain_flat}
use Rattle.rr_flat.specs.Writers.{scope_at}
use Rattle.rr_cycle.specs.Cycles.{side_shape}
use Rattle.rr_meaning.proofs.Scoping.{no_faults, scope_read, shape_read}
use Rattle.rr_meaning.proofs.steps.side_shape.Goals as goal

pub own_shape-requires : goal.own_shape-requires
own_shape-requires c =
    let r = rw c.in-Text.is at c.requires in
    let x : c.index.result.now ≡ scope_at (plain_flat c.args.flat.now) c.in-Text.scope = scope_read c.args.flat.now c.in-Text.scope c.index.result.now c.flat.inside.scopes.items r.0 c.index.ensures (ap (λ (d : Design). d.scopes) c.flat.view_is) in
    rw x (no_faults _ _ r.1.shaped)

pub returns-in-Text-clause-value : goal.returns-in-Text-clause-value
unfolding side_shape
returns-in-Text-clause-value c =
    let r = rw c.in-Text.is at c.requires in
    let x : c.index.result.now ≡ scope_at (plain_flat c.args.flat.now) c.in-Text.scope = scope_read c.args.flat.now c.in-Text.scope c.index.result.now c.flat.inside.scopes.items r.0 c.index.ensures (ap (λ (d : Design). d.scopes) c.flat.view_is) in
    rw c.in-Text.is (c.own_shape.ensures.value ∙ ap (λ (s : Names). form s (plain c.in-Text.expr.now)) x)

pub returns-in-Whole-clause-value : goal.returns-in-Whole-clause-value
returns-in-Whole-clause-value c =
    let r = rw c.in-Whole.is at c.requires in
    rw c.in-Whole.is (shape_read c.args.flat.now c.in-Whole.id c.index-signal.result.now r (c.index-signal.ensures ∙ ap (λ (d : Design). get_or d.signals c.in-Whole.id c.index-signal.result.now) c.flat.view_is))
