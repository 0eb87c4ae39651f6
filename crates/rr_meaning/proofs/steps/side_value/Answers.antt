use Rattle.std.proofs.Common.{◌≡◌, ◌∙◌, ap}
use Rattle.rr_bits.specs.Words.{extend}
use Rattle.rr_syntax.specs.View.{plain}
use Rattle.rr_expr.specs.Scopes.{Names, env_of}
use Rattle.rr_expr.specs.Values.{value}
use Rattle.rr_flat.specs.View.{Design, plain_flat}
use Rattle.rr_flat.specs.Writers.{scope_at}
use Rattle.rr_cycle.specs.Cycles.{side_shape, side_value}
use Rattle.rr_meaning.proofs.Scoping.{scope_read}
use Rattle.rr_meaning.proofs.steps.side_value.Goals as goal

pub value-requires-clause-low : goal.value-requires-clause-low
unfolding side_shape
value-requires-clause-low c =
    let r = rw c.in-Text.is at c.requires.side in
    let x : c.index.result.now ≡ scope_at (plain_flat c.args.flat.now) c.in-Text.scope = scope_read c.args.flat.now c.in-Text.scope c.index.result.now c.flat.inside.scopes.items r.0 c.index.ensures (ap (λ (d : Design). d.scopes) c.flat.view_is) in
    rw x (rw c.in-Text.is at c.requires.low)

pub returns-in-Text : goal.returns-in-Text
unfolding side_value
returns-in-Text c =
    let r = rw c.in-Text.is at c.requires.side in
    let x : c.index.result.now ≡ scope_at (plain_flat c.args.flat.now) c.in-Text.scope = scope_read c.args.flat.now c.in-Text.scope c.index.result.now c.flat.inside.scopes.items r.0 c.index.ensures (ap (λ (d : Design). d.scopes) c.flat.view_is) in
    rw c.in-Text.is (c.value.ensures ∙ ap (λ (s : Names). value s (plain c.in-Text.expr.now) (env_of c.args.env.now.values.items) c.args.width c.args.signed) x)

pub returns-in-Whole : goal.returns-in-Whole
unfolding side_value
returns-in-Whole c = rw c.in-Whole.is (c.extend.ensures ∙ ap (extend c.args.width c.args.signed) c.signal_value.ensures)
