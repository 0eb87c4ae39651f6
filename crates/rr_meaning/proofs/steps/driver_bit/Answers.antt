use Rattle.std.proofs.Common.{◌≡◌, ◌∙◌, sym, ap, arith, max, false, get_or}
use Rattle.rr_syntax.specs.View.{plain}
use Rattle.rr_expr.specs.Scopes.{Names, env_of}
use Rattle.rr_expr.specs.Values.{form, own}
use Rattle.rr_flat.specs.View.{Design, plain_flat, plain_side}
use Rattle.rr_flat.specs.Writers.{scope_at}
use Rattle.rr_cycle.specs.Cycles.{side_shape, side_value}
use Rattle.rr_wiring.proofs.Bits.{joined_bit}
use Rattle.rr_meaning.proofs.Scoping.{scope_read}
use Rattle.rr_meaning.proofs.steps.driver_bit.Goals as goal

pub returns-in-Text : goal.returns-in-Text
unfolding side_shape side_value
returns-in-Text c =
    let r = rw c.in-Text.is at c.requires.value in
    let s : Names = scope_at (plain_flat c.args.flat.now) c.in-Text.scope in
    let x : c.index.result.now ≡ s = scope_read c.args.flat.now c.in-Text.scope c.index.result.now c.flat.inside.scopes.items r.0 c.index.ensures (ap (λ (d : Design). d.scopes) c.flat.view_is) in
    rw c.in-Text.is
    (c.own_bit.ensures ∙ ap (λ (n : Names). get_or (own n (plain c.in-Text.expr.now) (env_of c.args.env.now.values.items)) c.args.place false) x
    ∙ sym (joined_bit s (plain c.in-Text.expr.now) (env_of c.args.env.now.values.items) (max (side_shape (plain_flat c.args.flat.now) (plain_side c.args.driver.now.target)).width (form s (plain c.in-Text.expr.now)).width) c.args.place
    (sym c.is_concatenation.ensures ∙ c.if-is_concatenation.true) (omega arith)))
