use Rattle.std.proofs.Common.{◌≡◌, ◌∙◌, ap, subst, get_or, rules, ℕ, List}
use Rattle.rr_bits.specs.Words.{word}
use Rattle.rr_flat.specs.View.{Design}
use Rattle.rr_meaning.proofs.Placing.{signal_is}
use Rattle.rr_meaning.proofs.Scoping.{IsSound, width_read}
use Rattle.rr_meaning.proofs.steps.signal_value.Goals as goal

pub returns : goal.returns
returns c =
    let f : IsSound c.args.flat.now = subst IsSound c.flat.view_is c.flat.invariant in
    let x : c.index.result.now ≡ get_or c.args.flat.now.signals c.args.id c.index.result.now = c.index.ensures ∙ ap (λ (d : Design). get_or d.signals c.args.id c.index.result.now) c.flat.view_is in
    let u : c.unwrap_or-value.result ≡ get_or c.deref.result.now c.args.id 0 = search rules in
    let v : c.unwrap_or-value.result ≡ get_or c.args.env.now.values.items c.args.id 0 = u ∙ ap (λ (vs : List ℕ). get_or vs c.args.id 0) c.deref.ensures.value in
    c.from_u128.ensures ∙ ap (word c.index.result.now.width) v
    ∙ signal_is c.args.flat.now c.args.env.now.values.items c.args.id c.index.result.now.width f c.requires (width_read c.args.flat.now c.args.id c.index.result.now c.requires x)
