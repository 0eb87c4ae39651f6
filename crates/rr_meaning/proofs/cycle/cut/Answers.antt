use Rattle.std.proofs.Common.{◌≡◌, ◌∙◌, ap, get_or}
use Rattle.rr_bits.specs.Words.{number, word}
use Rattle.rr_flat.specs.View.{Design}
use Rattle.rr_meaning.proofs.Scoping.{width_read}
use Rattle.rr_meaning.proofs.cycle.cut.Goals as goal

pub returns : goal.returns
returns c =
    let x : c.index.result.now ≡ get_or c.args.flat.now.signals c.args.id c.index.result.now = c.index.ensures ∙ ap (λ (d : Design). get_or d.signals c.args.id c.index.result.now) c.flat.view_is in
    c.to_u128.ensures ∙ ap number c.from_u128.ensures ∙ ap (λ w. number (word w c.args.number)) (width_read c.args.flat.now c.args.id c.index.result.now c.requires x)
