use Rattle.std.proofs.Common.{◌≡◌, ◌∙◌, ap, pos}
use Rattle.rr_expr.specs.Scopes.{range_width}
use Rattle.rr_named_bits.specs.Pieces.{bits_in}
use Rattle.rr_named_bits.proofs.Runs.{run_of, signal_run}
use Rattle.rr_named_bits.proofs.select.all_of.Goals as goal

pub returns-clause-bits : goal.returns-clause-bits
returns-clause-bits c = λ signed.
    let e : c.range_width-width.result ≡ range_width c.args.range = c.range_width-width.ensures ∙ c.bounds_of-bounds.ensures.width in
    ap (λ w. bits_in (run_of c.args.signal w (pos 0) w) (pos 0) w) e
    ∙ signal_run c.args.signal c.args.range signed (pos 0) (pos 0) (range_width c.args.range) (range_width c.args.range)

pub returns-clause-value : goal.returns-clause-value
returns-clause-value c = ap (λ w. run_of c.args.signal w (pos 0) w) (c.range_width-width.ensures ∙ c.bounds_of-bounds.ensures.width)
