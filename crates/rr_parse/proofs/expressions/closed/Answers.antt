use Rattle.std.proofs.Common.{Err, rules, ◌≡◌}
use Rattle.rr_parse.proofs.MadeLeaves.{closed_found, no_closed}
use Rattle.rr_parse.proofs.expressions.closed.Goals as goal

pub returns-in_err-value : goal.returns-in_err-value
returns-in_err-value c =
    let q : c.from_residual.result ≡ Err c.in_err-value.field-0.0 = search rules in
    rw q (no_closed c.args.closing c.args.depth c.args.input.tokens.now c.args.from c.requires.is_mark c.in_err-value.field-0.0 c.in_err-value.ensures)

pub returns : goal.returns
returns c = closed_found c.in_ok-value.ensures
