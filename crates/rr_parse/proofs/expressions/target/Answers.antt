use Rattle.std.proofs.Common.{Err, rules, ◌≡◌}
use Rattle.rr_parse.proofs.MadeLeaves.{no_target, target_found}
use Rattle.rr_parse.proofs.expressions.target.Goals as goal

pub returns-in_err-value : goal.returns-in_err-value
returns-in_err-value c =
    let q : c.from_residual.result ≡ Err c.in_err-value.field-0.0 = search rules in
    rw q (no_target c.args.depth c.args.input.tokens.now c.args.from c.in_err-value.field-0.0 c.in_err-value.ensures)

pub returns : goal.returns
returns c = target_found c.in_ok-value.ensures
