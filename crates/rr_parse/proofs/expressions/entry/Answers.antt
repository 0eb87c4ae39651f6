use Rattle.std.proofs.Common.{Err, rules, ◌≡◌}
use Rattle.rr_parse.proofs.MadeLeaves.{expression_found, no_expression}
use Rattle.rr_parse.proofs.expressions.entry.Goals as goal

pub returns : goal.returns
returns c = expression_found c.in_ok-expr.ensures

pub returns-in_err-expr : goal.returns-in_err-expr
returns-in_err-expr c =
    let q : c.from_residual.result ≡ Err c.in_err-expr.field-0.0 = search rules in
    rw q (no_expression c.args.depth c.args.input.tokens.now c.args.from c.in_err-expr.field-0.0 c.in_err-expr.ensures)
