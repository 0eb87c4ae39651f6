use Rattle.std.proofs.Common.{Err, rules, ◌≡◌}
use Rattle.rr_grammar.specs.Leaves.{of_range, to_range}
use Rattle.rr_parse.proofs.Founds.{chain_none, chain_then, finds_both, finds_shaped, mapped_none, passes}
use Rattle.rr_parse.specs.Answer.{bounds_of}
use Rattle.rr_parse.proofs.expressions.bounds.Goals as goal

pub returns-in_err-left : goal.returns-in_err-left
returns-in_err-left c =
    let q : c.from_residual.result ≡ Err c.in_err-left.field-0.0 = search rules in
    rw q (passes (bounds_of c.args.depth) _ c.args.input.tokens.now c.args.from _ c.in_err-left.field-0.0 (λ n. record { none_is = (mapped_none _ (chain_none _ n.none_is)) }) c.in_err-left.ensures)

pub returns-in_err-right : goal.returns-in_err-right
returns-in_err-right c =
    let q : c.from_residual-in_err-right.result ≡ Err c.in_err-right.field-0.0 = search rules in
    rw q (passes (bounds_of c.args.depth) _ c.args.input.tokens.now c.args.from _ c.in_err-right.field-0.0 (λ n. record { none_is = (mapped_none _ (chain_then _ c.in_ok-left.ensures.found_is (mapped_none _ n.none_is))) }) c.in_err-right.ensures)

pub returns : goal.returns
returns c = finds_shaped to_range of_range _ (finds_both c.in_ok-left.ensures c.in_ok-right.ensures)
