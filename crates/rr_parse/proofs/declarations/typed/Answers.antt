use Rattle.std.proofs.Common.{Err, rules, ◌≡◌}
use Rattle.rr_grammar.specs.Leaves.{typed}
use Rattle.rr_parse.proofs.Founds.{chain_then, mapped_none, passes}
use Rattle.rr_parse.proofs.MadeDeclarations.{made_type}
use Rattle.rr_parse.proofs.declarations.typed.Goals as goal

pub returns-in_err-range : goal.returns-in_err-range
returns-in_err-range c =
    let q : c.from_residual.result ≡ Err c.in_err-range.field-0.0 = search rules in
    rw q (passes (typed c.args.depth) _ c.args.input.tokens.now c.args.from _ c.in_err-range.field-0.0 (λ n. record { none_is = (chain_then _ c.flag-signed.ensures.found_is (mapped_none _ n.none_is)) }) c.in_err-range.ensures)

pub returns : goal.returns
returns c = made_type _ _ c.flag-signed.ensures c.in_ok-range.ensures
