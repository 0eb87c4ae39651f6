use Rattle.std.proofs.Common.{Err, rules, ◌≡◌}
use Rattle.rr_grammar.specs.Declarations.{parameter}
use Rattle.rr_parse.proofs.Founds.{chain_none, chain_then, mapped_none, passes}
use Rattle.rr_parse.proofs.MadeDeclarations.{made_parameter}
use Rattle.rr_parse.proofs.declarations.parameters.Goals as goal

pub returns-in_err-local : goal.returns-in_err-local
returns-in_err-local c =
    let q : c.from_residual.result ≡ Err c.in_err-local.field-0.0 = search rules in
    rw q (passes (parameter c.args.depth) _ c.args.input.tokens.now c.args.from _ c.in_err-local.field-0.0 (λ n. record { none_is = (mapped_none _ (chain_none _ n.none_is)) }) c.in_err-local.ensures)

pub returns-in_err-kind : goal.returns-in_err-kind
returns-in_err-kind c =
    let q : c.from_residual-in_err-kind.result ≡ Err c.in_err-kind.field-0.0 = search rules in
    rw q (passes (parameter c.args.depth) _ c.args.input.tokens.now c.args.from _ c.in_err-kind.field-0.0 (λ n. record { none_is = (mapped_none _ (chain_then _ c.in_ok-local.ensures.found_is (mapped_none _ (chain_none _ n.none_is)))) }) c.in_err-kind.ensures)

pub returns-in_err-sets : goal.returns-in_err-sets
returns-in_err-sets c =
    let q : c.from_residual-in_err-sets.result ≡ Err c.in_err-sets.field-0.0 = search rules in
    rw q (passes (parameter c.args.depth) _ c.args.input.tokens.now c.args.from _ c.in_err-sets.field-0.0 (λ n. record { none_is = (mapped_none _ (chain_then _ c.in_ok-local.ensures.found_is (mapped_none _ (chain_then _ c.in_ok-kind.ensures.found_is (mapped_none _ n.none_is))))) }) c.in_err-sets.ensures)

pub returns : goal.returns
returns c = made_parameter c.in_ok-local.local.value c.in_ok-kind.kind.value c.in_ok-sets.sets.value c.in_ok-local.ensures c.in_ok-kind.ensures c.in_ok-sets.ensures
