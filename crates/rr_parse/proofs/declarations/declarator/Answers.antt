use Rattle.std.proofs.Common.{Err, rules, ◌≡◌}
use Rattle.rr_grammar.specs.Declarations.{declarator}
use Rattle.rr_parse.proofs.Founds.{chain_none, chain_then, mapped_none, passes}
use Rattle.rr_parse.proofs.MadeDeclarations.{made_declarator}
use Rattle.rr_parse.proofs.declarations.declarator.Goals as goal

pub returns-in_err-name : goal.returns-in_err-name
returns-in_err-name c =
    let q : c.from_residual.result ≡ Err c.in_err-name.field-0.0 = search rules in
    rw q (passes (declarator c.args.depth) _ c.args.input.tokens.now c.args.from _ c.in_err-name.field-0.0 (λ n. record { none_is = (mapped_none _ (chain_none _ n.none_is)) }) c.in_err-name.ensures)

pub returns-in_err-words : goal.returns-in_err-words
returns-in_err-words c =
    let q : c.from_residual-in_err-words.result ≡ Err c.in_err-words.field-0.0 = search rules in
    rw q (passes (declarator c.args.depth) _ c.args.input.tokens.now c.args.from _ c.in_err-words.field-0.0 (λ n. record { none_is = (mapped_none _ (chain_then _ c.in_ok-name.ensures.found_is (mapped_none _ (chain_none _ n.none_is)))) }) c.in_err-words.ensures)

pub returns-in_err-value : goal.returns-in_err-value
returns-in_err-value c =
    let q : c.from_residual-in_err-value.result ≡ Err c.in_err-value.field-0.0 = search rules in
    rw q (passes (declarator c.args.depth) _ c.args.input.tokens.now c.args.from _ c.in_err-value.field-0.0 (λ n. record { none_is = (mapped_none _ (chain_then _ c.in_ok-name.ensures.found_is (mapped_none _ (chain_then _ c.in_ok-words.ensures.found_is (mapped_none _ n.none_is))))) }) c.in_err-value.ensures)

pub returns : goal.returns
returns c = made_declarator c.in_ok-name.name.value c.in_ok-words.words.value c.in_ok-value.value.value c.in_ok-name.ensures c.in_ok-words.ensures c.in_ok-value.ensures
