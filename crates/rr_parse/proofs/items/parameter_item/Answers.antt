use Rattle.std.proofs.Common.{Err, rules, ◌≡◌}
use Rattle.rr_grammar.specs.ItemForms.{parameters_item}
use Rattle.rr_parse.proofs.Founds.{chain_none, chain_then, lacks, mapped_none, other_mark, passes}
use Rattle.rr_parse.proofs.MadeItems.{made_parameters}
use Rattle.rr_parse.proofs.items.parameter_item.Goals as goal

pub returns-in_err-found : goal.returns-in_err-found
returns-in_err-found c =
    let q : c.from_residual.result ≡ Err c.in_err-found.field-0.0 = search rules in
    rw q (passes (parameters_item c.args.depth) _ c.args.input.tokens.now c.args.from _ c.in_err-found.field-0.0 (λ n. record { none_is = (mapped_none _ (chain_none _ n.none_is)) }) c.in_err-found.ensures)

pub returns-in_err-next : goal.returns-in_err-next
returns-in_err-next c =
    let q : c.from_residual-in_err-next.result ≡ Err c.in_err-next.field-0.0 = search rules in
    rw q (lacks (parameters_item c.args.depth) c.args.input.tokens.now c.args.from _ _ c.in_err-next.field-0.0 (λ h. record { none_is = (mapped_none _ (chain_then _ c.in_ok-found.ensures.found_is (other_mark _ _ _ h))) }) c.in_err-next.ensures)

pub returns : goal.returns
returns c = made_parameters c.in_ok-found.found.value c.in_ok-found.ensures c.in_ok-next.ensures
