use Rattle.std.proofs.Common.{Err, rules, ◌≡◌}
use Rattle.rr_grammar.specs.ItemForms.{instances_item}
use Rattle.rr_parse.proofs.Founds.{chain_none, chain_then, lacks, mapped_none, other_mark, passes}
use Rattle.rr_parse.proofs.MadeItems.{made_instances}
use Rattle.rr_parse.proofs.items.instance_item.Goals as goal

pub returns-in_err-module : goal.returns-in_err-module
returns-in_err-module c =
    let q : c.from_residual.result ≡ Err c.in_err-module.field-0.0 = search rules in
    rw q (passes (instances_item c.args.depth) _ c.args.input.tokens.now c.args.from _ c.in_err-module.field-0.0 (λ n. record { none_is = (mapped_none _ (chain_none _ n.none_is)) }) c.in_err-module.ensures)

pub returns-in_err-overrides : goal.returns-in_err-overrides
returns-in_err-overrides c =
    let q : c.from_residual-in_err-overrides.result ≡ Err c.in_err-overrides.field-0.0 = search rules in
    rw q (passes (instances_item c.args.depth) _ c.args.input.tokens.now c.args.from _ c.in_err-overrides.field-0.0 (λ n. record { none_is = (mapped_none _ (chain_then _ c.in_ok-module.ensures.found_is (mapped_none _ (chain_none _ n.none_is)))) }) c.in_err-overrides.ensures)

pub returns-in_err-list : goal.returns-in_err-list
returns-in_err-list c =
    let q : c.from_residual-in_err-list.result ≡ Err c.in_err-list.field-0.0 = search rules in
    rw q (passes (instances_item c.args.depth) _ c.args.input.tokens.now c.args.from _ c.in_err-list.field-0.0 (λ n. record { none_is = (mapped_none _ (chain_then _ c.in_ok-module.ensures.found_is (mapped_none _ (chain_then _ c.in_ok-overrides.ensures.found_is (mapped_none _ (chain_none _ n.none_is)))))) }) c.in_err-list.ensures)

pub returns-in_err-next : goal.returns-in_err-next
returns-in_err-next c =
    let q : c.from_residual-in_err-next.result ≡ Err c.in_err-next.field-0.0 = search rules in
    rw q (lacks (instances_item c.args.depth) c.args.input.tokens.now c.args.from _ _ c.in_err-next.field-0.0 (λ h. record { none_is = (mapped_none _ (chain_then _ c.in_ok-module.ensures.found_is (mapped_none _ (chain_then _ c.in_ok-overrides.ensures.found_is (mapped_none _ (chain_then _ c.in_ok-list.ensures.found_is (other_mark _ _ _ h))))))) }) c.in_err-next.ensures)

pub returns : goal.returns
returns c = made_instances c.in_ok-module.module.value c.in_ok-overrides.overrides.value c.in_ok-list.list.value c.in_ok-module.ensures c.in_ok-overrides.ensures c.in_ok-list.ensures c.in_ok-next.ensures
