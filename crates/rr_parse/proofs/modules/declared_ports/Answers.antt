use Rattle.std.proofs.Common.{Err, rules, ◌∙◌, ◌≡◌}
use Rattle.rr_grammar.specs.ModuleForms.{group_ports}
use Rattle.rr_parse.proofs.Founds.{chain_none, chain_then, lacks, mapped_none, other_mark, passes}
use Rattle.rr_parse.proofs.MadeModules.{made_groups}
use Rattle.rr_parse.proofs.modules.declared_ports.Goals as goal

pub returns-in_err-groups : goal.returns-in_err-groups
returns-in_err-groups c =
    let q : c.from_residual.result ≡ Err c.in_err-groups.field-0.0 = search rules in
    rw q (passes (group_ports 498) _ c.args.input.tokens.now c.args.from _ c.in_err-groups.field-0.0 (λ n. record { none_is = (mapped_none _ (chain_none _ n.none_is)) }) c.in_err-groups.ensures)

pub returns-in_err-next : goal.returns-in_err-next
returns-in_err-next c =
    let q : c.from_residual-in_err-next.result ≡ Err c.in_err-next.field-0.0 = search rules in
    rw q (lacks (group_ports 498) c.args.input.tokens.now c.args.from _ _ c.in_err-next.field-0.0 (λ h. record { none_is = (mapped_none _ (chain_then _ c.in_ok-groups.ensures.found_is (other_mark _ _ _ h))) }) c.in_err-next.ensures)

pub returns : goal.returns
returns c = made_groups c.into_bump_slice.result c.in_ok-groups.groups.value (c.into_bump_slice.ensures ∙ c.new.ensures.items) c.in_ok-groups.ensures c.in_ok-next.ensures
