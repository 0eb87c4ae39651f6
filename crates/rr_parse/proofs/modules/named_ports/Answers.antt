use Rattle.std.proofs.Common.{Err, rules, ◌∙◌, ◌≡◌}
use Rattle.rr_grammar.specs.ModuleForms.{name_ports}
use Rattle.rr_parse.proofs.Founds.{chain_none, chain_then, lacks, mapped_none, other_mark, passes}
use Rattle.rr_parse.proofs.MadeModules.{made_plain_ports}
use Rattle.rr_parse.proofs.modules.named_ports.Goals as goal

pub returns-in_err-names : goal.returns-in_err-names
returns-in_err-names c =
    let q : c.from_residual.result ≡ Err c.in_err-names.field-0.0 = search rules in
    rw q (passes name_ports _ c.args.input.tokens.now c.args.from _ c.in_err-names.field-0.0 (λ n. record { none_is = (mapped_none _ (chain_none _ n.none_is)) }) c.in_err-names.ensures)

pub returns-in_err-next : goal.returns-in_err-next
returns-in_err-next c =
    let q : c.from_residual-in_err-next.result ≡ Err c.in_err-next.field-0.0 = search rules in
    rw q (lacks name_ports c.args.input.tokens.now c.args.from _ _ c.in_err-next.field-0.0 (λ h. record { none_is = (mapped_none _ (chain_then _ c.in_ok-names.ensures.found_is (other_mark _ _ _ h))) }) c.in_err-next.ensures)

pub returns : goal.returns
returns c = made_plain_ports c.in_ok-names.names.value c.into_bump_slice.result (c.into_bump_slice.ensures ∙ c.new.ensures.items) c.in_ok-names.ensures c.in_ok-next.ensures
