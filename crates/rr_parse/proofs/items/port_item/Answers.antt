use Rattle.std.proofs.Common.{Err, rules, ◌≡◌}
use Rattle.rr_grammar.specs.ItemForms.{ports_item}
use Rattle.rr_parse.proofs.Founds.{chain_none, chain_then, lacks, mapped_none, other_mark, passes}
use Rattle.rr_parse.proofs.MadeItems.{made_ports}
use Rattle.rr_parse.proofs.items.port_item.Goals as goal

pub returns-in_err-group : goal.returns-in_err-group
returns-in_err-group c =
    let q : c.from_residual.result ≡ Err c.in_err-group.field-0.0 = search rules in
    rw q (passes (ports_item c.args.depth) _ c.args.input.tokens.now c.args.from _ c.in_err-group.field-0.0 (λ n. record { none_is = (mapped_none _ (chain_none _ n.none_is)) }) c.in_err-group.ensures)

pub returns-in_err-next : goal.returns-in_err-next
returns-in_err-next c =
    let q : c.from_residual-in_err-next.result ≡ Err c.in_err-next.field-0.0 = search rules in
    rw q (lacks (ports_item c.args.depth) c.args.input.tokens.now c.args.from _ _ c.in_err-next.field-0.0 (λ h. record { none_is = (mapped_none _ (chain_then _ c.in_ok-group.ensures.found_is (other_mark _ _ _ h))) }) c.in_err-next.ensures)

pub returns : goal.returns
returns c = made_ports c.in_ok-group.group.value c.in_ok-group.ensures c.in_ok-next.ensures
