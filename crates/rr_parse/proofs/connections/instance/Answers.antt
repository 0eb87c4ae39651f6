use Rattle.std.proofs.Common.{Err, rules, ◌≡◌}
use Rattle.rr_grammar.specs.Connections.{one_instance}
use Rattle.rr_parse.proofs.Founds.{chain_none, chain_then, mapped_none, passes}
use Rattle.rr_parse.proofs.MadeConnections.{made_instance}
use Rattle.rr_parse.proofs.connections.instance.Goals as goal

pub returns-in_err-name : goal.returns-in_err-name
returns-in_err-name c =
    let q : c.from_residual.result ≡ Err c.in_err-name.field-0.0 = search rules in
    rw q (passes (one_instance c.args.depth) _ c.args.input.tokens.now c.args.from _ c.in_err-name.field-0.0 (λ n. record { none_is = (mapped_none _ (chain_none _ n.none_is)) }) c.in_err-name.ensures)

pub returns-in_err-conns : goal.returns-in_err-conns
returns-in_err-conns c =
    let q : c.from_residual-in_err-conns.result ≡ Err c.in_err-conns.field-0.0 = search rules in
    rw q (passes (one_instance c.args.depth) _ c.args.input.tokens.now c.args.from _ c.in_err-conns.field-0.0 (λ n. record { none_is = (mapped_none _ (chain_then _ c.in_ok-name.ensures.found_is (mapped_none _ n.none_is))) }) c.in_err-conns.ensures)

pub returns : goal.returns
returns c = made_instance c.in_ok-name.name.value c.in_ok-conns.conns.value c.in_ok-name.ensures c.in_ok-conns.ensures
