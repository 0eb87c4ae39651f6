use Rattle.std.proofs.Common.{Err, rules, ◌≡◌}
use Rattle.rr_grammar.specs.Parts.{edge}
use Rattle.rr_parse.proofs.Founds.{chain_none, chain_then, mapped_none, passes}
use Rattle.rr_parse.proofs.MadeEvents.{made_edge}
use Rattle.rr_parse.proofs.events.edge.Goals as goal

pub returns-in_err-rising : goal.returns-in_err-rising
returns-in_err-rising c =
    let q : c.from_residual.result ≡ Err c.in_err-rising.field-0.0 = search rules in
    rw q (passes edge _ c.args.input.tokens.now c.args.from _ c.in_err-rising.field-0.0 (λ n. record { none_is = (mapped_none _ (chain_none _ n.none_is)) }) c.in_err-rising.ensures)

pub returns-in_err-name : goal.returns-in_err-name
returns-in_err-name c =
    let q : c.from_residual-in_err-name.result ≡ Err c.in_err-name.field-0.0 = search rules in
    rw q (passes edge _ c.args.input.tokens.now c.args.from _ c.in_err-name.field-0.0 (λ n. record { none_is = (mapped_none _ (chain_then _ c.in_ok-rising.ensures.found_is (mapped_none _ n.none_is))) }) c.in_err-name.ensures)

pub returns : goal.returns
returns c = made_edge c.in_ok-rising.rising.value c.in_ok-name.name.value c.in_ok-rising.ensures c.in_ok-name.ensures
