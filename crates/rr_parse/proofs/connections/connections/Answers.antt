use Rattle.std.proofs.Common.{Err, rules, ◌≡◌}
use Rattle.rr_grammar.specs.Connections.{connections}
use Rattle.rr_parse.proofs.Founds.{lacks, other_mark}
use Rattle.rr_parse.proofs.MadeConnections.{made_connections}
use Rattle.rr_parse.proofs.connections.connections.Goals as goal

pub returns-in_err-inside : goal.returns-in_err-inside
returns-in_err-inside c =
    let q : c.from_residual.result ≡ Err c.in_err-inside.field-0.0 = search rules in
    rw q (lacks (connections c.args.depth) c.args.input.tokens.now c.args.from _ _ c.in_err-inside.field-0.0 (λ h. record { none_is = (other_mark _ _ _ h) }) c.in_err-inside.ensures)

pub returns : goal.returns
returns c = made_connections c.args.depth c.args.input.tokens.now c.args.from _ c.in_ok-inside.ensures c.connected.result c.connected.ensures
