use Rattle.std.proofs.Common.{Err, rules, ◌≡◌}
use Rattle.rr_grammar.specs.Declarations.{head_parameter}
use Rattle.rr_parse.proofs.Founds.{chain_none, passes}
use Rattle.rr_parse.proofs.MadeDeclarations.{local_head, made_head}
use Rattle.rr_parse.proofs.declarations.head_parameters.Goals as goal

pub returns-in_err-found : goal.returns-in_err-found
returns-in_err-found c =
    let q : c.from_residual.result ≡ Err c.in_err-found.field-0.0 = search rules in
    rw q (passes (head_parameter c.args.depth) _ c.args.input.tokens.now c.args.from _ c.in_err-found.field-0.0 (λ n. record { none_is = (chain_none _ n.none_is) }) c.in_err-found.ensures)

pub returns-then-found : goal.returns-then-found
returns-then-found c = local_head c.in_ok-found.found.value c.if-found.true c.in_ok-found.ensures

pub returns-else-found : goal.returns-else-found
returns-else-found c = made_head c.in_ok-found.found.value c.if-found.false c.in_ok-found.ensures
