use Rattle.std.proofs.Common.{Err, rules, sym, ◌≡◌, ◌∙◌}
use Rattle.rr_grammar.specs.Declarations.{variable}
use Rattle.rr_parse.proofs.Founds.{chain_none, passes}
use Rattle.rr_parse.proofs.MadeDeclarations.{made_variable, no_variable}
use Rattle.rr_parse.proofs.declarations.variable.Goals as goal

pub returns-in_err-found : goal.returns-in_err-found
returns-in_err-found c =
    let q : c.from_residual.result ≡ Err c.in_err-found.field-0.0 = search rules in
    rw q (passes (variable c.args.depth) _ c.args.input.tokens.now c.args.from _ c.in_err-found.field-0.0 (λ n. record { none_is = (chain_none _ n.none_is) }) c.in_err-found.ensures)

pub returns-then-is_variable_name : goal.returns-then-is_variable_name
returns-then-is_variable_name c = made_variable c.in_ok-found.found.value (sym c.is_variable_name.ensures ∙ c.if-is_variable_name.true) c.in_ok-found.ensures

pub returns-else-is_variable_name : goal.returns-else-is_variable_name
returns-else-is_variable_name c = no_variable c.in_ok-found.found.value (sym c.is_variable_name.ensures ∙ c.if-is_variable_name.false) c.in_ok-found.ensures
