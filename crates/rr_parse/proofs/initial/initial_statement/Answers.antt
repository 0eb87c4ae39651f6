use Rattle.std.proofs.Common.{Err, rules, sym, ◌≡◌, ◌∙◌}
use Rattle.rr_grammar.specs.Formats.{guarded}
use Rattle.rr_grammar.specs.ItemForms.{statement_of}
use Rattle.rr_parse.proofs.Founds.{chain_none, passes}
use Rattle.rr_parse.proofs.MadeItems.{made_initial_statement, other_statement}
use Rattle.rr_syntax.specs.Statements.{is_initial}
use Rattle.rr_parse.proofs.initial.initial_statement.Goals as goal

pub returns-in_err-found : goal.returns-in_err-found
returns-in_err-found c =
    let q : c.from_residual.result ≡ Err c.in_err-found.field-0.0 = search rules in
    rw q (passes (guarded (statement_of c.args.depth) is_initial) _ c.args.input.tokens.now c.args.from _ c.in_err-found.field-0.0 (λ n. record { none_is = (chain_none _ n.none_is) }) c.in_err-found.ensures)

pub returns-then-is_initial : goal.returns-then-is_initial
returns-then-is_initial c = made_initial_statement c.in_ok-found.found.value (sym c.is_initial.ensures ∙ c.if-is_initial.true) c.in_ok-found.ensures

pub returns-else-is_initial : goal.returns-else-is_initial
returns-else-is_initial c = other_statement c.in_ok-found.found.value (sym c.is_initial.ensures ∙ c.if-is_initial.false) c.in_ok-found.ensures
