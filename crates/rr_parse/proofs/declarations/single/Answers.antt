use Rattle.std.proofs.Common.{Err, rules, sym, ◌≡◌, ◌∙◌}
use Rattle.rr_grammar.specs.Declarations.{single}
use Rattle.rr_parse.proofs.Founds.{chain_none, passes}
use Rattle.rr_parse.proofs.MadeDeclarations.{made_single, no_single}
use Rattle.rr_parse.proofs.declarations.single.Goals as goal

pub returns-in_err-found : goal.returns-in_err-found
returns-in_err-found c =
    let q : c.from_residual.result ≡ Err c.in_err-found.field-0.0 = search rules in
    rw q (passes (single c.args.depth) _ c.args.input.tokens.now c.args.from _ c.in_err-found.field-0.0 (λ n. record { none_is = (chain_none _ n.none_is) }) c.in_err-found.ensures)

pub returns-then-has_no_words : goal.returns-then-has_no_words
returns-then-has_no_words c = made_single c.in_ok-found.found.value (sym c.has_no_words.ensures ∙ c.if-has_no_words.true) c.in_ok-found.ensures

pub returns-else-has_no_words : goal.returns-else-has_no_words
returns-else-has_no_words c = no_single c.in_ok-found.found.value (sym c.has_no_words.ensures ∙ c.if-has_no_words.false) c.in_ok-found.ensures
