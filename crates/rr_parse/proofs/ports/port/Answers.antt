use Rattle.std.proofs.Common.{Err, rules, sym, ◌≡◌, ◌∙◌}
use Rattle.rr_grammar.specs.Declarations.{port}
use Rattle.rr_parse.proofs.Founds.{chain_none, chain_then, mapped_none, passes}
use Rattle.rr_parse.proofs.MadeDeclarations.{made_port, no_start}
use Rattle.rr_parse.proofs.ports.port.Goals as goal

pub returns-in_err-dir : goal.returns-in_err-dir
returns-in_err-dir c =
    let q : c.from_residual.result ≡ Err c.in_err-dir.field-0.0 = search rules in
    rw q (passes (port c.args.depth) _ c.args.input.tokens.now c.args.from _ c.in_err-dir.field-0.0 (λ n. record { none_is = (chain_none _ (mapped_none _ (chain_none _ n.none_is))) }) c.in_err-dir.ensures)

pub returns-in_err-typed : goal.returns-in_err-typed
returns-in_err-typed c =
    let q : c.from_residual-in_err-typed.result ≡ Err c.in_err-typed.field-0.0 = search rules in
    rw q (passes (port c.args.depth) _ c.args.input.tokens.now c.args.from _ c.in_err-typed.field-0.0 (λ n. record { none_is = (chain_none _ (mapped_none _ (chain_then _ c.in_ok-dir.ensures.found_is (mapped_none _ (chain_none _ n.none_is))))) }) c.in_err-typed.ensures)

pub returns-in_err-names : goal.returns-in_err-names
returns-in_err-names c =
    let q : c.from_residual-in_err-names.result ≡ Err c.in_err-names.field-0.0 = search rules in
    rw q (passes (port c.args.depth) _ c.args.input.tokens.now c.args.from _ c.in_err-names.field-0.0 (λ n. record { none_is = (chain_none _ (mapped_none _ (chain_then _ c.in_ok-dir.ensures.found_is (mapped_none _ (chain_then _ c.in_ok-typed.ensures.found_is (mapped_none _ n.none_is)))))) }) c.in_err-names.ensures)

pub returns-then-not-starts_right : goal.returns-then-not-starts_right
returns-then-not-starts_right c = no_start c.in_ok-dir.dir.value c.in_ok-typed.typed.value c.in_ok-names.names.value (sym c.starts_right.ensures ∙ c.if-not-starts_right.true) c.in_ok-dir.ensures c.in_ok-typed.ensures c.in_ok-names.ensures

pub returns : goal.returns
returns c = made_port c.in_ok-dir.dir.value c.in_ok-typed.typed.value c.in_ok-names.names.value (sym c.starts_right.ensures ∙ c.if-not-starts_right.false) c.in_ok-dir.ensures c.in_ok-typed.ensures c.in_ok-names.ensures
