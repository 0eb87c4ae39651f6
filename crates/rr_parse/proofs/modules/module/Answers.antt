use Rattle.std.proofs.Common.{Err, refl, rules, ◌≡◌}
use Rattle.rr_grammar.specs.Leaves.{identifier}
use Rattle.rr_grammar.specs.ModuleForms.{one_module}
use Rattle.rr_parse.proofs.Founds.{chain_none, chain_then, cond_second, expect_then, finds_after_word, lacks, lacks_word, mapped_none, other_mark, passes, word_then}
use Rattle.rr_parse.proofs.MadeModules.{made_module}
use Rattle.rr_parse_expr.proofs.Answered.{not_equal}
use Rattle.rr_parse.proofs.modules.module.Goals as goal

pub returns-in_err-module : goal.returns-in_err-module
returns-in_err-module c =
    let q : c.from_residual.result ≡ Err c.in_err-module.field-0.0 = search rules in
    rw q (lacks_word (one_module 498 497) c.args.input.tokens.now c.args.from _ _ c.in_err-module.field-0.0 (λ h. record { none_is = (mapped_none _ (chain_none _ (cond_second _ (not_equal _ _ h) refl))) }) c.in_err-module.ensures)

pub returns-in_err-name : goal.returns-in_err-name
returns-in_err-name c =
    let q : c.from_residual-in_err-name.result ≡ Err c.in_err-name.field-0.0 = search rules in
    rw q (passes (one_module 498 497) _ c.args.input.tokens.now c.args.from _ c.in_err-name.field-0.0 (λ n. record { none_is = (mapped_none _ (chain_none _ (word_then (identifier).read c.args.input.tokens.now _ _ _ c.in_ok-module.ensures n.none_is))) }) c.in_err-name.ensures)

pub returns-in_err-params : goal.returns-in_err-params
returns-in_err-params c =
    let q : c.from_residual-in_err-params.result ≡ Err c.in_err-params.field-0.0 = search rules in
    rw q (passes (one_module 498 497) _ c.args.input.tokens.now c.args.from _ c.in_err-params.field-0.0 (λ n. record { none_is = (mapped_none _ (chain_then _ (finds_after_word c.in_ok-module.ensures c.in_ok-name.ensures).found_is (mapped_none _ (chain_none _ n.none_is)))) }) c.in_err-params.ensures)

pub returns-in_err-ports : goal.returns-in_err-ports
returns-in_err-ports c =
    let q : c.from_residual-in_err-ports.result ≡ Err c.in_err-ports.field-0.0 = search rules in
    rw q (passes (one_module 498 497) _ c.args.input.tokens.now c.args.from _ c.in_err-ports.field-0.0 (λ n. record { none_is = (mapped_none _ (chain_then _ (finds_after_word c.in_ok-module.ensures c.in_ok-name.ensures).found_is (mapped_none _ (chain_then _ c.in_ok-params.ensures.found_is (mapped_none _ (chain_none _ n.none_is)))))) }) c.in_err-ports.ensures)

pub returns-in_err-semicolon : goal.returns-in_err-semicolon
returns-in_err-semicolon c =
    let q : c.from_residual-in_err-semicolon.result ≡ Err c.in_err-semicolon.field-0.0 = search rules in
    rw q (lacks (one_module 498 497) c.args.input.tokens.now c.args.from _ _ c.in_err-semicolon.field-0.0 (λ h. record { none_is = (mapped_none _ (chain_then _ (finds_after_word c.in_ok-module.ensures c.in_ok-name.ensures).found_is (mapped_none _ (chain_then _ c.in_ok-params.ensures.found_is (mapped_none _ (chain_then _ c.in_ok-ports.ensures.found_is (mapped_none _ (other_mark _ _ _ h)))))))) }) c.in_err-semicolon.ensures)

pub returns-in_err-items : goal.returns-in_err-items
returns-in_err-items c =
    let q : c.from_residual-in_err-items.result ≡ Err c.in_err-items.field-0.0 = search rules in
    rw q (passes (one_module 498 497) _ c.args.input.tokens.now c.args.from _ c.in_err-items.field-0.0 (λ n. record { none_is = (mapped_none _ (chain_then _ (finds_after_word c.in_ok-module.ensures c.in_ok-name.ensures).found_is (mapped_none _ (chain_then _ c.in_ok-params.ensures.found_is (mapped_none _ (chain_then _ c.in_ok-ports.ensures.found_is (mapped_none _ (expect_then _ _ _ _ _ c.in_ok-semicolon.ensures (chain_none _ n.none_is))))))))) }) c.in_err-items.ensures)

pub returns-in_err-next : goal.returns-in_err-next
returns-in_err-next c =
    let q : c.from_residual-in_err-next.result ≡ Err c.in_err-next.field-0.0 = search rules in
    rw q (lacks_word (one_module 498 497) c.args.input.tokens.now c.args.from _ _ c.in_err-next.field-0.0 (λ h. record { none_is = (mapped_none _ (chain_then _ (finds_after_word c.in_ok-module.ensures c.in_ok-name.ensures).found_is (mapped_none _ (chain_then _ c.in_ok-params.ensures.found_is (mapped_none _ (chain_then _ c.in_ok-ports.ensures.found_is (mapped_none _ (expect_then _ _ _ _ _ c.in_ok-semicolon.ensures (chain_then _ c.in_ok-items.ensures.found_is (cond_second _ (not_equal _ _ h) refl)))))))))) }) c.in_err-next.ensures)

pub returns : goal.returns
returns c = made_module c.in_ok-name.name.value c.in_ok-params.params.value c.in_ok-ports.ports.value c.in_ok-items.items.value c.in_ok-module.ensures c.in_ok-name.ensures c.in_ok-params.ensures c.in_ok-ports.ensures c.in_ok-semicolon.ensures c.in_ok-items.ensures c.in_ok-next.ensures
