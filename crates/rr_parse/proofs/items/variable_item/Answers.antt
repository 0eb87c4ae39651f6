use Rattle.std.proofs.Common.{Err, refl, rules, ◌≡◌}
use Rattle.rr_grammar.specs.Declarations.{variable}
use Rattle.rr_grammar.specs.Formats.{before_mark, both, list}
use Rattle.rr_grammar.specs.ItemForms.{variables_item}
use Rattle.rr_grammar.specs.Leaves.{typed}
use Rattle.rr_parse.proofs.Founds.{chain_none, chain_then, cond_second, lacks, lacks_word, mapped_none, other_mark, passes, word_then}
use Rattle.rr_parse.proofs.MadeItems.{made_variables}
use Rattle.rr_parse_expr.proofs.Answered.{not_equal}
use Rattle.rr_syntax.specs.Words.{mark_semicolon}
use Rattle.rr_parse.proofs.items.variable_item.Goals as goal

pub returns-in_err-reg : goal.returns-in_err-reg
returns-in_err-reg c =
    let q : c.from_residual.result ≡ Err c.in_err-reg.field-0.0 = search rules in
    rw q (lacks_word (variables_item c.args.depth) c.args.input.tokens.now c.args.from _ _ c.in_err-reg.field-0.0 (λ h. record { none_is = (mapped_none _ (cond_second _ (not_equal _ _ h) refl)) }) c.in_err-reg.ensures)

pub returns-in_err-typed : goal.returns-in_err-typed
returns-in_err-typed c =
    let q : c.from_residual-in_err-typed.result ≡ Err c.in_err-typed.field-0.0 = search rules in
    rw q (passes (variables_item c.args.depth) _ c.args.input.tokens.now c.args.from _ c.in_err-typed.field-0.0 (λ n. record { none_is = (mapped_none _ (word_then (both (typed c.args.depth) (before_mark (list (variable c.args.depth)) mark_semicolon)).read c.args.input.tokens.now _ _ _ c.in_ok-reg.ensures (chain_none _ n.none_is))) }) c.in_err-typed.ensures)

pub returns-in_err-names : goal.returns-in_err-names
returns-in_err-names c =
    let q : c.from_residual-in_err-names.result ≡ Err c.in_err-names.field-0.0 = search rules in
    rw q (passes (variables_item c.args.depth) _ c.args.input.tokens.now c.args.from _ c.in_err-names.field-0.0 (λ n. record { none_is = (mapped_none _ (word_then (both (typed c.args.depth) (before_mark (list (variable c.args.depth)) mark_semicolon)).read c.args.input.tokens.now _ _ _ c.in_ok-reg.ensures (chain_then _ c.in_ok-typed.ensures.found_is (mapped_none _ (chain_none _ n.none_is))))) }) c.in_err-names.ensures)

pub returns-in_err-next : goal.returns-in_err-next
returns-in_err-next c =
    let q : c.from_residual-in_err-next.result ≡ Err c.in_err-next.field-0.0 = search rules in
    rw q (lacks (variables_item c.args.depth) c.args.input.tokens.now c.args.from _ _ c.in_err-next.field-0.0 (λ h. record { none_is = (mapped_none _ (word_then (both (typed c.args.depth) (before_mark (list (variable c.args.depth)) mark_semicolon)).read c.args.input.tokens.now _ _ _ c.in_ok-reg.ensures (chain_then _ c.in_ok-typed.ensures.found_is (mapped_none _ (chain_then _ c.in_ok-names.ensures.found_is (other_mark _ _ _ h)))))) }) c.in_err-next.ensures)

pub returns : goal.returns
returns c = made_variables c.in_ok-typed.typed.value c.in_ok-names.names.value c.in_ok-reg.ensures c.in_ok-typed.ensures c.in_ok-names.ensures c.in_ok-next.ensures
