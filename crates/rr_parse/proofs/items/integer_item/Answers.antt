use Rattle.std.proofs.Common.{Err, refl, rules, ◌≡◌}
use Rattle.rr_grammar.specs.Formats.{before_mark, list}
use Rattle.rr_grammar.specs.ItemForms.{integers_item}
use Rattle.rr_grammar.specs.Leaves.{identifier}
use Rattle.rr_parse.proofs.Founds.{chain_none, chain_then, cond_second, lacks, lacks_word, mapped_none, other_mark, passes, word_then}
use Rattle.rr_parse.proofs.MadeItems.{made_integers}
use Rattle.rr_parse_expr.proofs.Answered.{not_equal}
use Rattle.rr_syntax.specs.Words.{mark_semicolon}
use Rattle.rr_parse.proofs.items.integer_item.Goals as goal

pub returns-in_err-integer : goal.returns-in_err-integer
returns-in_err-integer c =
    let q : c.from_residual.result ≡ Err c.in_err-integer.field-0.0 = search rules in
    rw q (lacks_word (integers_item c.args.depth) c.args.input.tokens.now c.args.from _ _ c.in_err-integer.field-0.0 (λ h. record { none_is = (mapped_none _ (cond_second _ (not_equal _ _ h) refl)) }) c.in_err-integer.ensures)

pub returns-in_err-names : goal.returns-in_err-names
returns-in_err-names c =
    let q : c.from_residual-in_err-names.result ≡ Err c.in_err-names.field-0.0 = search rules in
    rw q (passes (integers_item c.args.depth) _ c.args.input.tokens.now c.args.from _ c.in_err-names.field-0.0 (λ n. record { none_is = (mapped_none _ (word_then (before_mark (list identifier) mark_semicolon).read c.args.input.tokens.now _ _ _ c.in_ok-integer.ensures (chain_none _ n.none_is))) }) c.in_err-names.ensures)

pub returns-in_err-next : goal.returns-in_err-next
returns-in_err-next c =
    let q : c.from_residual-in_err-next.result ≡ Err c.in_err-next.field-0.0 = search rules in
    rw q (lacks (integers_item c.args.depth) c.args.input.tokens.now c.args.from _ _ c.in_err-next.field-0.0 (λ h. record { none_is = (mapped_none _ (word_then (before_mark (list identifier) mark_semicolon).read c.args.input.tokens.now _ _ _ c.in_ok-integer.ensures (chain_then _ c.in_ok-names.ensures.found_is (other_mark _ _ _ h)))) }) c.in_err-next.ensures)

pub returns : goal.returns
returns c = made_integers c.args.depth c.in_ok-names.names.value c.in_ok-integer.ensures c.in_ok-names.ensures c.in_ok-next.ensures
