use Rattle.std.proofs.Common.{Err, refl, rules, ◌≡◌}
use Rattle.rr_grammar.specs.Declarations.{single}
use Rattle.rr_grammar.specs.Formats.{before_mark, both, list}
use Rattle.rr_grammar.specs.ItemForms.{nets_item}
use Rattle.rr_grammar.specs.Leaves.{typed}
use Rattle.rr_parse.proofs.Founds.{chain_none, chain_then, cond_second, lacks, lacks_word, mapped_none, other_mark, passes, word_then}
use Rattle.rr_parse.proofs.MadeItems.{made_nets}
use Rattle.rr_parse_expr.proofs.Answered.{not_equal}
use Rattle.rr_syntax.specs.Words.{mark_semicolon}
use Rattle.rr_parse.proofs.items.net_item.Goals as goal

pub returns-in_err-wire : goal.returns-in_err-wire
returns-in_err-wire c =
    let q : c.from_residual.result ≡ Err c.in_err-wire.field-0.0 = search rules in
    rw q (lacks_word (nets_item c.args.depth) c.args.input.tokens.now c.args.from _ _ c.in_err-wire.field-0.0 (λ h. record { none_is = (mapped_none _ (cond_second _ (not_equal _ _ h) refl)) }) c.in_err-wire.ensures)

pub returns-in_err-typed : goal.returns-in_err-typed
returns-in_err-typed c =
    let q : c.from_residual-in_err-typed.result ≡ Err c.in_err-typed.field-0.0 = search rules in
    rw q (passes (nets_item c.args.depth) _ c.args.input.tokens.now c.args.from _ c.in_err-typed.field-0.0 (λ n. record { none_is = (mapped_none _ (word_then (both (typed c.args.depth) (before_mark (list (single c.args.depth)) mark_semicolon)).read c.args.input.tokens.now _ _ _ c.in_ok-wire.ensures (chain_none _ n.none_is))) }) c.in_err-typed.ensures)

pub returns-in_err-names : goal.returns-in_err-names
returns-in_err-names c =
    let q : c.from_residual-in_err-names.result ≡ Err c.in_err-names.field-0.0 = search rules in
    rw q (passes (nets_item c.args.depth) _ c.args.input.tokens.now c.args.from _ c.in_err-names.field-0.0 (λ n. record { none_is = (mapped_none _ (word_then (both (typed c.args.depth) (before_mark (list (single c.args.depth)) mark_semicolon)).read c.args.input.tokens.now _ _ _ c.in_ok-wire.ensures (chain_then _ c.in_ok-typed.ensures.found_is (mapped_none _ (chain_none _ n.none_is))))) }) c.in_err-names.ensures)

pub returns-in_err-next : goal.returns-in_err-next
returns-in_err-next c =
    let q : c.from_residual-in_err-next.result ≡ Err c.in_err-next.field-0.0 = search rules in
    rw q (lacks (nets_item c.args.depth) c.args.input.tokens.now c.args.from _ _ c.in_err-next.field-0.0 (λ h. record { none_is = (mapped_none _ (word_then (both (typed c.args.depth) (before_mark (list (single c.args.depth)) mark_semicolon)).read c.args.input.tokens.now _ _ _ c.in_ok-wire.ensures (chain_then _ c.in_ok-typed.ensures.found_is (mapped_none _ (chain_then _ c.in_ok-names.ensures.found_is (other_mark _ _ _ h)))))) }) c.in_err-next.ensures)

pub returns : goal.returns
returns c = made_nets c.in_ok-typed.typed.value c.in_ok-names.names.value c.in_ok-wire.ensures c.in_ok-typed.ensures c.in_ok-names.ensures c.in_ok-next.ensures
