use Rattle.std.proofs.Common.{Err, refl, rules, ◌≡◌}
use Rattle.rr_grammar.specs.Formats.{after_mark, both}
use Rattle.rr_grammar.specs.ItemForms.{always_item, statement_of}
use Rattle.rr_grammar.specs.Parts.{events}
use Rattle.rr_parse.proofs.Founds.{chain_none, chain_then, cond_second, expect_then, lacks, lacks_word, mapped_none, other_mark, passes, word_then}
use Rattle.rr_parse.proofs.MadeItems.{made_always}
use Rattle.rr_parse_expr.proofs.Answered.{not_equal}
use Rattle.rr_syntax.specs.Words.{mark_at}
use Rattle.rr_parse.proofs.items.always_item.Goals as goal

pub returns-in_err-always : goal.returns-in_err-always
returns-in_err-always c =
    let q : c.from_residual.result ≡ Err c.in_err-always.field-0.0 = search rules in
    rw q (lacks_word (always_item c.args.depth) c.args.input.tokens.now c.args.from _ _ c.in_err-always.field-0.0 (λ h. record { none_is = (mapped_none _ (chain_then _ refl (mapped_none _ (cond_second _ (not_equal _ _ h) refl)))) }) c.in_err-always.ensures)

pub returns-in_err-at : goal.returns-in_err-at
returns-in_err-at c =
    let q : c.from_residual-in_err-at.result ≡ Err c.in_err-at.field-0.0 = search rules in
    rw q (lacks (always_item c.args.depth) c.args.input.tokens.now c.args.from _ _ c.in_err-at.field-0.0 (λ h. record { none_is = (mapped_none _ (chain_then _ refl (mapped_none _ (word_then (after_mark mark_at (both (events c.args.depth) (statement_of c.args.depth))).read c.args.input.tokens.now _ _ _ c.in_ok-always.ensures (other_mark _ _ _ h))))) }) c.in_err-at.ensures)

pub returns-in_err-events : goal.returns-in_err-events
returns-in_err-events c =
    let q : c.from_residual-in_err-events.result ≡ Err c.in_err-events.field-0.0 = search rules in
    rw q (passes (always_item c.args.depth) _ c.args.input.tokens.now c.args.from _ c.in_err-events.field-0.0 (λ n. record { none_is = (mapped_none _ (chain_then _ refl (mapped_none _ (word_then (after_mark mark_at (both (events c.args.depth) (statement_of c.args.depth))).read c.args.input.tokens.now _ _ _ c.in_ok-always.ensures (expect_then _ _ _ _ _ c.in_ok-at.ensures (chain_none _ n.none_is)))))) }) c.in_err-events.ensures)

pub returns-in_err-body : goal.returns-in_err-body
returns-in_err-body c =
    let q : c.from_residual-in_err-body.result ≡ Err c.in_err-body.field-0.0 = search rules in
    rw q (passes (always_item c.args.depth) _ c.args.input.tokens.now c.args.from _ c.in_err-body.field-0.0 (λ n. record { none_is = (mapped_none _ (chain_then _ refl (mapped_none _ (word_then (after_mark mark_at (both (events c.args.depth) (statement_of c.args.depth))).read c.args.input.tokens.now _ _ _ c.in_ok-always.ensures (expect_then _ _ _ _ _ c.in_ok-at.ensures (chain_then _ c.in_ok-events.ensures.found_is (mapped_none _ n.none_is))))))) }) c.in_err-body.ensures)

pub returns : goal.returns
returns c = made_always c.in_ok-events.events.value c.in_ok-body.body.value c.in_ok-always.ensures c.in_ok-at.ensures c.in_ok-events.ensures c.in_ok-body.ensures
