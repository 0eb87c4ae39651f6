use Rattle.std.proofs.Common.{Err, refl, rules, ◌≡◌}
use Rattle.rr_grammar.specs.Declarations.{pair}
use Rattle.rr_grammar.specs.Formats.{before_mark, list}
use Rattle.rr_grammar.specs.ItemForms.{assigns_item}
use Rattle.rr_parse.proofs.Founds.{chain_none, chain_then, cond_second, lacks, lacks_word, mapped_none, other_mark, passes, word_then}
use Rattle.rr_parse.proofs.MadeItems.{made_assigns}
use Rattle.rr_parse_expr.proofs.Answered.{not_equal}
use Rattle.rr_syntax.specs.Words.{mark_semicolon}
use Rattle.rr_parse.proofs.items.assign_item.Goals as goal

pub returns-in_err-assign : goal.returns-in_err-assign
returns-in_err-assign c =
    let q : c.from_residual.result ≡ Err c.in_err-assign.field-0.0 = search rules in
    rw q (lacks_word (assigns_item c.args.depth) c.args.input.tokens.now c.args.from _ _ c.in_err-assign.field-0.0 (λ h. record { none_is = (mapped_none _ (cond_second _ (not_equal _ _ h) refl)) }) c.in_err-assign.ensures)

pub returns-in_err-pairs : goal.returns-in_err-pairs
returns-in_err-pairs c =
    let q : c.from_residual-in_err-pairs.result ≡ Err c.in_err-pairs.field-0.0 = search rules in
    rw q (passes (assigns_item c.args.depth) _ c.args.input.tokens.now c.args.from _ c.in_err-pairs.field-0.0 (λ n. record { none_is = (mapped_none _ (word_then (before_mark (list (pair c.args.depth)) mark_semicolon).read c.args.input.tokens.now _ _ _ c.in_ok-assign.ensures (chain_none _ n.none_is))) }) c.in_err-pairs.ensures)

pub returns-in_err-next : goal.returns-in_err-next
returns-in_err-next c =
    let q : c.from_residual-in_err-next.result ≡ Err c.in_err-next.field-0.0 = search rules in
    rw q (lacks (assigns_item c.args.depth) c.args.input.tokens.now c.args.from _ _ c.in_err-next.field-0.0 (λ h. record { none_is = (mapped_none _ (word_then (before_mark (list (pair c.args.depth)) mark_semicolon).read c.args.input.tokens.now _ _ _ c.in_ok-assign.ensures (chain_then _ c.in_ok-pairs.ensures.found_is (other_mark _ _ _ h)))) }) c.in_err-next.ensures)

pub returns : goal.returns
returns c = made_assigns c.in_ok-pairs.pairs.value c.in_ok-assign.ensures c.in_ok-pairs.ensures c.in_ok-next.ensures
