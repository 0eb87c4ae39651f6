use Rattle.std.proofs.Common.{Err, refl, rules, ◌≡◌}
use Rattle.rr_grammar.specs.Formats.{guarded}
use Rattle.rr_grammar.specs.ItemForms.{initial_item, statement_of}
use Rattle.rr_parse.proofs.Founds.{chain_then, cond_second, lacks_word, mapped_none, passes, word_then}
use Rattle.rr_parse.proofs.MadeItems.{made_initial}
use Rattle.rr_parse_expr.proofs.Answered.{not_equal}
use Rattle.rr_syntax.specs.Statements.{is_initial}
use Rattle.rr_parse.proofs.items.initial_item.Goals as goal

pub returns-in_err-initial : goal.returns-in_err-initial
returns-in_err-initial c =
    let q : c.from_residual.result ≡ Err c.in_err-initial.field-0.0 = search rules in
    rw q (lacks_word (initial_item c.args.depth) c.args.input.tokens.now c.args.from _ _ c.in_err-initial.field-0.0 (λ h. record { none_is = (mapped_none _ (chain_then _ refl (mapped_none _ (cond_second _ (not_equal _ _ h) refl)))) }) c.in_err-initial.ensures)

pub returns-in_err-body : goal.returns-in_err-body
returns-in_err-body c =
    let q : c.from_residual-in_err-body.result ≡ Err c.in_err-body.field-0.0 = search rules in
    rw q (passes (initial_item c.args.depth) _ c.args.input.tokens.now c.args.from _ c.in_err-body.field-0.0 (λ n. record { none_is = (mapped_none _ (chain_then _ refl (mapped_none _ (word_then (guarded (statement_of c.args.depth) is_initial).read c.args.input.tokens.now _ _ _ c.in_ok-initial.ensures n.none_is)))) }) c.in_err-body.ensures)

pub returns : goal.returns
returns c = made_initial c.in_ok-body.body.value c.in_ok-initial.ensures c.in_ok-body.ensures
