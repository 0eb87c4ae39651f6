use Rattle.std.proofs.Common.{lit<, Err, arith, rules, ◌∙◌, ◌≡◌}
use Rattle.rr_grammar.specs.ModuleForms.{heads}
use Rattle.rr_parse.proofs.Founds.{chain_none, chain_then, cond_first, expect_then, lacks, mapped_none, mark_here, other_mark, passes, same}
use Rattle.rr_parse.proofs.MadeModules.{made_heads, made_no_heads}
use Rattle.rr_parse_expr.proofs.Answered.{mark_inside}
use Rattle.rr_syntax.specs.Words.{mark_hash}
use Rattle.rr_parse_expr.proofs.FrontMarks.{mark_differs, mark_stands}
use Rattle.rr_parse.proofs.modules.module_parameters.Goals as goal

pub returns-then-not-is_mark : goal.returns-then-not-is_mark
returns-then-not-is_mark c = made_no_heads 498 c.args.input.tokens.now c.args.from c.into_bump_slice.result (c.into_bump_slice.ensures ∙ c.new.ensures.items) (mark_differs _ c.is_mark.ensures c.if-not-is_mark.true (lit< tt)) c.requires.inside

pub overflow_add-from : goal.overflow_add-from
overflow_add-from c = let h = mark_inside c.args.input.tokens.now c.args.from mark_hash (mark_stands _ c.is_mark.ensures c.if-not-is_mark.false) (omega arith) in omega arith

pub returns-in_err-inside : goal.returns-in_err-inside
returns-in_err-inside c =
    let q : c.from_residual.result ≡ Err c.in_err-inside.field-0.0 = search rules in
    rw q (lacks (heads 498) c.args.input.tokens.now c.args.from _ _ c.in_err-inside.field-0.0 (λ h. record { none_is = (cond_first _ (same _ _ (mark_here c.args.input.tokens.now c.args.from mark_hash (mark_stands _ c.is_mark.ensures c.if-not-is_mark.false) (omega arith)).1) (mapped_none _ (expect_then _ _ _ _ _ (mark_here c.args.input.tokens.now c.args.from mark_hash (mark_stands _ c.is_mark.ensures c.if-not-is_mark.false) (omega arith)) (other_mark _ _ _ h)))) }) c.in_err-inside.ensures)

pub returns-in_err-found : goal.returns-in_err-found
returns-in_err-found c =
    let q : c.from_residual-in_err-found.result ≡ Err c.in_err-found.field-0.0 = search rules in
    rw q (passes (heads 498) _ c.args.input.tokens.now c.args.from _ c.in_err-found.field-0.0 (λ n. record { none_is = (cond_first _ (same _ _ (mark_here c.args.input.tokens.now c.args.from mark_hash (mark_stands _ c.is_mark.ensures c.if-not-is_mark.false) (omega arith)).1) (mapped_none _ (expect_then _ _ _ _ _ (mark_here c.args.input.tokens.now c.args.from mark_hash (mark_stands _ c.is_mark.ensures c.if-not-is_mark.false) (omega arith)) (expect_then _ _ _ _ _ c.in_ok-inside.ensures (chain_none _ n.none_is))))) }) c.in_err-found.ensures)

pub returns-in_err-next : goal.returns-in_err-next
returns-in_err-next c =
    let q : c.from_residual-in_err-next.result ≡ Err c.in_err-next.field-0.0 = search rules in
    rw q (lacks (heads 498) c.args.input.tokens.now c.args.from _ _ c.in_err-next.field-0.0 (λ h. record { none_is = (cond_first _ (same _ _ (mark_here c.args.input.tokens.now c.args.from mark_hash (mark_stands _ c.is_mark.ensures c.if-not-is_mark.false) (omega arith)).1) (mapped_none _ (expect_then _ _ _ _ _ (mark_here c.args.input.tokens.now c.args.from mark_hash (mark_stands _ c.is_mark.ensures c.if-not-is_mark.false) (omega arith)) (expect_then _ _ _ _ _ c.in_ok-inside.ensures (chain_then _ c.in_ok-found.ensures.found_is (other_mark _ _ _ h)))))) }) c.in_err-next.ensures)

pub returns : goal.returns
returns c = made_heads c.in_ok-found.found.value (mark_here c.args.input.tokens.now c.args.from mark_hash (mark_stands _ c.is_mark.ensures c.if-not-is_mark.false) (omega arith)) c.in_ok-inside.ensures c.in_ok-found.ensures c.in_ok-next.ensures
