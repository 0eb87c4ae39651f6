use Rattle.std.proofs.Common.{lit<, Err, arith, rules, ◌≡◌}
use Rattle.rr_grammar.specs.Leaves.{range}
use Rattle.rr_parse.proofs.Founds.{cond_first, mapped_none, mark_here, passes, read_behind, same}
use Rattle.rr_parse.proofs.MadeDeclarations.{made_no_range, made_range}
use Rattle.rr_parse_expr.proofs.Answered.{mark_inside}
use Rattle.rr_syntax.specs.Words.{mark_open_bracket}
use Rattle.rr_parse_expr.proofs.FrontMarks.{mark_differs, mark_stands}
use Rattle.rr_parse.proofs.expressions.range.Goals as goal

pub returns-then-not-is_mark : goal.returns-then-not-is_mark
returns-then-not-is_mark c = made_no_range c.args.depth c.args.input.tokens.now c.args.from (mark_differs _ c.is_mark.ensures c.if-not-is_mark.true (lit< tt)) c.requires.inside

pub overflow_add-from : goal.overflow_add-from
overflow_add-from c = let h = mark_inside c.args.input.tokens.now c.args.from mark_open_bracket (mark_stands _ c.is_mark.ensures c.if-not-is_mark.false) (omega arith) in omega arith

pub returns-in_err-bounds : goal.returns-in_err-bounds
returns-in_err-bounds c =
    let q : c.from_residual.result ≡ Err c.in_err-bounds.field-0.0 = search rules in
    rw q (passes (range c.args.depth) _ c.args.input.tokens.now c.args.from _ c.in_err-bounds.field-0.0 (λ n. record { none_is = (cond_first _ (same _ _ (mark_here c.args.input.tokens.now c.args.from mark_open_bracket (mark_stands _ c.is_mark.ensures c.if-not-is_mark.false) (omega arith)).1) (mapped_none _ (read_behind c.args.input.tokens.now c.args.from _ (mark_here c.args.input.tokens.now c.args.from mark_open_bracket (mark_stands _ c.is_mark.ensures c.if-not-is_mark.false) (omega arith)).0 n))) }) c.in_err-bounds.ensures)

pub returns : goal.returns
returns c = made_range c.in_ok-bounds.bounds.value (mark_here c.args.input.tokens.now c.args.from mark_open_bracket (mark_stands _ c.is_mark.ensures c.if-not-is_mark.false) (omega arith)) c.in_ok-bounds.ensures
