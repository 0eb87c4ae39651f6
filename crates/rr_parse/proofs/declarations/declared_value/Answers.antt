use Rattle.std.proofs.Common.{lit<, Err, arith, rules, ◌≡◌}
use Rattle.rr_grammar.specs.Leaves.{expression, where_mark}
use Rattle.rr_parse.proofs.Founds.{cond_first, mapped_none, mark_here, passes, read_behind, same}
use Rattle.rr_parse.proofs.MadeDeclarations.{made_no_value, made_value}
use Rattle.rr_parse_expr.proofs.Answered.{mark_inside}
use Rattle.rr_syntax.specs.Words.{mark_equals}
use Rattle.rr_parse_expr.proofs.FrontMarks.{mark_differs, mark_stands}
use Rattle.rr_parse.proofs.declarations.declared_value.Goals as goal

pub returns-then-not-is_mark : goal.returns-then-not-is_mark
returns-then-not-is_mark c = made_no_value c.args.depth c.args.input.tokens.now c.args.from (mark_differs _ c.is_mark.ensures c.if-not-is_mark.true (lit< tt)) c.requires.inside

pub overflow_add-from : goal.overflow_add-from
overflow_add-from c = let h = mark_inside c.args.input.tokens.now c.args.from mark_equals (mark_stands _ c.is_mark.ensures c.if-not-is_mark.false) (omega arith) in omega arith

pub returns-in_err-value : goal.returns-in_err-value
returns-in_err-value c =
    let q : c.from_residual.result ≡ Err c.in_err-value.field-0.0 = search rules in
    rw q (passes (where_mark mark_equals (expression c.args.depth)) _ c.args.input.tokens.now c.args.from _ c.in_err-value.field-0.0 (λ n. record { none_is = (cond_first _ (same _ _ (mark_here c.args.input.tokens.now c.args.from mark_equals (mark_stands _ c.is_mark.ensures c.if-not-is_mark.false) (omega arith)).1) (mapped_none _ (read_behind c.args.input.tokens.now c.args.from _ (mark_here c.args.input.tokens.now c.args.from mark_equals (mark_stands _ c.is_mark.ensures c.if-not-is_mark.false) (omega arith)).0 n))) }) c.in_err-value.ensures)

pub returns : goal.returns
returns c = made_value c.in_ok-value.value.value (mark_here c.args.input.tokens.now c.args.from mark_equals (mark_stands _ c.is_mark.ensures c.if-not-is_mark.false) (omega arith)) c.in_ok-value.ensures
