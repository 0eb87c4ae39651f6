use Rattle.std.proofs.Common.{lit<, Err, arith, refl, rules, ◌≡◌}
use Rattle.rr_grammar.specs.Connections.{absent_closed, front_close, optional_closed, present_closed}
use Rattle.rr_parse.proofs.Founds.{cond_second, finds_left, finds_right, mapped_none, mark_here, passes, same}
use Rattle.rr_parse.proofs.MadeConnections.{made_absent, made_present}
use Rattle.rr_parse_expr.proofs.Answered.{mark_inside, not_equal}
use Rattle.rr_syntax.specs.Words.{mark_close_parenthesis}
use Rattle.rr_parse_expr.proofs.FrontMarks.{mark_differs, mark_stands}
use Rattle.rr_parse.proofs.connections.optional.Goals as goal

pub overflow_add-result : goal.overflow_add-result
overflow_add-result c = let h = mark_inside c.args.input.tokens.now c.args.from mark_close_parenthesis (mark_stands _ c.is_mark.ensures c.if-is_mark.true) (omega arith) in omega arith

pub returns-then-is_mark : goal.returns-then-is_mark
returns-then-is_mark c = finds_left front_close (present_closed c.args.depth) (same _ mark_close_parenthesis (mark_stands _ c.is_mark.ensures c.if-is_mark.true)) (made_absent (mark_here c.args.input.tokens.now c.args.from mark_close_parenthesis (mark_stands _ c.is_mark.ensures c.if-is_mark.true) (omega arith)))

pub returns-in_err-found : goal.returns-in_err-found
returns-in_err-found c =
    let q : c.from_residual.result ≡ Err c.in_err-found.field-0.0 = search rules in
    rw q (passes (optional_closed c.args.depth) _ c.args.input.tokens.now c.args.from _ c.in_err-found.field-0.0 (λ n. record { none_is = (cond_second _ (not_equal _ mark_close_parenthesis (mark_differs _ c.is_mark.ensures c.if-is_mark.false (lit< tt))) (mapped_none _ n.none_is)) }) c.in_err-found.ensures)

pub returns : goal.returns
returns c = finds_right front_close absent_closed (not_equal _ mark_close_parenthesis (mark_differs _ c.is_mark.ensures c.if-is_mark.false (lit< tt))) refl refl (λ n. n) (made_present c.in_ok-found.found.value c.in_ok-found.ensures)
