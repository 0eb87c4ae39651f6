use Rattle.std.proofs.Common.{lit<, arith, refl, ◌∙◌}
use Rattle.rr_grammar.specs.Connections.{empty_closed, front_close, front_dot, names_closed, positions_closed}
use Rattle.rr_grammar.specs.Formats.{choose}
use Rattle.rr_parse.proofs.Founds.{answers_left, answers_right, finds_left, mark_here, same}
use Rattle.rr_parse.proofs.MadeConnections.{made_empty}
use Rattle.rr_parse_expr.proofs.Answered.{mark_inside, not_equal}
use Rattle.rr_syntax.specs.View.{plain_connections}
use Rattle.rr_syntax.specs.Words.{mark_close_parenthesis, mark_dot}
use Rattle.rr_parse_expr.proofs.FrontMarks.{mark_differs, mark_stands}
use Rattle.rr_parse.proofs.connections.connected.Goals as goal

pub overflow_add-result : goal.overflow_add-result
overflow_add-result c = let h = mark_inside c.args.input.tokens.now c.args.from mark_close_parenthesis (mark_stands _ c.is_mark.ensures c.if-is_mark.true) (omega arith) in omega arith

pub returns-then-is_mark : goal.returns-then-is_mark
returns-then-is_mark c = finds_left front_close (choose front_dot (names_closed c.args.depth) (positions_closed c.args.depth)) (same _ mark_close_parenthesis (mark_stands _ c.is_mark.ensures c.if-is_mark.true)) (made_empty c.into_bump_slice.result (c.into_bump_slice.ensures ∙ c.new.ensures.items) (mark_here c.args.input.tokens.now c.args.from mark_close_parenthesis (mark_stands _ c.is_mark.ensures c.if-is_mark.true) (omega arith)))

pub returns-then-is_mark-2 : goal.returns-then-is_mark-2
returns-then-is_mark-2 c = answers_right front_close empty_closed (choose front_dot (names_closed c.args.depth) (positions_closed c.args.depth)) plain_connections c.args.input.tokens.now c.args.from (not_equal _ mark_close_parenthesis (mark_differs _ c.is_mark.ensures c.if-is_mark.false (lit< tt))) (λ b. refl) (λ b. refl) (λ b at n. n) c.named.result (answers_left front_dot (names_closed c.args.depth) (positions_closed c.args.depth) plain_connections c.args.input.tokens.now c.args.from (same _ mark_dot (mark_stands _ c.is_mark-else-is_mark.ensures c.if-is_mark-2.true)) c.named.result c.named.ensures)

pub returns-else-is_mark-2 : goal.returns-else-is_mark-2
returns-else-is_mark-2 c = answers_right front_close empty_closed (choose front_dot (names_closed c.args.depth) (positions_closed c.args.depth)) plain_connections c.args.input.tokens.now c.args.from (not_equal _ mark_close_parenthesis (mark_differs _ c.is_mark.ensures c.if-is_mark.false (lit< tt))) (λ b. refl) (λ b. refl) (λ b at n. n) c.positions.result (answers_right front_dot (names_closed c.args.depth) (positions_closed c.args.depth) plain_connections c.args.input.tokens.now c.args.from (not_equal _ mark_dot (mark_differs _ c.is_mark-else-is_mark.ensures c.if-is_mark-2.false (lit< tt))) (λ b. refl) (λ b. refl) (λ b at n. n) c.positions.result c.positions.ensures)
