use Rattle.std.proofs.Common.{lit<, refl, sym, ◌∙◌}
use Rattle.rr_grammar.specs.Formats.{choose}
use Rattle.rr_grammar.specs.Parts.{edge_list, front_edge, front_star, level_list, star_closed}
use Rattle.rr_parse.proofs.Founds.{answers_left, answers_right, same}
use Rattle.rr_parse_expr.proofs.Answered.{not_equal}
use Rattle.rr_syntax.specs.View.{plain_events}
use Rattle.rr_syntax.specs.Words.{mark_star}
use Rattle.rr_parse_expr.proofs.FrontMarks.{mark_differs, mark_stands}
use Rattle.rr_parse.proofs.events.bracketed.Goals as goal

pub returns-then-is_mark : goal.returns-then-is_mark
returns-then-is_mark c = answers_left front_star star_closed (choose front_edge edge_list (level_list c.args.depth)) plain_events c.args.input.tokens.now c.args.from (same _ mark_star (mark_stands _ c.is_mark.ensures c.if-is_mark.true)) c.star.result c.star.ensures

pub returns-then-begins_edge : goal.returns-then-begins_edge
returns-then-begins_edge c = answers_right front_star star_closed (choose front_edge edge_list (level_list c.args.depth)) plain_events c.args.input.tokens.now c.args.from (not_equal _ mark_star (mark_differs _ c.is_mark.ensures c.if-is_mark.false (lit< tt))) (λ b. refl) (λ b. refl) (λ b at n. n) c.edges.result (answers_left front_edge edge_list (level_list c.args.depth) plain_events c.args.input.tokens.now c.args.from (sym c.begins_edge.ensures ∙ c.if-begins_edge.true) c.edges.result c.edges.ensures)

pub returns-else-begins_edge : goal.returns-else-begins_edge
returns-else-begins_edge c = answers_right front_star star_closed (choose front_edge edge_list (level_list c.args.depth)) plain_events c.args.input.tokens.now c.args.from (not_equal _ mark_star (mark_differs _ c.is_mark.ensures c.if-is_mark.false (lit< tt))) (λ b. refl) (λ b. refl) (λ b at n. n) c.levels.result (answers_right front_edge edge_list (level_list c.args.depth) plain_events c.args.input.tokens.now c.args.from (sym c.begins_edge.ensures ∙ c.if-begins_edge.false) (λ b. refl) (λ b. refl) (λ b at n. n) c.levels.result c.levels.ensures)
