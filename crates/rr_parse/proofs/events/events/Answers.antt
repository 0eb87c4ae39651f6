use Rattle.std.proofs.Common.{lit<, Err, arith, refl, rules, ◌≡◌}
use Rattle.rr_grammar.specs.Parts.{events, front_star, in_brackets, star_alone}
use Rattle.rr_parse.proofs.Founds.{answers_right, cond_second, finds_left, lacks, mapped_none, mark_here, other_mark, same}
use Rattle.rr_parse.proofs.MadeEvents.{made_bracketed, made_star_alone}
use Rattle.rr_parse_expr.proofs.Answered.{mark_inside, not_equal}
use Rattle.rr_syntax.specs.View.{plain_events}
use Rattle.rr_syntax.specs.Words.{mark_star}
use Rattle.rr_parse_expr.proofs.FrontMarks.{mark_differs, mark_stands}
use Rattle.rr_parse.proofs.events.events.Goals as goal

pub overflow_add-result : goal.overflow_add-result
overflow_add-result c = let h = mark_inside c.args.input.tokens.now c.args.from mark_star (mark_stands _ c.is_mark.ensures c.if-is_mark.true) (omega arith) in omega arith

pub returns-then-is_mark : goal.returns-then-is_mark
returns-then-is_mark c = finds_left front_star (in_brackets c.args.depth) (same _ mark_star (mark_stands _ c.is_mark.ensures c.if-is_mark.true)) (made_star_alone (mark_here c.args.input.tokens.now c.args.from mark_star (mark_stands _ c.is_mark.ensures c.if-is_mark.true) (omega arith)))

pub returns-in_err-inside : goal.returns-in_err-inside
returns-in_err-inside c =
    let q : c.from_residual.result ≡ Err c.in_err-inside.field-0.0 = search rules in
    rw q (lacks (events c.args.depth) c.args.input.tokens.now c.args.from _ _ c.in_err-inside.field-0.0 (λ h. record { none_is = (cond_second _ (not_equal _ mark_star (mark_differs _ c.is_mark.ensures c.if-is_mark.false (lit< tt))) (mapped_none _ (other_mark _ _ _ h))) }) c.in_err-inside.ensures)

pub returns : goal.returns
returns c = answers_right front_star star_alone (in_brackets c.args.depth) plain_events c.args.input.tokens.now c.args.from (not_equal _ mark_star (mark_differs _ c.is_mark.ensures c.if-is_mark.false (lit< tt))) (λ b. refl) (λ b. refl) (λ b at n. n) c.bracketed.result (made_bracketed c.args.depth c.args.input.tokens.now c.args.from _ c.in_ok-inside.ensures c.bracketed.result c.bracketed.ensures)
