use Rattle.std.proofs.Common.{◌≡◌, lit<, List, refl, true, false, None, Some}
use Rattle.rr_syntax.specs.Words.{Word, mark_equals as equals_sign, mark_less_or_equal}
use Rattle.rr_parse_expr.specs.Reading.{mark}
use Rattle.rr_parse_expr.proofs.Answered.{not_equal}
use Rattle.rr_parse_expr.proofs.FrontMarks.{mark_differs, mark_stands}
use Rattle.rr_parse_stmt.specs.Reading.{sign}
use Rattle.rr_parse_stmt.proofs.parts.sign_at.Goals as goal

blocking : (ws : List Word) → mark ws ≡ equals_sign → Some true ≡ sign ws
unfolding sign
blocking ws e = rw e refl

nonblocking : (ws : List Word) → mark ws ≡ mark_less_or_equal → Some false ≡ sign ws
unfolding sign
nonblocking ws e = rw e refl

neither : (ws : List Word) → (mark ws ≡ equals_sign → ⊥) → (mark ws ≡ mark_less_or_equal → ⊥) → None ≡ sign ws
unfolding sign
neither ws h k = let e = not_equal (mark ws) equals_sign h in let f = not_equal (mark ws) mark_less_or_equal k in rw (e, f) refl

pub returns-then-is_mark : goal.returns-then-is_mark
returns-then-is_mark c = blocking _ (mark_stands _ c.is_mark.ensures c.if-is_mark.true)

pub returns-then-is_mark-2 : goal.returns-then-is_mark-2
returns-then-is_mark-2 c = nonblocking _ (mark_stands _ c.is_mark-else-is_mark.ensures c.if-is_mark-2.true)

pub returns-else-is_mark-2 : goal.returns-else-is_mark-2
returns-else-is_mark-2 c = neither _ (mark_differs _ c.is_mark.ensures c.if-is_mark.false (lit< tt)) (mark_differs _ c.is_mark-else-is_mark.ensures c.if-is_mark-2.false (lit< tt))
