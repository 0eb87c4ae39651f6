use Rattle.std.proofs.Common.{◌≡◌, lit<, ◌<◌, ℕ, ◌+◌, ◌-◌, drop, sym, ap, ◌∙◌, suc, subst, arith, Option}
use Rattle.rr_syntax.specs.Words.{words, mark_close_parenthesis, mark_open_parenthesis, mark_open_bracket, mark_close_bracket, mark_open_brace, mark_close_brace, mark_comma, mark_colon, mark_question}
use Rattle.rr_syntax.specs.Expressions.{infix_level, unary_level}
use Rattle.rr_parse_expr.specs.declared.nodes.Read.{Read}
use Rattle.rr_parse_expr.specs.Reading.{mark, is_between, after_index, select, operand, parts_from, turn, below}
use Rattle.rr_parse_expr.specs.Answer.{form, Answers, Finds, Steps}
use Rattle.rr_parse_expr.proofs.Tables.{infix_below}
use Rattle.rr_parse_expr.proofs.Steps.{closed-none, cast-none, braces-none}
use Rattle.rr_parse_expr.proofs.Exactly.{below_zero}
use Rattle.rr_parse_expr.proofs.FrontMarks.{mark_differs, mark_stands}
use Rattle.rr_parse_expr.proofs.Answered.{equal_true, equal_false, picks, none_of, picks_below, none_below, picks_closed, none_closed, gathers_none, gathers_some, if_ok_map, mark_inside, prefix_none, paren_none, mark_braces, mark_other, made_unary, made_paren, made_closed, closed_other, binary_none, made_binary, cond_none, cond_half, made_cond, step_none, step_of, goes_inside, operand_past, operand_name, operand_system, operand_keyword, operand_mark, made_literal, made_name, made_named, select_other, select_none, select_first, made_bit, between_inside, index_open, index_other, made_part, cast_other, cast_open, made_cast, climb_start, climb_more, climb_end, below_none, collect_start, collect_more, collect_fail, collect_other, collect_end, braces_repeat, braces_open, made_concat, repeated_none, repeated_open, repeated_other, made_repeat}
use Rattle.rr_parse_expr.proofs.reader.+reader.Goals as goal

pub after_index-bit-requires-clause-inside : goal.after_index-bit-requires-clause-inside
after_index-bit-requires-clause-inside t c = let h = mark_inside c.args.tokens.now c.args.first.next mark_close_bracket (mark_stands _ c.is_mark.ensures c.if-is_mark.true) (omega arith) in omega arith

pub after_index-returns-then-is_mark : goal.after_index-returns-then-is_mark
after_index-returns-then-is_mark t c = made_bit c.args.tokens.now c.args.from c.args.limit c.args.name.now c.args.first c.in_ok-bit.field-0 c.requires.1.1.1.1 (mark_stands _ c.is_mark.ensures c.if-is_mark.true) c.in_ok-bit.ensures

pub after_index-returns-in-None : goal.after_index-returns-in-None
after_index-returns-in-None t c = index_other c.args.tokens.now c.args.limit c.args.name.now (form c.args.first.expr) (mark (drop c.args.first.next (words c.args.tokens.now))) (c.args.first.next + 1) (mark_differs _ c.is_mark.ensures c.if-is_mark.false (lit< tt)) c.in-None.ensures

pub after_index-overflow_add-first : goal.after_index-overflow_add-first
after_index-overflow_add-first t c = let h = between_inside c.args.tokens.now c.args.first.next c.in-Some.between.0 (sym c.in-Some.ensures.stands) c.in-Some.ensures.parts in omega arith

pub after_index-returns-in-None-2 : goal.after_index-returns-in-None-2
after_index-returns-in-None-2 t c = index_open c.args.tokens.now c.args.limit c.args.name.now (form c.args.first.expr) (mark (drop c.args.first.next (words c.args.tokens.now))) (c.args.first.next + 1) (ap is_between c.in-Some.ensures.stands ∙ c.in-Some.ensures.parts) (none_closed c.args.tokens.now (c.args.first.next + 1) c.args.limit mark_close_bracket c.in_ok-closed-in-Some.field-0 c.in-None-2.is c.in_ok-closed-in-Some.ensures)

pub after_index-returns-in_ok-part-in-Some-2 : goal.after_index-returns-in_ok-part-in-Some-2
after_index-returns-in_ok-part-in-Some-2 t c =
    let P : ℕ → Type 0 = λ (m : ℕ). Finds c.args.tokens.now c.args.from c.args.limit (after_index (below c.args.limit) c.args.name.now (form c.args.first.expr) m (drop (c.args.first.next + 1) (words c.args.tokens.now))) c.in_ok-part-in-Some-2.field-0 in
    subst P (sym c.in-Some.ensures.stands) (made_part c.args.tokens.now c.args.from c.args.limit c.args.name.now c.in-Some.between.0 c.args.first c.in-Some-2.second c.in_ok-part-in-Some-2.field-0 c.requires.1.1.1.1 c.in-Some.ensures.parts (picks_closed c.args.tokens.now (c.args.first.next + 1) c.args.limit mark_close_bracket c.in_ok-closed-in-Some.field-0 c.in-Some-2.second c.in-Some-2.is c.in_ok-closed-in-Some.ensures) c.in_ok-part-in-Some-2.ensures)

pub after_mark-returns-in-None : goal.after_mark-returns-in-None
after_mark-returns-in-None t c = prefix_none (below c.args.limit) c.args.mark.0 (drop (c.args.from + 1) (words c.args.tokens.now)) (sym c.is_prefix.ensures ∙ c.if-is_prefix.true) (none_below c.args.tokens.now (c.args.from + 1) c.args.limit unary_level c.in_ok-read_at.field-0 c.in-None.is c.in_ok-read_at.ensures)

pub after_mark-returns-in_ok-unary-in-Some : goal.after_mark-returns-in_ok-unary-in-Some
after_mark-returns-in_ok-unary-in-Some t c = made_unary c.args.tokens.now c.args.from c.args.limit c.args.mark.0 c.in-Some.inner c.in_ok-unary-in-Some.field-0 (sym c.is_prefix.ensures ∙ c.if-is_prefix.true) (picks_below c.args.tokens.now (c.args.from + 1) c.args.limit unary_level c.in_ok-read_at.field-0 c.in-Some.inner c.in-Some.is c.in_ok-read_at.ensures) c.in_ok-unary-in-Some.ensures

pub after_mark-returns-in-None-2 : goal.after_mark-returns-in-None-2
after_mark-returns-in-None-2 t c = paren_none (below c.args.limit) c.args.mark.0 (drop (c.args.from + 1) (words c.args.tokens.now)) (sym c.is_prefix.ensures ∙ c.if-is_prefix.false) (equal_true _ _ (sym c.eq.ensures ∙ c.if-eq.true)) (none_closed c.args.tokens.now (c.args.from + 1) c.args.limit mark_close_parenthesis c.in_ok-closed.field-0 c.in-None-2.is c.in_ok-closed.ensures)

pub after_mark-returns-in_ok-paren-in-Some-2 : goal.after_mark-returns-in_ok-paren-in-Some-2
after_mark-returns-in_ok-paren-in-Some-2 t c = made_paren c.args.tokens.now c.args.from c.args.limit c.args.mark.0 c.in-Some-2.inner c.in_ok-paren-in-Some-2.field-0 (sym c.is_prefix.ensures ∙ c.if-is_prefix.false) (equal_true _ _ (sym c.eq.ensures ∙ c.if-eq.true)) (picks_closed c.args.tokens.now (c.args.from + 1) c.args.limit mark_close_parenthesis c.in_ok-closed.field-0 c.in-Some-2.inner c.in-Some-2.is c.in_ok-closed.ensures) c.in_ok-paren-in-Some-2.ensures

pub after_mark-returns-then-eq-2 : goal.after_mark-returns-then-eq-2
after_mark-returns-then-eq-2 t c = rw (mark_braces (below c.args.limit) c.args.mark.0 (drop (c.args.from + 1) (words c.args.tokens.now)) (sym c.is_prefix.ensures ∙ c.if-is_prefix.false) (equal_true _ _ (sym c.eq-else-eq.ensures ∙ c.if-eq-2.true))) c.braces.ensures

pub after_mark-returns-else-eq-2 : goal.after_mark-returns-else-eq-2
after_mark-returns-else-eq-2 t c = mark_other (below c.args.limit) c.args.mark.0 (drop (c.args.from + 1) (words c.args.tokens.now)) (sym c.is_prefix.ensures ∙ c.if-is_prefix.false) (equal_false _ _ (sym c.eq.ensures ∙ c.if-eq.false)) (equal_false _ _ (sym c.eq-else-eq.ensures ∙ c.if-eq-2.false))

pub braces-returns-in-None : goal.braces-returns-in-None
braces-returns-in-None t c = braces-none (below c.args.limit) (drop (c.args.from + 1) (words c.args.tokens.now)) (none_below c.args.tokens.now (c.args.from + 1) c.args.limit 1 c.in_ok-read_at.field-0 c.in-None.is c.in_ok-read_at.ensures)

pub braces-repeated-requires : goal.braces-repeated-requires
braces-repeated-requires t c =
    let f = (picks_below c.args.tokens.now (c.args.from + 1) c.args.limit 1 c.in_ok-read_at.field-0 c.in-Some.first c.in-Some.is c.in_ok-read_at.ensures) in
    let h = mark_inside c.args.tokens.now c.in-Some.first.next mark_open_brace (mark_stands _ c.is_mark.ensures c.if-is_mark.true) (omega arith) in
    grind (arith, f.read, h)

pub braces-returns-then-is_mark : goal.braces-returns-then-is_mark
braces-returns-then-is_mark t c = rw (braces_repeat c.args.tokens.now c.args.from c.args.limit c.in-Some.first (picks_below c.args.tokens.now (c.args.from + 1) c.args.limit 1 c.in_ok-read_at.field-0 c.in-Some.first c.in-Some.is c.in_ok-read_at.ensures) (mark_stands _ c.is_mark.ensures c.if-is_mark.true)) c.repeated.ensures

pub braces-returns-in-None-2 : goal.braces-returns-in-None-2
braces-returns-in-None-2 t c = braces_open c.args.tokens.now c.args.from c.args.limit c.in-Some.first (picks_below c.args.tokens.now (c.args.from + 1) c.args.limit 1 c.in_ok-read_at.field-0 c.in-Some.first c.in-Some.is c.in_ok-read_at.ensures) (mark_differs _ c.is_mark.ensures c.if-is_mark.false (lit< tt)) (gathers_none c.args.tokens.now c.args.from c.args.limit (parts_from (below c.args.limit) (form c.in-Some.first.expr) (drop c.in-Some.first.next (words c.args.tokens.now))) c.parts_from.new.parts.items c.in_ok-parts_from-in-Some.field-0 c.in-None-2.is c.in_ok-parts_from-in-Some.ensures)

pub braces-returns : goal.braces-returns
braces-returns t c = made_concat c.args.tokens.now c.args.from c.args.limit c.in-Some.first c.into_bump_slice.result.now c.parts_from.new.parts.items c.in-Some-2.end c.concat.result (picks_below c.args.tokens.now (c.args.from + 1) c.args.limit 1 c.in_ok-read_at.field-0 c.in-Some.first c.in-Some.is c.in_ok-read_at.ensures) (mark_differs _ c.is_mark.ensures c.if-is_mark.false (lit< tt)) c.into_bump_slice.ensures (gathers_some c.args.tokens.now c.args.from c.args.limit (parts_from (below c.args.limit) (form c.in-Some.first.expr) (drop c.in-Some.first.next (words c.args.tokens.now))) c.parts_from.new.parts.items c.in_ok-parts_from-in-Some.field-0 c.in-Some-2.end c.in-Some-2.is c.in_ok-parts_from-in-Some.ensures) c.concat.ensures

pub closed-returns-then-not-is_mark : goal.closed-returns-then-not-is_mark
closed-returns-then-not-is_mark t c = closed_other c.args.tokens.now c.args.from c.args.limit c.args.mark.0 c.in-Some.inner (mark_differs _ c.is_mark.ensures c.if-not-is_mark.true c.requires.is_mark) (picks_below c.args.tokens.now c.args.from c.args.limit 1 c.in_ok-read_at.field-0 c.in-Some.inner c.in-Some.is c.in_ok-read_at.ensures)

pub closed-overflow_add-next : goal.closed-overflow_add-next
closed-overflow_add-next t c = let h = mark_inside c.args.tokens.now c.in-Some.inner.next c.args.mark.0 (mark_stands _ c.is_mark.ensures c.if-not-is_mark.false) c.requires.is_mark in omega arith

pub closed-returns-in-None : goal.closed-returns-in-None
closed-returns-in-None t c = closed-none (below c.args.limit) c.args.mark.0 (drop c.args.from (words c.args.tokens.now)) (none_below c.args.tokens.now c.args.from c.args.limit 1 c.in_ok-read_at.field-0 c.in-None.is c.in_ok-read_at.ensures)

pub closed-returns-else-not-is_mark : goal.closed-returns-else-not-is_mark
closed-returns-else-not-is_mark t c = made_closed c.args.tokens.now c.args.from c.args.limit c.args.mark.0 c.in-Some.inner c.requires.is_mark (mark_stands _ c.is_mark.ensures c.if-not-is_mark.false) (picks_below c.args.tokens.now c.args.from c.args.limit 1 c.in_ok-read_at.field-0 c.in-Some.inner c.in-Some.is c.in_ok-read_at.ensures)

pub conditional-returns-in-None : goal.conditional-returns-in-None
conditional-returns-in-None t c = cond_none (below c.args.limit) (form c.args.left.expr) (drop (c.args.left.next + 1) (words c.args.tokens.now)) (none_closed c.args.tokens.now (c.args.left.next + 1) c.args.limit mark_colon c.in_ok-closed.field-0 c.in-None.is c.in_ok-closed.ensures)

pub conditional-returns-in-None-2 : goal.conditional-returns-in-None-2
conditional-returns-in-None-2 t c =
    let f = (picks_closed c.args.tokens.now (c.args.left.next + 1) c.args.limit mark_colon c.in_ok-closed.field-0 c.in-Some.middle c.in-Some.is c.in_ok-closed.ensures) in
    cond_half (below c.args.limit) (form c.args.left.expr) (drop (c.args.left.next + 1) (words c.args.tokens.now)) (form c.in-Some.middle.expr, (drop c.in-Some.middle.next (words c.args.tokens.now))) f.found_is (none_below c.args.tokens.now c.in-Some.middle.next c.args.limit 1 c.in_ok-read_at-in-Some.field-0 c.in-None-2.is c.in_ok-read_at-in-Some.ensures)

pub conditional-returns-in_ok-cond-in-Some-2 : goal.conditional-returns-in_ok-cond-in-Some-2
conditional-returns-in_ok-cond-in-Some-2 t c = made_cond c.args.tokens.now c.args.from c.args.limit c.args.left c.in-Some.middle c.in-Some-2.last c.in_ok-cond-in-Some-2.field-0 c.requires.left_read c.requires.room (picks_closed c.args.tokens.now (c.args.left.next + 1) c.args.limit mark_colon c.in_ok-closed.field-0 c.in-Some.middle c.in-Some.is c.in_ok-closed.ensures) (picks_below c.args.tokens.now c.in-Some.middle.next c.args.limit 1 c.in_ok-read_at-in-Some.field-0 c.in-Some-2.last c.in-Some-2.is c.in_ok-read_at-in-Some.ensures) c.in_ok-cond-in-Some-2.ensures

pub named-returns-in-None : goal.named-returns-in-None
named-returns-in-None t c = made_name c.args.tokens.now c.args.from c.args.limit c.args.name c.requires.1.1.1.0 (none_of c.args.tokens.now c.args.from c.args.limit (select (below c.args.limit) c.args.name.now (drop (c.args.from + 1) (words c.args.tokens.now))) c.in_ok-select.field-0 c.in-None.is c.in_ok-select.ensures)

pub named-returns-in-Some : goal.named-returns-in-Some
named-returns-in-Some t c = made_named c.args.tokens.now c.args.from c.args.limit c.args.name.now c.in-Some.read (picks c.args.tokens.now c.args.from c.args.limit (select (below c.args.limit) c.args.name.now (drop (c.args.from + 1) (words c.args.tokens.now))) c.in_ok-select.field-0 c.in-Some.read c.in-Some.is c.in_ok-select.ensures)

pub operand-returns-in-None : goal.operand-returns-in-None
operand-returns-in-None t c = operand_past (below c.args.limit) c.args.tokens.now c.args.from c.in-None.ensures.lookup.3

pub operand-returns-in-Name : goal.operand-returns-in-Name
operand-returns-in-Name t c = rw (operand_name (below c.args.limit) c.args.tokens.now c.args.from c.in-Some.token.now c.in-Name.name c.in-Some.ensures.lookup.3.0 c.in-Some.ensures.lookup.1 c.in-Name.is) c.named.ensures

pub operand-returns-in-System : goal.operand-returns-in-System
operand-returns-in-System t c = rw (operand_system (below c.args.limit) c.args.tokens.now c.args.from c.in-Some.token.now c.in-System.name c.in-Some.ensures.lookup.3.0 c.in-Some.ensures.lookup.1 c.in-System.is) c.system.ensures

pub operand-returns-in-Number : goal.operand-returns-in-Number
operand-returns-in-Number t c = made_literal c.args.tokens.now c.args.from c.args.limit c.in-Some.token.now c.in-Number.number c.in-Some.ensures.lookup.3.0 c.in-Some.ensures.lookup.1 c.in-Number.is

pub operand-returns-in-Keyword : goal.operand-returns-in-Keyword
operand-returns-in-Keyword t c = operand_keyword (below c.args.limit) c.args.tokens.now c.args.from c.in-Some.token.now c.in-Keyword.field-0 c.in-Some.ensures.lookup.3.0 c.in-Some.ensures.lookup.1 c.in-Keyword.is

pub operand-returns-in-Mark : goal.operand-returns-in-Mark
operand-returns-in-Mark t c = rw (operand_mark (below c.args.limit) c.args.tokens.now c.args.from c.in-Some.token.now c.in-Mark.mark c.in-Some.ensures.lookup.3.0 c.in-Some.ensures.lookup.1 c.in-Mark.is) c.after_mark.ensures

pub operation-overflow_add-infix_level : goal.operation-overflow_add-infix_level
operation-overflow_add-infix_level t c = omega (arith, infix_below c.args.op.0, c.infix_level.ensures)

pub operation-read_at-requires : goal.operation-read_at-requires
operation-read_at-requires t c = grind (arith, infix_below c.args.op.0, c.infix_level.ensures)

pub operation-returns-in-None : goal.operation-returns-in-None
operation-returns-in-None t c =
    let n : c.infix_level.result + 1 ≡ suc (infix_level c.args.op.0) = omega (arith, c.infix_level.ensures) in
    binary_none (below c.args.limit) (form c.args.left.expr) c.args.op.0 (c.infix_level.result + 1) (drop (c.args.left.next + 1) (words c.args.tokens.now)) c.requires.is_operator.1 n (none_below c.args.tokens.now (c.args.left.next + 1) c.args.limit (c.infix_level.result + 1) c.in_ok-read_at.field-0 c.in-None.is c.in_ok-read_at.ensures)

pub operation-returns-in_ok-binary-in-Some : goal.operation-returns-in_ok-binary-in-Some
operation-returns-in_ok-binary-in-Some t c =
    let n : c.infix_level.result + 1 ≡ suc (infix_level c.args.op.0) = omega (arith, c.infix_level.ensures) in
    made_binary c.args.tokens.now c.args.from c.args.limit c.args.op.0 (c.infix_level.result + 1) c.args.left c.in-Some.right c.in_ok-binary-in-Some.field-0 c.requires.left_read c.requires.room c.requires.is_operator.1 n (picks_below c.args.tokens.now (c.args.left.next + 1) c.args.limit (c.infix_level.result + 1) c.in_ok-read_at.field-0 c.in-Some.right c.in-Some.is c.in_ok-read_at.ensures) c.in_ok-binary-in-Some.ensures

pub parts_from-loop-from-init : goal.parts_from-loop-from-init
parts_from-loop-from-init t c = collect_start c.args.tokens.now c.args.from c.args.limit c.args.first c.args.parts.now.items c.add.new.items.items c.requires.empty c.in_ok-add.ensures c.requires.first_read

pub parts_from-overflow_add-next : goal.parts_from-overflow_add-next
parts_from-overflow_add-next t c = let h = mark_inside c.args.tokens.now c.loop-from.next mark_comma (mark_stands _ c.is_mark.ensures c.loop-from-test.true) (omega arith) in omega arith

pub parts_from-returns-in-None : goal.parts_from-returns-in-None
parts_from-returns-in-None t c = collect_fail c.args.tokens.now c.args.from c.args.limit (parts_from (below c.args.limit) (form c.args.first.expr) (drop c.args.first.next (words c.args.tokens.now))) c.loop-from.parts.items c.loop-from.next c.loop-from.depth c.loop-from.invariant (mark_stands _ c.is_mark.ensures c.loop-from-test.true) (none_below c.args.tokens.now (c.loop-from.next + 1) c.args.limit 1 c.in_ok-read_at.field-0 c.in-None.is c.in_ok-read_at.ensures)

pub parts_from-loop-from-preserved : goal.parts_from-loop-from-preserved
parts_from-loop-from-preserved t c = collect_more c.args.tokens.now c.args.from c.args.limit (parts_from (below c.args.limit) (form c.args.first.expr) (drop c.args.first.next (words c.args.tokens.now))) c.loop-from.parts.items c.add-in-Some.new.items.items c.loop-from.next c.loop-from.depth c.max-depth.result c.in-Some.part c.loop-from.invariant (mark_stands _ c.is_mark.ensures c.loop-from-test.true) (picks_below c.args.tokens.now (c.loop-from.next + 1) c.args.limit 1 c.in_ok-read_at.field-0 c.in-Some.part c.in-Some.is c.in_ok-read_at.ensures) c.in_ok-add-in-Some.ensures c.max-depth.ensures

pub parts_from-overflow_add-result : goal.parts_from-overflow_add-result
parts_from-overflow_add-result t c = let h = mark_inside c.args.tokens.now c.loop-from.next mark_close_brace (mark_stands _ c.is_mark-2.ensures c.if-is_mark.true) (omega arith) in omega arith

pub parts_from-returns-then-is_mark : goal.parts_from-returns-then-is_mark
parts_from-returns-then-is_mark t c = collect_end c.args.tokens.now c.args.from c.args.limit (parts_from (below c.args.limit) (form c.args.first.expr) (drop c.args.first.next (words c.args.tokens.now))) c.loop-from.parts.items c.loop-from.next c.loop-from.depth c.loop-from.invariant (mark_stands _ c.is_mark-2.ensures c.if-is_mark.true)

pub parts_from-returns-else-is_mark : goal.parts_from-returns-else-is_mark
parts_from-returns-else-is_mark t c = collect_other c.args.tokens.now c.args.from c.args.limit (parts_from (below c.args.limit) (form c.args.first.expr) (drop c.args.first.next (words c.args.tokens.now))) c.loop-from.parts.items c.loop-from.next c.loop-from.depth c.loop-from.invariant (mark_differs _ c.is_mark.ensures c.loop-from-test.false (lit< tt)) (mark_differs _ c.is_mark-2.ensures c.if-is_mark.false (lit< tt))

pub read_at-returns-then-room-eq0 : goal.read_at-returns-then-room-eq0
read_at-returns-then-room-eq0 t c = below_zero c.args.room c.args.low (drop c.args.from (words c.args.tokens.now)) c.if-room-eq0.true

pub read_at-loop-more-init : goal.read_at-loop-more-init
read_at-loop-more-init t c = climb_start c.args.tokens.now c.args.from c.args.low (c.args.room - 1) c.in-Some.first (picks c.args.tokens.now c.args.from (c.args.room - 1) (operand (below (c.args.room - 1)) (drop c.args.from (words c.args.tokens.now))) c.in_ok-operand.field-0 c.in-Some.first c.in-Some.is c.in_ok-operand.ensures)

pub read_at-loop-more-preserved : goal.read_at-loop-more-preserved
read_at-loop-more-preserved t c = climb_more c.args.tokens.now c.args.from c.args.low (c.args.room - 1) c.loop-more.left c.in_ok-more-in-Some.field-0 c.in-Some-2.more c.in-Some-2.is c.loop-more.invariant c.in_ok-more-in-Some.ensures

pub read_at-returns-in-None : goal.read_at-returns-in-None
read_at-returns-in-None t c = below_none c.args.tokens.now c.args.from c.args.low c.args.room (let p : 0 < c.args.room = omega arith in p) (none_of c.args.tokens.now c.args.from (c.args.room - 1) (operand (below (c.args.room - 1)) (drop c.args.from (words c.args.tokens.now))) c.in_ok-operand.field-0 c.in-None.is c.in_ok-operand.ensures)

pub read_at-returns-in_default : goal.read_at-returns-in_default
read_at-returns-in_default t c = climb_end c.args.tokens.now c.args.from c.args.low c.args.room c.loop-more.left c.in_ok-more-in-Some.field-0 (let p : 0 < c.args.room = omega arith in p) c.in_default.is c.loop-more.invariant c.in_ok-more-in-Some.ensures

pub repeated-returns-in-None : goal.repeated-returns-in-None
repeated-returns-in-None t c = repeated_none c.args.tokens.now c.args.limit (form c.args.count.expr) (c.args.count.next + 1) (none_below c.args.tokens.now (c.args.count.next + 1) c.args.limit 1 c.in_ok-read_at.field-0 c.in-None.is c.in_ok-read_at.ensures)

pub repeated-returns-in-None-2 : goal.repeated-returns-in-None-2
repeated-returns-in-None-2 t c = repeated_open c.args.tokens.now c.args.limit (form c.args.count.expr) (c.args.count.next + 1) c.in-Some.first (picks_below c.args.tokens.now (c.args.count.next + 1) c.args.limit 1 c.in_ok-read_at.field-0 c.in-Some.first c.in-Some.is c.in_ok-read_at.ensures) (gathers_none c.args.tokens.now c.args.count.next c.args.limit (parts_from (below c.args.limit) (form c.in-Some.first.expr) (drop c.in-Some.first.next (words c.args.tokens.now))) c.parts_from.new.parts.items c.in_ok-parts_from-in-Some.field-0 c.in-None-2.is c.in_ok-parts_from-in-Some.ensures)

pub repeated-returns-then-not-is_mark : goal.repeated-returns-then-not-is_mark
repeated-returns-then-not-is_mark t c =
    let k = (gathers_some c.args.tokens.now c.args.count.next c.args.limit (parts_from (below c.args.limit) (form c.in-Some.first.expr) (drop c.in-Some.first.next (words c.args.tokens.now))) c.parts_from.new.parts.items c.in_ok-parts_from-in-Some.field-0 c.in-Some-2.end c.in-Some-2.is c.in_ok-parts_from-in-Some.ensures) in
    repeated_other c.args.tokens.now c.args.limit (form c.args.count.expr) (c.args.count.next + 1) c.in-Some.first c.parts_from.new.parts.items c.in-Some-2.end (picks_below c.args.tokens.now (c.args.count.next + 1) c.args.limit 1 c.in_ok-read_at.field-0 c.in-Some.first c.in-Some.is c.in_ok-read_at.ensures) k.found_is (mark_differs _ c.is_mark.ensures c.if-not-is_mark.true (lit< tt))

pub repeated-repeat-requires-clause-inside : goal.repeated-repeat-requires-clause-inside
repeated-repeat-requires-clause-inside t c = let h = mark_inside c.args.tokens.now c.in-Some-2.end.next mark_close_brace (mark_stands _ c.is_mark.ensures c.if-not-is_mark.false) (omega arith) in omega arith

pub repeated-returns : goal.repeated-returns
repeated-returns t c = made_repeat c.args.tokens.now c.args.from c.args.limit c.args.count c.in-Some.first c.into_bump_slice.result.now c.parts_from.new.parts.items c.in-Some-2.end c.in_ok-repeat-in-Some-2.field-0 c.requires.count_read (picks_below c.args.tokens.now (c.args.count.next + 1) c.args.limit 1 c.in_ok-read_at.field-0 c.in-Some.first c.in-Some.is c.in_ok-read_at.ensures) c.into_bump_slice.ensures (gathers_some c.args.tokens.now c.args.count.next c.args.limit (parts_from (below c.args.limit) (form c.in-Some.first.expr) (drop c.in-Some.first.next (words c.args.tokens.now))) c.parts_from.new.parts.items c.in_ok-parts_from-in-Some.field-0 c.in-Some-2.end c.in-Some-2.is c.in_ok-parts_from-in-Some.ensures) (mark_stands _ c.is_mark.ensures c.if-not-is_mark.false) c.in_ok-repeat-in-Some-2.ensures

pub select-returns-then-not-is_mark : goal.select-returns-then-not-is_mark
select-returns-then-not-is_mark t c = select_other c.args.tokens.now c.args.from c.args.limit c.args.name.now (mark_differs _ c.is_mark.ensures c.if-not-is_mark.true (lit< tt))

pub select-overflow_add-from-2 : goal.select-overflow_add-from-2
select-overflow_add-from-2 t c = let h = mark_inside c.args.tokens.now (c.args.from + 1) mark_open_bracket (mark_stands _ c.is_mark.ensures c.if-not-is_mark.false) (omega arith) in omega arith

pub select-returns-in-None : goal.select-returns-in-None
select-returns-in-None t c = select_none c.args.tokens.now c.args.from c.args.limit c.args.name.now (mark_stands _ c.is_mark.ensures c.if-not-is_mark.false) (none_below c.args.tokens.now (c.args.from + 2) c.args.limit 1 c.in_ok-read_at.field-0 c.in-None.is c.in_ok-read_at.ensures)

pub select-returns-in-Some : goal.select-returns-in-Some
select-returns-in-Some t c = rw (select_first c.args.tokens.now c.args.from c.args.limit c.args.name.now c.in-Some.first (mark_stands _ c.is_mark.ensures c.if-not-is_mark.false) (picks_below c.args.tokens.now (c.args.from + 2) c.args.limit 1 c.in_ok-read_at.field-0 c.in-Some.first c.in-Some.is c.in_ok-read_at.ensures)) c.after_index.ensures

pub step-returns-in-None : goal.step-returns-in-None
step-returns-in-None t c = step_none c.args.tokens.now c.args.from c.args.limit c.args.low c.args.left c.in-None.ensures

pub step-conditional-requires : goal.step-conditional-requires
step-conditional-requires t c =
    let h = goes_inside c.args.tokens.now c.args.limit c.args.low c.args.left c.in-Some.op.0 c.requires.low_level.0 c.requires.left_read.deep (sym c.in-Some.ensures.stands) c.in-Some.ensures.goes in
    grind (arith, c.requires.left_read)

pub step-operation-requires : goal.step-operation-requires
step-operation-requires t c =
    let h = goes_inside c.args.tokens.now c.args.limit c.args.low c.args.left c.in-Some.op.0 c.requires.low_level.0 c.requires.left_read.deep (sym c.in-Some.ensures.stands) c.in-Some.ensures.goes in
    let n = equal_false c.in-Some.op.0 mark_question (sym c.eq.ensures ∙ c.if-eq.false) in
    grind (arith, c.requires.left_read)

pub step-returns-then-eq : goal.step-returns-then-eq
step-returns-then-eq t c =
    if_ok_map (λ (o : Option Read). Answers c.args.tokens.now c.args.from c.args.limit (turn (below c.args.limit) (form c.args.left.expr) c.in-Some.op.0 (drop (c.args.left.next + 1) (words c.args.tokens.now))) o) (λ (o : Option Read). Steps c.args.tokens.now c.args.from (below c.args.limit) c.args.limit c.args.low c.args.left o) c.conditional.result
    (λ o h. step_of c.args.tokens.now c.args.from c.args.limit c.args.low c.args.left c.in-Some.op.0 o c.requires.left_read (sym c.in-Some.ensures.stands) c.in-Some.ensures.goes h) (rw (← equal_true _ _ (sym c.eq.ensures ∙ c.if-eq.true)) at c.conditional.ensures)

pub step-returns-else-eq : goal.step-returns-else-eq
step-returns-else-eq t c =
    if_ok_map (λ (o : Option Read). Answers c.args.tokens.now c.args.from c.args.limit (turn (below c.args.limit) (form c.args.left.expr) c.in-Some.op.0 (drop (c.args.left.next + 1) (words c.args.tokens.now))) o) (λ (o : Option Read). Steps c.args.tokens.now c.args.from (below c.args.limit) c.args.limit c.args.low c.args.left o) c.operation.result
    (λ o h. step_of c.args.tokens.now c.args.from c.args.limit c.args.low c.args.left c.in-Some.op.0 o c.requires.left_read (sym c.in-Some.ensures.stands) c.in-Some.ensures.goes h) c.operation.ensures

pub system-returns-then-not-is_mark : goal.system-returns-then-not-is_mark
system-returns-then-not-is_mark t c = cast_other c.args.tokens.now c.args.from c.args.limit c.args.name.now c.in-Some.signed (sym c.cast_sign.ensures ∙ c.in-Some.is) (mark_differs _ c.is_mark.ensures c.if-not-is_mark.true (lit< tt))

pub system-overflow_add-from-in-Some : goal.system-overflow_add-from-in-Some
system-overflow_add-from-in-Some t c = let h = mark_inside c.args.tokens.now (c.args.from + 1) mark_open_parenthesis (mark_stands _ c.is_mark.ensures c.if-not-is_mark.false) (omega arith) in omega arith

pub system-returns-in-None : goal.system-returns-in-None
system-returns-in-None t c = cast-none (below c.args.limit) c.args.name.now (drop (c.args.from + 1) (words c.args.tokens.now)) (sym c.cast_sign.ensures ∙ c.in-None.is)

pub system-returns-in-None-2 : goal.system-returns-in-None-2
system-returns-in-None-2 t c = cast_open c.args.tokens.now c.args.from c.args.limit c.args.name.now c.in-Some.signed (sym c.cast_sign.ensures ∙ c.in-Some.is) (mark_stands _ c.is_mark.ensures c.if-not-is_mark.false) (none_closed c.args.tokens.now (c.args.from + 2) c.args.limit mark_close_parenthesis c.in_ok-closed-in-Some.field-0 c.in-None-2.is c.in_ok-closed-in-Some.ensures)

pub system-returns-in_ok-cast-in-Some-2 : goal.system-returns-in_ok-cast-in-Some-2
system-returns-in_ok-cast-in-Some-2 t c = made_cast c.args.tokens.now c.args.from c.args.limit c.args.name.now c.in-Some.signed c.in-Some-2.inner c.in_ok-cast-in-Some-2.field-0 (sym c.cast_sign.ensures ∙ c.in-Some.is) (mark_stands _ c.is_mark.ensures c.if-not-is_mark.false) (picks_closed c.args.tokens.now (c.args.from + 2) c.args.limit mark_close_parenthesis c.in_ok-closed-in-Some.field-0 c.in-Some-2.inner c.in-Some-2.is c.in_ok-closed-in-Some.ensures) c.in_ok-cast-in-Some-2.ensures
