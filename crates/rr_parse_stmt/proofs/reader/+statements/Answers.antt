use Rattle.std.proofs.Common.{◌≡◌, lit<, nat_eq, ◌<◌, suc, ◌+◌, length, drop, sym, ap, ◌∙◌, arith}
use Rattle.rr_syntax.specs.Words.{words, keyword_begin, keyword_default, keyword_else, keyword_end, keyword_endcase, keyword_for, keyword_if, mark_colon, mark_semicolon}
use Rattle.rr_syntax.specs.Tree.{Done, NoArms, MoreArms}
use Rattle.rr_syntax.specs.Statements.{is_case, defaults}
use Rattle.rr_syntax.specs.View.{plain_statement, plain_arm}
use Rattle.rr_syntax.proofs.Nonempty.{spell_statement-some, spell_arm-some}
use Rattle.rr_parse_expr.specs.Reading.{below, mark}
use Rattle.rr_parse_expr.proofs.Answered.{mark_inside}
use Rattle.rr_parse_stmt.specs.Reading.{label, body, tested, head, labels, arms, below_statement, below_arm}
use Rattle.rr_parse_stmt.proofs.Steps.{block-none, if-none}
use Rattle.rr_parse_stmt.proofs.Sound.{case_less}
use Rattle.rr_parse_stmt.proofs.Answered.{keyword_inside, tree_some, tree_none, stmt_some, stmt_none, arm_some, arm_none, labels_some, labels_nothing, label_is, label_fails, body_is, body_fails, arms_is, arms_fails, bodied_start, bodied_more, bodied_fail, bodied_end, made_block, block_fails}
use Rattle.rr_parse_stmt.proofs.Choices.{made_if, made_else, else_fails, then_fails, armed_start, arm_added, armed_end, armed_next, armed_fail, armed_twice, at_most_is, at_most_none, made_case, case_test_fails, case_arms_fail, made_default, default_none, default_fits, made_arm, labels_fails, labelled_fails, no_room, is_null, no_arm_room, is_default, is_labelled, is_block, is_if, is_for, is_case_at, is_assignment}
use Rattle.rr_parse_stmt.proofs.LoopHeads.{head_found, no_head, made_loop, loop_unheaded, loop_open}
use Rattle.rr_parse_expr.proofs.FrontMarks.{mark_differs, mark_equals, mark_stands}
use Rattle.rr_parse_stmt.proofs.FrontWords.{keyword_differs, keyword_stands}
use Rattle.rr_parse_stmt.proofs.reader.+statements.Goals as goal

pub arm-returns-then-room-eq0 : goal.arm-returns-then-room-eq0
arm-returns-then-room-eq0 t c = no_arm_room c.args.room (drop c.args.from (words c.args.tokens.now)) c.if-room-eq0.true

pub arm-returns-then-is_keyword : goal.arm-returns-then-is_keyword
arm-returns-then-is_keyword t c = rw (is_default c.args.room c.args.from c.args.tokens.now (let p : 0 < c.args.room = omega arith in p) (keyword_stands _ c.is_keyword.ensures c.if-is_keyword.true)) c.default_arm.ensures

pub arm-returns-else-is_keyword : goal.arm-returns-else-is_keyword
arm-returns-else-is_keyword t c = rw (is_labelled c.args.room c.args.from c.args.tokens.now (let p : 0 < c.args.room = omega arith in p) (keyword_differs _ c.is_keyword.ensures c.if-is_keyword.false (lit< tt))) c.labelled_arm.ensures

pub arm-default_arm-requires : goal.arm-default_arm-requires
arm-default_arm-requires t c = let h = keyword_inside c.args.tokens.now c.args.from keyword_default (keyword_stands _ c.is_keyword.ensures c.if-is_keyword.true) (omega arith) in grind arith

pub arms_from-loop-piece-init : goal.arms_from-loop-piece-init
arms_from-loop-piece-init t c = armed_start c.args.tokens.now c.args.from c.args.limit c.args.arms.now.items c.requires.inside c.requires.empty

pub arms_from-returns-in-None : goal.arms_from-returns-in-None
arms_from-returns-in-None t c = armed_twice c.args.tokens.now c.args.from c.args.limit (arms (below_arm c.args.limit) (suc (length (drop c.args.from (words c.args.tokens.now)))) NoArms (drop c.args.from (words c.args.tokens.now))) c.loop-piece.arms.items c.loop-piece.next c.loop-piece.defaults c.in-Some.piece c.loop-piece.invariant (arm_some c.args.tokens.now c.loop-piece.next (below_arm c.args.limit (drop c.loop-piece.next (words c.args.tokens.now))) c.in_ok-piece.field-0 c.in-Some.piece c.in-Some.is c.in_ok-piece.ensures) (at_most_none (c.loop-piece.defaults + defaults (MoreArms (plain_arm c.in-Some.piece.arm) NoArms)) (sym c.counted.ensures ∙ c.in-None.is))

pub arms_from-counted-requires : goal.arms_from-counted-requires
arms_from-counted-requires t c = record { once = c.loop-piece.invariant.once }

pub arms_from-overflow_add-result : goal.arms_from-overflow_add-result
arms_from-overflow_add-result t c = let h = keyword_inside c.args.tokens.now c.in-Some.piece.next keyword_endcase (keyword_stands _ c.is_keyword.ensures c.if-is_keyword.true) (omega arith) in omega arith

pub arms_from-returns-then-is_keyword : goal.arms_from-returns-then-is_keyword
arms_from-returns-then-is_keyword t c =
    let k = at_most_is (c.loop-piece.defaults + defaults (MoreArms (plain_arm c.in-Some.piece.arm) NoArms)) c.in-Some-counted.more (sym c.counted.ensures ∙ c.in-Some-counted.is) in
    armed_end c.args.tokens.now c.args.from c.args.limit (arms (below_arm c.args.limit) (suc (length (drop c.args.from (words c.args.tokens.now)))) NoArms (drop c.args.from (words c.args.tokens.now))) c.add.new.items.items c.in-Some.piece.next c.in-Some-counted.more (arm_added c.args.tokens.now c.args.from c.args.limit (arms (below_arm c.args.limit) (suc (length (drop c.args.from (words c.args.tokens.now)))) NoArms (drop c.args.from (words c.args.tokens.now))) c.loop-piece.arms.items c.add.new.items.items c.loop-piece.next c.loop-piece.defaults c.in-Some-counted.more c.in-Some.piece c.loop-piece.invariant (arm_some c.args.tokens.now c.loop-piece.next (below_arm c.args.limit (drop c.loop-piece.next (words c.args.tokens.now))) c.in_ok-piece.field-0 c.in-Some.piece c.in-Some.is c.in_ok-piece.ensures) c.in_ok-add.ensures k.0 (omega (arith, k.0, k.1))) (keyword_stands _ c.is_keyword.ensures c.if-is_keyword.true)

pub arms_from-loop-piece-smaller : goal.arms_from-loop-piece-smaller
arms_from-loop-piece-smaller t c = let f = (arm_some c.args.tokens.now c.loop-piece.next (below_arm c.args.limit (drop c.loop-piece.next (words c.args.tokens.now))) c.in_ok-piece.field-0 c.in-Some.piece c.in-Some.is c.in_ok-piece.ensures) in omega (arith, f.taken, f.within, spell_arm-some (plain_arm c.in-Some.piece.arm))

pub arms_from-loop-piece-preserved : goal.arms_from-loop-piece-preserved
arms_from-loop-piece-preserved t c =
    let k = at_most_is (c.loop-piece.defaults + defaults (MoreArms (plain_arm c.in-Some.piece.arm) NoArms)) c.in-Some-counted.more (sym c.counted.ensures ∙ c.in-Some-counted.is) in
    armed_next c.args.tokens.now c.args.from c.args.limit (arms (below_arm c.args.limit) (suc (length (drop c.args.from (words c.args.tokens.now)))) NoArms (drop c.args.from (words c.args.tokens.now))) c.add.new.items.items c.in-Some.piece.next c.in-Some-counted.more (arm_added c.args.tokens.now c.args.from c.args.limit (arms (below_arm c.args.limit) (suc (length (drop c.args.from (words c.args.tokens.now)))) NoArms (drop c.args.from (words c.args.tokens.now))) c.loop-piece.arms.items c.add.new.items.items c.loop-piece.next c.loop-piece.defaults c.in-Some-counted.more c.in-Some.piece c.loop-piece.invariant (arm_some c.args.tokens.now c.loop-piece.next (below_arm c.args.limit (drop c.loop-piece.next (words c.args.tokens.now))) c.in_ok-piece.field-0 c.in-Some.piece c.in-Some.is c.in_ok-piece.ensures) c.in_ok-add.ensures k.0 (omega (arith, k.0, k.1))) (keyword_differs _ c.is_keyword.ensures c.if-is_keyword.false (lit< tt))

pub arms_from-returns : goal.arms_from-returns
arms_from-returns t c = armed_fail c.args.tokens.now c.args.from c.args.limit (arms (below_arm c.args.limit) (suc (length (drop c.args.from (words c.args.tokens.now)))) NoArms (drop c.args.from (words c.args.tokens.now))) c.loop-piece.arms.items c.loop-piece.next c.loop-piece.defaults c.loop-piece.invariant (arm_none c.args.tokens.now c.loop-piece.next (below_arm c.args.limit (drop c.loop-piece.next (words c.args.tokens.now))) c.in_ok-piece.field-0 c.in_default.is c.in_ok-piece.ensures)

pub block-returns-in-None : goal.block-returns-in-None
block-returns-in-None t c = block-none (below_statement c.args.limit) (drop (c.args.from + 1) (words c.args.tokens.now)) (label_fails c.args.tokens.now (c.args.from + 1) (label (drop (c.args.from + 1) (words c.args.tokens.now))) c.label.result c.in-None.is c.label.ensures)

pub block-statements-requires : goal.block-statements-requires
block-statements-requires t c = let f = (label_is c.args.tokens.now (c.args.from + 1) (label (drop (c.args.from + 1) (words c.args.tokens.now))) c.label.result c.in-Some.name c.in-Some.is c.label.ensures) in grind (arith, f.within)

pub block-returns-in-None-2 : goal.block-returns-in-None-2
block-returns-in-None-2 t c = block_fails c.args.tokens.now c.args.from c.args.limit c.in-Some.name (label_is c.args.tokens.now (c.args.from + 1) (label (drop (c.args.from + 1) (words c.args.tokens.now))) c.label.result c.in-Some.name c.in-Some.is c.label.ensures) (body_fails c.args.tokens.now c.in-Some.name.next (body (below_statement c.args.limit) (suc (length (drop c.in-Some.name.next (words c.args.tokens.now)))) Done (drop c.in-Some.name.next (words c.args.tokens.now))) c.statements.new.body.items c.in_ok-statements-in-Some.field-0 c.in-None-2.is c.in_ok-statements-in-Some.ensures)

pub block-returns : goal.block-returns
block-returns t c = made_block c.args.tokens.now c.args.from c.args.limit c.in-Some.name c.into_bump_slice.result c.statements.new.body.items c.in-Some-2.next c.into_bump_slice.ensures (label_is c.args.tokens.now (c.args.from + 1) (label (drop (c.args.from + 1) (words c.args.tokens.now))) c.label.result c.in-Some.name c.in-Some.is c.label.ensures) (body_is c.args.tokens.now c.in-Some.name.next (body (below_statement c.args.limit) (suc (length (drop c.in-Some.name.next (words c.args.tokens.now)))) Done (drop c.in-Some.name.next (words c.args.tokens.now))) c.statements.new.body.items c.in_ok-statements-in-Some.field-0 c.in-Some-2.next c.in-Some-2.is c.in_ok-statements-in-Some.ensures)

pub cases-returns-in-None : goal.cases-returns-in-None
cases-returns-in-None t c = case_test_fails c.args.tokens.now c.args.from c.args.limit c.args.kind.0 (tree_none c.args.tokens.now (c.args.from + 1 + 1) 1 (tested (below c.args.limit) (drop (c.args.from + 1) (words c.args.tokens.now))) c.in_ok-tested.field-0 c.in-None.is c.in_ok-tested.ensures)

pub cases-arms_from-requires : goal.cases-arms_from-requires
cases-arms_from-requires t c = let f = (tree_some c.args.tokens.now (c.args.from + 1 + 1) 1 (tested (below c.args.limit) (drop (c.args.from + 1) (words c.args.tokens.now))) c.in_ok-tested.field-0 c.in-Some.on c.in-Some.is c.in_ok-tested.ensures) in grind (arith, f.within)

pub cases-returns-in-None-2 : goal.cases-returns-in-None-2
cases-returns-in-None-2 t c = case_arms_fail c.args.tokens.now c.args.from c.args.limit c.args.kind.0 c.in-Some.on (tree_some c.args.tokens.now (c.args.from + 1 + 1) 1 (tested (below c.args.limit) (drop (c.args.from + 1) (words c.args.tokens.now))) c.in_ok-tested.field-0 c.in-Some.on c.in-Some.is c.in_ok-tested.ensures) (arms_fails c.args.tokens.now c.in-Some.on.next (arms (below_arm c.args.limit) (suc (length (drop c.in-Some.on.next (words c.args.tokens.now)))) NoArms (drop c.in-Some.on.next (words c.args.tokens.now))) c.arms_from.new.arms.items c.in_ok-arms_from-in-Some.field-0 c.in-None-2.is c.in_ok-arms_from-in-Some.ensures)

pub cases-returns : goal.cases-returns
cases-returns t c = made_case c.args.tokens.now c.args.from c.args.limit c.args.kind.0 c.in-Some.on c.into_bump_slice.result c.arms_from.new.arms.items c.in-Some-2.next c.into_bump_slice.ensures (tree_some c.args.tokens.now (c.args.from + 1 + 1) 1 (tested (below c.args.limit) (drop (c.args.from + 1) (words c.args.tokens.now))) c.in_ok-tested.field-0 c.in-Some.on c.in-Some.is c.in_ok-tested.ensures) (arms_is c.args.tokens.now c.in-Some.on.next (arms (below_arm c.args.limit) (suc (length (drop c.in-Some.on.next (words c.args.tokens.now)))) NoArms (drop c.in-Some.on.next (words c.args.tokens.now))) c.arms_from.new.arms.items c.in_ok-arms_from-in-Some.field-0 c.in-Some-2.next c.in-Some-2.is c.in_ok-arms_from-in-Some.ensures)

pub conditional-returns-in-None : goal.conditional-returns-in-None
conditional-returns-in-None t c = if-none (below c.args.limit) (below_statement c.args.limit) (drop (c.args.from + 1) (words c.args.tokens.now)) (tree_none c.args.tokens.now (c.args.from + 1 + 1) 1 (tested (below c.args.limit) (drop (c.args.from + 1) (words c.args.tokens.now))) c.in_ok-tested.field-0 c.in-None.is c.in_ok-tested.ensures)

pub conditional-branches-requires : goal.conditional-branches-requires
conditional-branches-requires t c = let f = (tree_some c.args.tokens.now (c.args.from + 1 + 1) 1 (tested (below c.args.limit) (drop (c.args.from + 1) (words c.args.tokens.now))) c.in_ok-tested.field-0 c.in-Some.test c.in-Some.is c.in_ok-tested.ensures) in grind (arith, f)

pub branches-returns-in-None : goal.branches-returns-in-None
branches-returns-in-None t c = then_fails c.args.tokens.now c.args.from c.args.limit c.args.test c.requires.test_read (stmt_none c.args.tokens.now c.args.test.next (below_statement c.args.limit (drop c.args.test.next (words c.args.tokens.now))) c.in_ok-statement.field-0 c.in-None.is c.in_ok-statement.ensures)

pub branches-otherwise-requires : goal.branches-otherwise-requires
branches-otherwise-requires t c = let f = (stmt_some c.args.tokens.now c.args.test.next (below_statement c.args.limit (drop c.args.test.next (words c.args.tokens.now))) c.in_ok-statement.field-0 c.in-Some.first c.in-Some.is c.in_ok-statement.ensures) in let k = (keyword_stands _ c.is_keyword.ensures c.if-is_keyword.true) in grind (arith, f, k, c.requires.test_read)

pub branches-returns-in_ok-if_alone-in-Some : goal.branches-returns-in_ok-if_alone-in-Some
branches-returns-in_ok-if_alone-in-Some t c = made_if c.args.tokens.now c.args.from c.args.limit c.args.test c.in-Some.first c.in_ok-if_alone-in-Some.field-0 c.in_ok-if_alone-in-Some.ensures c.requires.test_read (stmt_some c.args.tokens.now c.args.test.next (below_statement c.args.limit (drop c.args.test.next (words c.args.tokens.now))) c.in_ok-statement.field-0 c.in-Some.first c.in-Some.is c.in_ok-statement.ensures) (keyword_differs _ c.is_keyword.ensures c.if-is_keyword.false (lit< tt))

pub otherwise-overflow_add-first : goal.otherwise-overflow_add-first
otherwise-overflow_add-first t c = let h = keyword_inside c.args.tokens.now c.args.first.next keyword_else c.requires.there (omega arith) in omega arith

pub otherwise-returns-in-None : goal.otherwise-returns-in-None
otherwise-returns-in-None t c = else_fails c.args.tokens.now c.args.from c.args.limit c.args.test c.args.first c.requires.test_read c.requires.first_read c.requires.there (stmt_none c.args.tokens.now (c.args.first.next + 1) (below_statement c.args.limit (drop (c.args.first.next + 1) (words c.args.tokens.now))) c.in_ok-statement.field-0 c.in-None.is c.in_ok-statement.ensures)

pub otherwise-returns-in_ok-if_else-in-Some : goal.otherwise-returns-in_ok-if_else-in-Some
otherwise-returns-in_ok-if_else-in-Some t c = made_else c.args.tokens.now c.args.from c.args.limit c.args.test c.args.first c.in-Some.second c.in_ok-if_else-in-Some.field-0 c.in_ok-if_else-in-Some.ensures c.requires.test_read c.requires.first_read c.requires.there (stmt_some c.args.tokens.now (c.args.first.next + 1) (below_statement c.args.limit (drop (c.args.first.next + 1) (words c.args.tokens.now))) c.in_ok-statement.field-0 c.in-Some.second c.in-Some.is c.in_ok-statement.ensures)

pub default_arm-default_body-requires : goal.default_arm-default_body-requires
default_arm-default_body-requires t c =
    let k : c.is_mark-colon.result ≡ nat_eq (mark (drop (c.args.from + 1) (words c.args.tokens.now))) mark_colon = mark_equals _ c.is_mark-colon.ensures (lit< tt) in
    grind (arith, k)

pub default_body-after_default-requires : goal.default_body-after_default-requires
default_body-after_default-requires t c = record { fits = default_fits c.args.tokens.now c.args.from c.args.colon c.requires.inside c.requires.short c.requires.colon_read }

pub default_body-returns-in-None : goal.default_body-returns-in-None
default_body-returns-in-None t c = default_none c.args.tokens.now c.args.from c.args.limit c.args.colon c.after_default.result c.requires.colon_read c.after_default.ensures (stmt_none c.args.tokens.now c.after_default.result (below_statement c.args.limit (drop c.after_default.result (words c.args.tokens.now))) c.in_ok-statement.field-0 c.in-None.is c.in_ok-statement.ensures)

pub default_body-returns-in_ok-case_item-in-Some : goal.default_body-returns-in_ok-case_item-in-Some
default_body-returns-in_ok-case_item-in-Some t c = made_default c.args.tokens.now c.args.from c.args.limit c.args.colon c.no_labels.result.now c.in-Some.body c.in_ok-case_item-in-Some.field-0 c.after_default.result c.no_labels.ensures c.in_ok-case_item-in-Some.ensures c.requires.colon_read c.after_default.ensures (stmt_some c.args.tokens.now c.after_default.result (below_statement c.args.limit (drop c.after_default.result (words c.args.tokens.now))) c.in_ok-statement.field-0 c.in-Some.body c.in-Some.is c.in_ok-statement.ensures)

pub labelled_arm-returns-in-None : goal.labelled_arm-returns-in-None
labelled_arm-returns-in-None t c = labels_fails c.args.tokens.now c.args.from c.args.limit (labels_nothing c.args.tokens.now c.args.from (labels (below c.args.limit) (drop c.args.from (words c.args.tokens.now))) c.in_ok-labels.field-0 c.in-None.is c.in_ok-labels.ensures)

pub labelled_arm-labelled_body-requires : goal.labelled_arm-labelled_body-requires
labelled_arm-labelled_body-requires t c = let f = (labels_some c.args.tokens.now c.args.from (labels (below c.args.limit) (drop c.args.from (words c.args.tokens.now))) c.in_ok-labels.field-0 c.in-Some.found c.in-Some.is c.in_ok-labels.ensures) in grind (arith, f)

pub labelled_body-returns-in-None : goal.labelled_body-returns-in-None
labelled_body-returns-in-None t c = labelled_fails c.args.tokens.now c.args.from c.args.limit c.args.found c.requires.labels_read (stmt_none c.args.tokens.now c.args.found.next (below_statement c.args.limit (drop c.args.found.next (words c.args.tokens.now))) c.in_ok-statement.field-0 c.in-None.is c.in_ok-statement.ensures)

pub labelled_body-returns-in_ok-case_item-in-Some : goal.labelled_body-returns-in_ok-case_item-in-Some
labelled_body-returns-in_ok-case_item-in-Some t c = made_arm c.args.tokens.now c.args.from c.args.limit c.args.found c.in-Some.body c.in_ok-case_item-in-Some.field-0 c.in_ok-case_item-in-Some.ensures c.requires.labels_read (stmt_some c.args.tokens.now c.args.found.next (below_statement c.args.limit (drop c.args.found.next (words c.args.tokens.now))) c.in_ok-statement.field-0 c.in-Some.body c.in-Some.is c.in_ok-statement.ensures)

pub looped-returns-in-None : goal.looped-returns-in-None
looped-returns-in-None t c = loop_unheaded c.args.tokens.now c.args.from c.args.limit (no_head c.args.tokens.now (c.args.from + 1) (head (below c.args.limit) (drop (c.args.from + 1) (words c.args.tokens.now))) c.in_ok-head.field-0 c.in-None.is c.in_ok-head.ensures)

pub looped-turn-requires : goal.looped-turn-requires
looped-turn-requires t c = let f = (head_found c.args.tokens.now (c.args.from + 1) (head (below c.args.limit) (drop (c.args.from + 1) (words c.args.tokens.now))) c.in_ok-head.field-0 c.in-Some.found c.in-Some.is c.in_ok-head.ensures) in grind (arith, f)

pub turn-returns-in-None : goal.turn-returns-in-None
turn-returns-in-None t c = loop_open c.args.tokens.now c.args.from c.args.limit c.args.found c.requires.head_read (stmt_none c.args.tokens.now c.args.found.next (below_statement c.args.limit (drop c.args.found.next (words c.args.tokens.now))) c.in_ok-statement.field-0 c.in-None.is c.in_ok-statement.ensures)

pub turn-returns-in_ok-loop_over-in-Some : goal.turn-returns-in_ok-loop_over-in-Some
turn-returns-in_ok-loop_over-in-Some t c = made_loop c.args.tokens.now c.args.from c.args.limit c.args.found c.in-Some.body c.in_ok-loop_over-in-Some.field-0 c.in_ok-loop_over-in-Some.ensures c.requires.head_read (stmt_some c.args.tokens.now c.args.found.next (below_statement c.args.limit (drop c.args.found.next (words c.args.tokens.now))) c.in_ok-statement.field-0 c.in-Some.body c.in-Some.is c.in_ok-statement.ensures)

pub statement-returns-then-room-eq0 : goal.statement-returns-then-room-eq0
statement-returns-then-room-eq0 t c = no_room c.args.room (drop c.args.from (words c.args.tokens.now)) c.if-room-eq0.true

pub statement-overflow_add-next : goal.statement-overflow_add-next
statement-overflow_add-next t c = let h = mark_inside c.args.tokens.now c.args.from mark_semicolon (mark_stands _ c.is_mark.ensures c.if-is_mark.true) (omega arith) in omega arith

pub statement-returns-then-is_mark : goal.statement-returns-then-is_mark
statement-returns-then-is_mark t c = is_null c.args.room c.args.from c.args.tokens.now (let p : 0 < c.args.room = omega arith in p) (mark_stands _ c.is_mark.ensures c.if-is_mark.true)

pub statement-block-requires : goal.statement-block-requires
statement-block-requires t c = let h = keyword_inside c.args.tokens.now c.args.from keyword_begin (keyword_stands _ c.is_keyword.ensures c.if-is_keyword.true) (omega arith) in grind arith

pub statement-returns-then-is_keyword : goal.statement-returns-then-is_keyword
statement-returns-then-is_keyword t c = rw (is_block c.args.room c.args.from c.args.tokens.now (let p : 0 < c.args.room = omega arith in p) (mark_differs _ c.is_mark.ensures c.if-is_mark.false (lit< tt)) (keyword_stands _ c.is_keyword.ensures c.if-is_keyword.true)) c.block.ensures

pub statement-conditional-requires : goal.statement-conditional-requires
statement-conditional-requires t c = let h = keyword_inside c.args.tokens.now c.args.from keyword_if (keyword_stands _ c.is_keyword-else-is_keyword.ensures c.if-is_keyword-2.true) (omega arith) in grind arith

pub statement-returns-then-is_keyword-2 : goal.statement-returns-then-is_keyword-2
statement-returns-then-is_keyword-2 t c = rw (is_if c.args.room c.args.from c.args.tokens.now (let p : 0 < c.args.room = omega arith in p) (mark_differs _ c.is_mark.ensures c.if-is_mark.false (lit< tt)) (keyword_stands _ c.is_keyword-else-is_keyword.ensures c.if-is_keyword-2.true)) c.conditional.ensures

pub statement-looped-requires : goal.statement-looped-requires
statement-looped-requires t c = let h = keyword_inside c.args.tokens.now c.args.from keyword_for (keyword_stands _ c.is_keyword-else-is_keyword-2.ensures c.if-is_keyword-3.true) (omega arith) in grind arith

pub statement-returns-then-is_keyword-3 : goal.statement-returns-then-is_keyword-3
statement-returns-then-is_keyword-3 t c = rw (is_for c.args.room c.args.from c.args.tokens.now (let p : 0 < c.args.room = omega arith in p) (mark_differs _ c.is_mark.ensures c.if-is_mark.false (lit< tt)) (keyword_stands _ c.is_keyword-else-is_keyword-2.ensures c.if-is_keyword-3.true)) c.looped.ensures

pub statement-cases-requires : goal.statement-cases-requires
statement-cases-requires t c = let h = keyword_inside c.args.tokens.now c.args.from c.in-Some.kind.0 c.in-Some.ensures.stands (case_less c.in-Some.kind.0 c.in-Some.ensures.begins) in grind arith

pub statement-returns-in-Some : goal.statement-returns-in-Some
statement-returns-in-Some t c = rw (is_case_at c.args.room c.args.from c.args.tokens.now (let p : 0 < c.args.room = omega arith in p) (mark_differs _ c.is_mark.ensures c.if-is_mark.false (lit< tt)) (ap is_case c.in-Some.ensures.stands ∙ c.in-Some.ensures.begins)) (rw (← c.in-Some.ensures.stands) at c.cases.ensures)

pub statement-returns-in-None : goal.statement-returns-in-None
statement-returns-in-None t c = rw (is_assignment c.args.room c.args.from c.args.tokens.now (let p : 0 < c.args.room = omega arith in p) (mark_differs _ c.is_mark.ensures c.if-is_mark.false (lit< tt)) (keyword_differs _ c.is_keyword.ensures c.if-is_keyword.false (lit< tt)) (keyword_differs _ c.is_keyword-else-is_keyword.ensures c.if-is_keyword-2.false (lit< tt)) (keyword_differs _ c.is_keyword-else-is_keyword-2.ensures c.if-is_keyword-3.false (lit< tt)) c.in-None.ensures) c.assignment.ensures

pub statements-loop-from-init : goal.statements-loop-from-init
statements-loop-from-init t c = bodied_start c.args.tokens.now c.args.from c.args.limit c.args.body.now.items c.requires.inside c.requires.empty

pub statements-returns-in-None : goal.statements-returns-in-None
statements-returns-in-None t c = bodied_fail c.args.tokens.now c.args.from c.args.limit (body (below_statement c.args.limit) (suc (length (drop c.args.from (words c.args.tokens.now)))) Done (drop c.args.from (words c.args.tokens.now))) c.loop-from.body.items c.loop-from.next c.loop-from.invariant (keyword_differs _ c.is_keyword.ensures c.loop-from-test.true (lit< tt)) (stmt_none c.args.tokens.now c.loop-from.next (below_statement c.args.limit (drop c.loop-from.next (words c.args.tokens.now))) c.in_ok-statement.field-0 c.in-None.is c.in_ok-statement.ensures)

pub statements-loop-from-smaller : goal.statements-loop-from-smaller
statements-loop-from-smaller t c = let f = (stmt_some c.args.tokens.now c.loop-from.next (below_statement c.args.limit (drop c.loop-from.next (words c.args.tokens.now))) c.in_ok-statement.field-0 c.in-Some.piece c.in-Some.is c.in_ok-statement.ensures) in omega (arith, f.taken, f.within, spell_statement-some (plain_statement c.in-Some.piece.stmt))

pub statements-loop-from-preserved : goal.statements-loop-from-preserved
statements-loop-from-preserved t c = bodied_more c.args.tokens.now c.args.from c.args.limit (body (below_statement c.args.limit) (suc (length (drop c.args.from (words c.args.tokens.now)))) Done (drop c.args.from (words c.args.tokens.now))) c.loop-from.body.items c.add.new.items.items c.loop-from.next c.in-Some.piece c.loop-from.invariant (keyword_differs _ c.is_keyword.ensures c.loop-from-test.true (lit< tt)) (stmt_some c.args.tokens.now c.loop-from.next (below_statement c.args.limit (drop c.loop-from.next (words c.args.tokens.now))) c.in_ok-statement.field-0 c.in-Some.piece c.in-Some.is c.in_ok-statement.ensures) c.in_ok-add-in-Some.ensures

pub statements-overflow_add-result : goal.statements-overflow_add-result
statements-overflow_add-result t c = let h = keyword_inside c.args.tokens.now c.loop-from.next keyword_end (keyword_stands _ c.is_keyword.ensures c.loop-from-test.false) (omega arith) in omega arith

pub statements-returns : goal.statements-returns
statements-returns t c = bodied_end c.args.tokens.now c.args.from c.args.limit (body (below_statement c.args.limit) (suc (length (drop c.args.from (words c.args.tokens.now)))) Done (drop c.args.from (words c.args.tokens.now))) c.loop-from.body.items c.loop-from.next c.loop-from.invariant (keyword_stands _ c.is_keyword.ensures c.loop-from-test.false)
