use Rattle.std.proofs.Common.{lit<, ◌+◌, drop, arith}
use Rattle.rr_syntax.specs.Words.{words, mark_open_parenthesis, mark_semicolon}
use Rattle.rr_parse_expr.specs.Reading.{below}
use Rattle.rr_parse_expr.proofs.Answered.{mark_inside}
use Rattle.rr_parse_expr.proofs.FrontMarks.{mark_differs, mark_stands}
use Rattle.rr_parse_stmt.specs.Reading.{setting}
use Rattle.rr_parse_stmt.proofs.LoopHeads.{setting_found, no_setting, head_differs, head_unset}
use Rattle.rr_parse_stmt.proofs.heads.head.Goals as goal

pub returns-then-not-is_mark : goal.returns-then-not-is_mark
returns-then-not-is_mark c = head_differs c.args.tokens.now c.args.from c.args.room (mark_differs _ c.is_mark.ensures c.if-not-is_mark.true (lit< tt))

pub overflow_add-from : goal.overflow_add-from
overflow_add-from c = let h = mark_inside c.args.tokens.now c.args.from mark_open_parenthesis (mark_stands _ c.is_mark.ensures c.if-not-is_mark.false) (omega arith) in omega arith

pub returns-in-None : goal.returns-in-None
returns-in-None c = head_unset c.args.tokens.now c.args.from c.args.room (mark_stands _ c.is_mark.ensures c.if-not-is_mark.false) (no_setting c.args.tokens.now (c.args.from + 1) (setting (below c.args.room) mark_semicolon (drop (c.args.from + 1) (words c.args.tokens.now))) c.in_ok-setting.field-0 c.in-None.is c.in_ok-setting.ensures)

pub head_test-requires-clause-opened : goal.head_test-requires-clause-opened
head_test-requires-clause-opened c = mark_stands _ c.is_mark.ensures c.if-not-is_mark.false

pub head_test-requires-clause-start_read : goal.head_test-requires-clause-start_read
head_test-requires-clause-start_read c = setting_found c.args.tokens.now (c.args.from + 1) (setting (below c.args.room) mark_semicolon (drop (c.args.from + 1) (words c.args.tokens.now))) c.in_ok-setting.field-0 c.in-Some.start c.in-Some.is c.in_ok-setting.ensures
