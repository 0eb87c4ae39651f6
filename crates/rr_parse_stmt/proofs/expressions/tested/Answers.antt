use Rattle.std.proofs.Common.{lit<, ◌+◌, drop, arith}
use Rattle.rr_syntax.specs.Words.{words, mark_close_parenthesis, mark_open_parenthesis}
use Rattle.std.proofs.Common.{Option}
use Rattle.rr_parse_expr.specs.Reading.{below, closed}
use Rattle.rr_parse_expr.proofs.Answered.{mark_inside, if_ok_map}
use Rattle.rr_parse_stmt.specs.declared.expressions.Placed.{Placed}
use Rattle.rr_parse_stmt.specs.Reading.{tested}
use Rattle.rr_parse_stmt.specs.Answer.{AnswersTree}
use Rattle.rr_parse_stmt.proofs.Answered.{tested_is, tested_differs}
use Rattle.rr_parse_expr.proofs.FrontMarks.{mark_differs, mark_stands}
use Rattle.rr_parse_stmt.proofs.expressions.tested.Goals as goal

pub returns-then-not-is_mark : goal.returns-then-not-is_mark
returns-then-not-is_mark c = tested_differs c.args.tokens.now c.args.from c.args.room (mark_differs _ c.is_mark.ensures c.if-not-is_mark.true (lit< tt))

pub overflow_add-from : goal.overflow_add-from
overflow_add-from c = let h = mark_inside c.args.tokens.now c.args.from mark_open_parenthesis (mark_stands _ c.is_mark.ensures c.if-not-is_mark.false) (omega arith) in omega arith

pub returns : goal.returns
returns c = if_ok_map (λ (o : Option Placed). AnswersTree c.args.tokens.now (c.args.from + 1) 1 (closed (below c.args.room) mark_close_parenthesis (drop (c.args.from + 1) (words c.args.tokens.now))) o) (λ (o : Option Placed). AnswersTree c.args.tokens.now (c.args.from + 1) 1 (tested (below c.args.room) (drop c.args.from (words c.args.tokens.now))) o) c.closed.result (λ o h. tested_is c.args.tokens.now c.args.from c.args.room o (mark_stands _ c.is_mark.ensures c.if-not-is_mark.false) h) c.closed.ensures
