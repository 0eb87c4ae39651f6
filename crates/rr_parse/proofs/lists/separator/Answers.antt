use Rattle.std.proofs.Common.{lit<, arith}
use Rattle.rr_parse.proofs.ListsRead.{comma_there, no_separator, or_there}
use Rattle.rr_parse_expr.proofs.Answered.{mark_inside}
use Rattle.rr_parse_stmt.proofs.Answered.{keyword_inside}
use Rattle.rr_syntax.specs.Words.{keyword_or, mark_comma}
use Rattle.rr_parse_expr.proofs.FrontMarks.{mark_differs, mark_stands}
use Rattle.rr_parse_stmt.proofs.FrontWords.{keyword_differs, keyword_stands}
use Rattle.rr_parse.proofs.lists.separator.Goals as goal

pub overflow_add-result : goal.overflow_add-result
overflow_add-result c = let h = mark_inside c.args.tokens.now c.args.from mark_comma (mark_stands _ c.is_mark.ensures c.if-is_mark.true) (omega arith) in omega arith

pub returns-then-is_mark : goal.returns-then-is_mark
returns-then-is_mark c = comma_there c.args.tokens.now c.args.from (mark_stands _ c.is_mark.ensures c.if-is_mark.true)

pub overflow_add-result-then-is_keyword : goal.overflow_add-result-then-is_keyword
overflow_add-result-then-is_keyword c = let h = keyword_inside c.args.tokens.now c.args.from keyword_or (keyword_stands _ c.is_keyword.ensures c.if-is_keyword.true) (omega arith) in omega arith

pub returns-then-is_keyword : goal.returns-then-is_keyword
returns-then-is_keyword c = or_there c.args.tokens.now c.args.from (mark_differs _ c.is_mark.ensures c.if-is_mark.false (lit< tt)) (keyword_stands _ c.is_keyword.ensures c.if-is_keyword.true)

pub returns-else-is_keyword : goal.returns-else-is_keyword
returns-else-is_keyword c = no_separator c.args.tokens.now c.args.from (mark_differs _ c.is_mark.ensures c.if-is_mark.false (lit< tt)) (keyword_differs _ c.is_keyword.ensures c.if-is_keyword.false (lit< tt))
