use Rattle.std.proofs.Common.{lit<, ◌+◌, arith, None, Some}
use Rattle.rr_syntax.specs.Words.{mark_colon}
use Rattle.rr_parse_expr.proofs.Answered.{mark_inside}
use Rattle.rr_parse_stmt.proofs.Names.{name_is}
use Rattle.rr_parse_stmt.proofs.Answered.{label_absent, label_there, label_missing}
use Rattle.rr_parse_expr.proofs.FrontMarks.{mark_differs, mark_stands}
use Rattle.rr_parse_stmt.proofs.reader.label.Goals as goal

pub returns-then-not-is_mark : goal.returns-then-not-is_mark
returns-then-not-is_mark c = label_absent c.args.tokens.now c.args.from c.requires.inside (mark_differs _ c.is_mark.ensures c.if-not-is_mark.true (lit< tt))

pub overflow_add-from : goal.overflow_add-from
overflow_add-from c = let h = mark_inside c.args.tokens.now c.args.from mark_colon (mark_stands _ c.is_mark.ensures c.if-not-is_mark.false) (omega arith) in omega arith

pub returns-in-None : goal.returns-in-None
returns-in-None c = label_missing c.args.tokens.now c.args.from (mark_stands _ c.is_mark.ensures c.if-not-is_mark.false) (name_is c.args.tokens.now (c.args.from + 1) None c.in-None.ensures)

pub returns-in-Some : goal.returns-in-Some
returns-in-Some c = label_there c.args.tokens.now c.args.from c.in-Some.name (mark_stands _ c.is_mark.ensures c.if-not-is_mark.false) (name_is c.args.tokens.now (c.args.from + 1) (Some c.in-Some.name) c.in-Some.ensures)
