use Rattle.std.proofs.Common.{arith}
use Rattle.rr_parse.proofs.Founds.{mark_here}
use Rattle.rr_parse_expr.proofs.Answered.{mark_inside}
use Rattle.rr_parse_expr.proofs.FrontMarks.{mark_differs, mark_stands}
use Rattle.rr_parse.proofs.tokens.mark.Goals as goal

pub overflow_add-result : goal.overflow_add-result
overflow_add-result c = let h = mark_inside c.args.tokens.now c.args.at c.args.mark.0 (mark_stands _ c.is_mark.ensures c.if-is_mark.true) c.requires.is_mark in omega arith

pub returns-then-is_mark : goal.returns-then-is_mark
returns-then-is_mark c = mark_here c.args.tokens.now c.args.at c.args.mark.0 (mark_stands _ c.is_mark.ensures c.if-is_mark.true) c.requires.is_mark

pub returns-else-is_mark : goal.returns-else-is_mark
returns-else-is_mark c = (mark_differs _ c.is_mark.ensures c.if-is_mark.false c.requires.is_mark)
