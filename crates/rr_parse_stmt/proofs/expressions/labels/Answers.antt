use Rattle.std.proofs.Common.{lit<, drop, arith}
use Rattle.rr_syntax.specs.Words.{words, mark_colon}
use Rattle.rr_parse_expr.specs.Reading.{below}
use Rattle.rr_parse_expr.proofs.Answered.{mark_inside}
use Rattle.rr_parse_expr.proofs.FrontMarks.{mark_differs, mark_stands}
use Rattle.rr_parse_stmt.specs.Reading.{labels}
use Rattle.rr_parse_stmt.proofs.FromExpressions.{syntax_memory}
use Rattle.rr_parse_stmt.proofs.Labels.{fails_labels}
use Rattle.rr_parse_stmt.proofs.expressions.labels.Goals as goal

pub returns-then-not-is_mark : goal.returns-then-not-is_mark
returns-then-not-is_mark c = c.in-Ok.ensures.unclosed (mark_differs _ c.is_mark.ensures c.if-not-is_mark.true (lit< tt))

pub overflow_add-result : goal.overflow_add-result
overflow_add-result c = let h = mark_inside c.args.tokens.now c.in-Ok.found.next mark_colon (mark_stands _ c.is_mark.ensures c.if-not-is_mark.false) (omega arith) in omega arith

pub returns-else-not-is_mark : goal.returns-else-not-is_mark
returns-else-not-is_mark c = c.in-Ok.ensures.closed (mark_stands _ c.is_mark.ensures c.if-not-is_mark.false)

pub returns-in-Err-Syntax : goal.returns-in-Err-Syntax
returns-in-Err-Syntax c =
    fails_labels c.args.tokens.now c.args.from (labels (below c.args.room) (drop c.args.from (words c.args.tokens.now))) c.in-Err-Syntax.field-0
    (λ e. syntax_memory c.in-Err-Syntax.field-0 c.in-Err-Syntax.field-0-0 c.in-Err-Syntax.field-0-is e) c.in-Err-Syntax.ensures
