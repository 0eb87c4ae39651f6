use Rattle.std.proofs.Common.{lit<}
use Rattle.rr_parse_expr.proofs.Answered.{not_equal}
use Rattle.rr_parse_stmt.proofs.FrontWords.{keyword_differs, keyword_equals, keyword_stands}
use Rattle.rr_syntax.specs.Words.{keyword_posedge}
use Rattle.rr_parse.proofs.events.begins_edge.Goals as goal

pub returns-then-is_keyword : goal.returns-then-is_keyword
returns-then-is_keyword c = rw (keyword_stands _ c.is_keyword.ensures c.if-is_keyword.true) c.if-is_keyword.true

pub returns-else-is_keyword : goal.returns-else-is_keyword
returns-else-is_keyword c = rw (not_equal _ keyword_posedge (keyword_differs _ c.is_keyword.ensures c.if-is_keyword.false (lit< tt))) (keyword_equals _ c.is_keyword-else-is_keyword.ensures (lit< tt))
