use Rattle.std.proofs.Common.{arith}
use Rattle.rr_parse.proofs.Founds.{word_here}
use Rattle.rr_parse_stmt.proofs.Answered.{keyword_inside}
use Rattle.rr_parse_stmt.proofs.FrontWords.{keyword_differs, keyword_stands}
use Rattle.rr_parse.proofs.tokens.word.Goals as goal

pub overflow_add-result : goal.overflow_add-result
overflow_add-result c = let h = keyword_inside c.args.tokens.now c.args.at c.args.word.0 (keyword_stands _ c.is_keyword.ensures c.if-is_keyword.true) c.requires.is_word in omega arith

pub returns-then-is_keyword : goal.returns-then-is_keyword
returns-then-is_keyword c = word_here c.args.tokens.now c.args.at c.args.word.0 (keyword_stands _ c.is_keyword.ensures c.if-is_keyword.true) c.requires.is_word

pub returns-else-is_keyword : goal.returns-else-is_keyword
returns-else-is_keyword c = (keyword_differs _ c.is_keyword.ensures c.if-is_keyword.false c.requires.is_word)
