use Rattle.std.proofs.Common.{arith}
use Rattle.rr_parse.proofs.Founds.{word_here}
use Rattle.rr_parse.proofs.MadeLeaves.{first_there, no_choice, second_there}
use Rattle.rr_parse_stmt.proofs.Answered.{keyword_inside}
use Rattle.rr_parse_stmt.proofs.FrontWords.{keyword_differs, keyword_stands}
use Rattle.rr_parse.proofs.tokens.choice.Goals as goal

pub overflow_add-result : goal.overflow_add-result
overflow_add-result c = let h = keyword_inside c.args.tokens.now c.args.from c.args.first.0 (keyword_stands _ c.is_keyword.ensures c.if-is_keyword.true) c.requires.first_word in omega arith

pub returns-then-is_keyword : goal.returns-then-is_keyword
returns-then-is_keyword c = first_there (word_here c.args.tokens.now c.args.from c.args.first.0 (keyword_stands _ c.is_keyword.ensures c.if-is_keyword.true) c.requires.first_word)

pub overflow_add-result-then-is_keyword-2 : goal.overflow_add-result-then-is_keyword-2
overflow_add-result-then-is_keyword-2 c = let h = keyword_inside c.args.tokens.now c.args.from c.args.second.0 (keyword_stands _ c.is_keyword-else-is_keyword.ensures c.if-is_keyword-2.true) c.requires.second_word in omega arith

pub returns-then-is_keyword-2 : goal.returns-then-is_keyword-2
returns-then-is_keyword-2 c = second_there (keyword_differs _ c.is_keyword.ensures c.if-is_keyword.false c.requires.first_word) (word_here c.args.tokens.now c.args.from c.args.second.0 (keyword_stands _ c.is_keyword-else-is_keyword.ensures c.if-is_keyword-2.true) c.requires.second_word)

pub returns-else-is_keyword-2 : goal.returns-else-is_keyword-2
returns-else-is_keyword-2 c = no_choice (keyword_differs _ c.is_keyword.ensures c.if-is_keyword.false c.requires.first_word) (keyword_differs _ c.is_keyword-else-is_keyword.ensures c.if-is_keyword-2.false c.requires.second_word)
