use Rattle.std.proofs.Common.{lit<, arith}
use Rattle.rr_parse.proofs.Founds.{word_here}
use Rattle.rr_parse.proofs.MadeDeclarations.{input_alone, input_wire}
use Rattle.rr_parse_stmt.proofs.Answered.{keyword_inside}
use Rattle.rr_syntax.specs.Words.{keyword_wire}
use Rattle.rr_parse_stmt.proofs.FrontWords.{keyword_differs, keyword_stands}
use Rattle.rr_parse.proofs.ports.behind_input.Goals as goal

pub overflow_add-result : goal.overflow_add-result
overflow_add-result c = let h = keyword_inside c.args.tokens.now c.args.from keyword_wire (keyword_stands _ c.is_keyword.ensures c.if-is_keyword.true) (omega arith) in omega arith

pub returns-then-is_keyword : goal.returns-then-is_keyword
returns-then-is_keyword c = input_wire c.args.tokens.now c.args.from (word_here c.args.tokens.now c.args.from keyword_wire (keyword_stands _ c.is_keyword.ensures c.if-is_keyword.true) (omega arith))

pub returns-else-is_keyword : goal.returns-else-is_keyword
returns-else-is_keyword c = input_alone c.args.tokens.now c.args.from c.requires.inside (keyword_differs _ c.is_keyword.ensures c.if-is_keyword.false (lit< tt))
