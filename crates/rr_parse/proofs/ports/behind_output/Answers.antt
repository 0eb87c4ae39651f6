use Rattle.std.proofs.Common.{lit<, arith}
use Rattle.rr_parse.proofs.Founds.{word_here}
use Rattle.rr_parse.proofs.MadeDeclarations.{output_alone, output_reg, output_wire}
use Rattle.rr_parse_stmt.proofs.Answered.{keyword_inside}
use Rattle.rr_syntax.specs.Words.{keyword_reg, keyword_wire}
use Rattle.rr_parse_stmt.proofs.FrontWords.{keyword_differs, keyword_stands}
use Rattle.rr_parse.proofs.ports.behind_output.Goals as goal

pub overflow_add-result : goal.overflow_add-result
overflow_add-result c = let h = keyword_inside c.args.tokens.now c.args.from keyword_wire (keyword_stands _ c.is_keyword.ensures c.if-is_keyword.true) (omega arith) in omega arith

pub returns-then-is_keyword : goal.returns-then-is_keyword
returns-then-is_keyword c = output_wire c.args.tokens.now c.args.from (word_here c.args.tokens.now c.args.from keyword_wire (keyword_stands _ c.is_keyword.ensures c.if-is_keyword.true) (omega arith))

pub overflow_add-result-then-is_keyword-2 : goal.overflow_add-result-then-is_keyword-2
overflow_add-result-then-is_keyword-2 c = let h = keyword_inside c.args.tokens.now c.args.from keyword_reg (keyword_stands _ c.is_keyword-else-is_keyword.ensures c.if-is_keyword-2.true) (omega arith) in omega arith

pub returns-then-is_keyword-2 : goal.returns-then-is_keyword-2
returns-then-is_keyword-2 c = output_reg c.args.tokens.now c.args.from (keyword_differs _ c.is_keyword.ensures c.if-is_keyword.false (lit< tt)) (word_here c.args.tokens.now c.args.from keyword_reg (keyword_stands _ c.is_keyword-else-is_keyword.ensures c.if-is_keyword-2.true) (omega arith))

pub returns-else-is_keyword-2 : goal.returns-else-is_keyword-2
returns-else-is_keyword-2 c = output_alone c.args.tokens.now c.args.from c.requires.inside (keyword_differs _ c.is_keyword.ensures c.if-is_keyword.false (lit< tt)) (keyword_differs _ c.is_keyword-else-is_keyword.ensures c.if-is_keyword-2.false (lit< tt))
