use Rattle.std.proofs.Common.{lit<, arith}
use Rattle.rr_parse.proofs.MadeDeclarations.{made_input, made_output, no_direction}
use Rattle.rr_parse_stmt.proofs.Answered.{keyword_inside}
use Rattle.rr_syntax.specs.Words.{keyword_input, keyword_output}
use Rattle.rr_parse_stmt.proofs.FrontWords.{keyword_differs, keyword_stands}
use Rattle.rr_parse.proofs.ports.direction.Goals as goal

pub overflow_add-from : goal.overflow_add-from
overflow_add-from c = let h = keyword_inside c.args.tokens.now c.args.from keyword_input (keyword_stands _ c.is_keyword.ensures c.if-is_keyword.true) (omega arith) in omega arith

pub behind_input-requires-clause-inside : goal.behind_input-requires-clause-inside
behind_input-requires-clause-inside c = let h = keyword_inside c.args.tokens.now c.args.from keyword_input (keyword_stands _ c.is_keyword.ensures c.if-is_keyword.true) (omega arith) in omega arith

pub returns-then-is_keyword : goal.returns-then-is_keyword
returns-then-is_keyword c = made_input c.args.tokens.now c.args.from c.behind_input.result (keyword_stands _ c.is_keyword.ensures c.if-is_keyword.true) c.behind_input.ensures

pub overflow_add-from-then-is_keyword-2 : goal.overflow_add-from-then-is_keyword-2
overflow_add-from-then-is_keyword-2 c = let h = keyword_inside c.args.tokens.now c.args.from keyword_output (keyword_stands _ c.is_keyword-else-is_keyword.ensures c.if-is_keyword-2.true) (omega arith) in omega arith

pub behind_output-requires-clause-inside : goal.behind_output-requires-clause-inside
behind_output-requires-clause-inside c = let h = keyword_inside c.args.tokens.now c.args.from keyword_output (keyword_stands _ c.is_keyword-else-is_keyword.ensures c.if-is_keyword-2.true) (omega arith) in omega arith

pub returns-then-is_keyword-2 : goal.returns-then-is_keyword-2
returns-then-is_keyword-2 c = made_output c.args.tokens.now c.args.from c.behind_output.result (keyword_differs _ c.is_keyword.ensures c.if-is_keyword.false (lit< tt)) (keyword_stands _ c.is_keyword-else-is_keyword.ensures c.if-is_keyword-2.true) c.behind_output.ensures

pub returns-else-is_keyword-2 : goal.returns-else-is_keyword-2
returns-else-is_keyword-2 c = no_direction c.args.tokens.now c.args.from (keyword_differs _ c.is_keyword.ensures c.if-is_keyword.false (lit< tt)) (keyword_differs _ c.is_keyword-else-is_keyword.ensures c.if-is_keyword-2.false (lit< tt))
