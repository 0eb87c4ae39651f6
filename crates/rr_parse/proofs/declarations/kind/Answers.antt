use Rattle.std.proofs.Common.{lit<, Err, arith, rules, ◌≡◌}
use Rattle.rr_grammar.specs.Declarations.{kind}
use Rattle.rr_parse.proofs.Founds.{passes, word_here}
use Rattle.rr_parse.proofs.MadeDeclarations.{made_integer, made_kind, none_kind}
use Rattle.rr_parse_stmt.proofs.Answered.{keyword_inside}
use Rattle.rr_syntax.specs.Words.{keyword_integer}
use Rattle.rr_parse_stmt.proofs.FrontWords.{keyword_differs, keyword_stands}
use Rattle.rr_parse.proofs.declarations.kind.Goals as goal

pub overflow_add-result : goal.overflow_add-result
overflow_add-result c = let h = keyword_inside c.args.input.tokens.now c.args.from keyword_integer (keyword_stands _ c.is_keyword.ensures c.if-is_keyword.true) (omega arith) in omega arith

pub returns-then-is_keyword : goal.returns-then-is_keyword
returns-then-is_keyword c = made_integer c.args.depth c.args.input.tokens.now c.args.from (word_here c.args.input.tokens.now c.args.from keyword_integer (keyword_stands _ c.is_keyword.ensures c.if-is_keyword.true) (omega arith))

pub returns-in_err-typed : goal.returns-in_err-typed
returns-in_err-typed c =
    let q : c.from_residual.result ≡ Err c.in_err-typed.field-0.0 = search rules in
    rw q (passes (kind c.args.depth) _ c.args.input.tokens.now c.args.from _ c.in_err-typed.field-0.0 (λ n. record { none_is = (none_kind c.args.depth c.args.input.tokens.now c.args.from (keyword_differs _ c.is_keyword.ensures c.if-is_keyword.false (lit< tt)) n).none_is }) c.in_err-typed.ensures)

pub returns : goal.returns
returns c = made_kind c.args.input.tokens.now c.args.from c.in_ok-typed.typed.value (keyword_differs _ c.is_keyword.ensures c.if-is_keyword.false (lit< tt)) c.in_ok-typed.ensures
