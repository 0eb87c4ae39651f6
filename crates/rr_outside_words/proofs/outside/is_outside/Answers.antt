use Rattle.std.proofs.Common.{◌+◌, drop, ap, sym, ◌∙◌, not}
use Rattle.rr_syntax.specs.Words.{words}
use Rattle.rr_parse_expr.proofs.Answered.{not_equal}
use Rattle.rr_outside_words.proofs.Outsides.{opens_is, outside_kind, hash_before, no_hash}
use Rattle.rr_outside_words.proofs.outside.is_outside.Goals as goal

pub returns-in-Name : goal.returns-in-Name
returns-in-Name c = sym (outside_kind c.args.tokens.now c.args.at c.in-Some.token.now _ c.in-Some.ensures.lookup.3.0 c.in-Some.ensures.lookup.1 c.in-Name.is)

pub returns-in-Number : goal.returns-in-Number
returns-in-Number c = sym (outside_kind c.args.tokens.now c.args.at c.in-Some.token.now _ c.in-Some.ensures.lookup.3.0 c.in-Some.ensures.lookup.1 c.in-Number.is)

pub returns-in-System : goal.returns-in-System
returns-in-System c = ap not c.is_cast.ensures ∙ sym (outside_kind c.args.tokens.now c.args.at c.in-Some.token.now _ c.in-Some.ensures.lookup.3.0 c.in-Some.ensures.lookup.1 c.in-System.is)

pub returns-in-Keyword : goal.returns-in-Keyword
returns-in-Keyword c = ap not c.is_used.ensures ∙ sym (outside_kind c.args.tokens.now c.args.at c.in-Some.token.now _ c.in-Some.ensures.lookup.3.0 c.in-Some.ensures.lookup.1 c.in-Keyword.is)

pub returns-then-mark : goal.returns-then-mark
returns-then-mark c = ap not (opens_is _ c.is_mark.ensures) ∙ sym (outside_kind c.args.tokens.now c.args.at c.in-Some.token.now _ c.in-Some.ensures.lookup.3.0 c.in-Some.ensures.lookup.1 c.in-Mark.is ∙ hash_before c.in-Mark.mark.0 (drop (c.args.at + 1) (words c.args.tokens.now)) c.if-mark.true)

pub returns-else-mark : goal.returns-else-mark
returns-else-mark c = not_equal c.in-Mark.mark.0 10 c.if-mark.false ∙ sym (outside_kind c.args.tokens.now c.args.at c.in-Some.token.now _ c.in-Some.ensures.lookup.3.0 c.in-Some.ensures.lookup.1 c.in-Mark.is ∙ no_hash c.in-Mark.mark.0 (drop (c.args.at + 1) (words c.args.tokens.now)) c.if-mark.false)
