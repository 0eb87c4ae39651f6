use Rattle.std.proofs.Common.{◌≡◌, ◌<◌, ◌-◌, ◌∙◌, ℕ, List, Err, drop, rules, arith}
use Rattle.rr_syntax.specs.declared.token.Token.{Token}
use Rattle.rr_syntax.specs.Words.{words}
use Rattle.rr_parse_expr.specs.declared.expression.ParseFault.{ParseFault}
use Rattle.rr_parse_expr.specs.declared.expression.ParseFault.TheVariants.{Unsupported, Syntax, Memory}
use Rattle.rr_parse_expr.specs.Exact.{IsExpression, Fails}
use Rattle.rr_parse_expr.specs.Reading.{below}
use Rattle.rr_parse_expr.proofs.Exactly.{expressions_read, below_zero, below_is}
use Rattle.rr_parse_stmt.specs.Answer.{AnswersEntry}
use Rattle.rr_parse_stmt.proofs.FromExpressions.{expressions_well, longest_read, none_read}
use Rattle.rr_parse_stmt.proofs.expressions.entry.Goals as goal

no_entry : (T : List Token) (from room : ℕ) → 0 < room → (f : ParseFault) → Fails IsExpression (room - 1) T from f → AnswersEntry T from (below room 1 (drop from (words T))) (Err f)
no_entry T from room p (Syntax at) h = below_is room 1 (drop from (words T)) p ∙ none_read IsExpression 1 expressions_read (room - 1) T from h.1
no_entry T from room p (Unsupported at) h = h
no_entry T from room p Memory h = h

pub returns-then-room-eq0 : goal.returns-then-room-eq0
returns-then-room-eq0 c = below_zero c.args.room 1 (drop c.args.from (words c.args.input.tokens.now)) c.if-room-eq0.true

pub returns-in_err-expr : goal.returns-in_err-expr
returns-in_err-expr c =
    let q : c.from_residual.result ≡ Err c.in_err-expr.field-0.0 = search rules in
    let p : 0 < c.args.room = omega arith in
    rw q (no_entry c.args.input.tokens.now c.args.from c.args.room p c.in_err-expr.field-0.0 c.in_err-expr.ensures)

pub returns : goal.returns
returns c =
    let p : 0 < c.args.room = omega arith in
    record {
      found_is = below_is c.args.room 1 (drop c.args.from (words c.args.input.tokens.now)) p ∙ longest_read IsExpression 1 expressions_read expressions_well (c.args.room - 1) c.args.input.tokens.now c.args.from c.in_ok-expr.expr.now c.in_ok-expr.next c.in_ok-expr.ensures;
      within = c.in_ok-expr.ensures.within;
      taken = omega (arith, c.in_ok-expr.ensures.taken);
      numbered = c.in_ok-expr.ensures.numbered;
    }
