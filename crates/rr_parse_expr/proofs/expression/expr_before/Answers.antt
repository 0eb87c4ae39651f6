use Rattle.std.proofs.Common.{◌≡◌, ℕ, List, Err, Some, drop, refl, inl, inr, rules, arith}
use Rattle.rr_syntax.specs.declared.token.Mark.{Mark}
use Rattle.rr_syntax.specs.declared.token.Token.{Token}
use Rattle.rr_syntax.specs.declared.tree.Expr.{Expr}
use Rattle.rr_syntax.specs.Words.{words}
use Rattle.rr_parse_expr.specs.declared.expression.ParseFault.{ParseFault}
use Rattle.rr_parse_expr.specs.declared.expression.ParseFault.TheVariants.{Unsupported, Syntax, Memory}
use Rattle.rr_parse_expr.specs.Exact.{IsExpression, IsLongest, Fails, FailsClosed}
use Rattle.rr_parse_expr.specs.Fronts.{front_mark}
use Rattle.rr_parse_expr.proofs.FrontMarks.{front_inside}
use Rattle.rr_parse_expr.proofs.expression.expr_before.Goals as goal

no_expression : (m : Mark) (limit : ℕ) (T : List Token) (from : ℕ) (f : ParseFault) → Fails IsExpression limit T from f → FailsClosed m limit T from f
no_expression m limit T from (Syntax at) h = (h.0, inl h.1)
no_expression m limit T from (Unsupported at) h = h
no_expression m limit T from Memory h = h

not_closed : {m : Mark} {limit : ℕ} {T : List Token} {from : ℕ} {e : Expr} {end : ℕ} → IsLongest IsExpression limit T from e end → (front_mark (drop end (words T)) ≡ Some m → ⊥) → FailsClosed m limit T from (Syntax from)
not_closed {m} {limit} {T} {from} {e} {end} h n = (refl, inr (e, end, h, n))

pub returns-in_err-value : goal.returns-in_err-value
returns-in_err-value c =
    let q : c.from_residual.result ≡ Err c.in_err-value.field-0.0 = search rules in
    rw q (no_expression c.args.closing c.args.depth c.args.tokens.now c.args.from c.in_err-value.field-0.0 c.in_err-value.ensures)

pub overflow_add-result : goal.overflow_add-result
overflow_add-result c = let h = front_inside c.args.tokens.now c.in_ok-value.end c.args.closing (c.is_mark.ensures.0 c.if-is_mark.true) in omega arith

pub returns-then-is_mark : goal.returns-then-is_mark
returns-then-is_mark c =
    let m = c.is_mark.ensures.0 c.if-is_mark.true in
    let h = front_inside c.args.tokens.now c.in_ok-value.end c.args.closing m in
    record { end = c.in_ok-value.end; expression = c.in_ok-value.ensures; closes = m; behind = refl; within = omega arith }

pub returns-else-is_mark : goal.returns-else-is_mark
returns-else-is_mark c = not_closed c.in_ok-value.ensures (λ e. let t = c.is_mark.ensures.1 e in cc (t, c.if-is_mark.false))
