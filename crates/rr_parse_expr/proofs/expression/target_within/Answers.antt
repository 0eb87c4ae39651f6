use Rattle.std.proofs.Common.{◌≡◌, ℕ, List, Err, refl, sym, ◌∙◌, inl, inr, false, rules}
use Rattle.rr_syntax.specs.declared.token.Token.{Token}
use Rattle.rr_syntax.specs.declared.tree.Expr.{Expr}
use Rattle.rr_parse_expr.specs.declared.expression.ParseFault.{ParseFault}
use Rattle.rr_parse_expr.specs.declared.expression.ParseFault.TheVariants.{Unsupported, Syntax, Memory}
use Rattle.rr_parse_expr.specs.Exact.{IsOperand, IsLongestOperand, Fails, FailsTarget}
use Rattle.rr_parse_expr.proofs.expression.target_within.Goals as goal

no_operand : (limit : ℕ) (T : List Token) (from : ℕ) (f : ParseFault) → Fails IsOperand limit T from f → FailsTarget limit T from f
no_operand limit T from (Syntax at) h = (h.0, inl h.1)
no_operand limit T from (Unsupported at) h = h
no_operand limit T from Memory h = h

no_target : {limit : ℕ} {T : List Token} {from : ℕ} {e : Expr} {next : ℕ} → IsLongestOperand false limit T from e next → FailsTarget limit T from (Syntax from)
no_target {limit} {T} {from} {e} {next} h = (refl, inr (e, next, h))

pub returns-in_err-value : goal.returns-in_err-value
returns-in_err-value c =
    let q : c.from_residual.result ≡ Err c.in_err-value.field-0.0 = search rules in
    rw q (no_operand c.args.depth c.args.tokens.now c.args.from c.in_err-value.field-0.0 c.in_err-value.ensures)

pub returns-then-is_target : goal.returns-then-is_target
returns-then-is_target c = record { operand = c.in_ok-value.ensures; assigned = sym c.is_target.ensures ∙ c.if-is_target.true }

pub returns-else-is_target : goal.returns-else-is_target
returns-else-is_target c = no_target (record { operand = c.in_ok-value.ensures; assigned = sym c.is_target.ensures ∙ c.if-is_target.false })
