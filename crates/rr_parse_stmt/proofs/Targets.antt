-- What the reading function of targets finds where a target stands, and where none does.
use Rattle.std.proofs.Common.{◌≡◌, ℕ, ◌⊎◌, inl, inr, List, drop, refl, ◌∙◌, true, Some, None}
use Rattle.rr_syntax.specs.declared.token.Token.{Token}
use Rattle.rr_syntax.specs.declared.tree.Expr.{Expr}
use Rattle.rr_syntax.specs.Words.{words}
use Rattle.rr_syntax.specs.Tree.{bare}
use Rattle.rr_syntax.specs.Expressions.{unary_level}
use Rattle.rr_syntax.specs.View.{plain}
use Rattle.rr_syntax.proofs.BareExpressions.{is_target-bare}
use Rattle.rr_parse_expr.specs.Reading.{Reader, reads}
use Rattle.rr_parse_expr.specs.Exact.{IsOperand, IsLongestOperand, NoTarget, FailsTarget}
use Rattle.rr_parse_expr.specs.declared.expression.ParseFault.{ParseFault}
use Rattle.rr_parse_expr.specs.declared.expression.ParseFault.TheVariants.{Unsupported, Syntax, Memory}
use Rattle.rr_parse_expr.proofs.Exactly.{operands_read}
use Rattle.rr_parse_stmt.specs.Reading.{target}
use Rattle.rr_parse_stmt.proofs.FromExpressions.{operands_well, longest_read, none_read}
use Rattle.rr_parse_stmt.proofs.Steps.{target-is, target-not, target-none}

pub target_by : (e : Reader) (limit : ℕ) (T : List Token) (from : ℕ) (x : Expr) (next : ℕ) → e unary_level (drop from (words T)) ≡ reads limit unary_level (drop from (words T)) → IsLongestOperand true limit T from x next →
    target e (drop from (words T)) ≡ Some (bare (plain x), drop next (words T))
target_by e limit T from x next q h =
    target-is e (drop from (words T)) (bare (plain x), drop next (words T)) (q ∙ longest_read IsOperand unary_level operands_read operands_well limit T from x next h.operand) (is_target-bare (plain x) ∙ h.assigned)

pub no_target_by : (e : Reader) (limit : ℕ) (T : List Token) (from : ℕ) → e unary_level (drop from (words T)) ≡ reads limit unary_level (drop from (words T)) → NoTarget limit T from → target e (drop from (words T)) ≡ None
no_target_by e limit T from q (inl n) = target-none e (drop from (words T)) (q ∙ none_read IsOperand unary_level operands_read limit T from n)
no_target_by e limit T from q (inr o) =
    target-not e (drop from (words T)) (bare (plain o.0), drop o.1 (words T)) (q ∙ longest_read IsOperand unary_level operands_read operands_well limit T from o.0 o.1 o.2.operand) (is_target-bare (plain o.0) ∙ o.2.assigned)

-- a fault that is no want of memory says that no target stands there
pub fails_target : (limit : ℕ) (T : List Token) (from : ℕ) (f : ParseFault) → (f ≡ Memory → ⊥) → FailsTarget limit T from f → NoTarget limit T from
fails_target limit T from (Unsupported at) h k = absurd k
fails_target limit T from (Syntax at) h k = k.1
fails_target limit T from Memory h k = absurd (h refl)
