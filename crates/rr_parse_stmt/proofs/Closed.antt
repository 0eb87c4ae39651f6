-- What the reading function finds where an expression stands with a mark behind it, and where none does.
use Rattle.std.proofs.Common.{◌≡◌, ℕ, ◌<◌, inl, inr, List, drop, refl, ap, ◌∙◌, sym, Some, None}
use Rattle.rr_syntax.specs.declared.token.Token.{Token}
use Rattle.rr_syntax.specs.declared.token.Mark.{Mark}
use Rattle.rr_syntax.specs.declared.tree.Expr.{Expr}
use Rattle.rr_syntax.specs.Words.{Word, words}
use Rattle.rr_syntax.specs.Tree.{bare}
use Rattle.rr_syntax.specs.View.{plain}
use Rattle.rr_parse_expr.specs.Reading.{Reader, reads, closed, mark, no_mark}
use Rattle.rr_parse_expr.specs.Exact.{IsExpression, IsClosed, NoClosed, FailsClosed}
use Rattle.rr_parse_expr.specs.declared.expression.ParseFault.{ParseFault}
use Rattle.rr_parse_expr.specs.declared.expression.ParseFault.TheVariants.{Unsupported, Syntax, Memory}
use Rattle.rr_parse_expr.proofs.Answered.{not_equal, rest_drop}
use Rattle.rr_parse_expr.proofs.Exactly.{expressions_read}
use Rattle.rr_parse_expr.proofs.FrontMarks.{mark_found, mark_is}
use Rattle.rr_parse_expr.proofs.Steps.{closed-some, closed-none, closed-other}
use Rattle.rr_parse_stmt.proofs.FromExpressions.{expressions_well, longest_read, none_read}

pub closed_by : (e : Reader) (limit : ℕ) (T : List Token) (from : ℕ) (m : Mark) (x : Expr) (next : ℕ) → e 1 (drop from (words T)) ≡ reads limit 1 (drop from (words T)) → IsClosed m limit T from x next →
    closed e m.0 (drop from (words T)) ≡ Some (bare (plain x), drop next (words T))
closed_by e limit T from m x next q h =
    closed-some e m.0 (drop from (words T)) (bare (plain x), drop h.end (words T)) (q ∙ longest_read IsExpression 1 expressions_read expressions_well limit T from x h.end h.expression) (mark_found (drop h.end (words T)) (sym h.closes)) ∙
    ap (λ (us : List Word). Some (bare (plain x), us)) (rest_drop (words T) h.end ∙ ap (λ (i : ℕ). drop i (words T)) (sym h.behind))

pub no_closed_by : (e : Reader) (limit : ℕ) (T : List Token) (from : ℕ) (m : Mark) → m.0 < no_mark → e 1 (drop from (words T)) ≡ reads limit 1 (drop from (words T)) → NoClosed m limit T from → closed e m.0 (drop from (words T)) ≡ None
no_closed_by e limit T from m l q (inl n) = closed-none e m.0 (drop from (words T)) (q ∙ none_read IsExpression 1 expressions_read limit T from n)
no_closed_by e limit T from m l q (inr (x, end, h, n)) =
    closed-other e m.0 (drop from (words T)) (bare (plain x), drop end (words T)) (q ∙ longest_read IsExpression 1 expressions_read expressions_well limit T from x end h)
    (not_equal (mark (drop end (words T))) m.0 (λ k. n (mark_is (drop end (words T)) m k l)))

-- a fault that is no want of memory says that none stands there
pub fails_closed : (m : Mark) (limit : ℕ) (T : List Token) (from : ℕ) (f : ParseFault) → (f ≡ Memory → ⊥) → FailsClosed m limit T from f → NoClosed m limit T from
fails_closed m limit T from (Unsupported at) h k = absurd k
fails_closed m limit T from (Syntax at) h k = k.1
fails_closed m limit T from Memory h k = absurd (h refl)
