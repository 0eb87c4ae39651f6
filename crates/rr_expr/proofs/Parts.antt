-- loops over parts
use Rattle.std.proofs.Common.{◌≡◌, ℕ, zero, suc, ◌+◌, ◌≤◌, ◌<◌, List, [], ◌∷◌, ◌++◌, Bool, true, length, get_or, take, drop, refl, sym, ◌∙◌, ap, arith, append_assoc, Option, None, Some}
use Rattle.std.proofs.lemmas.List.{append-nil, take_more, drop_more, drop_all}
use Rattle.std.proofs.lemmas.Bool.{and_parts}
use Rattle.rr_syntax.specs.declared.tree.Expr.{Expr}
use Rattle.rr_syntax.specs.View.{plain, plain_list}
use Rattle.rr_expr.specs.declared.types.Bit.{Bit}
use Rattle.rr_expr.specs.declared.types.ExprFault.{ExprFault}
use Rattle.rr_expr.specs.Scopes.{Names}
use Rattle.rr_expr.specs.Values.{form, widths, values, own}
use Rattle.rr_expr.specs.Faults.{fits, fit, fault, faults, or_else, first, first_part}

-- what a loop has so far
abbrev pub so_far : Option (List Bool) → List Bool
so_far None = []
so_far (Some xs) = xs

widths_last : (s : Names) (es : List Expr) (e : Expr) → widths s (plain_list (es ++ e ∷ [])) ≡ widths s (plain_list es) + (form s (plain e)).width
unfolding plain_list form
widths_last s [] e = omega arith
widths_last s (x ∷ es) e = let r = widths_last s es e in omega (arith, r)

values_last : (s : Names) (env : Bit → Bool) (es : List Expr) (e : Expr) → values s (plain_list (es ++ e ∷ [])) env ≡ own s (plain e) env ++ values s (plain_list es) env
unfolding plain_list form
values_last s env [] e = sym (append-nil _)
values_last s env (x ∷ es) e = ap (λ ys. ys ++ own s (plain x) env) (values_last s env es e) ∙ append_assoc (own s (plain e) env) (values s (plain_list es) env) (own s (plain x) env)

up_to : (es : List Expr) (i : ℕ) (e : Expr) → i < length es → e ≡ get_or es i e → take (i + 1) es ≡ take i es ++ e ∷ []
up_to es i e l x = take_more es i e l ∙ ap (λ (y : Expr). take i es ++ y ∷ []) (sym x)

pub widths_next : (s : Names) (es : List Expr) (i : ℕ) (e : Expr) → i < length es → e ≡ get_or es i e → widths s (plain_list (take (i + 1) es)) ≡ widths s (plain_list (take i es)) + (form s (plain e)).width
widths_next s es i e l x = ap (λ (ys : List Expr). widths s (plain_list ys)) (up_to es i e l x) ∙ widths_last s (take i es) e

pub values_next : (s : Names) (env : Bit → Bool) (es : List Expr) (i : ℕ) (e : Expr) → i < length es → e ≡ get_or es i e → values s (plain_list (take (i + 1) es)) env ≡ own s (plain e) env ++ values s (plain_list (take i es)) env
values_next s env es i e l x = ap (λ (ys : List Expr). values s (plain_list ys) env) (up_to es i e l x) ∙ values_last s env (take i es) e

pub widths_none : (s : Names) → 0 ≡ widths s (plain_list [])
unfolding plain_list form
widths_none s = refl

pub values_none : (s : Names) (env : Bit → Bool) → [] ≡ values s (plain_list []) env
unfolding plain_list form
values_none s env = refl

-- a part of fitting parts fits, and those up to it have no more bits than all
pub fit_at : (s : Names) (es : List Expr) (i : ℕ) (e : Expr) → fit s (plain_list es) ≡ true → i < length es → e ≡ get_or es i e → (fits s (plain e) ≡ true) × (widths s (plain_list (take i es)) + (form s (plain e)).width ≤ widths s (plain_list es))
unfolding fits plain_list form
fit_at s [] i e h l x = absurd (omega arith)
fit_at s (y ∷ es) zero e h l x = rw x ((and_parts _ _ h).0, omega arith)
fit_at s (y ∷ es) (suc i) e h l x = let r : (fits s (plain e) ≡ true) × (widths s (plain_list (take i es)) + (form s (plain e)).width ≤ widths s (plain_list es)) = fit_at s es i e (and_parts _ _ h).1 (omega arith) x in (r.0, omega (arith, r.1))

-- the faults of the parts from one on
pub faults_at : (s : Names) (constant : Bool) (es : List Expr) (i : ℕ) (e : Expr) → i < length es → e ≡ get_or es i e → faults s (plain_list (drop i es)) constant ≡ or_else (fault s (plain e) constant) (faults s (plain_list (drop (i + 1) es)) constant)
unfolding plain_list fault
faults_at s constant es i e l x = rw (drop_more es i e l, ← x) refl

pub faults_end : (s : Names) (constant : Bool) (es : List Expr) (i : ℕ) → length es ≤ i → faults s (plain_list (drop i es)) constant ≡ None
unfolding plain_list fault
faults_end s constant es i l = rw (drop_all i es l) refl

pub first_none : (es : List Expr) → length es ≡ 0 → 0 ≡ first_part (plain_list es)
unfolding plain_list first
first_none [] h = refl
first_none (e ∷ es) h = absurd (omega arith)

pub first_some : (es : List Expr) (e : Expr) → 1 ≤ length es → e ≡ get_or es 0 e → first (plain e) ≡ first_part (plain_list es)
unfolding plain_list first
first_some [] e h x = absurd (omega arith)
first_some (y ∷ es) e h x = ap (λ (z : Expr). first (plain z)) x

pub faults_here : (s : Names) (constant : Bool) (es : List Expr) (i : ℕ) (e : Expr) (f : ExprFault) → i < length es → e ≡ get_or es i e → fault s (plain e) constant ≡ Some f → faults s (plain_list (drop i es)) constant ≡ Some f
faults_here s constant es i e f l x h = faults_at s constant es i e l x ∙ rw h refl

pub faults_on : (s : Names) (constant : Bool) (es : List Expr) (i : ℕ) (e : Expr) → i < length es → e ≡ get_or es i e → fault s (plain e) constant ≡ None → faults s (plain_list (drop i es)) constant ≡ faults s (plain_list (drop (i + 1) es)) constant
faults_on s constant es i e l x h = faults_at s constant es i e l x ∙ rw h refl
