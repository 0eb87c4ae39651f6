-- parts from the last one on
use Rattle.std.proofs.Common.{◌≡◌, ◌∙◌, sym, ap, subst, refl, ℕ, zero, suc, ◌+◌, ◌-◌, ◌<◌, ◌≤◌, false, List, [], ◌∷◌, length, get_or, drop, Option, None, Some, arith}
use Rattle.std.proofs.lemmas.List.{drop_all, drop_more}
use Rattle.std.specs.Prelude.{IfSome}
use denote.Ref.{Bor}
use Rattle.rr_syntax.specs.Tree.{Tree, Concat}
use Rattle.rr_syntax.specs.declared.tree.Expr.TheVariants as expr
use Rattle.rr_syntax.proofs.Rows.{plain_concat}
use Rattle.rr_syntax.specs.declared.tree.Expr.{Expr}
use Rattle.rr_syntax.specs.View.{plain, plain_list}
use Rattle.rr_expr.specs.declared.types.ExprFault.{ExprFault}
use Rattle.rr_expr.specs.Scopes.{Names}
use Rattle.rr_expr.specs.Values.{form, widths}
use Rattle.rr_expr.specs.Faults.{fault, faults, first_part as first_of, or_else, width_fault}
use Rattle.rr_wiring.specs.Parts.{BeginsAt, first_part, later_part, PartAt, inside}

pub none_parts : (f g : Option ExprFault) → or_else f g ≡ None → (f ≡ None) × (g ≡ None)
none_parts None g h = (refl, h)
none_parts (Some f) g h = cc

pub fault_of : (s : Names) (es : List Expr) (i : ℕ) (e : Expr) → faults s (plain_list es) false ≡ None → i < length es → e ≡ get_or es i e → fault s (plain e) false ≡ None
unfolding plain_list fault
fault_of s [] i e h l x = absurd (omega arith)
fault_of s (y ∷ es) zero e h l x = rw x (none_parts (fault s (plain y) false) (faults s (plain_list es) false) h).0
fault_of s (y ∷ es) (suc i) e h l x = fault_of s es i e (none_parts (fault s (plain y) false) (faults s (plain_list es) false) h).1 (omega arith) x

pub begins_of : (s : Names) (es : List Expr) (i : ℕ) (e : Expr) → i < length es → e ≡ get_or es i e → BeginsAt s (plain e) (plain_list es) (widths s (plain_list (drop (i + 1) es)))
unfolding plain_list
begins_of s [] i e l x = absurd (omega arith)
begins_of s (y ∷ es) zero e l x = rw x (first_part refl)
begins_of s (y ∷ es) (suc i) e l x = let n : suc i + 1 ≡ suc (i + 1) = omega arith in rw n (later_part (begins_of s es i e (omega arith) x))

-- the bits of the parts from one on
pub widths_of : (s : Names) (es : List Expr) (i : ℕ) (e : Expr) → i < length es → e ≡ get_or es i e → widths s (plain_list (drop i es)) ≡ (form s (plain e)).width + widths s (plain_list (drop (i + 1) es))
unfolding plain_list form
widths_of s es i e l x = rw (drop_more es i e l, ← x) refl

pub widths_end : (s : Names) (es : List Expr) (i : ℕ) → length es ≤ i → widths s (plain_list (drop i es)) ≡ 0
unfolding plain_list form
widths_end s es i l = rw (drop_all i es l) refl

-- a concatenation of the arena
pub joined_is : (e : Expr) (ts : Bor (List Expr)) → e ≡ expr.Concat ts → plain e ≡ Concat (plain_list ts.now)
joined_is e ts q = ap plain q ∙ plain_concat ts

pub joined_faults : (s : Names) (e : Expr) (ts : Bor (List Expr)) → e ≡ expr.Concat ts → fault s (plain e) false ≡ None → faults s (plain_list ts.now) false ≡ None
unfolding fault
joined_faults s e ts q h = (none_parts (faults s (plain_list ts.now) false) (width_fault (first_of (plain_list ts.now) - 1) (widths s (plain_list ts.now))) (subst (λ (t : Tree). fault s t false ≡ None) (joined_is e ts q) h)).0

pub mapped : {A : Type 0} (o : Option A) (P Q : A → Type 0) → ((a : A) → P a → Q a) → IfSome o P → IfSome o Q
mapped None P Q f h = tt
mapped (Some a) P Q f h = f a h

-- the part of a concatenation
pub found : (s : Names) (es : List Expr) (i j rest place w : ℕ) (e : Expr) (u : Tree) (at : ℕ) → i < length es → e ≡ get_or es i e → j ≡ i + 1 → w ≡ (form s (plain e)).width → rest < w →
    widths s (plain_list (drop j es)) + rest ≡ place → PartAt s u at (plain e) rest → PartAt s u at (Concat (plain_list es)) place
found s es i j rest place w e u at l x n v b q p =
    inside {low = widths s (plain_list (drop j es))} {rest = rest} (subst (λ (k : ℕ). BeginsAt s (plain e) (plain_list es) (widths s (plain_list (drop k es)))) (sym n) (begins_of s es i e l x)) (omega (arith, v, b)) (sym q) p
