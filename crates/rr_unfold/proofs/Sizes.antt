-- The labels of an arm, counted as far as 64 bits hold.
use Rattle.std.proofs.Common.{◌≡◌, ℕ, min, Bool, true, false, cond, ◌+◌, ◌<◌, List, [], ◌∷◌, length, refl, arith, length-append}
use Rattle.rr_syntax.specs.declared.tree.Expr.{Expr}
use Rattle.rr_syntax.specs.Expressions.{spell_more}
use Rattle.rr_syntax.specs.Statements.{spell_labels}
use Rattle.rr_syntax.specs.View.{plain, plain_list}
use Rattle.rr_syntax.proofs.Equations.{spellings, statement_spellings}

pub labels_none : (ts : List Expr) (colon : Bool) → length ts ≡ 0 → cond colon 2 1 ≡ min (length (spell_labels (plain_list ts) colon)) 18446744073709551615
unfolding plain_list
labels_none [] true h = simp statement_spellings refl
labels_none [] false h = simp statement_spellings refl
labels_none (t ∷ ts) colon h = absurd (omega arith)

pub labels_more : (ts : List Expr) (colon : Bool) → 0 < length ts → length (spell_labels (plain_list ts) colon) ≡ length (spell_more (plain_list ts))
unfolding plain_list
labels_more [] colon h = absurd (omega arith)
labels_more (t ∷ ts) colon h = simp (spellings, statement_spellings, length-append) (omega arith)

pub ruleset label_sizes = (labels_none, labels_more)
