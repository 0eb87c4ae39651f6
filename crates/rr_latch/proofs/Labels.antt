-- The labels of an arm in turn.
use Rattle.std.proofs.Common.{◌≡◌, ◌∙◌, sym, ap, subst, ℕ, ◌+◌, ◌<◌, ◌≤◌, inl, inr, false, List, [], length, drop, get_or, None}
use Rattle.std.proofs.lemmas.List.{drop_all}
use Rattle.rr_syntax.specs.declared.tree.Expr.{Expr}
use Rattle.rr_syntax.specs.View.{plain, plain_list}
use Rattle.rr_expr.specs.declared.types.Bit.{Bit}
use Rattle.rr_expr.specs.Faults.{fault}
use Rattle.rr_expr.specs.Reading.{NamesBit, NamesBits}
use Rattle.rr_expr.specs.Scopes.{Names}
use Rattle.rr_flat.specs.Shapes.{list_faults}
use Rattle.rr_named_bits.proofs.Growing.{rest_is}
use Rattle.rr_latch.specs.declared.early.Early.{Early}
use Rattle.rr_latch.specs.Notes.{Noted, Unassigned}
use Rattle.rr_latch.proofs.Noting.{NotedBut, but_start, but_next, but_done}
use Rattle.rr_writers.proofs.Statements.{labels_shaped}

pub record LabelsRead (s : Names) (rows : List (List ℕ)) (xs : List Expr) (i : ℕ) (old new : Early) : Type 0 where
  pub shaped : list_faults s (plain_list (drop i xs)) ≡ []
  pub notes : NotedBut (Unassigned rows (NamesBits s (plain_list xs))) (Unassigned rows (NamesBits s (plain_list (drop i xs)))) old new

pub labels_start : (s : Names) (rows : List (List ℕ)) (xs : List Expr) (e : Early) → list_faults s (plain_list xs) ≡ [] → LabelsRead s rows xs 0 e e
labels_start s rows xs e h = record { shaped = h; notes = but_start (Unassigned rows (NamesBits s (plain_list xs))) e }

pub labels_here : (s : Names) (rows : List (List ℕ)) (xs : List Expr) (i : ℕ) (x : Expr) (old new : Early) → i < length xs → x ≡ get_or xs i x → LabelsRead s rows xs i old new → fault s (plain x) false ≡ None
labels_here s rows xs i x old new l e r = (labels_shaped s x (drop (i + 1) xs) (sym (ap (λ z. list_faults s (plain_list z)) (rest_is xs i x l e)) ∙ r.shaped)).0

pub labels_more : (s : Names) (rows : List (List ℕ)) (xs : List Expr) (i : ℕ) (x : Expr) (a b c : Early) → i < length xs → x ≡ get_or xs i x → LabelsRead s rows xs i a b
    → Noted (Unassigned rows (NamesBit s (plain x))) b c → LabelsRead s rows xs (i + 1) a c
unfolding plain_list NamesBit
labels_more s rows xs i x a b c l e r n =
    let here = rest_is xs i x l e in
    let at : Bit → List Expr → Type 0 = λ y z. NamesBits s (plain_list z) y in
    record {
      shaped = (labels_shaped s x (drop (i + 1) xs) (sym (ap (λ z. list_faults s (plain_list z)) here) ∙ r.shaped)).1;
      notes = but_next (Unassigned rows (NamesBits s (plain_list xs))) (Unassigned rows (NamesBits s (plain_list (drop i xs)))) (Unassigned rows (NamesBit s (plain x)))
          (Unassigned rows (NamesBits s (plain_list (drop (i + 1) xs)))) a b c
          (λ y p. elim (subst (at y) here p.0) [ inl k ↦ inl (k, p.1) | inr k ↦ inr (k, p.1) ])
          (λ y p. (subst (at y) (sym here) (inl p.0), p.1)) (λ y p. (subst (at y) (sym here) (inr p.0), p.1)) r.notes n;
    }

pub labels_done : (s : Names) (rows : List (List ℕ)) (xs : List Expr) (i : ℕ) (a b : Early) → length xs ≤ i → LabelsRead s rows xs i a b → Noted (Unassigned rows (NamesBits s (plain_list xs))) a b
unfolding plain_list NamesBit
labels_done s rows xs i a b l r =
    but_done (Unassigned rows (NamesBits s (plain_list xs))) (Unassigned rows (NamesBits s (plain_list (drop i xs)))) a b
    (λ y p. let at : List Expr → Type 0 = λ z. NamesBits s (plain_list z) y in absurd (subst at (drop_all i xs l) p.0)) r.notes
