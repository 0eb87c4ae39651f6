-- Tables of names.
use Rattle.std.proofs.Common.{◌≡◌, ℕ, ◌+◌, ◌<◌, ◌≤◌, Bool, true, false, cond, List, [], ◌∷◌, length, map, drop, get_or, Option, Some, None, refl, arith, is_some, length-append}
use Rattle.std.specs.Prelude.{IfSome}
use Rattle.std.proofs.lemmas.List.{drop_all}
use Rattle.rr_syntax.specs.View.{plain_module}
use Rattle.rr_syntax.specs.declared.tree.Module.{Module}
use Rattle.rr_expr.specs.Scopes.{Names, lookup}
use Rattle.rr_expr.specs.declared.types.Entity.{Entity}
use Rattle.rr_flat.specs.Signals.{with_name}
use Rattle.rr_flat.proofs.Lists.{rest}
use Rattle.rr_flatten.specs.Tables.{last_free}

pub grown_by_one : (names : Names) (n : List ℕ) (e : Entity) → is_some (lookup n names) ≡ false → length (with_name names n e) ≡ length names + 1
grown_by_one names n e h = rw h (length-append names ((n, e) ∷ []))

pub free_more : (names : Names) (k : ℕ) (ys : List Module) (i : ℕ) (d : Module) (found next : Option ℕ) → i < length ys
    → next ≡ cond (is_some (lookup (plain_module (get_or ys i d)).text names)) found (Some k)
    → last_free names (k + 1) (map plain_module (drop (i + 1) ys)) next ≡ last_free names k (map plain_module (drop i ys)) found
unfolding last_free
free_more names k ys i d found next lt e = rw (rest ys i d lt, e) refl

pub free_done : (names : Names) (k : ℕ) (ys : List Module) (i : ℕ) (found : Option ℕ) → length ys ≤ i → last_free names k (map plain_module (drop i ys)) found ≡ found
unfolding last_free
free_done names k ys i found le = rw (drop_all i ys le) refl

pub free_within : (b : Bool) (found next : Option ℕ) (k i : ℕ) → next ≡ cond b found (Some k) → k ≡ i → IfSome found (λ j. j < i) → IfSome next (λ j. j < i + 1)
free_within true None next k i e at h = rw e tt
free_within true (Some j) next k i e at h = rw e (omega arith)
free_within false found next k i e at h = rw e (omega arith)
