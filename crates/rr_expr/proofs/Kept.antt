-- what is kept is right
use Rattle.std.proofs.Common.{◌≡◌, ℕ, ◌<◌, List, length, get_or, Option, Some, sym}
use Rattle.std.specs.List.{All}
use Rattle.std.proofs.lemmas.List.Elements.{All-get_or}
use Rattle.rr_expr.specs.declared.notes.Known.{Known}
use Rattle.rr_expr.specs.Notes.{IsRight, IsRightNote}
use Rattle.rr_expr.specs.Scopes.{Names}

right_at : (s : Names) (d e : Option Known) (k : Known) → IsRightNote s d → d ≡ e → e ≡ Some k → IsRight s k
right_at s d e k h p q = rw (p, q) at h

pub kept_right : (s : Names) (kept : List (Option Known)) (i : ℕ) (d : Option Known) (k : Known) → i < length kept → All (IsRightNote s) kept → d ≡ get_or kept i d → d ≡ Some k → IsRight s k
kept_right s kept i d k l h e f = right_at s (get_or kept i d) d k (All-get_or (IsRightNote s) kept i d l h) (sym e) f
