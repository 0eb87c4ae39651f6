-- Lists from a place on.
use Rattle.std.proofs.Common.{◌≡◌, ℕ, zero, suc, ◌+◌, ◌<◌, List, [], ◌∷◌, length, arith, get_or, drop, add-one, drop-cons}
use Rattle.std.specs.List.{AllByRecursion}
use Rattle.std.specs.Prelude.{slice_index_or}

pub rest : {Y : Type 0} (ys : List Y) (i : ℕ) (d : Y) → i < length ys → drop i ys ≡ get_or ys i d ∷ drop (i + 1) ys
rest ys i d lt = rw add-one (drop-cons ys i d lt)

-- what each of a list has
pub all_index : {X : Type 0} (P : X → Type 0) (xs : List X) (i : ℕ) (d : X) → AllByRecursion P xs → i < length xs → P (slice_index_or xs i d)
all_index P [] i d p l = absurd (omega arith)
all_index P (x ∷ xs) zero d p l = p.0
all_index P (x ∷ xs) (suc i) d p l = all_index P xs i d p.1 (omega arith)
