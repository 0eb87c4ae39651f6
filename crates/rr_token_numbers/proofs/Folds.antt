-- Folds over lists.
use Rattle.std.proofs.Common.{◌≡◌, ◌∙◌, ap, Bool, true, false, nat_lt, if◌then◌else◌, List, [], ◌∷◌, map, Some, refl, fold}
use Rattle.rr_flat.specs.declared.fault.FlatFault.{FlatFault}
use Rattle.rr_flat.specs.Faults.{before, sooner, earlier, token}

-- steps that see nothing of a change of the elements
pub fold_mapped : {X S : Type 0} (f : X → X) (step : S → X → S) → ((s : S) (x : X) → step s (f x) ≡ step s x) → (s : S) (xs : List X) → fold step s (map f xs) ≡ fold step s xs
fold_mapped f step h s [] = refl
fold_mapped f step h s (x ∷ xs) = fold_mapped f step h (step s (f x)) xs ∙ ap (λ z. fold step z xs) (h s x)

-- a fault that was found stays

pub some_stays : (f : FlatFault) (faults : List FlatFault) → (g : FlatFault) × (fold sooner (Some f) faults ≡ Some g)
unfolding sooner
some_stays f [] = (f, refl)
some_stays f (g ∷ gs) = by_order (before g f) (some_stays g gs) (some_stays f gs)
  where
    by_order : (b : Bool) → (x : FlatFault) × (fold sooner (Some g) gs ≡ Some x) → (x : FlatFault) × (fold sooner (Some f) gs ≡ Some x) → (x : FlatFault) × (fold sooner (if b then Some g else Some f) gs ≡ Some x)
    by_order true new old = new
    by_order false new old = old

pub earliest_stays : (f : FlatFault) (faults : List FlatFault) → (g : FlatFault) × (fold earlier (Some f) faults ≡ Some g)
unfolding earlier
earliest_stays f [] = (f, refl)
earliest_stays f (g ∷ gs) = by_order (nat_lt (token g) (token f)) (earliest_stays g gs) (earliest_stays f gs)
  where
    by_order : (b : Bool) → (x : FlatFault) × (fold earlier (Some g) gs ≡ Some x) → (x : FlatFault) × (fold earlier (Some f) gs ≡ Some x) → (x : FlatFault) × (fold earlier (if b then Some g else Some f) gs ≡ Some x)
    by_order true new old = new
    by_order false new old = old
