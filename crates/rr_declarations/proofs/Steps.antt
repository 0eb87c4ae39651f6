-- Walks over a list, one step at a time, and folds.
use Rattle.std.proofs.Common.{◌≡◌, ℕ, ◌+◌, ◌<◌, ◌≤◌, List, [], ◌∷◌, length, map, get_or, drop, take, Result, Ok, MatchResult, refl, fold, inl, inr}
use Rattle.std.specs.Result.{IsErrAnd}
use Rattle.std.proofs.lemmas.Result.{err_from_is_err_and}
use Rattle.std.proofs.lemmas.List.{drop_all, take_more, map-append}
use Rattle.std.proofs.lemmas.List.Sums.{fold-append}
use Rattle.rr_flat.proofs.Lists.{rest}
use Rattle.rr_flat.specs.Faults.{each, Refuses}
use Rattle.rr_flat.specs.declared.fault.FlatFault.{FlatFault}

-- each

pub each_more : {X Y S : Type 0} (f : Y → X) (step : X → S → Result S FlatFault) (ys : List Y) (i : ℕ) (d : Y) (s t : S) → i < length ys
    → step (f (get_or ys i d)) s ≡ Ok t → each step (map f (drop (i + 1) ys)) t ≡ each step (map f (drop i ys)) s
unfolding each
each_more f step ys i d s t lt e = rw (rest ys i d lt, e) refl

pub each_stops : {X Y S : Type 0} (f : Y → X) (step : X → S → Result S FlatFault) (ys : List Y) (i : ℕ) (d : Y) (s : S) (fault : FlatFault) → i < length ys
    → Refuses (step (f (get_or ys i d)) s) fault → Refuses (each step (map f (drop i ys)) s) fault
unfolding each
each_stops f step ys i d s fault lt (inl memory) = inl memory
each_stops f step ys i d s fault lt (inr e) = inr (rw (rest ys i d lt, e) refl)

-- the same where the element is a step of its own
pub each_next : {X Y S : Type 0} (f : Y → X) (step : X → S → Result S FlatFault) (ys : List Y) (i : ℕ) (y : Y) (s t : S) → i < length ys → y ≡ get_or ys i y
    → step (f y) s ≡ Ok t → each step (map f (drop (i + 1) ys)) t ≡ each step (map f (drop i ys)) s
each_next f step ys i y s t lt is e = each_more f step ys i y s t lt (rw (← is) e)

pub each_ends : {X Y S : Type 0} (f : Y → X) (step : X → S → Result S FlatFault) (ys : List Y) (i : ℕ) (y : Y) (s : S) (fault : FlatFault) → i < length ys → y ≡ get_or ys i y
    → Refuses (step (f y) s) fault → Refuses (each step (map f (drop i ys)) s) fault
each_ends f step ys i y s fault lt is h = each_stops f step ys i y s fault lt (rw (← is) h)

pub each_done : {X Y S : Type 0} (f : Y → X) (step : X → S → Result S FlatFault) (ys : List Y) (i : ℕ) (s : S) → length ys ≤ i → each step (map f (drop i ys)) s ≡ Ok s
unfolding each
each_done f step ys i s le = rw (drop_all i ys le) refl

-- the exit of a `?`

pub refused : {A T : Type 0} (r : Result T FlatFault) (P : T → Type 0) (due : Result A FlatFault) (x : FlatFault) → IsErrAnd r (λ y. y ≡ x) → Refuses due x → MatchResult r P (Refuses due)
refused r P due x is h = let p = err_from_is_err_and r is in rw (p.1, p.2) h

-- fold

pub fold_more : {X Y S : Type 0} (f : Y → X) (step : S → X → S) (ys : List Y) (i : ℕ) (d : Y) (s : S) → i < length ys
    → fold step (step s (f (get_or ys i d))) (map f (drop (i + 1) ys)) ≡ fold step s (map f (drop i ys))
fold_more f step ys i d s lt = rw (rest ys i d lt) refl

pub fold_done : {X Y S : Type 0} (f : Y → X) (step : S → X → S) (ys : List Y) (i : ℕ) (s : S) → length ys ≤ i → fold step s (map f (drop i ys)) ≡ s
fold_done f step ys i s le = rw (drop_all i ys le) refl

pub fold_taken : {X Y S : Type 0} (f : Y → X) (step : S → X → S) (s : S) (ys : List Y) (i : ℕ) (d : Y) → i < length ys
    → fold step s (map f (take (i + 1) ys)) ≡ step (fold step s (map f (take i ys))) (f (get_or ys i d))
fold_taken f step s ys i d lt = rw (take_more ys i d lt, map-append f (take i ys) (get_or ys i d ∷ []), fold-append step s (map f (take i ys)) (f (get_or ys i d) ∷ [])) refl
