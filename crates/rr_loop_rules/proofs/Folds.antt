-- Folds over what each element of a list gives.
use Rattle.std.proofs.Common.{◌≡◌, ◌∙◌, sym, ap, ℕ, ◌+◌, ◌<◌, ◌≤◌, List, [], ◌∷◌, ◌++◌, length, map, drop, get_or, fold, refl}
use Rattle.std.specs.Prelude.{flat_map}
use Rattle.std.proofs.lemmas.List.{drop_all}
use Rattle.std.proofs.lemmas.List.Sums.{fold-append}
use Rattle.rr_flat.proofs.Lists.{rest}

pub fold_more : {X A B : Type 0} (g : X → List A) (step : B → A → B) (old new : B) (xs : List X) (i : ℕ) (x : X) → i < length xs → x ≡ get_or xs i x → new ≡ fold step old (g x)
    → fold step new (flat_map g (drop (i + 1) xs)) ≡ fold step old (flat_map g (drop i xs))
fold_more g step old new xs i x lt is h =
    ap (λ z. fold step z (flat_map g (drop (i + 1) xs))) h
    ∙ (sym (fold-append step old (g x) (flat_map g (drop (i + 1) xs)))
    ∙ sym (ap (λ ys. fold step old (flat_map g ys)) (rest xs i x lt ∙ ap (λ y. y ∷ drop (i + 1) xs) (sym is))))

pub fold_done : {X A B : Type 0} (g : X → List A) (step : B → A → B) (old : B) (xs : List X) (i : ℕ) → length xs ≤ i → fold step old (flat_map g (drop i xs)) ≡ old
fold_done g step old xs i le = ap (λ ys. fold step old (flat_map g ys)) (drop_all i xs le)

pub flat_map_map : {X Y A : Type 0} (f : Y → List A) (g : X → Y) (xs : List X) → flat_map (λ x. f (g x)) xs ≡ flat_map f (map g xs)
flat_map_map f g [] = refl
flat_map_map f g (x ∷ xs) = ap (λ z. f (g x) ++ z) (flat_map_map f g xs)

-- over one thing of each element

pub map_more : {X Y S : Type 0} (f : Y → X) (step : S → X → S) (ys : List Y) (i : ℕ) (d : Y) (s t all : S) → i < length ys → t ≡ step s (f (get_or ys i d)) → fold step s (map f (drop i ys)) ≡ all → fold step t (map f (drop (i + 1) ys)) ≡ all
map_more f step ys i d s t all lt e inv = ap (λ u. fold step u (map f (drop (i + 1) ys))) e ∙ (sym (ap (λ zs. fold step s (map f zs)) (rest ys i d lt)) ∙ inv)

pub map_done : {X Y S : Type 0} (f : Y → X) (step : S → X → S) (ys : List Y) (i : ℕ) (s all : S) → length ys ≤ i → fold step s (map f (drop i ys)) ≡ all → s ≡ all
map_done f step ys i s all le inv = sym (ap (λ zs. fold step s (map f zs)) (drop_all i ys le)) ∙ inv
