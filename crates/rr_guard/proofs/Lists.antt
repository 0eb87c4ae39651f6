-- Lists that are made by a loop.
use Rattle.std.proofs.Common.{◌≡◌, ◌∙◌, sym, ap, ℕ, zero, suc, arith, subst, ◌+◌, ◌<◌, ◌≤◌, Bool, true, false, cond, if◌then◌else◌, ◌||◌, List, [], ◌∷◌, ◌++◌, length, map, filter, drop, get_or, refl, add-one, drop-cons, fold}
use Rattle.std.specs.Prelude.{flat_map}
use Rattle.std.specs.List.{list_any, AllByRecursion}
use Rattle.std.proofs.lemmas.List.{drop_all}
use Rattle.rr_syntax.specs.declared.tree.Module.{Module}
use Rattle.rr_syntax.specs.View.{plain_item, plain_module}

pub map_twice : {X Y Z : Type 0} (f : Y → Z) (g : X → Y) (xs : List X) → map (λ x. f (g x)) xs ≡ map f (map g xs)
map_twice f g [] = refl
map_twice f g (x ∷ xs) = ap (λ z. f (g x) ∷ z) (map_twice f g xs)

pub module_items : (m : Module) → (plain_module m).items ≡ map plain_item m.items.now
unfolding plain_module
module_items m = refl

rest : {Y : Type 0} (ys : List Y) (i : ℕ) (d : Y) → i < length ys → drop i ys ≡ get_or ys i d ∷ drop (i + 1) ys
rest ys i d lt = rw add-one (drop-cons ys i d lt)

-- a fold
pub fold_more_at : {X Y S : Type 0} (f : Y → X) (step : S → X → S) (ys : List Y) (i : ℕ) (d : Y) (s t all : S) → i < length ys → t ≡ step s (f (get_or ys i d)) → fold step s (map f (drop i ys)) ≡ all → fold step t (map f (drop (i + 1) ys)) ≡ all
fold_more_at f step ys i d s t all lt e inv = ap (λ u. fold step u (map f (drop (i + 1) ys))) e ∙ (sym (ap (λ zs. fold step s (map f zs)) (rest ys i d lt)) ∙ inv)

pub fold_done : {X Y S : Type 0} (f : Y → X) (step : S → X → S) (ys : List Y) (i : ℕ) (s all : S) → length ys ≤ i → fold step s (map f (drop i ys)) ≡ all → s ≡ all
fold_done f step ys i s all le inv = sym (ap (λ zs. fold step s (map f zs)) (drop_all i ys le)) ∙ inv

-- whether one passes, of a set that grows: `now` says it of what was met, `next` of one more
pub any_more : {X Y : Type 0} (p : X → Bool) (f : Y → X) (now next all : Bool) (ys : List Y) (i : ℕ) (d : Y) → i < length ys → next ≡ (now || p (f (get_or ys i d)))
    → (now || list_any p (map f (drop i ys))) ≡ all → (next || list_any p (map f (drop (i + 1) ys))) ≡ all
any_more p f now next all ys i d lt e inv =
    ap (λ b. b || list_any p (map f (drop (i + 1) ys))) e
    ∙ (or_assoc now (p (f (get_or ys i d))) (list_any p (map f (drop (i + 1) ys)))
    ∙ (sym (ap (λ zs. now || list_any p (map f zs)) (rest ys i d lt)) ∙ inv))
  where
    or_assoc : (a b c : Bool) → ((a || b) || c) ≡ (a || (b || c))
    or_assoc true b c = refl
    or_assoc false b c = refl

pub any_end : {X Y : Type 0} (p : X → Bool) (f : Y → X) (now all : Bool) (ys : List Y) (i : ℕ) → length ys ≤ i → (now || list_any p (map f (drop i ys))) ≡ all → now ≡ all
any_end p f now all ys i le inv = sym (or_false now) ∙ (sym (ap (λ zs. now || list_any p (map f zs)) (drop_all i ys le)) ∙ inv)
  where
    or_false : (a : Bool) → (a || false) ≡ a
    or_false true = refl
    or_false false = refl

-- a filter, element by element
pub filter_flat : {X : Type 0} (p : X → Bool) (xs : List X) → flat_map (λ x. if p x then x ∷ [] else []) xs ≡ filter p xs
filter_flat p [] = refl
filter_flat {X} p (x ∷ xs) = go (p x) (filter_flat p xs)
  where
    go : (b : Bool) → flat_map (λ y. if p y then y ∷ [] else []) xs ≡ filter p xs → (if b then x ∷ [] else []) ++ flat_map (λ y. if p y then y ∷ [] else []) xs ≡ cond b (x ∷ filter p xs) (filter p xs)
    go true r = ap (λ zs. x ∷ zs) r
    go false r = r

pub filter_same : {X : Type 0} (p q : X → Bool) (xs : List X) → ((x : X) → p x ≡ q x) → filter p xs ≡ filter q xs
filter_same p q [] h = refl
filter_same p q (x ∷ xs) h = ap (λ b. cond b (x ∷ filter p xs) (filter p xs)) (h x) ∙ ap (λ zs. cond (q x) (x ∷ zs) zs) (filter_same p q xs h)

-- what holds of all holds of each
pub all_at : {X Y : Type 0} (P : Y → Type 0) (f : X → Y) (xs : List X) (i : ℕ) (d : X) → i < length xs → AllByRecursion P (map f xs) → P (f (get_or xs i d))
all_at P f [] i d lt h = absurd (omega (arith, lt))
all_at P f (x ∷ xs) zero d lt h = h.0
all_at P f (x ∷ xs) (suc i) d lt h = all_at P f xs i d (omega (arith, lt)) h.1

pub all_item : {X Y : Type 0} (P : Y → Type 0) (f : X → Y) (xs : List X) (i : ℕ) (x : X) → i < length xs → x ≡ get_or xs i x → AllByRecursion P (map f xs) → P (f x)
all_item P f xs i x lt is h = subst (λ z. P (f z)) (sym is) (all_at P f xs i x lt h)
