-- Each variable once, target by target.
use Rattle.std.proofs.Common.{◌≡◌, ◌∙◌, sym, ap, subst, ℕ, ◌+◌, ◌<◌, ◌≤◌, Bool, true, false, not, cond, ◌&&◌, ◌||◌, List, [], ◌∷◌, ◌++◌, map, filter, drop, get_or, length, Option, Some, None, refl, append_assoc, append-nil, add-one, drop-cons}
use Rattle.std.specs.Prelude.{flat_map}
use Rattle.std.specs.Str.{bytes_eq}
use Rattle.std.proofs.lemmas.List.{drop_all}
use Rattle.rr_syntax.specs.Tree.{Statement}
use Rattle.rr_flat.specs.Reads.{Assigned, assigned_by}
use Rattle.rr_flat.specs.Signals.{Text}
use Rattle.rr_text_names.specs.declared.lists.Target.{Target as Part}
use Rattle.rr_text_names.specs.View.{plain_target}
use Rattle.rr_guard.specs.Candidates.{is_among}
use Rattle.rr_guard.specs.Names.{whole_name}
use Rattle.rr_guard.proofs.Lists.{filter_same}
use Rattle.rr_guard.proofs.Sets.{eq_same, any_last}
use Rattle.rr_overwrite.specs.Overwrites.{Target, target_if, whole_target, first_targets, targets_of}
use Rattle.rr_overwrite.specs.Variables.{new_target}

abbrev pub new_of : List Text → Assigned → List Target
new_of seen a = filter (new_target seen) (whole_target a)

abbrev pub texts_of : List Target → List Text
texts_of ts = map (λ t. t.text) ts

-- what is met of a list, after some texts
pub gathered : List Text → List Assigned → List Target
gathered seen [] = []
gathered seen (a ∷ bs) = new_of seen a ++ gathered (seen ++ texts_of (new_of seen a)) bs

filter_twice : {X : Type 0} (p q : X → Bool) (xs : List X) → filter p (filter q xs) ≡ filter (λ x. q x && p x) xs
filter_twice p q [] = refl
filter_twice p q (x ∷ xs) = go (q x) (filter_twice p q xs)
  where
    go : (b : Bool) → filter p (filter q xs) ≡ filter (λ y. q y && p y) xs → filter p (cond b (x ∷ filter q xs) (filter q xs)) ≡ cond (b && p x) (x ∷ filter (λ y. q y && p y) xs) (filter (λ y. q y && p y) xs)
    go true r = ap (λ zs. cond (p x) (x ∷ zs) zs) r
    go false r = r

differs : Text → Target → Bool
differs t y = not (bytes_eq y.text t)

one_more_seen : (seen : List Text) (t : Text) (y : Target) → new_target (seen ++ t ∷ []) y ≡ (not (bytes_eq y.text t) && new_target seen y)
one_more_seen seen t y = ap not (any_last y.text t seen) ∙ go (is_among y.text seen) (bytes_eq y.text t)
  where
    go : (a b : Bool) → not (a || b) ≡ (not b && not a)
    go true true = refl
    go true false = refl
    go false true = refl
    go false false = refl

seen_before : (seen : List Text) (t : Text) → is_among t seen ≡ true → (y : Target) → new_target seen y ≡ (not (bytes_eq y.text t) && new_target seen y)
seen_before seen t h y = go (bytes_eq y.text t) refl
  where
    go : (b : Bool) → bytes_eq y.text t ≡ b → new_target seen y ≡ (not b && new_target seen y)
    go true e = ap not (subst (λ (z : Text). is_among z seen ≡ true) (sym (eq_same y.text t e)) h)
    go false e = refl

-- they are the first targets that are not among these texts
pub gathered_is : (seen : List Text) (bs : List Assigned) → gathered seen bs ≡ filter (new_target seen) (first_targets (flat_map whole_target bs))
unfolding gathered first_targets
gathered_is seen [] = refl
gathered_is seen (a ∷ bs) = by (whole_name a.part) (λ more. gathered_is more bs)
  where
    by : (o : Option Text) → ((more : List Text) → gathered more bs ≡ filter (new_target more) (first_targets (flat_map whole_target bs)))
        → filter (new_target seen) (target_if o a.now) ++ gathered (seen ++ texts_of (filter (new_target seen) (target_if o a.now))) bs ≡ filter (new_target seen) (first_targets (target_if o a.now ++ flat_map whole_target bs))
    by None r = ap (λ s. gathered s bs) (append-nil seen) ∙ r seen
    by (Some t) r = go (is_among t seen) refl
      where
        go : (b : Bool) → is_among t seen ≡ b
            → cond (not b) ((record { text = t; now = a.now }) ∷ []) [] ++ gathered (seen ++ texts_of (cond (not b) ((record { text = t; now = a.now }) ∷ []) [])) bs
            ≡ cond (not b) ((record { text = t; now = a.now }) ∷ filter (new_target seen) (filter (λ y. not (bytes_eq y.text t)) (first_targets (flat_map whole_target bs)))) (filter (new_target seen) (filter (λ y. not (bytes_eq y.text t)) (first_targets (flat_map whole_target bs))))
        go true h =
            ap (λ s. gathered s bs) (append-nil seen)
            ∙ (r seen
            ∙ (filter_same (new_target seen) (λ y. not (bytes_eq y.text t) && new_target seen y) (first_targets (flat_map whole_target bs)) (seen_before seen t h)
            ∙ sym (filter_twice (new_target seen) (λ y. not (bytes_eq y.text t)) (first_targets (flat_map whole_target bs)))))
        go false h =
            ap (λ zs. (record { text = t; now = a.now }) ∷ zs)
            (r (seen ++ t ∷ [])
            ∙ (filter_same (new_target (seen ++ t ∷ [])) (λ y. not (bytes_eq y.text t) && new_target seen y) (first_targets (flat_map whole_target bs)) (one_more_seen seen t)
            ∙ sym (filter_twice (new_target seen) (λ y. not (bytes_eq y.text t)) (first_targets (flat_map whole_target bs)))))

all_new : (ts : List Target) → filter (new_target []) ts ≡ ts
all_new [] = refl
all_new (t ∷ ts) = ap (λ z. t ∷ z) (all_new ts)

pub gathered_all : (bs : List Assigned) → gathered [] bs ≡ first_targets (flat_map whole_target bs)
gathered_all bs = gathered_is [] bs ∙ all_new (first_targets (flat_map whole_target bs))

-- of the arena

rest : (ts : List Part) (i : ℕ) (d : Part) → i < length ts → drop i ts ≡ get_or ts i d ∷ drop (i + 1) ts
rest ts i d lt = rw add-one (drop-cons ts i d lt)

module _ (ts : List Part) (i : ℕ) (d : Part) (seen next : List Text) (now more all : List Target) where
  pub one_gathered : i < length ts → next ≡ seen ++ texts_of (new_of seen (plain_target (get_or ts i d))) → more ≡ now ++ new_of seen (plain_target (get_or ts i d))
      → now ++ gathered seen (map plain_target (drop i ts)) ≡ all → more ++ gathered next (map plain_target (drop (i + 1) ts)) ≡ all
  unfolding gathered
  one_gathered lt n m inv =
      ap (λ zs. zs ++ gathered next (map plain_target (drop (i + 1) ts))) m
      ∙ (append_assoc now (new_of seen (plain_target (get_or ts i d))) (gathered next (map plain_target (drop (i + 1) ts)))
      ∙ (ap (λ s. now ++ (new_of seen (plain_target (get_or ts i d)) ++ gathered s (map plain_target (drop (i + 1) ts)))) n
      ∙ (sym (ap (λ ys. now ++ gathered seen (map plain_target ys)) (rest ts i d lt)) ∙ inv)))

pub end_gathered : (ts : List Part) (i : ℕ) (seen : List Text) (now all : List Target) → length ts ≤ i → now ++ gathered seen (map plain_target (drop i ts)) ≡ all → now ≡ all
unfolding gathered
end_gathered ts i seen now all le inv = sym (append-nil now) ∙ (sym (ap (λ ys. now ++ gathered seen (map plain_target ys)) (drop_all i ts le)) ∙ inv)

pub targets_are : (s : Statement) → targets_of s ≡ first_targets (flat_map whole_target (assigned_by s))
unfolding targets_of
targets_are s = refl

-- one target
pub none_new : (seen : List Text) (a : Assigned) → None ≡ whole_name a.part → new_of seen a ≡ []
none_new seen a e = ap (λ o. filter (new_target seen) (target_if o a.now)) (sym e)

pub one_new : (seen : List Text) (a : Assigned) (t : Text) → Some t ≡ whole_name a.part → is_among t seen ≡ false → new_of seen a ≡ (record { text = t; now = a.now }) ∷ []
one_new seen a t e f = ap (λ o. filter (new_target seen) (target_if o a.now)) (sym e) ∙ ap (λ b. cond (not b) ((record { text = t; now = a.now }) ∷ []) []) f

pub not_new : (seen : List Text) (a : Assigned) (t : Text) → Some t ≡ whole_name a.part → is_among t seen ≡ true → new_of seen a ≡ []
not_new seen a t e f = ap (λ o. filter (new_target seen) (target_if o a.now)) (sym e) ∙ ap (λ b. cond (not b) ((record { text = t; now = a.now }) ∷ []) []) f
