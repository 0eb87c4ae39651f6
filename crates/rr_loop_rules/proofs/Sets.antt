-- Sets of names, and what is among their names.
use Rattle.std.proofs.Common.{◌≡◌, ◌∙◌, sym, ap, subst, Bool, true, false, ◌||◌, if◌then◌else◌, ℕ, List, [], ◌∷◌, ◌++◌, map, fold, refl}
use Rattle.std.specs.List.{list_any}
use Rattle.std.specs.Str.{bytes_eq}
use Rattle.std.proofs.lemmas.Slice.Eq.{bytes_eq-Decides}
use Rattle.indexmap.specs.IndexSet.{insert_key}
use Rattle.rr_flat.specs.Signals.{Text}
use Rattle.rr_loop_rules.specs.Rules.{LoopNames, contains, with_new, with_integer}
use denote.Ref.{Bor}

-- of borrowed texts

pub same_any : (name : List ℕ) (ks : List (Bor (List ℕ))) → list_any (bytes_eq name) (map (λ k. k.now) ks) ≡ list_any (λ k. bytes_eq name k.now) ks
same_any name [] = refl
same_any name (k ∷ ks) = ap (λ b. bytes_eq name k.now || b) (same_any name ks)

map_snoc : (ks : List (Bor (List ℕ))) (t : Bor (List ℕ)) → map (λ k. k.now) (ks ++ t ∷ []) ≡ map (λ k. k.now) ks ++ t.now ∷ []
map_snoc [] t = refl
map_snoc (k ∷ ks) t = ap (λ z. k.now ∷ z) (map_snoc ks t)

pub added_text : (t : Bor (List ℕ)) (ks : List (Bor (List ℕ))) → map (λ k. k.now) (insert_key (λ a b. bytes_eq a.now b.now) ks t) ≡ with_new (map (λ k. k.now) ks) t.now
added_text t ks = rw (same_any t.now ks) (go (list_any (λ k. bytes_eq t.now k.now) ks))
  where
    go : (b : Bool) → map (λ k. k.now) (if b then ks else ks ++ t ∷ []) ≡ (if b then map (λ k. k.now) ks else map (λ k. k.now) ks ++ t.now ∷ [])
    go true = refl
    go false = map_snoc ks t

-- what a name that is added changes

or_assoc : (a b c : Bool) → ((a || b) || c) ≡ (a || (b || c))
or_assoc true b c = refl
or_assoc false b c = refl

or_false : (a : Bool) → (a || false) ≡ a
or_false true = refl
or_false false = refl

or_true : (a : Bool) → (a || true) ≡ true
or_true true = refl
or_true false = refl

any_last : (name t : Text) (xs : LoopNames) → contains (xs ++ t ∷ []) name ≡ (contains xs name || bytes_eq name t)
any_last name t [] = or_false (bytes_eq name t)
any_last name t (x ∷ xs) = ap (λ b. bytes_eq name x || b) (any_last name t xs) ∙ sym (or_assoc (bytes_eq name x) (contains xs name) (bytes_eq name t))

any_there : (name t : Text) (xs : LoopNames) → contains xs t ≡ true → bytes_eq name t ≡ true → contains xs name ≡ true
any_there name t xs h e = subst (λ (z : Text). contains xs z ≡ true) (sym ((bytes_eq-Decides name t).0 e)) h

any_added : (name t : Text) (xs : LoopNames) → contains (with_new xs t) name ≡ (contains xs name || bytes_eq name t)
any_added name t xs = go (contains xs t) refl (bytes_eq name t) refl
  where
    go : (b : Bool) → contains xs t ≡ b → (c : Bool) → bytes_eq name t ≡ c → contains (if b then xs else xs ++ t ∷ []) name ≡ (contains xs name || bytes_eq name t)
    go true h true e = any_there name t xs h e ∙ sym (ap (λ z. contains xs name || z) e ∙ or_true (contains xs name))
    go true h false e = sym (ap (λ z. contains xs name || z) e ∙ or_false (contains xs name))
    go false h c e = any_last name t xs

-- each once: the same names

among_from : (name : Text) (xs ys : LoopNames) → contains (fold with_new xs ys) name ≡ (contains xs name || contains ys name)
among_from name xs [] = sym (or_false (contains xs name))
among_from name xs (y ∷ ys) =
    among_from name (with_new xs y) ys
    ∙ (ap (λ b. b || contains ys name) (any_added name y xs) ∙ or_assoc (contains xs name) (bytes_eq name y) (contains ys name))

pub among : (name : Text) (ys : LoopNames) → contains (fold with_new [] ys) name ≡ contains ys name
among name ys = among_from name [] ys

same_step : (a b : List Text) → ((name : Text) → contains a name ≡ contains b name) → (names : LoopNames) (name : Text) → with_integer a names name ≡ with_integer b names name
same_step a b h names name = ap (λ c. if c then with_new names name else names) (h name)

pub same_integers : (a b : List Text) → ((name : Text) → contains a name ≡ contains b name) → (names : LoopNames) (xs : List Text) → fold (with_integer a) names xs ≡ fold (with_integer b) names xs
same_integers a b h names [] = refl
same_integers a b h names (x ∷ xs) = ap (λ z. fold (with_integer a) z xs) (same_step a b h names x) ∙ same_integers a b h (with_integer b names x) xs
