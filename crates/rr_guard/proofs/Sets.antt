-- Sets of texts, and what is among their texts.
use Rattle.std.proofs.Common.{◌≡◌, ◌∙◌, sym, ap, subst, ℕ, Bool, true, false, ◌||◌, if◌then◌else◌, List, [], ◌∷◌, ◌++◌, map, refl}
use Rattle.std.specs.List.{list_any}
use Rattle.std.specs.Str.{bytes_eq}
use Rattle.std.proofs.lemmas.Slice.Eq.{bytes_eq-Decides}
use Rattle.rr_syntax.specs.Tree.{Identifier}
use Rattle.rr_flat.specs.Signals.{Text}
use Rattle.rr_guard.specs.Names.{texts_of}
use Rattle.indexmap.specs.IndexSet.{insert_key}
use denote.Ref.{Bor}

-- of borrowed texts

pub same_any : (name : List ℕ) (ks : List (Bor (List ℕ))) → list_any (bytes_eq name) (map (λ k. k.now) ks) ≡ list_any (λ k. bytes_eq name k.now) ks
same_any name [] = refl
same_any name (k ∷ ks) = ap (λ b. bytes_eq name k.now || b) (same_any name ks)

map_snoc : (ks : List (Bor (List ℕ))) (t : Bor (List ℕ)) → map (λ k. k.now) (ks ++ t ∷ []) ≡ map (λ k. k.now) ks ++ t.now ∷ []
map_snoc [] t = refl
map_snoc (k ∷ ks) t = ap (λ z. k.now ∷ z) (map_snoc ks t)

pub added_text : (t : Bor (List ℕ)) (ks : List (Bor (List ℕ))) → map (λ k. k.now) (insert_key (λ a b. bytes_eq a.now b.now) ks t)
    ≡ (if list_any (bytes_eq t.now) (map (λ k. k.now) ks) then map (λ k. k.now) ks else map (λ k. k.now) ks ++ t.now ∷ [])
added_text t ks = rw (same_any t.now ks) (go (list_any (λ k. bytes_eq t.now k.now) ks))
  where
    go : (b : Bool) → map (λ k. k.now) (if b then ks else ks ++ t ∷ []) ≡ (if b then map (λ k. k.now) ks else map (λ k. k.now) ks ++ t.now ∷ [])
    go true = refl
    go false = map_snoc ks t

-- equality of texts

pub eq_same : (x y : Text) → bytes_eq x y ≡ true → x ≡ y
eq_same x y h = (bytes_eq-Decides x y).0 h

pub eq_refl : (x : Text) → bytes_eq x x ≡ true
eq_refl x = (bytes_eq-Decides x x).1 refl

pub eq_comm : (x y : Text) → bytes_eq x y ≡ bytes_eq y x
eq_comm x y = go (bytes_eq x y) refl (bytes_eq y x) refl
  where
    go : (b : Bool) → bytes_eq x y ≡ b → (c : Bool) → bytes_eq y x ≡ c → bytes_eq x y ≡ bytes_eq y x
    go true e true f = e ∙ sym f
    go true e false f = let same : x ≡ y = eq_same x y e in let no : bytes_eq y x ≡ true = subst (λ (z : Text). bytes_eq z x ≡ true) same (eq_refl x) in cc
    go false e true f = let same : y ≡ x = eq_same y x f in let no : bytes_eq x y ≡ true = subst (λ (z : Text). bytes_eq z y ≡ true) same (eq_refl y) in cc
    go false e false f = e ∙ sym f

-- a text that is added

pub any_last : (name t : Text) (xs : List Text) → list_any (bytes_eq name) (xs ++ t ∷ []) ≡ (list_any (bytes_eq name) xs || bytes_eq name t)
any_last name t [] = go (bytes_eq name t)
  where
    go : (b : Bool) → (b || false) ≡ (false || b)
    go true = refl
    go false = refl
any_last name t (x ∷ xs) = go (bytes_eq name x) (any_last name t xs)
  where
    go : (b : Bool) → list_any (bytes_eq name) (xs ++ t ∷ []) ≡ (list_any (bytes_eq name) xs || bytes_eq name t) → (b || list_any (bytes_eq name) (xs ++ t ∷ [])) ≡ ((b || list_any (bytes_eq name) xs) || bytes_eq name t)
    go true r = refl
    go false r = r

any_there : (name t : Text) (xs : List Text) → list_any (bytes_eq t) xs ≡ true → bytes_eq name t ≡ true → list_any (bytes_eq name) xs ≡ true
any_there name t xs h e = subst (λ (z : Text). list_any (bytes_eq z) xs ≡ true) (sym (eq_same name t e)) h

or_true : (b : Bool) → (b || true) ≡ true
or_true true = refl
or_true false = refl

or_false : (b : Bool) → (b || false) ≡ b
or_false true = refl
or_false false = refl

pub any_added : (name t : Text) (xs : List Text) → list_any (bytes_eq name) (if list_any (bytes_eq t) xs then xs else xs ++ t ∷ []) ≡ (list_any (bytes_eq name) xs || bytes_eq name t)
any_added name t xs = go (list_any (bytes_eq t) xs) refl (bytes_eq name t) refl
  where
    go : (b : Bool) → list_any (bytes_eq t) xs ≡ b → (c : Bool) → bytes_eq name t ≡ c → list_any (bytes_eq name) (if b then xs else xs ++ t ∷ []) ≡ (list_any (bytes_eq name) xs || bytes_eq name t)
    go true h true e = any_there name t xs h e ∙ sym (ap (λ z. list_any (bytes_eq name) xs || z) e ∙ or_true (list_any (bytes_eq name) xs))
    go true h false e = sym (ap (λ z. list_any (bytes_eq name) xs || z) e ∙ or_false (list_any (bytes_eq name) xs))
    go false h c e = any_last name t xs

-- names as texts

pub same_named : (name : Text) (list : List Identifier) → list_any (bytes_eq name) (texts_of list) ≡ list_any (λ (y : Identifier). bytes_eq y.text name) list
same_named name [] = refl
same_named name (y ∷ ys) = ap (λ b. b || list_any (bytes_eq name) (texts_of ys)) (eq_comm name y.text) ∙ ap (λ b. bytes_eq y.text name || b) (same_named name ys)
