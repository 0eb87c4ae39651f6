-- The names that are noted, as keys of a set.
use Rattle.std.proofs.Common.{◌≡◌, ◌∙◌, sym, ap, subst, refl, ℕ, Bool, true, false, ◌||◌, ◌&&◌, List, [], ◌∷◌, ◌++◌, map, if◌then◌else◌, nat_eq}
use Rattle.std.specs.List.{list_any}
use Rattle.std.specs.Str.{bytes_eq}
use Rattle.std.proofs.lemmas.Bool.{eqb-true}
use Rattle.std.proofs.lemmas.Slice.Eq.{bytes_eq-Decides}
use Rattle.indexmap.specs.IndexSet.{insert_key}
use Rattle.rr_lint_names.specs.declared.noted.Key.{Key}
use Rattle.rr_lint_names.specs.Latched.{marks}
use Rattle.rr_lint_names.proofs.Lists.{any_snoc}

-- a key with its name as bytes
abbrev pub placed : Key → ℕ × List ℕ
placed k = (k.token, k.name.now)

abbrev pub test : ℕ → List ℕ → Key → Bool
test token name k = nat_eq token k.token && bytes_eq name k.name.now

abbrev pub Equates : (Key → Key → Bool) → Type 0
Equates eq = (a b : Key) → eq a b ≡ test a.token a.name.now b

pub same_marks : (token : ℕ) (name : List ℕ) (ks : List Key) → marks (map placed ks) token name ≡ list_any (test token name) ks
same_marks token name [] = refl
same_marks token name (k ∷ ks) = ap (λ b. test token name k || b) (same_marks token name ks)

same_keys : (eq : Key → Key → Bool) → Equates eq → (key : Key) (ks : List Key) → list_any (eq key) ks ≡ list_any (test key.token key.name.now) ks
same_keys eq h key [] = refl
same_keys eq h key (k ∷ ks) = ap (λ b. b || list_any (eq key) ks) (h key k) ∙ ap (λ b. test key.token key.name.now k || b) (same_keys eq h key ks)

pub has_mark : (eq : Key → Key → Bool) → Equates eq → (key : Key) (ks : List Key) → list_any (eq key) ks ≡ marks (map placed ks) key.token key.name.now
has_mark eq h key ks = same_keys eq h key ks ∙ sym (same_marks key.token key.name.now ks)

and_left : (a b : Bool) → (a && b) ≡ true → a ≡ true
and_left true b h = refl
and_left false b h = h

and_right : (a b : Bool) → (a && b) ≡ true → b ≡ true
and_right true b h = h
and_right false b h = absurd (let bad : false ≡ true = h in cc)

absorb : (a b : Bool) → (b ≡ true → a ≡ true) → a ≡ (a || b)
absorb true b h = refl
absorb false true h = h refl
absorb false false h = refl

-- a key that is there is found under its token and its name
there : (key : Key) (ks : List Key) → list_any (test key.token key.name.now) ks ≡ true → (token : ℕ) (name : List ℕ) → test token name key ≡ true → list_any (test token name) ks ≡ true
there key ks h token name e =
    let t : token ≡ key.token = eqb-true token key.token (and_left (nat_eq token key.token) (bytes_eq name key.name.now) e) in
    let n : name ≡ key.name.now = (bytes_eq-Decides name key.name.now).0 (and_right (nat_eq token key.token) (bytes_eq name key.name.now) e) in
    subst (λ (x : ℕ). list_any (test x name) ks ≡ true) (sym t) (subst (λ (x : List ℕ). list_any (test key.token x) ks ≡ true) (sym n) h)

pub added_mark : (eq : Key → Key → Bool) → Equates eq → (key : Key) (ks : List Key) (token : ℕ) (name : List ℕ) →
    marks (map placed (insert_key eq ks key)) token name ≡ (marks (map placed ks) token name || (nat_eq token key.token && bytes_eq name key.name.now))
added_mark eq h key ks token name = same_marks token name (insert_key eq ks key) ∙ go (list_any (eq key) ks) refl ∙ ap (λ b. b || test token name key) (sym (same_marks token name ks))
  where
    go : (b : Bool) → list_any (eq key) ks ≡ b → list_any (test token name) (if b then ks else ks ++ key ∷ []) ≡ (list_any (test token name) ks || test token name key)
    go true e = absorb (list_any (test token name) ks) (test token name key) (there key ks (sym (same_keys eq h key ks) ∙ e) token name)
    go false e = any_snoc (test token name) ks key
