-- The first names before a token, name by name.
use Rattle.std.proofs.Common.{◌≡◌, inl, inr, ◌∙◌, sym, ap, ℕ, zero, suc, ◌+◌, ◌-◌, ◌<◌, ◌≤◌, Bool, true, false, cond, if◌then◌else◌, List, [], ◌∷◌, ◌++◌, map, take, drop, filter, length, get_or, nat_lt, refl, arith, subst, add-one, drop-cons, append_assoc, append-nil, length-append}
use Rattle.std.proofs.lemmas.Bool.{cases_lt}
use Rattle.std.proofs.lemmas.List.{drop_all, length-map}
use Rattle.rr_syntax.specs.declared.tree.Named.{Named}
use Rattle.rr_syntax.specs.Tree.{Identifier}
use Rattle.rr_syntax.specs.View.{plain_identifier, texts}
use denote.Ref.{Bor}
use Rattle.rr_flat.specs.Signals.{Text}
use Rattle.rr_guard.specs.Names.{texts_of, is_before, first_names}

-- what is left to take, where n may be
abbrev pub left : ℕ → ℕ → List Identifier → List Text
left n token xs = take n (texts_of (filter (is_before token) xs))

abbrev pub one : ℕ → Identifier → List Text
one token x = if nat_lt x.token token then x.text ∷ [] else []

pub first_is : (xs : List Identifier) (token : ℕ) → first_names xs token ≡ left 64 token xs
unfolding first_names
first_is xs token = refl

rest : (names : List Named) (i : ℕ) (d : Named) → i < length names → drop i names ≡ get_or names i d ∷ drop (i + 1) names
rest names i d lt = rw add-one (drop-cons names i d lt)

-- fewer than 64, by a count that is not
pub below : (names : List (Bor (List ℕ))) (count : ℕ) → count ≡ length names → length (texts names) ≤ 64 → (count ≡ 64 → ⊥) → length (texts names) < 64
below names count e le full =
    let m = length-map names (λ (n : Bor (List ℕ)). n.now) in
    elim (cases_lt (length (texts names)) 64) [
      | inl l ↦ l
      | inr ge ↦ absurd (full (omega (arith, e, m, le, ge)))
    ]

-- one more
take_one : (token : ℕ) (x : Identifier) (xs : List Identifier) (n : ℕ) (got : List Text) → length got < n → got ++ left (n - length got) token (x ∷ xs) ≡ (got ++ one token x) ++ left (n - length (got ++ one token x)) token xs
take_one token x xs n got lt = go (nat_lt x.token token)
  where
    go : (b : Bool) → got ++ take (n - length got) (texts_of (cond b (x ∷ filter (is_before token) xs) (filter (is_before token) xs)))
        ≡ (got ++ (if b then x.text ∷ [] else [])) ++ left (n - length (got ++ (if b then x.text ∷ [] else []))) token xs
    go true =
        let more : length (got ++ x.text ∷ []) ≡ length got + 1 = length-append got (x.text ∷ []) in
        let less : n - length got ≡ suc (n - length (got ++ x.text ∷ [])) = omega (arith, more, lt) in
        ap (λ k. got ++ take k (x.text ∷ texts_of (filter (is_before token) xs))) less ∙ sym (append_assoc got (x.text ∷ []) (left (n - length (got ++ x.text ∷ [])) token xs))
    go false = ap (λ zs. zs ++ left (n - length zs) token xs) (sym (append-nil got))

module _ (token : ℕ) (names : List Named) (i : ℕ) (d : Named) (got next all : List Text) where
  pub before_more : i < length names → length got < 64 → next ≡ got ++ one token (plain_identifier (get_or names i d)) → got ++ left (64 - length got) token (map plain_identifier (drop i names)) ≡ all
      → next ++ left (64 - length next) token (map plain_identifier (drop (i + 1) names)) ≡ all
  before_more lt few e inv =
      ap (λ zs. zs ++ left (64 - length zs) token (map plain_identifier (drop (i + 1) names))) e
      ∙ (sym (take_one token (plain_identifier (get_or names i d)) (map plain_identifier (drop (i + 1) names)) 64 got few)
      ∙ (sym (ap (λ ys. got ++ left (64 - length got) token (map plain_identifier ys)) (rest names i d lt)) ∙ inv))

  pub before_few : length got < 64 → next ≡ got ++ one token (plain_identifier (get_or names i d)) → length next ≤ 64
  before_few few e = let s = short (nat_lt (plain_identifier (get_or names i d)).token token) in let l = length-append got (one token (plain_identifier (get_or names i d))) in subst (λ zs. length zs ≤ 64) (sym e) (omega (arith, l, s, few))
    where
      short : (b : Bool) → length (if b then (plain_identifier (get_or names i d)).text ∷ [] else []) ≤ 1
      short true = omega arith
      short false = omega arith

  pub before_full : length got ≡ 64 → got ++ left (64 - length got) token (map plain_identifier (drop i names)) ≡ all → got ≡ all
  before_full full inv = let none : 64 - length got ≡ 0 = omega (arith, full) in sym (append-nil got) ∙ (sym (ap (λ k. got ++ left k token (map plain_identifier (drop i names))) none) ∙ inv)

  pub before_end : length names ≤ i → got ++ left (64 - length got) token (map plain_identifier (drop i names)) ≡ all → got ≡ all
  before_end le inv = sym (append-nil got) ∙ (sym (ap (λ ys. got ++ left (64 - length got) token (map plain_identifier ys)) (drop_all i names le) ∙ ap (λ zs. got ++ zs) (nothing (64 - length got))) ∙ inv)
    where
      nothing : (k : ℕ) → take k (texts_of []) ≡ []
      nothing zero = refl
      nothing (suc k) = refl
