-- Of names that are declared in the order of their tokens, 64 are enough.
use Rattle.std.proofs.Common.{◌≡◌, ◌∙◌, sym, ap, ℕ, zero, suc, ◌+◌, ◌<◌, ◌≤◌, Bool, true, false, cond, List, [], ◌∷◌, map, take, drop, filter, length, get_or, nat_lt, refl, arith, subst, add-one, drop-cons}
use Rattle.std.proofs.lemmas.Bool.{ltb-false, le-ltb}
use Rattle.std.proofs.lemmas.List.{drop_all}
use Rattle.rr_syntax.specs.declared.tree.Named.{Named}
use Rattle.rr_syntax.specs.Tree.{Identifier}
use Rattle.rr_syntax.specs.View.{plain_identifier}
use Rattle.rr_guard.specs.Candidates.{Rising}
use Rattle.rr_guard.specs.Names.{texts_of, is_before, first_names}

-- none stands before a token that the first does not stand before
none_before : (xs : List Identifier) (last token : ℕ) → Rising last xs → token ≤ last → filter (is_before token) xs ≡ []
unfolding Rising
none_before [] last token h le = refl
none_before (x ∷ xs) last token h le =
    let a = h.0 in
    let late : nat_lt x.token token ≡ false = le-ltb x.token token (omega (arith, a, le)) in
    ap (λ b. cond b (x ∷ filter (is_before token) xs) (filter (is_before token) xs)) late ∙ none_before xs x.token token h.1 (omega (arith, a, le))

rises_on : (xs : List Identifier) (n last : ℕ) → Rising last xs → Rising last (take n xs)
unfolding Rising
rises_on xs zero last h = tt
rises_on [] (suc n) last h = tt
rises_on (x ∷ xs) (suc n) last h = (h.0, rises_on xs n x.token h.1)

few : (xs : List Identifier) (n last token : ℕ) → Rising last xs → take n (texts_of (filter (is_before token) (take n xs))) ≡ take n (texts_of (filter (is_before token) xs))
unfolding Rising
few xs zero last token h = refl
few [] (suc n) last token h = refl
few (x ∷ xs) (suc n) last token h = go (nat_lt x.token token) refl (few xs n x.token token h.1)
  where
    go : (b : Bool) → nat_lt x.token token ≡ b → take n (texts_of (filter (is_before token) (take n xs))) ≡ take n (texts_of (filter (is_before token) xs))
        → take (suc n) (texts_of (cond b (x ∷ filter (is_before token) (take n xs)) (filter (is_before token) (take n xs)))) ≡ take (suc n) (texts_of (cond b (x ∷ filter (is_before token) xs) (filter (is_before token) xs)))
    go true e r = ap (λ zs. x.text ∷ zs) r
    go false e r =
        let le : token ≤ x.token = late e in
        ap (λ zs. take (suc n) (texts_of zs)) (none_before (take n xs) x.token token (rises_on xs n x.token h.1) le) ∙ sym (ap (λ zs. take (suc n) (texts_of zs)) (none_before xs x.token token h.1 le))
      where
        late : nat_lt x.token token ≡ false → token ≤ x.token
        late f = ltb-false x.token token f

-- the names at each token are those of the first 64
pub first_few : (xs : List Identifier) (token : ℕ) → Rising 0 xs → first_names (take 64 xs) token ≡ first_names xs token
unfolding first_names
first_few xs token h = few xs 64 0 token h

-- of the arena, from one on

abbrev pub From : ℕ → List Named → ℕ → Type 0
From last names i = Rising last (map plain_identifier (drop i names))

rest : (names : List Named) (i : ℕ) (d : Named) → i < length names → drop i names ≡ get_or names i d ∷ drop (i + 1) names
rest names i d lt = rw add-one (drop-cons names i d lt)

pub one_back : (last : ℕ) (names : List Named) (i : ℕ) (d : Named) → i < length names → last ≤ (get_or names i d).token → From (get_or names i d).token names (i + 1) → From last names i
unfolding Rising plain_identifier
one_back last names i d lt le h = subst (λ ys. Rising last (map plain_identifier ys)) (sym (rest names i d lt)) (le, h)

pub end_rises : (last : ℕ) (names : List Named) (i : ℕ) → length names ≤ i → From last names i
unfolding Rising
end_rises last names i le = subst (λ ys. Rising last (map plain_identifier ys)) (sym (drop_all i names le)) tt
