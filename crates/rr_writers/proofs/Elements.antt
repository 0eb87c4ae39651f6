-- The elements of a list in turn.
use Rattle.std.proofs.Common.{◌≡◌, ◌∙◌, sym, ap, ℕ, ◌+◌, ◌<◌, ◌≤◌, List, [], ◌∷◌, ◌++◌, length, get_or, take, drop, append_assoc, append-nil}
use Rattle.std.proofs.lemmas.List.{take_more, drop_all, take-append-drop, get_or_default}
use Rattle.rr_named_bits.proofs.Growing.{rest_is}

pub taken_next : {X : Type 0} (xs : List X) (i : ℕ) (x : X) → i < length xs → x ≡ get_or xs i x → take (i + 1) xs ≡ take i xs ++ x ∷ []
taken_next xs i x l e = take_more xs i x l ∙ ap (λ y. take i xs ++ y ∷ []) (sym e)

pub split_at : {X : Type 0} (xs : List X) (i : ℕ) (x : X) → i < length xs → x ≡ get_or xs i x → (take i xs ++ x ∷ []) ++ drop (i + 1) xs ≡ xs
split_at xs i x l e = append_assoc (take i xs) (x ∷ []) (drop (i + 1) xs) ∙ (ap (λ z. take i xs ++ z) (sym (rest_is xs i x l e)) ∙ take-append-drop i xs)

pub take_all : {X : Type 0} (i : ℕ) (xs : List X) → length xs ≤ i → take i xs ≡ xs
take_all i xs l = sym (append-nil (take i xs)) ∙ (ap (λ z. take i xs ++ z) (sym (drop_all i xs l)) ∙ take-append-drop i xs)

pub element : {X : Type 0} (xs : List X) (i : ℕ) (d : X) → i < length xs → get_or xs i d ≡ get_or xs i (get_or xs i d)
element xs i d l = get_or_default xs i d (get_or xs i d) l
