-- Arguments that are taken one after the other.
use Rattle.std.proofs.Common.{◌≡◌, ◌∙◌, List, [], ◌∷◌, ◌++◌, length, refl, sym, ap, arith, append_assoc, append-nil}

module _ {X : Type 0} (all words left : List X) (is : words ++ left ≡ all) where
  pub one_more : (word : X) (rest grown : List X) → left ≡ word ∷ rest → grown ≡ words ++ (word ∷ []) → grown ++ rest ≡ all
  one_more word rest grown more grows = ap (λ (xs : List X). xs ++ rest) grows ∙ append_assoc words (word ∷ []) rest ∙ ap (λ (xs : List X). words ++ xs) (sym more) ∙ is

  pub none_left : length left ≡ 0 → words ≡ all
  none_left none = sym (append-nil words) ∙ ap (λ (xs : List X). words ++ xs) (sym (empty left none)) ∙ is
    where
      empty : (xs : List X) → length xs ≡ 0 → xs ≡ []
      empty [] e = refl
      empty (x ∷ xs) e = absurd (omega (arith, e))
