-- Bytes that stand one behind the other, from the first on.
use Rattle.std.proofs.Common.{◌≡◌, ℕ, ◌+◌, ◌-◌, ◌<◌, ◌≤◌, ◌&&◌, true, false, List, length, take, drop, get_or, sym, ◌∙◌, ap, arith, add-one, drop-cons, length-drop}
use Rattle.std.proofs.lemmas.List.{take_all, drop_all}
use Rattle.rr_directive.specs.declared.origin.Origin.{Origin}
use Rattle.rr_edit.specs.Lifted.{adjoin, is_next}

module _ (os : List Origin) (i : ℕ) (d : Origin) (l : i < length os) where
  abbrev O : Origin
  O = get_or os i d

  here : adjoin (drop i os) ≡ (O.exact && (is_next O (drop (i + 1) os) && adjoin (drop (i + 1) os)))
  unfolding adjoin
  here = ap adjoin (drop-cons os i d l) ∙ ap (λ j. O.exact && (is_next O (drop j os) && adjoin (drop j os))) (sym (add-one i))

  -- those behind it, as the code has them
  rest : take (length os - (i + 1)) (drop (i + 1) os) ≡ drop (i + 1) os
  rest = take_all (length os - (i + 1)) (drop (i + 1) os) (let n = length-drop (i + 1) os in omega (arith, n))

  pub adjoin_not_exact : O.exact ≡ false → adjoin os ≡ adjoin (drop i os) → false ≡ adjoin os
  adjoin_not_exact e h = sym (h ∙ here ∙ ap (λ b. b && (is_next O (drop (i + 1) os) && adjoin (drop (i + 1) os))) e)

  pub adjoin_not_next : O.exact ≡ true → is_next O (take (length os - (i + 1)) (drop (i + 1) os)) ≡ false → adjoin os ≡ adjoin (drop i os) → false ≡ adjoin os
  adjoin_not_next e n h =
      sym (h ∙ here ∙ ap (λ b. b && (is_next O (drop (i + 1) os) && adjoin (drop (i + 1) os))) e ∙ ap (λ b. b && adjoin (drop (i + 1) os)) (ap (is_next O) (sym rest) ∙ n))

  pub adjoin_goes : O.exact ≡ true → is_next O (take (length os - (i + 1)) (drop (i + 1) os)) ≡ true → adjoin os ≡ adjoin (drop i os) → adjoin os ≡ adjoin (drop (i + 1) os)
  adjoin_goes e n h = h ∙ here ∙ ap (λ b. b && (is_next O (drop (i + 1) os) && adjoin (drop (i + 1) os))) e ∙ ap (λ b. b && adjoin (drop (i + 1) os)) (ap (is_next O) (sym rest) ∙ n)

pub adjoin_all : (os : List Origin) (i : ℕ) → length os ≤ i → adjoin os ≡ adjoin (drop i os) → true ≡ adjoin os
unfolding adjoin
adjoin_all os i l h = sym (h ∙ ap adjoin (drop_all i os l))
