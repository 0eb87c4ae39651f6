-- Lists whose numbers rise.
use Rattle.std.proofs.Common.{◌≡◌, ◌⊎◌, inl, inr, ℕ, ◌<◌, ◌≤◌, Bool, true, false, if◌then◌else◌, List, [], ◌∷◌, ◌++◌, filter, Contains, refl, sym, ap, ap₂, ◌∙◌, arith}
use Rattle.std.specs.List.{AllByRecursion}
use Rattle.rr_sites_complete.specs.GuardNames.{Rising}
use Rattle.rr_sites_complete.proofs.Expressions.{all_weaken, all_both}
use Rattle.rr_sites_complete.proofs.Lists.{head_in, tail_in, none_in, all_in, every_in, cases_in, filter_from}

-- in a window of numbers
pub record Spread {X : Type 0} (f : X → ℕ) (low high : ℕ) (xs : List X) : Type 0 where
  pub all : AllByRecursion (λ x. (low ≤ f x) × (f x < high)) xs
  pub rising : Rising f xs

module _ {X : Type 0} (f : X → ℕ) where
  pub spread_wider : (low high a b : ℕ) (xs : List X) → a ≤ low → high ≤ b → Spread f low high xs → Spread f a b xs
  spread_wider low high a b xs p q h = record { all = all_weaken (λ x. (low ≤ f x) × (f x < high)) (λ x. (a ≤ f x) × (f x < b)) xs (λ x w. (omega (arith, w, p), omega (arith, w, q))) h.all; rising = h.rising }

  pub spread_none : (low high : ℕ) → Spread f low high []
  unfolding Rising
  spread_none low high = record { all = tt; rising = tt }

  pub spread_one : (low high : ℕ) (x : X) → low ≤ f x → f x < high → Spread f low high (x ∷ [])
  unfolding Rising
  spread_one low high x p q = record { all = ((p, q), tt); rising = (tt, tt) }

  pub rising_join : (mid : ℕ) (xs ys : List X) → AllByRecursion (λ x. f x < mid) xs → AllByRecursion (λ x. mid ≤ f x) ys → Rising f xs → Rising f ys → Rising f (xs ++ ys)
  unfolding Rising
  rising_join mid [] ys a b o p = p
  rising_join mid (x ∷ xs) ys a b o p =
      let t = a.0 in
      (all_both (λ y. f x < f y) xs ys o.0 (all_weaken (λ y. mid ≤ f y) (λ y. f x < f y) ys (λ y l. omega (arith, t, l)) b), rising_join mid xs ys a.1 b o.1 p)

  pub spread_join : (low mid high : ℕ) (xs ys : List X) → low ≤ mid → mid ≤ high → Spread f low mid xs → Spread f mid high ys → Spread f low high (xs ++ ys)
  spread_join low mid high xs ys p q a b =
      let x = spread_wider low mid low high xs (omega arith) q a in
      let y = spread_wider mid high low high ys p (omega arith) b in
      record {
        all = all_both (λ x. (low ≤ f x) × (f x < high)) xs ys x.all y.all;
        rising = rising_join mid xs ys (all_weaken (λ x. (low ≤ f x) × (f x < mid)) (λ x. f x < mid) xs (λ x w. w.1) a.all) (all_weaken (λ x. (mid ≤ f x) × (f x < high)) (λ x. mid ≤ f x) ys (λ x w. w.0) b.all) a.rising b.rising;
      }

  -- what is left of such a list
  pub rising_filter : (t : X → Bool) (xs : List X) → Rising f xs → Rising f (filter t xs)
  unfolding Rising
  rising_filter t [] h = tt
  rising_filter t (x ∷ xs) h = by (t x) (rising_filter t xs h.1) (every_in (λ y. f x < f y) (filter t xs) (λ y c. all_in (λ y. f x < f y) xs y h.0 (filter_from t xs y c).0))
    where
      by : (b : Bool) → Rising f (filter t xs) → AllByRecursion (λ y. f x < f y) (filter t xs) → Rising f (if b then x ∷ filter t xs else filter t xs)
      by true r l = (l, r)
      by false r l = r

  -- two with the same elements are one
  same_heads : (x y : X) (xs ys : List X) → Rising f (x ∷ xs) → Rising f (y ∷ ys) → Contains (y ∷ ys) x → Contains (x ∷ xs) y → x ≡ y
  unfolding Rising
  same_heads x y xs ys h k c d = go (cases_in y ys x c) (cases_in x xs y d)
    where
      go : (y ≡ x) ⊎ Contains ys x → (x ≡ y) ⊎ Contains xs y → x ≡ y
      go (inl e) q = sym e
      go (inr a) (inl e) = e
      go (inr a) (inr b) = let p = all_in (λ z. f y < f z) ys x k.0 a in let q = all_in (λ z. f x < f z) xs y h.0 b in absurd (omega (arith, p, q))

  beyond : (x y : X) (xs ys : List X) → x ≡ y → Rising f (x ∷ xs) → ((z : X) → Contains (x ∷ xs) z → Contains (y ∷ ys) z) → (z : X) → Contains xs z → Contains ys z
  unfolding Rising
  beyond x y xs ys e h k z c = go (cases_in y ys z (k z (tail_in x xs z c)))
    where
      go : (y ≡ z) ⊎ Contains ys z → Contains ys z
      go (inl q) = let l = all_in (λ w. f x < f w) xs z h.0 c in let s : f x ≡ f z = ap f (e ∙ q) in absurd (omega (arith, l, s))
      go (inr d) = d

  pub same_rising : (xs ys : List X) → Rising f xs → Rising f ys → ((x : X) → Contains xs x → Contains ys x) → ((x : X) → Contains ys x → Contains xs x) → xs ≡ ys
  unfolding Rising
  same_rising [] [] h k a b = refl
  same_rising [] (y ∷ ys) h k a b = absurd (none_in y (b y (head_in y ys)))
  same_rising (x ∷ xs) [] h k a b = absurd (none_in x (a x (head_in x xs)))
  same_rising (x ∷ xs) (y ∷ ys) h k a b =
      let e = same_heads x y xs ys h k (a x (head_in x xs)) (b y (head_in y ys)) in
      ap₂ (λ u us. u ∷ us) e (same_rising xs ys h.1 k.1 (beyond x y xs ys e h a) (beyond y x ys xs (sym e) k b))
