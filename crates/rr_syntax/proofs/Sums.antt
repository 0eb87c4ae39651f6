-- Measures of lists that are sums, or greatest numbers, over the elements: at the first elements of a list, and one more.
use Rattle.std.proofs.Common.{◌≡◌, ℕ, zero, suc, max, ◌+◌, ◌≤◌, ◌<◌, List, [], ◌∷◌, length, get_or, take, refl, ap, arith}
use Rattle.std.proofs.lemmas.List.{take_all}

-- F is the sum of w over a list
pub record IsSum {A : Type 0} (F : List A → ℕ) (w : A → ℕ) : Type 0 where
  pub none : F [] ≡ 0
  pub more : (x : A) (xs : List A) → F (x ∷ xs) ≡ w x + F xs

pub sum_start : {A : Type 0} (F : List A → ℕ) (w : A → ℕ) → IsSum F w → (xs : List A) → F (take 0 xs) ≡ 0
sum_start F w s [] = s.none
sum_start F w s (y ∷ ys) = s.none

pub sum_next : {A : Type 0} (F : List A → ℕ) (w : A → ℕ) → IsSum F w → (xs : List A) (i : ℕ) (x : A) → i < length xs → x ≡ get_or xs i x → F (take (i + 1) xs) ≡ F (take i xs) + w x
sum_next F w s [] i x h e = absurd (omega arith)
sum_next F w s (y ∷ ys) zero x h e = omega (arith, s.more y (take 0 ys), sum_start F w s ys, s.none, ap w e)
sum_next F w s (y ∷ ys) (suc i) x h e =
    let n : suc i + 1 ≡ suc (i + 1) = omega arith in
    rw n (omega (arith, s.more y (take (i + 1) ys), s.more y (take i ys), sum_next F w s ys i x (omega arith) e))

pub sum_within : {A : Type 0} (F : List A → ℕ) (w : A → ℕ) → IsSum F w → (xs : List A) (i : ℕ) (x : A) → i < length xs → x ≡ get_or xs i x → F (take i xs) + w x ≤ F xs
sum_within F w s [] i x h e = absurd (omega arith)
sum_within F w s (y ∷ ys) zero x h e = omega (arith, s.more y ys, s.none, ap w e)
sum_within F w s (y ∷ ys) (suc i) x h e = omega (arith, s.more y ys, s.more y (take i ys), sum_within F w s ys i x (omega arith) e)

pub sum_full : {A : Type 0} (F : List A → ℕ) (xs : List A) (i : ℕ) → length xs ≤ i → F (take i xs) ≡ F xs
sum_full F xs i h = ap F (take_all i xs h)

-- F is the greatest of the numbers that w gives a list
pub record IsGreatest {A : Type 0} (F : List A → ℕ) (w : A → ℕ) : Type 0 where
  pub none : F [] ≡ 0
  pub more : (x : A) (xs : List A) → F (x ∷ xs) ≡ max (w x) (F xs)

pub greatest_start : {A : Type 0} (F : List A → ℕ) (w : A → ℕ) → IsGreatest F w → (xs : List A) → F (take 0 xs) ≡ 0
greatest_start F w s [] = s.none
greatest_start F w s (y ∷ ys) = s.none

pub greatest_next : {A : Type 0} (F : List A → ℕ) (w : A → ℕ) → IsGreatest F w → (xs : List A) (i : ℕ) (x : A) → i < length xs → x ≡ get_or xs i x → F (take (i + 1) xs) ≡ max (F (take i xs)) (w x)
greatest_next F w s [] i x h e = absurd (omega arith)
greatest_next F w s (y ∷ ys) zero x h e = omega (arith, s.more y (take 0 ys), greatest_start F w s ys, s.none, ap w e)
greatest_next F w s (y ∷ ys) (suc i) x h e =
    let n : suc i + 1 ≡ suc (i + 1) = omega arith in
    rw n (omega (arith, s.more y (take (i + 1) ys), s.more y (take i ys), greatest_next F w s ys i x (omega arith) e))

pub greatest_within : {A : Type 0} (F : List A → ℕ) (w : A → ℕ) → IsGreatest F w → (xs : List A) (i : ℕ) (x : A) → i < length xs → x ≡ get_or xs i x → w x ≤ F xs
greatest_within F w s [] i x h e = absurd (omega arith)
greatest_within F w s (y ∷ ys) zero x h e = omega (arith, s.more y ys, ap w e)
greatest_within F w s (y ∷ ys) (suc i) x h e = omega (arith, s.more y ys, greatest_within F w s ys i x (omega arith) e)

get_or_same : {A : Type 0} (xs : List A) (i : ℕ) (d e : A) → i < length xs → get_or xs i d ≡ get_or xs i e
get_or_same [] i d e h = absurd (omega arith)
get_or_same (y ∷ ys) zero d e h = refl
get_or_same (y ∷ ys) (suc i) d e h = get_or_same ys i d e (omega arith)

-- the same for an element that is read with a default d
pub sum_next_at : {A : Type 0} (F : List A → ℕ) (w : A → ℕ) → IsSum F w → (xs : List A) (i : ℕ) → i < length xs → (d : A) → F (take (i + 1) xs) ≡ F (take i xs) + w (get_or xs i d)
sum_next_at F w s xs i h d = sum_next F w s xs i (get_or xs i d) h (get_or_same xs i d (get_or xs i d) h)

pub sum_within_at : {A : Type 0} (F : List A → ℕ) (w : A → ℕ) → IsSum F w → (xs : List A) (i : ℕ) → i < length xs → (d : A) → F (take i xs) + w (get_or xs i d) ≤ F xs
sum_within_at F w s xs i h d = sum_within F w s xs i (get_or xs i d) h (get_or_same xs i d (get_or xs i d) h)

pub greatest_next_at : {A : Type 0} (F : List A → ℕ) (w : A → ℕ) → IsGreatest F w → (xs : List A) (i : ℕ) → i < length xs → (d : A) → F (take (i + 1) xs) ≡ max (F (take i xs)) (w (get_or xs i d))
greatest_next_at F w s xs i h d = greatest_next F w s xs i (get_or xs i d) h (get_or_same xs i d (get_or xs i d) h)

pub greatest_within_at : {A : Type 0} (F : List A → ℕ) (w : A → ℕ) → IsGreatest F w → (xs : List A) (i : ℕ) → i < length xs → (d : A) → w (get_or xs i d) ≤ F xs
greatest_within_at F w s xs i h d = greatest_within F w s xs i (get_or xs i d) h (get_or_same xs i d (get_or xs i d) h)
