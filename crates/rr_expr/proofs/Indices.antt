-- indices, and the places that they name
use Rattle.std.proofs.Common.{◌≡◌, ℕ, zero, suc, ◌+◌, ◌-◌, ◌*◌, ◌^◌, ◌<◌, ◌≤◌, Bool, true, false, ◌&&◌, List, [], ◌∷◌, ◌++◌, length, get_or, refl, sym, ◌∙◌, arith, nat_lt, ℤ, pos, negsuc, ◌+ℤ◌, ◌-ℤ◌}
use Rattle.std.proofs.lemmas.Int.{ints}
use lib.IntN.{nat_abs}
use Rattle.std.proofs.lemmas.List.{get_or_past, append-nil, length-append}
use Rattle.std.proofs.Math.Nat.{mod-eq_of_lt}
use Rattle.rr_bits.specs.Words.{number, word, top, negated, reading, bit_in, select}
use Rattle.rr_bits.specs.Fields.{number_word}
use Rattle.rr_bits.proofs.Numbers.{number-lt}
use Rattle.rr_bits.proofs.Places.{word_tabulated, has_zero}
use Rattle.std.specs.Bool.{beq}
use Rattle.std.proofs.lemmas.Bool.{lt-ltb, le-ltb}
use Rattle.rr_expr.specs.Selects.{place, lowest_place, repeated}

some_bit : (xs : List Bool) (i : ℕ) → get_or xs i false ≡ true → 0 < number xs
unfolding number
some_bit [] i h = cc
some_bit (b ∷ bs) zero h = rw h (omega arith)
some_bit (b ∷ bs) (suc i) h = let r = some_bit bs i h in omega arith

negated_number : (xs : List Bool) → 0 < number xs → number (negated xs) ≡ 2 ^ length xs - number xs
negated_number xs p = let l = number-lt xs in number_word (length xs) (2 ^ length xs - number xs) ∙ mod-eq_of_lt (omega (arith, p, l))

minus : (n m : ℕ) → n < m → pos 0 -ℤ pos (m - n) ≡ pos n -ℤ pos m
minus n m h = grind (arith, ints)

pub negative_reading : (signed : Bool) (xs : List Bool) → (signed && top xs) ≡ true → pos 0 -ℤ pos (number (negated xs)) ≡ reading signed xs
negative_reading true xs h = rw (h, negated_number xs (some_bit xs (length xs - 1) h)) (minus (number xs) (2 ^ length xs) (number-lt xs))
negative_reading false xs h = cc

far_bit : (xs : List Bool) (z : ℤ) → length xs ≤ 128 → 128 ≤ nat_abs z → false ≡ bit_in xs z
far_bit xs (pos n) l h = sym (get_or_past xs n false (omega arith))
far_bit xs (negsuc n) l h = refl

pub select_far : (w : ℕ) (xs : List Bool) (from : ℤ) → length xs ≤ 128 → w ≤ 128 → 256 ≤ nat_abs from → word w 0 ≡ select xs from w
select_far w xs from l v h = word_tabulated w 0 _ (λ i k. has_zero i ∙ far_bit xs (from +ℤ pos i) l (grind (arith, ints)))

pub place_falling : (r : ℕ × ℕ) (i : ℤ) → nat_lt r.0 r.1 ≡ true → place r i ≡ pos r.1 -ℤ i
place_falling r i h = rw h refl

pub place_rising : (r : ℕ × ℕ) (i : ℤ) → nat_lt r.0 r.1 ≡ false → place r i ≡ i -ℤ pos r.1
place_rising r i h = rw h refl

pub place_far : (r : ℕ × ℕ) (i : ℤ) (below : ℕ) → r.1 < 4294967296 → below ≤ 128 → 1099511627776 ≤ nat_abs i → 256 ≤ nat_abs (place r i -ℤ pos below)
place_far r i below a b h = by_cases (nat_lt r.0 r.1) refl
  where
    by_cases : (t : Bool) → nat_lt r.0 r.1 ≡ t → 256 ≤ nat_abs (place r i -ℤ pos below)
    by_cases true e = rw e (grind (arith, ints))
    by_cases false e = rw e (grind (arith, ints))

pub place_near : (r : ℕ × ℕ) (i : ℤ) → r.0 < r.1 → place r i ≡ pos r.1 -ℤ i
place_near r i h = place_falling r i (lt-ltb r.0 r.1 h)

pub place_plain : (r : ℕ × ℕ) (i : ℤ) → r.1 ≤ r.0 → place r i ≡ i -ℤ pos r.1
place_plain r i h = place_rising r i (le-ltb r.0 r.1 h)

up_by : (m : ℕ) (i : ℤ) → (i +ℤ pos (suc m)) -ℤ pos 1 ≡ i +ℤ pos m
up_by m i = grind (arith, ints)

down_by : (m : ℕ) (i : ℤ) → (i +ℤ pos 1) -ℤ pos (suc m) ≡ i -ℤ pos m
down_by m i = grind (arith, ints)

from_top : (b m : ℕ) (i : ℤ) → (pos b -ℤ i) -ℤ pos m ≡ pos b -ℤ (i +ℤ pos m)
from_top b m i = grind (arith, ints)

exchanged : (b m : ℕ) (i : ℤ) → (i -ℤ pos b) -ℤ pos m ≡ (i -ℤ pos m) -ℤ pos b
exchanged b m i = grind (arith, ints)

falling_up : (b n : ℕ) (i : ℤ) → 1 ≤ n → (pos b -ℤ i) -ℤ pos (n - 1) ≡ pos b -ℤ ((i +ℤ pos n) -ℤ pos 1)
falling_up b zero i h = absurd (omega arith)
falling_up b (suc m) i h = let e : suc m - 1 ≡ m = omega arith in rw (e, up_by m i) (from_top b m i)

rising_down : (b n : ℕ) (i : ℤ) → 1 ≤ n → (i -ℤ pos b) -ℤ pos (n - 1) ≡ ((i +ℤ pos 1) -ℤ pos n) -ℤ pos b
rising_down b zero i h = absurd (omega arith)
rising_down b (suc m) i h = let e : suc m - 1 ≡ m = omega arith in rw (e, down_by m i) (exchanged b m i)

pub unmoved : (z : ℤ) → z -ℤ pos 0 ≡ z
unmoved z = grind (arith, ints)

-- the lowest place of n indices from one, where they go down to the right bound's side or away from it
pub lowest_moved : (r : ℕ × ℕ) (up : Bool) (n : ℕ) (i : ℤ) → 1 ≤ n → beq up (nat_lt r.0 r.1) ≡ true → place r i -ℤ pos (n - 1) ≡ lowest_place r up i n
lowest_moved r up n i h e = go up (nat_lt r.0 r.1) refl e
  where
    go : (u t : Bool) → nat_lt r.0 r.1 ≡ t → beq u t ≡ true → place r i -ℤ pos (n - 1) ≡ lowest_place r u i n
    go true true f e = rw f (falling_up r.1 n i h)
    go false false f e = rw f (rising_down r.1 n i h)
    go true false f e = cc
    go false true f e = cc

pub lowest_here : (r : ℕ × ℕ) (up : Bool) (n : ℕ) (i : ℤ) → beq up (nat_lt r.0 r.1) ≡ false → place r i -ℤ pos 0 ≡ lowest_place r up i n
lowest_here r up n i e = go up (nat_lt r.0 r.1) refl e
  where
    go : (u t : Bool) → nat_lt r.0 r.1 ≡ t → beq u t ≡ false → place r i -ℤ pos 0 ≡ lowest_place r u i n
    go true true f e = cc
    go false false f e = cc
    go true false f e = rw f (unmoved _)
    go false true f e = rw f (unmoved _)

pub repeated_one : (xs : List Bool) → xs ≡ repeated 1 xs
unfolding repeated
repeated_one xs = sym (append-nil xs)

pub repeated_next : (n : ℕ) (xs : List Bool) → repeated (n + 1) xs ≡ xs ++ repeated n xs
unfolding repeated
repeated_next n xs = let e : n + 1 ≡ suc n = omega arith in rw e refl

pub length_repeated : (n : ℕ) (xs : List Bool) → length (repeated n xs) ≡ n * length xs
unfolding repeated
length_repeated zero xs = omega arith
length_repeated (suc n) xs = let r = length_repeated n xs in length-append xs (repeated n xs) ∙ omega (arith, r)

mul_within : (n c k : ℕ) → n ≤ c → n * k ≤ c * k
mul_within zero c k h = omega arith
mul_within (suc n) zero k h = absurd (omega arith)
mul_within (suc n) (suc c) k h = let r = mul_within n c k (omega arith) in omega (arith, r)

pub room_for_one : (n c : ℕ) (xs : List Bool) → n < c → c * length xs ≤ 128 → length xs + length (repeated n xs) ≤ 128
room_for_one n c xs h l = let r = mul_within (n + 1) c (length xs) (omega arith) in let k = length_repeated n xs in omega (arith, r, k)
