-- the bits of numbers and of words
use Rattle.std.proofs.Common.{◌≡◌, ℕ, zero, suc, ◌+◌, ◌-◌, ◌*◌, ◌/◌, ◌%◌, ◌^◌, ◌<◌, ◌≤◌, ◌==◌, max, min, Bool, true, false, cond, not, ◌&&◌, ◌||◌, length, get_or, refl, sym, ◌∙◌, arith, ◌⊎◌, inl, inr, nat_lt}
use Rattle.std.specs.Int.{bit_at}
use Rattle.std.specs.Int.RustNames.{bit_or, bit_xor, bit_and}
use Rattle.std.proofs.lemmas.List.FromFn.{fill_by_all, length-map-range_with_len, get_or-map-range_with_len}
use Rattle.std.proofs.lemmas.List.{get_or_past, same_lists}
use Rattle.std.proofs.lemmas.Bool.{lt-ltb, le-ltb, cases_lt}
use Rattle.std.proofs.lemmas.Nat.{shr-shr, pow_pos}
use Rattle.std.proofs.lemmas.Nat.Bits.{bit_at_lowest, bit_at-suc, bit_at-zero, bit_at-lt, bit_at_and, bit_at_or, bit_at_xor, bit_at_ones, bit_at_ones_above, bit_at_above, bit_at_cat_low, bit_at_cat_high, shr_and_one}
use Rattle.rr_bits.specs.Words.{word, tabulate}
use Rattle.rr_bits.specs.Fields.{length_word}

pub length_tabulate : (w : ℕ) (f : ℕ → Bool) → length (tabulate w f) ≡ w
unfolding tabulate
length_tabulate w f = length-map-range_with_len f 0 w

pub get_tabulate : (w i : ℕ) (f : ℕ → Bool) (d : Bool) → i < w → get_or (tabulate w f) i d ≡ f i
unfolding tabulate
get_tabulate w i f d h = get_or-map-range_with_len f 0 w i i d h (omega arith)

-- bit i of a number
unfoldable pub has : ℕ → ℕ → Bool
has n i = bit_at n i == 1

pub has_zero : (i : ℕ) → has 0 i ≡ false
unfolding has
has_zero i = rw (bit_at-zero i) refl

pub has_above : (n w i : ℕ) → n < 2 ^ w → w ≤ i → has n i ≡ false
unfolding has
has_above n w i h l = rw (bit_at_above n w i h l) refl

pub has_ones : (w i : ℕ) → has (2 ^ w - 1) i ≡ nat_lt i w
unfolding has
has_ones w i = by_cases (cases_lt i w)
  where
    by_cases : ((i < w) ⊎ (w ≤ i)) → (bit_at (2 ^ w - 1) i == 1) ≡ nat_lt i w
    by_cases (inl l) = rw (bit_at_ones w i l, lt-ltb i w l) refl
    by_cases (inr l) = rw (bit_at_ones_above w i l, le-ltb i w l) refl

pub has_shr : (n k i : ℕ) → has (n / 2 ^ k) i ≡ has n (i + k)
unfolding has
has_shr n k i = let e : k + i ≡ i + k = omega arith in rw (shr-shr n k i, e) refl

pub has_shl : (n k i : ℕ) → has (n * 2 ^ k) i ≡ cond (nat_lt i k) false (has n (i - k))
unfolding has
has_shl n k i = by_cases (cases_lt i k)
  where
    same : n * 2 ^ k ≡ n * 2 ^ k + 0
    same = omega arith

    by_cases : ((i < k) ⊎ (k ≤ i)) → (bit_at (n * 2 ^ k) i == 1) ≡ cond (nat_lt i k) false (bit_at n (i - k) == 1)
    by_cases (inl l) = rw (lt-ltb i k l, same, bit_at_cat_low n k 0 i l, bit_at-zero i) refl
    by_cases (inr l) = rw (le-ltb i k l, same, bit_at_cat_high n k 0 i (pow_pos k) l) refl

or_small : (x y : ℕ) → x < 2 → y < 2 → (max x y == 1) ≡ ((x == 1) || (y == 1))
or_small zero zero h l = refl
or_small zero (suc zero) h l = refl
or_small (suc zero) zero h l = refl
or_small (suc zero) (suc zero) h l = refl
or_small (suc (suc x)) y h l = absurd (omega arith)
or_small x (suc (suc y)) h l = absurd (omega arith)

pub has_or : (m n i : ℕ) → has (bit_or m n) i ≡ (has m i || has n i)
unfolding has
has_or m n i = rw (bit_at_or m n i) (or_small _ _ (bit_at-lt m i) (bit_at-lt n i))

and_small : (x y : ℕ) → x < 2 → y < 2 → (min x y == 1) ≡ ((x == 1) && (y == 1))
and_small zero zero h l = refl
and_small zero (suc zero) h l = refl
and_small (suc zero) zero h l = refl
and_small (suc zero) (suc zero) h l = refl
and_small (suc (suc x)) y h l = absurd (omega arith)
and_small x (suc (suc y)) h l = absurd (omega arith)

pub has_and : (m n i : ℕ) → has (bit_and m n) i ≡ (has m i && has n i)
unfolding has
has_and m n i = rw (bit_at_and m n i) (and_small _ _ (bit_at-lt m i) (bit_at-lt n i))

-- exclusive or, with a number whose bit is known
xor_true : (x y : ℕ) → x < 2 → (y == 1) ≡ true → y < 2 → ((x + y) % 2 == 1) ≡ not (x == 1)
xor_true zero zero h e l = cc
xor_true zero (suc zero) h e l = refl
xor_true (suc zero) zero h e l = cc
xor_true (suc zero) (suc zero) h e l = refl
xor_true (suc (suc x)) y h e l = absurd (omega arith)
xor_true x (suc (suc y)) h e l = absurd (omega arith)

xor_false : (x y : ℕ) → x < 2 → (y == 1) ≡ false → y < 2 → ((x + y) % 2 == 1) ≡ (x == 1)
xor_false zero zero h e l = refl
xor_false zero (suc zero) h e l = cc
xor_false (suc zero) zero h e l = refl
xor_false (suc zero) (suc zero) h e l = cc
xor_false (suc (suc x)) y h e l = absurd (omega arith)
xor_false x (suc (suc y)) h e l = absurd (omega arith)

pub has_xor_true : (m n i : ℕ) → has n i ≡ true → has (bit_xor m n) i ≡ not (has m i)
unfolding has
has_xor_true m n i e = rw (bit_at_xor m n i) (xor_true _ _ (bit_at-lt m i) e (bit_at-lt n i))

pub has_xor_false : (m n i : ℕ) → has n i ≡ false → has (bit_xor m n) i ≡ has m i
unfolding has
has_xor_false m n i e = rw (bit_at_xor m n i) (xor_false _ _ (bit_at-lt m i) e (bit_at-lt n i))

-- the code's test of a bit
pub tested : (n i : ℕ) → (bit_and (n / 2 ^ i) 1 == 1) ≡ has n i
unfolding has
tested n i = rw (shr_and_one n i) refl

pub get_word : (w n i : ℕ) (d : Bool) → i < w → get_or (word w n) i d ≡ has n i
unfolding word has
get_word zero n i d h = absurd (omega arith)
get_word (suc w) n zero d h = rw (bit_at_lowest n) refl
get_word (suc w) n (suc i) d h = rw (bit_at-suc n i) (get_word w (n / 2) i d (omega arith))

pub get_past : (w n i : ℕ) (d : Bool) → w ≤ i → get_or (word w n) i d ≡ d
get_past w n i d h = let e = length_word w n in get_or_past (word w n) i d (omega arith)

pub word_tabulated : (w n : ℕ) (f : ℕ → Bool) → ((i : ℕ) → i < w → has n i ≡ f i) → word w n ≡ tabulate w f
unfolding tabulate
word_tabulated w n f h = fill_by_all f (word w n) w false (length_word w n) (λ i l. get_word w n i false l ∙ h i l)

pub tabulate_same : (w : ℕ) (f g : ℕ → Bool) → ((i : ℕ) → i < w → f i ≡ g i) → tabulate w f ≡ tabulate w g
tabulate_same w f g h = same_lists (tabulate w f) (tabulate w g) (length_tabulate w f ∙ sym (length_tabulate w g)) (λ k d l. let b : k < w = rw (length_tabulate w f) at l in get_tabulate w k f d b ∙ h k b ∙ sym (get_tabulate w k g d b))
