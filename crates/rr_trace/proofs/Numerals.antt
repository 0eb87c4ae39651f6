-- Numbers of 128 bits as the values of numerals.
use Rattle.std.proofs.Common.{◌≡◌, ◌∙◌, ℕ, ◌+◌, ◌-◌, ◌*◌, ◌/◌, ◌%◌, ◌^◌, ◌<◌, ◌≤◌, Bool, true, false, List, take, get_or, length, fold, Option, Some, None, Result, Ok, Err, nat_lt, sym, ap, refl, arith, if◌then◌else◌}
use Rattle.std.specs.Int.RustNames.{bit_and}
use Rattle.std.proofs.Math.Pow.{mod-mod-pow}
use Rattle.std.proofs.Math.Nat.{mod-add-div, add-mul-mod_self_left, pow-le-pow_right}
use Rattle.std.proofs.lemmas.Nat.{and_mask, mul-le, mul-mod_first, pow_pos}
use Rattle.std.proofs.lemmas.Nat.Bits.{ones_shr}
use Rattle.std.proofs.lemmas.Bool.{lt-ltb, le-ltb}
use Rattle.std.proofs.lemmas.List.Folds.{fold_stuck}
use Rattle.std.proofs.lemmas.List.Sums.{fold_more}
use Rattle.rr_trace.specs.declared.cell.Digit.{Digit}
use Rattle.rr_trace.specs.declared.cell.Base.{Base}
use Rattle.rr_trace.specs.declared.cell.Cell.{Cell}
use Rattle.rr_trace.specs.declared.cell.CellFault.{CellFault}
use Rattle.rr_trace.specs.declared.cell.CellFault.TheVariants.{TooLarge}
use Rattle.rr_trace.specs.Cells.{Numeral, Number, fitted, with_byte, radix, digit, is_separator, is_framed, numeral}
use Rattle.rr_trace.specs.Numbers.{IsValue}

pub ones_are : (w : ℕ) → 1 ≤ w → w ≤ 128 → (2 ^ 128 - 1) / 2 ^ (128 - w) ≡ 2 ^ w - 1
ones_are w l h =
    let e : 128 - (128 - w) ≡ w = omega arith in
    rw e at (ones_shr 128 (128 - w) (omega arith))

narrow : (n k w : ℕ) → w ≤ k → n % 2 ^ k % 2 ^ w ≡ n % 2 ^ w
narrow n k w h = let e : k ≡ (k - w) + w = omega arith in rw e (mod-mod-pow n (k - w) w)

-- the bits of a numeral that fits
pub fits : (w v u : ℕ) (n : Numeral) → w ≤ 128 → v ≡ n.0 → u ≡ n.1 % 2 ^ 128 → v ≤ 2 ^ w - 1
    → Ok (record { value = v; known = (2 ^ w - 1) - bit_and u (2 ^ w - 1) }) ≡ fitted w (Some (Number n))
fits w v u n h e known l =
    let p = pow_pos w in
    let low : n.0 < 2 ^ w = omega arith in
    let masked : bit_and u (2 ^ w - 1) ≡ n.1 % 2 ^ w = and_mask u w ∙ (ap (λ x. x % 2 ^ w) known ∙ narrow n.1 128 w h) in
    rw (e, masked, lt-ltb n.0 (2 ^ w) low) refl

pub too_large : (w : ℕ) (n : Numeral) → 2 ^ w ≤ n.0 → Err TooLarge ≡ fitted w (Some (Number n))
too_large w n l = rw (le-ltb n.0 (2 ^ w) l) refl

pub above : (w n : ℕ) → w ≤ 128 → 2 ^ 128 ≤ n → 2 ^ w ≤ n
above w n h l = let p : 2 ^ w ≤ 2 ^ 128 = pow-le-pow_right (omega arith) h in omega (arith, p)

-- the remainder of a sum
add_mod : (x d m : ℕ) → (x % m + d) % m ≡ (x + d) % m
add_mod x d m =
    let e : x + d ≡ (x % m + d) + m * (x / m) = let f = mod-add-div x m in omega (arith, f) in
    sym (ap (λ y. y % m) e ∙ add-mul-mod_self_left (x % m + d) m (x / m))

-- a digit more
pub unknown_more : (u n r d : ℕ) → u ≡ n % 2 ^ 128 → (u * r % 2 ^ 128 + d) % 2 ^ 128 ≡ (n * r + d) % 2 ^ 128
unknown_more u n r d e =
    let f : u * r % 2 ^ 128 ≡ n * r % 2 ^ 128 = ap (λ x. x * r % 2 ^ 128) e ∙ mul-mod_first n r (2 ^ 128) in
    ap (λ x. (x + d) % 2 ^ 128) f ∙ add_mod (n * r) d (2 ^ 128)

stuck : (base : Base) (text : List ℕ) (i : ℕ) → i < length text → with_byte base (fold (with_byte base) (Some (0, 0)) (take i text)) (get_or text i 0) ≡ None
    → None ≡ fold (with_byte base) (Some (0, 0)) text
stuck base text i l e = fold_stuck (with_byte base) None (λ x. refl) (Some (0, 0)) text i 0 l e

separated : (base : Base) (n : Numeral) (c : ℕ) → is_separator base c ≡ true → with_byte base (Some n) c ≡ Some n
separated base n c e = rw e refl

extended : (base : Base) (n : Numeral) (c : ℕ) (d : Digit) → is_separator base c ≡ false → digit base c ≡ Some d
    → with_byte base (Some n) c ≡ Some (n.0 * radix base + d.value, n.1 * radix base + d.unknown)
extended base n c d e h = rw (e, h) refl

refused : (base : Base) (n : Numeral) (c : ℕ) → is_separator base c ≡ false → digit base c ≡ None → with_byte base (Some n) c ≡ None
refused base n c e h = rw (e, h) refl

stepped : (base : Base) (text : List ℕ) (i : ℕ) (n m : Numeral) → i < length text → fold (with_byte base) (Some (0, 0)) (take i text) ≡ Some n
    → with_byte base (Some n) (get_or text i 0) ≡ Some m → fold (with_byte base) (Some (0, 0)) (take (i + 1) text) ≡ Some m
stepped base text i n m l e h = fold_more (with_byte base) (Some (0, 0)) text i 0 l ∙ (ap (λ x. with_byte base x (get_or text i 0)) e ∙ h)

-- a step of the loop over the bytes
pub separator_step : (base : Base) (text : List ℕ) (i : ℕ) (n : Numeral) → i < length text → fold (with_byte base) (Some (0, 0)) (take i text) ≡ Some n
    → is_separator base (get_or text i 0) ≡ true → fold (with_byte base) (Some (0, 0)) (take (i + 1) text) ≡ Some n
separator_step base text i n l e h = stepped base text i n n l e (separated base n (get_or text i 0) h)

pub digit_step : (base : Base) (text : List ℕ) (i : ℕ) (n : Numeral) (d : Digit) → i < length text → fold (with_byte base) (Some (0, 0)) (take i text) ≡ Some n
    → is_separator base (get_or text i 0) ≡ false → digit base (get_or text i 0) ≡ Some d
    → fold (with_byte base) (Some (0, 0)) (take (i + 1) text) ≡ Some (n.0 * radix base + d.value, n.1 * radix base + d.unknown)
digit_step base text i n d l e h g = stepped base text i n _ l e (extended base n (get_or text i 0) d h g)

-- a byte that is no digit
pub refused_step : (base : Base) (text : List ℕ) (i : ℕ) (n : Numeral) → i < length text → is_framed text ≡ true → fold (with_byte base) (Some (0, 0)) (take i text) ≡ Some n
    → is_separator base (get_or text i 0) ≡ false → digit base (get_or text i 0) ≡ None → numeral base text ≡ None
refused_step base text i n l framed e h g =
    rw framed (sym (stuck base text i l (ap (λ x. with_byte base x (get_or text i 0)) e ∙ refused base n (get_or text i 0) h g)))
