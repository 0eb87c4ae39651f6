-- Decimal numbers, digit by digit.
use Rattle.std.proofs.Common.{◌≡◌, ℕ, suc, ◌+◌, ◌-◌, ◌*◌, ◌<◌, ◌≤◌, ◌^◌, Bool, true, false, not, ◌&&◌, List, [], ◌∷◌, length, get_or, drop, Option, Some, None, refl, sym, ◌∙◌, ap, subst, add-one, arith, lit<, drop-cons, nat_le, nat_lt, if◌then◌else◌, cond}
use Rattle.std.specs.List.{list_all}
use Rattle.std.proofs.lemmas.Bool.Decides.{nat_tests}
use Rattle.rr_vcd_text.specs.Numbers.{is_digit, decimal_from, decimal_of, number}

pub decimal_grows : (n : ℕ) (bs : List ℕ) → n ≤ decimal_from n bs
unfolding decimal_from
decimal_grows n [] = omega arith
decimal_grows n (b ∷ bs) = let h = decimal_grows (n * 10 + (b - 48)) bs in omega arith

-- the digits up to a place are digits, and write a value
pub record Digits (text : List ℕ) (at value : ℕ) : Type 0 where
  pub digits : list_all is_digit text ≡ list_all is_digit (drop at text)
  pub writes : decimal_from value (drop at text) ≡ decimal_of text
  pub fits : value < 2 ^ 64

pub Digits-none : (text : List ℕ) → Digits text 0 0
Digits-none text = record { digits = refl; writes = refl; fits = lit< tt }

pub Digits-more : (text : List ℕ) (at value next : ℕ) → Digits text at value → at < length text → is_digit (get_or text at 0) ≡ true → value * 10 + (get_or text at 0 - 48) < 2 ^ 64
    → value * 10 + (get_or text at 0 - 48) ≡ next
    → Digits text (at + 1) next
unfolding decimal_from
Digits-more text at value next s inside digit small is =
    let e : drop at text ≡ get_or text at 0 ∷ drop (suc at) text = drop-cons text at 0 inside in
    let p : drop (at + 1) text ≡ drop (suc at) text = ap (λ k. drop k text) (add-one at) in
    record {
      digits = s.digits ∙ (ap (list_all is_digit) e ∙ (ap (λ b. b && list_all is_digit (drop (suc at) text)) digit ∙ sym (ap (list_all is_digit) p)));
      writes = ap (decimal_from next) p ∙ (sym (ap (λ v. decimal_from v (drop (suc at) text)) is) ∙ (sym (ap (decimal_from value) e) ∙ s.writes));
      fits = subst (λ v. v < 2 ^ 64) is small;
    }

pub Digits-whole : (text : List ℕ) (at value : ℕ) → Digits text at value → at ≡ length text → 0 < length text → Some value ≡ number text
unfolding decimal_from
Digits-whole text at value s e some =
    let fits = s.fits in
    let none : drop at text ≡ [] = ap (λ k. drop k text) e ∙ drop_all text in
    let value_is : value ≡ decimal_of text = sym (ap (decimal_from value) none) ∙ s.writes in
    let all : list_all is_digit text ≡ true = s.digits ∙ ap (list_all is_digit) none in
    let a : nat_lt 0 (length text) ≡ true = grind (arith, nat_tests) in
    let b : nat_lt (decimal_of text) (2 ^ 64) ≡ true = grind (arith, nat_tests) in
    ap Some value_is ∙ sym (rw (a, all, b) refl)
  where
    drop_all : (xs : List ℕ) → drop (length xs) xs ≡ []
    drop_all [] = refl
    drop_all (x ∷ xs) = drop_all xs

pub Digits-other : (text : List ℕ) (at value : ℕ) → Digits text at value → at < length text → is_digit (get_or text at 0) ≡ false → None ≡ number text
Digits-other text at value s inside other =
    let e : drop at text ≡ get_or text at 0 ∷ drop (suc at) text = drop-cons text at 0 inside in
    let none : list_all is_digit text ≡ false = s.digits ∙ (ap (list_all is_digit) e ∙ ap (λ b. b && list_all is_digit (drop (suc at) text)) other) in
    no_number (nat_lt 0 (length text)) (nat_lt (decimal_of text) (2 ^ 64)) none
  where
    no_number : (a b : Bool) → list_all is_digit text ≡ false → None ≡ (if a && (list_all is_digit text && b) then Some (decimal_of text) else None)
    no_number true b h = rw h refl
    no_number false b h = refl

pub Digits-large : (text : List ℕ) (at value : ℕ) → Digits text at value → at < length text → 2 ^ 64 ≤ value * 10 + (get_or text at 0 - 48) → None ≡ number text
unfolding decimal_from
Digits-large text at value s inside large =
    let e : drop at text ≡ get_or text at 0 ∷ drop (suc at) text = drop-cons text at 0 inside in
    let v : decimal_from (value * 10 + (get_or text at 0 - 48)) (drop (suc at) text) ≡ decimal_of text = sym (ap (decimal_from value) e) ∙ s.writes in
    let grows = decimal_grows (value * 10 + (get_or text at 0 - 48)) (drop (suc at) text) in
    let much : 2 ^ 64 ≤ decimal_of text = omega arith in
    let b : nat_lt (decimal_of text) (2 ^ 64) ≡ false = grind (arith, nat_tests) in
    no_number (nat_lt 0 (length text)) (list_all is_digit text) b
  where
    no_number : (a c : Bool) → nat_lt (decimal_of text) (2 ^ 64) ≡ false → None ≡ (if a && (c && nat_lt (decimal_of text) (2 ^ 64)) then Some (decimal_of text) else None)
    no_number true true h = rw h refl
    no_number true false h = refl
    no_number false c h = refl

pub no_digits : (text : List ℕ) → length text ≡ 0 → None ≡ number text
no_digits [] e = refl
no_digits (b ∷ bs) e = absurd (omega arith)
