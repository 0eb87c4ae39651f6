-- What `parse` reads of a text that begins with no plus.
use Rattle.std.proofs.Common.{◌≡◌, ◌≢◌, ◌≤◌, ◌<◌, ◌^◌, ◌==◌, ℕ, Bool, true, false, List, [], ◌∷◌, Some, None, cond, drop, length, slice_index, refl, arith, lt-ltb, ltb-true}
use Rattle.std.proofs.lemmas.Bool.{le-leb, leb-true}
use Rattle.std.specs.Prelude.{nat_lt, nat_le}
use Rattle.std.specs.List.{list_all}
use Rattle.std.specs.Char.{digit_value}
use Rattle.std.specs.Str.Parse.{AllDigits, IsNumeral, digits_value, without_leading_plus}
use Rattle.rr_words.specs.Plan.{is_number, number_of}

digits_seen : (ds : List ℕ) → list_all (λ d. nat_lt (digit_value d) 10) ds ≡ true → AllDigits 10 ds
digits_seen [] e = tt
digits_seen (d ∷ ds) e = go (nat_lt (digit_value d) 10) refl (digits_seen ds)
  where
    go : (b : Bool) → nat_lt (digit_value d) 10 ≡ b → (list_all (λ x. nat_lt (digit_value x) 10) ds ≡ true → AllDigits 10 ds) → AllDigits 10 (d ∷ ds)
    go true h rec = (ltb-true _ _ h, rec (rw h at e))
    go false h rec = let no : false ≡ true = rw h at e in cc

digits_back : (ds : List ℕ) → AllDigits 10 ds → list_all (λ d. nat_lt (digit_value d) 10) ds ≡ true
digits_back [] h = refl
digits_back (d ∷ ds) h = rw (lt-ltb (digit_value d) 10 h.0) (digits_back ds h.1)

no_plus : (text : List ℕ) → slice_index text 0 ≢ 43 → without_leading_plus text ≡ text
no_plus text other = go (slice_index text 0 == 43) refl
  where
    go : (b : Bool) → (slice_index text 0 == 43) ≡ b → drop (cond b 1 0) text ≡ text
    go true e = absurd (other (grind arith))
    go false e = refl

pub number-read : (least most : ℕ) (text : List ℕ) → slice_index text 0 ≢ 43 → IsNumeral 10 (without_leading_plus text) → least ≤ digits_value 10 (without_leading_plus text) → digits_value 10 (without_leading_plus text) ≤ most
    → Some (digits_value 10 (without_leading_plus text)) ≡ number_of least most text
number-read least most text other numeral low high =
    let same = no_plus text other in
    let numeral' : IsNumeral 10 text = rw same at numeral in
    let low' : least ≤ digits_value 10 text = rw same at low in
    let high' : digits_value 10 text ≤ most = rw same at high in
    rw (same, lt-ltb _ _ numeral'.0, digits_back text numeral'.1, le-leb _ _ low', le-leb _ _ high') refl

pub number-none : (least most : ℕ) (text : List ℕ) → slice_index text 0 ≢ 43 → most < 2 ^ 64
    → (IsNumeral 10 (without_leading_plus text) × (digits_value 10 (without_leading_plus text) < 2 ^ 64) → ⊥) → None ≡ number_of least most text
number-none least most text other fits not_read = go (is_number text) refl (nat_le (digits_value 10 text) most) refl
  where
    go : (a : Bool) → is_number text ≡ a → (b : Bool) → nat_le (digits_value 10 text) most ≡ b → None ≡ number_of least most text
    go false e b f = rw e refl
    go true e false f = rw (e, f) (grind arith)
    go true e true f =
        let high : digits_value 10 text ≤ most = leb-true _ _ f in
        absurd (not_read (rw (no_plus text other) ((seen.0, seen.1), omega arith)))
      where
        seen : IsNumeral 10 text
        seen = parts (nat_lt 0 (length text)) refl
          where
            parts : (c : Bool) → nat_lt 0 (length text) ≡ c → IsNumeral 10 text
            parts true h = (ltb-true _ _ h, digits_seen text (rw h at e))
            parts false h = let no : false ≡ true = rw h at e in cc
