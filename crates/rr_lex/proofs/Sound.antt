-- What the tokens of a text may be.
use Rattle.std.proofs.Common.{ℕ, ◌≡◌, ◌+◌, ◌%◌, ◌^◌, ◌≤◌, ◌<◌, List, [], ◌∷◌, length, Bool, true, nat_le, refl, arith}
use Rattle.std.specs.Prelude.{All}
use Rattle.std.specs.List.{list_all, AllByRecursion}
use Rattle.std.proofs.lemmas.List.Elements.{All-from_recursion}
use Rattle.std.proofs.lemmas.Bool.{and_parts, leb-true, false≢true}
use Rattle.std.proofs.lemmas.Bool.Decides.{nat_tests}
use Rattle.std.proofs.lemmas.Nat.{pow_pos}
use Rattle.std.proofs.Math.Nat.{mod-lt}
use Rattle.rr_syntax.specs.declared.token.Number.{Number}
use Rattle.rr_syntax.specs.Words.{Word, Named, Digits, keywords, marks}
use Rattle.rr_lex.specs.Bytes.{begins, is_letter, is_name_byte, is_printable}
use Rattle.rr_lex.specs.Numbers.{IsNumber, decimal_number, based_number, is_width, width_of, digits_fit, fits, literal, plain_literal}
use Rattle.rr_lex.specs.Tokens.{Lexeme, words_of, IsName, IsToken, named, reserved, escaped_name, system_name, numbered, marked, Read, here, white, token, AreTokens, IsSound}
use Rattle.rr_lex.proofs.Places.{place_at}

letter_printable : (b : ℕ) → is_letter b ≡ true → is_printable b ≡ true
unfolding is_letter is_printable
letter_printable b h = grind (arith, nat_tests)

byte_printable : (b : ℕ) → is_name_byte b ≡ true → is_printable b ≡ true
unfolding is_name_byte is_printable
byte_printable b h = grind (arith, nat_tests)

begins_as : (p q : ℕ → Bool) → ((b : ℕ) → p b ≡ true → q b ≡ true) → (text : List ℕ) → begins p text ≡ true → begins q text ≡ true
begins_as p q f [] h = absurd (false≢true h)
begins_as p q f (b ∷ text) h = f b h

all_as : (p q : ℕ → Bool) → ((b : ℕ) → p b ≡ true → q b ≡ true) → (text : List ℕ) → list_all p text ≡ true → list_all q text ≡ true
all_as p q f [] h = refl
all_as p q f (b ∷ text) h = let k = and_parts (p b) (list_all p text) h in rw (f b k.0, all_as p q f text k.1) refl

width_is : (w : ℕ) → is_width w ≡ true → (1 ≤ w) × (w ≤ 128)
unfolding is_width
width_is w h = let k = and_parts (nat_le 1 w) (nat_le w 128) h in (leb-true 1 w k.0, leb-true w 128 k.1)

below_power : (n w : ℕ) → n % 2 ^ w < 2 ^ w
below_power n w = mod-lt n (pow_pos w)

literal_sound : (size : List ℕ) (signed : Bool) (radix : ℕ) (digits : List ℕ) → fits size radix digits ≡ true → IsSound (Digits (literal size signed radix digits))
unfolding literal fits
literal_sound size signed radix digits h =
    let k = width_is (width_of size) (and_parts (is_width (width_of size)) (digits_fit size radix digits) h).0 in
    (k.0, k.1, below_power _ (width_of size), below_power _ (width_of size), below_power _ (width_of size))

plain_sound : (text : List ℕ) (v : ℕ) → v < 2 ^ 32 → IsSound (Digits (record { width = 32; signed = true; value = v; any = 0; unknown = 0 }))
plain_sound text v h = (omega arith, omega arith, h, omega arith, omega arith)

number_sound : (text : List ℕ) (n : Number) → IsNumber text n → IsSound (Digits n)
unfolding plain_literal
number_sound text n (decimal_number d l e) = rw e (plain_sound text _ l)
number_sound text n (based_number p c a w f e) = rw e (literal_sound _ _ _ _ f)

name_sound : (text : List ℕ) → IsName text → IsSound (Named text)
name_sound text n = (begins_as is_letter is_printable letter_printable text n.0, all_as is_name_byte is_printable byte_printable text n.1)

token_sound : (w : Word) (text after : List ℕ) → IsToken w text after → IsSound w
token_sound w text after (named n k e) = rw e (name_sound text n)
token_sound w text after (reserved j n k e) = rw e (place_at text keywords j k).0
token_sound w text after (escaped_name body n e) = rw e (n.0, n.1)
token_sound w text after (system_name body n e) = rw e (n.0, n.1)
token_sound w text after (numbered n t e) = rw e (number_sound text n t)
token_sound w text after (marked m k e) = rw e (place_at text marks m k).0

read_sound : (end : ℕ) (rest : List ℕ) (at : ℕ) (bs : List ℕ) (ts : List Lexeme) → Read end rest at bs ts → AllByRecursion IsSound (words_of ts)
read_sound end rest a b c (here at bs e w) = tt
read_sound end rest a b c (white at bs text after ts w k r) = read_sound end rest (at + length text) after ts r
read_sound end rest a b c (token at bs text after w ts q k r) = (token_sound w text after k.token, read_sound end rest (at + length text) after ts r)

pub words_sound : (bs : List ℕ) (ts : List Lexeme) → AreTokens bs ts → All IsSound (words_of ts)
words_sound bs ts r = All-from_recursion IsSound (words_of ts) (read_sound (length bs) [] 0 bs ts r)
