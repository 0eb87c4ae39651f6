-- Each token of a text begins and ends with a printable byte.
use Rattle.std.proofs.Common.{ℕ, ◌≡◌, ◌+◌, ◌-◌, List, [], ◌∷◌, ◌++◌, length, drop, Bool, true, false, ◌&&◌, refl, ap, ◌∙◌, sym, arith, subst, inl, inr}
use Rattle.std.specs.List.{list_all, AllByRecursion}
use Rattle.std.proofs.lemmas.Bool.{and_parts, false≢true}
use Rattle.std.proofs.lemmas.Bool.Decides.{nat_tests}
use Rattle.std.proofs.lemmas.List.{append_assoc, drop_at, length-append}
use Rattle.rr_directive.specs.Bytes as bytes
use Rattle.rr_syntax.specs.declared.token.Number.{Number}
use Rattle.rr_syntax.specs.Words.{Word, marks}
use Rattle.rr_lex.specs.declared.number.Base.{Base}
use Rattle.rr_lex.specs.declared.number.Base.TheVariants as base
use Rattle.rr_lex.specs.Bytes.{begins, is_letter, is_name_byte, is_printable, is_digit, is_decimal}
use Rattle.rr_lex.specs.Numbers.{Parts, AreParts, text_of, IsNumber, decimal_number, based_number, IsDecimal, is_first, is_digit_of, further, is_wild, is_x, is_z, goes_on}
use Rattle.rr_lex.specs.Tokens.{Lexeme, IsToken, named, reserved, escaped_name, system_name, numbered, marked, Read, here, white, token, AreTokens}
use Rattle.rr_lex.proofs.Marks.{place_sound}
use Rattle.rr_lex.proofs.Runs.{begins_append}

-- a text that begins and ends with bytes of a class
record Firm (text : List ℕ) : Type 0 where
  first : begins is_printable text ≡ true
  front : List ℕ
  last : ℕ
  splits : text ≡ front ++ (last ∷ [])
  printable : is_printable last ≡ true

all_firm : (b : ℕ) (text : List ℕ) → list_all is_printable (b ∷ text) ≡ true → Firm (b ∷ text)
all_firm b [] h = let k = and_parts (is_printable b) true h in record { first = k.0; front = []; last = b; splits = refl; printable = k.0 }
all_firm b (c ∷ text) h =
    let k = and_parts (is_printable b) (list_all is_printable (c ∷ text)) h in
    let f = all_firm c text k.1 in
    record { first = k.0; front = b ∷ f.front; last = f.last; splits = ap (λ (l : List ℕ). b ∷ l) f.splits; printable = f.printable }

-- of another class all bytes are printable too
module _ (p q : ℕ → Bool) (each : (b : ℕ) → p b ≡ true → q b ≡ true) where
  begins_as : (text : List ℕ) → begins p text ≡ true → begins q text ≡ true
  begins_as [] h = absurd (false≢true h)
  begins_as (b ∷ text) h = each b h

  all_as : (text : List ℕ) → list_all p text ≡ true → list_all q text ≡ true
  all_as [] h = refl
  all_as (b ∷ text) h = let k = and_parts (p b) (list_all p text) h in rw (each b k.0, all_as text k.1) refl

begun_firm : (p : ℕ → Bool) (text : List ℕ) → begins p text ≡ true → list_all is_printable text ≡ true → Firm text
begun_firm p [] h a = absurd (false≢true h)
begun_firm p (b ∷ text) h a = all_firm b text a

marked_firm : (b : ℕ) (text : List ℕ) → is_printable b ≡ true → list_all is_printable text ≡ true → Firm (b ∷ text)
marked_firm b text h a = all_firm b text (rw (h, a) refl)

name_byte : (b : ℕ) → is_name_byte b ≡ true → is_printable b ≡ true
unfolding is_name_byte is_printable
name_byte b h = grind (arith, nat_tests)

decimal_byte : (b : ℕ) → is_decimal b ≡ true → is_printable b ≡ true
unfolding is_decimal is_printable
decimal_byte b h = grind (arith, nat_tests)

digit_byte : (c : Base) (b : ℕ) → is_first c b ≡ true → is_printable b ≡ true
unfolding is_first is_digit_of is_wild is_x is_z is_printable
digit_byte base.Binary b h = grind (arith, nat_tests)
digit_byte base.Octal b h = grind (arith, nat_tests)
digit_byte base.Decimal b h = grind (arith, nat_tests)
digit_byte base.Hexadecimal b h = grind (arith, nat_tests)

further_byte : (c : Base) (wild : Bool) (b : ℕ) → further c wild b ≡ true → is_printable b ≡ true
unfolding further is_first is_digit_of is_wild is_x is_z is_decimal is_printable
further_byte base.Binary wild b h = grind (arith, nat_tests)
further_byte base.Octal wild b h = grind (arith, nat_tests)
further_byte base.Hexadecimal wild b h = grind (arith, nat_tests)
further_byte base.Decimal true b h = grind (arith, nat_tests)
further_byte base.Decimal false b h = grind (arith, nat_tests)

-- a text behind another
behind : (b : ℕ) (xs ys : List ℕ) → is_printable b ≡ true → Firm ys → Firm (b ∷ (xs ++ ys))
behind b xs ys h f = record {
  first = h;
  front = b ∷ (xs ++ f.front);
  last = f.last;
  splits = ap (λ (l : List ℕ). b ∷ l) (ap (λ (l : List ℕ). xs ++ l) f.splits ∙ sym (append_assoc xs f.front (f.last ∷ [])));
  printable = f.printable;
}

decimal_firm : (text : List ℕ) → IsDecimal text → Firm text
decimal_firm text d = begun_firm is_digit text d.0 (all_as is_decimal is_printable decimal_byte text d.1)

digits_firm : (c : Base) (digits : List ℕ) → begins (is_first c) digits ≡ true → list_all (goes_on c digits) (drop 1 digits) ≡ true → Firm digits
digits_firm c [] h a = absurd (false≢true h)
digits_firm c (b ∷ digits) h a = marked_firm b digits (digit_byte c b h) (all_as (goes_on c (b ∷ digits)) is_printable (further_byte c (begins is_wild (b ∷ digits))) digits a)

tick_printable : is_printable 39 ≡ true
unfolding is_printable
tick_printable = refl

-- from the apostrophe on
tail_firm : (p : Parts) (c : Base) → AreParts p c → Firm (39 ∷ (p.sign ++ (p.letter ∷ (p.space ++ p.digits))))
tail_firm p c a =
    subst (λ (l : List ℕ). Firm (39 ∷ l)) (append_assoc p.sign (p.letter ∷ p.space) p.digits) (behind 39 (p.sign ++ (p.letter ∷ p.space)) p.digits tick_printable (digits_firm c p.digits a.first a.digits))

sized_firm : (size gap rest : List ℕ) → IsDecimal size → Firm rest → Firm (size ++ (gap ++ rest))
sized_firm [] gap rest d f = absurd (false≢true d.0)
sized_firm (b ∷ size) gap rest d f =
    subst (λ (l : List ℕ). Firm (b ∷ l)) (append_assoc size gap rest) (behind b (size ++ gap) rest (decimal_firm (b ∷ size) d).first f)

bare_firm : (size gap rest : List ℕ) → size ≡ [] → gap ≡ [] → Firm rest → Firm (size ++ (gap ++ rest))
bare_firm size gap rest e g f = rw (e, g) f

based_firm : (p : Parts) (c : Base) → AreParts p c → Firm (text_of p)
based_firm p c a = elim a.size [
  | inl e ↦ bare_firm p.size p.gap _ e.0 e.1 (tail_firm p c a)
  | inr d ↦ sized_firm p.size p.gap _ d (tail_firm p c a)
]

number_firm : (text : List ℕ) (n : Number) → IsNumber text n → Firm text
number_firm text n (decimal_number d l e) = decimal_firm text d
number_firm text n (based_number p c a w f e) = subst Firm (sym w) (based_firm p c a)

-- no mark is empty, and each has printable bytes alone
is_solid : List ℕ → Bool
is_solid text = begins is_printable text && list_all is_printable text

all_solid : list_all is_solid marks ≡ true
unfolding is_solid is_printable
all_solid = refl

solid_firm : (text : List ℕ) → is_solid text ≡ true → Firm text
unfolding is_solid
solid_firm text h = let k = and_parts (begins is_printable text) (list_all is_printable text) h in begun_firm is_printable text k.0 k.1

slash_printable : is_printable 92 ≡ true
unfolding is_printable
slash_printable = refl

dollar_printable : is_printable 36 ≡ true
unfolding is_printable
dollar_printable = refl

name_firm : (text : List ℕ) → begins is_letter text ≡ true → list_all is_name_byte text ≡ true → Firm text
name_firm text h a = begun_firm is_letter text h (all_as is_name_byte is_printable name_byte text a)

token_firm : (w : Word) (text after : List ℕ) → IsToken w text after → Firm text
token_firm w text after (named n k e) = name_firm text n.0 n.1
token_firm w text after (reserved j n k e) = name_firm text n.0 n.1
token_firm w text after (escaped_name body n e) = subst Firm (sym n.3) (marked_firm 92 body slash_printable n.1)
token_firm w text after (system_name body n e) = subst Firm (sym n.2) (marked_firm 36 body dollar_printable (all_as is_name_byte is_printable name_byte body n.1))
token_firm w text after (numbered n t e) = number_firm text n t
token_firm w text after (marked m k e) = solid_firm text (place_sound is_solid text marks m all_solid k)

-- the first byte of a token in its text, and its last
pub record IsFirm (bs : List ℕ) (t : Lexeme) : Type 0 where
  pub first : begins is_printable (drop t.start bs) ≡ true
  pub last : begins is_printable (drop (t.end - 1) bs) ≡ true

first_there : (front text after : List ℕ) → Firm text → begins is_printable (drop (length front) (front ++ (text ++ after))) ≡ true
first_there front text after f = ap (begins is_printable) (drop_at front (text ++ after) (length front) refl) ∙ begins_append is_printable text after f.first

last_there : (front text after : List ℕ) → Firm text → begins is_printable (drop (length front + length text - 1) (front ++ (text ++ after))) ≡ true
last_there front text after f =
    let whole : front ++ (text ++ after) ≡ (front ++ f.front) ++ (f.last ∷ after) =
    ap (λ (l : List ℕ). front ++ (l ++ after)) f.splits ∙ ap (λ (l : List ℕ). front ++ l) (append_assoc f.front (f.last ∷ []) after) ∙ sym (append_assoc front f.front (f.last ∷ after)) in
    let size : length text ≡ length f.front + 1 = ap length f.splits ∙ length-append f.front (f.last ∷ []) in
    let place : length (front ++ f.front) ≡ length front + length text - 1 = (let a = length-append front f.front in omega (arith, a, size)) in
    ap (λ (l : List ℕ). begins is_printable (drop (length front + length text - 1) l)) whole
    ∙ ap (begins is_printable) (drop_at (front ++ f.front) (f.last ∷ after) (length front + length text - 1) place)
    ∙ f.printable

-- from a place on, with the bytes before it
read_firm : (end : ℕ) (rest : List ℕ) (at : ℕ) (bs : List ℕ) (ts : List Lexeme) → Read end rest at bs ts →
    (whole front : List ℕ) → whole ≡ front ++ bs → at ≡ length front → AllByRecursion (IsFirm whole) ts
read_firm end rest a b c (here at bs e w) whole front h n = tt
read_firm end rest a b c (white at bs text after ts w k r) whole front h n =
    read_firm end rest (at + length text) after ts r whole (front ++ text) (h ∙ ap (λ (l : List ℕ). front ++ l) w ∙ sym (append_assoc front text after)) (let l = length-append front text in omega (arith, l, n))
read_firm end rest a b c (token at bs text after w ts q k r) whole front h n =
    let f = token_firm w text after k.token in
    let s : whole ≡ front ++ (text ++ after) = h ∙ ap (λ (l : List ℕ). front ++ l) q in (
      record {
        first = ap (λ (l : List ℕ). begins is_printable (drop at l)) s ∙ ap (λ (i : ℕ). begins is_printable (drop i (front ++ (text ++ after)))) n ∙ first_there front text after f;
        last = ap (λ (l : List ℕ). begins is_printable (drop (at + length text - 1) l)) s ∙ ap (λ (i : ℕ). begins is_printable (drop (i + length text - 1) (front ++ (text ++ after)))) n ∙ last_there front text after f;
      },
      read_firm end rest (at + length text) after ts r whole (front ++ text) (s ∙ sym (append_assoc front text after)) (let l = length-append front text in omega (arith, l, n)),
    )

pub tokens_firm : (bs : List ℕ) (ts : List Lexeme) → AreTokens bs ts → AllByRecursion (IsFirm bs) ts
tokens_firm bs ts r = read_firm (length bs) [] 0 bs ts r bs [] refl refl

-- the same class, as the directives name it
pub same_class : (b : ℕ) → is_printable b ≡ true → bytes.is_printable b ≡ true
unfolding is_printable
same_class b h = h
