-- Units end where a token does, and its last byte is exact; all bytes of a number are.
use Rattle.std.proofs.Common.{ℕ, ◌≡◌, ◌+◌, ◌⊎◌, List, [], ◌∷◌, ◌++◌, length, drop, Bool, true, false, ◌||◌, ◌==◌, Option, Some, None, is_some, refl, ap, ◌∙◌, sym, subst, arith, inl, inr}
use Rattle.std.specs.List.{list_all, prefix_len}
use Rattle.std.specs.Str.{bytes_eq}
use Rattle.std.specs.Cmp.Lexicographic.{same_text}
use Rattle.std.proofs.lemmas.Bool.{and_from, cases_Bool, or_cases}
use Rattle.std.proofs.lemmas.Bool.Decides.{nat_tests}
use Rattle.std.proofs.lemmas.List.Folds.{list_all-append}
use Rattle.rr_syntax.specs.declared.token.Number.{Number}
use Rattle.rr_syntax.specs.Words.{Word, Named, Digits, marks}
use Rattle.rr_directive.specs.declared.piece.Kind.TheVariants as kind
use Rattle.rr_directive.specs.Bytes.{begins as unit_begins, is_printable as unit_printable}
use Rattle.rr_directive.specs.Expand.{Exact, Each, Last, is_exact}
use Rattle.rr_directive.specs.Pieces.{bare, begins_with, is_escaped, piece}
use Rattle.rr_lex.specs.declared.number.Base.{Base}
use Rattle.rr_lex.specs.declared.number.Base.TheVariants as base
use Rattle.rr_lex.specs.declared.piece.Shape.{Shape}
use Rattle.rr_lex.specs.declared.piece.Piece.TheVariants as part
use Rattle.rr_lex.specs.Bytes.{begins, is_blank, is_dark, is_decimal, is_gap, is_name_byte, is_printable}
use Rattle.rr_lex.specs.Numbers.{AreParts, IsDecimal, IsNumber, Parts, base_letter, based_number, decimal_number, further, is_digit_of, is_first, is_sign, is_wild, is_x, is_z, text_of}
use Rattle.rr_lex.specs.Reading.{comment, some_piece}
use Rattle.rr_lex.specs.Tokens.{IsToken, Stands, begins_with as lex_pair, escaped_name, marked, named, numbered, place_of, reserved, system_name}
use Rattle.rr_lex.proofs.Exact.{stands_read}
use Rattle.rr_lex.proofs.Marks.{place_sound}
use Rattle.rr_lex.proofs.Runs.{begins_append, run_stops}
use Rattle.rr_plain_files.proofs.Origins.{Gives, exact_of, plain_gives, unit_gives}
use Rattle.rr_plain_files.proofs.Plain.{all_give, all_plain, is_plain, plain_class}
use Rattle.rr_plain_files.proofs.White.{same_begins}

pub record TokenGives (w : Word) (text after : List ℕ) : Type 0 where
  pub exact : Exact
  pub ends : is_exact exact [] ≡ true
  pub gives : Gives exact text after
  pub number : (n : Number) → w ≡ Digits n → exact ≡ Each

plain_token : (w : Word) (text after : List ℕ) → list_all is_plain text ≡ true → TokenGives w text after
unfolding is_exact
plain_token w text after h = record { exact = Each; ends = refl; gives = all_give text after h; number = λ n e. refl }

-- ---- names

name_plain : (text : List ℕ) → list_all is_name_byte text ≡ true → list_all is_plain text ≡ true
unfolding is_name_byte
name_plain text h = all_plain is_name_byte refl refl refl text h

system_plain : (body : List ℕ) → list_all is_name_byte body ≡ true → list_all is_plain (36 ∷ body) ≡ true
unfolding is_plain
system_plain body h = name_plain body h

-- ---- escaped names

no_printable : (b : ℕ) → is_dark b ≡ false → unit_printable b ≡ false
unfolding is_dark is_blank
no_printable b h = grind (arith, nat_tests)

dark_ends : (after : List ℕ) → begins is_dark after ≡ false → begins unit_printable after ≡ false
dark_ends [] h = refl
dark_ends (b ∷ after) h = no_printable b h

escaped_piece : (body after : List ℕ) → begins is_printable body ≡ true → list_all is_printable body ≡ true → begins is_dark after ≡ false → piece (92 ∷ (body ++ after)) ≡ bare kind.Escaped (1 + length body)
unfolding piece begins_with is_escaped is_printable
escaped_piece body after b h s =
    let e : unit_begins unit_printable (body ++ after) ≡ true = sym (same_begins unit_printable (body ++ after)) ∙ begins_append unit_printable body after b in
    let n : prefix_len unit_printable (body ++ after) ≡ length body = run_stops unit_printable body after h (dark_ends after s) in
    rw (e, n) refl

escaped_gives : (body after : List ℕ) → begins is_printable body ≡ true → list_all is_printable body ≡ true → begins is_dark after ≡ false → Gives Last (92 ∷ body) after
unfolding exact_of
escaped_gives body after b h s = unit_gives kind.Escaped 92 body after (escaped_piece body after b h s)

no_number : (name : List ℕ) (w : Word) (n : Number) → w ≡ Named name → w ≡ Digits n → Last ≡ Each
no_number name w n e f = absurd (cc)

escaped_token : (w : Word) (body text after : List ℕ) → begins is_printable body ≡ true → list_all is_printable body ≡ true → begins is_dark after ≡ false → text ≡ 92 ∷ body → w ≡ Named body → TokenGives w text after
unfolding is_exact
escaped_token w body text after b h s e f = record {
  exact = Last;
  ends = refl;
  gives = subst (λ (t : List ℕ). Gives Last t after) (sym e) (escaped_gives body after b h s);
  number = λ n g. no_number body w n f g;
}

-- ---- numbers

both_plain : (xs ys : List ℕ) → list_all is_plain xs ≡ true → list_all is_plain ys ≡ true → list_all is_plain (xs ++ ys) ≡ true
both_plain xs ys h k = list_all-append is_plain xs ys ∙ and_from (list_all is_plain xs) (list_all is_plain ys) h k

decimal_plain : (text : List ℕ) → list_all is_decimal text ≡ true → list_all is_plain text ≡ true
unfolding is_decimal
decimal_plain text h = all_plain is_decimal refl refl refl text h

gap_plain : (text : List ℕ) → list_all is_gap text ≡ true → list_all is_plain text ≡ true
unfolding is_gap
gap_plain text h = all_plain is_gap refl refl refl text h

sign_plain : (b : ℕ) → is_sign b ≡ true → is_plain b ≡ true
sign_plain b h = plain_class is_sign refl refl refl b h

has_base : ℕ → Bool
has_base b = is_some (base_letter b)

letter_plain : (b : ℕ) (c : Base) → base_letter b ≡ Some c → is_plain b ≡ true
unfolding base_letter has_base
letter_plain b c e = plain_class has_base refl refl refl b (ap is_some e)

abbrev Lacks : (ℕ → Bool) → Type 0
Lacks p = (p 47 ≡ false) × ((p 92 ≡ false) × (p 96 ≡ false))

first_lacks : (c : Base) → Lacks (is_first c)
unfolding is_first is_digit_of is_wild is_x is_z
first_lacks base.Binary = (refl, (refl, refl))
first_lacks base.Octal = (refl, (refl, refl))
first_lacks base.Decimal = (refl, (refl, refl))
first_lacks base.Hexadecimal = (refl, (refl, refl))

further_lacks : (c : Base) (wild : Bool) → Lacks (further c wild)
unfolding further is_first is_digit_of is_wild is_x is_z is_decimal
further_lacks base.Binary wild = (refl, (refl, refl))
further_lacks base.Octal wild = (refl, (refl, refl))
further_lacks base.Hexadecimal wild = (refl, (refl, refl))
further_lacks base.Decimal true = (refl, (refl, refl))
further_lacks base.Decimal false = (refl, (refl, refl))

digits_plain : (c : Base) (digits : List ℕ) → begins (is_first c) digits ≡ true → (wild : Bool) → list_all (further c wild) (drop 1 digits) ≡ true → list_all is_plain digits ≡ true
digits_plain c [] h wild k = refl
digits_plain c (b ∷ digits) h wild k =
    let f = first_lacks c in
    let g = further_lacks c wild in
    and_from (is_plain b) (list_all is_plain digits) (plain_class (is_first c) f.0 f.1.0 f.1.1 b h) (all_plain (further c wild) g.0 g.1.0 g.1.1 digits k)

size_plain : (size gap : List ℕ) → ((size ≡ []) × (gap ≡ [])) ⊎ IsDecimal size → list_all is_plain size ≡ true
size_plain size gap (inl e) = rw (e.0) refl
size_plain size gap (inr d) = decimal_plain size d.1

signs_plain : (sign : List ℕ) → (sign ≡ []) ⊎ ((b : ℕ) × (sign ≡ b ∷ []) × (is_sign b ≡ true)) → list_all is_plain sign ≡ true
signs_plain sign (inl e) = rw e refl
signs_plain sign (inr d) = ap (list_all is_plain) d.1 ∙ and_from (is_plain d.0) true (sign_plain d.0 d.2) refl

tick_plain : (text : List ℕ) → list_all is_plain text ≡ true → list_all is_plain (39 ∷ text) ≡ true
unfolding is_plain
tick_plain text h = h

parts_plain : (p : Parts) (c : Base) → AreParts p c → list_all is_plain (text_of p) ≡ true
parts_plain p c a =
    let digits = digits_plain c p.digits a.first (begins is_wild p.digits) a.digits in
    let after_letter = both_plain p.space p.digits (gap_plain p.space a.space) digits in
    let letter = and_from (is_plain p.letter) (list_all is_plain (p.space ++ p.digits)) (letter_plain p.letter c a.letter) after_letter in
    let after_tick = both_plain p.sign (p.letter ∷ (p.space ++ p.digits)) (signs_plain p.sign a.sign) letter in
    both_plain p.size (p.gap ++ (39 ∷ (p.sign ++ (p.letter ∷ (p.space ++ p.digits))))) (size_plain p.size p.gap a.size)
    (both_plain p.gap (39 ∷ (p.sign ++ (p.letter ∷ (p.space ++ p.digits)))) (gap_plain p.gap a.gap) (tick_plain (p.sign ++ (p.letter ∷ (p.space ++ p.digits))) after_tick))

number_plain : (text : List ℕ) (n : Number) → IsNumber text n → list_all is_plain text ≡ true
number_plain text n (decimal_number d l e) = decimal_plain text d.1
number_plain text n (based_number p c a w f e) = ap (list_all is_plain) w ∙ parts_plain p c a

-- ---- marks

-- only the mark / is no plain one
plain_mark : List ℕ → Bool
plain_mark text = list_all is_plain text || bytes_eq (47 ∷ []) text

all_marks : list_all plain_mark marks ≡ true
unfolding plain_mark is_plain
all_marks = refl

white_text : (n : ℕ) (s : Shape) (m : ℕ) → part.White n ≡ part.Text s m → ⊥
white_text n s m e = absurd (cc)

comment_text : (o : Option ℕ) (s : Shape) (m : ℕ) → comment o ≡ part.Text s m → ⊥
unfolding comment
comment_text None s m e = absurd (cc)
comment_text (Some n) s m e = absurd (cc)

-- it stands where neither // nor /* does
slash_piece : (after : List ℕ) (s : Shape) (n : ℕ) → some_piece (47 ∷ after) ≡ part.Text s n → piece (47 ∷ after) ≡ bare kind.Plain 1
unfolding piece begins_with is_escaped some_piece lex_pair is_blank
slash_piece [] s n e = refl
slash_piece (c ∷ after) s n e = elim (cases_Bool (c == 47)) [
  | inl h ↦ absurd (white_text _ s n (rw h at e))
  | inr h ↦ elim (cases_Bool (c == 42)) [
    | inl k ↦ absurd (comment_text _ s n (rw (h, k) at e))
    | inr k ↦ rw (h, k) refl
  ]
]

slash_token : (w : Word) (after : List ℕ) → Stands w (47 ∷ []) after → TokenGives w (47 ∷ []) after
unfolding is_exact
slash_token w after t =
    let r = stands_read w (47 ∷ []) after t in
    record { exact = Each; ends = refl; gives = plain_gives (47 ∷ []) after (slash_piece after r.0 1 r.1, tt); number = λ n e. refl }

mark_token : (w : Word) (text after : List ℕ) (m : ℕ) → place_of text marks ≡ Some m → Stands w text after → TokenGives w text after
unfolding plain_mark
mark_token w text after m e t = elim (or_cases (list_all is_plain text) (bytes_eq (47 ∷ []) text) (place_sound plain_mark text marks m all_marks e)) [
  | inl h ↦ plain_token w text after h
  | inr h ↦
      let q : 47 ∷ [] ≡ text = same_text (47 ∷ []) text (sym h) in
      subst (λ (x : List ℕ). TokenGives w x after) q (slash_token w after (subst (λ (x : List ℕ). Stands w x after) (sym q) t))
]

-- ---- all of them

by_token : (w : Word) (text after : List ℕ) → Stands w text after → IsToken w text after → TokenGives w text after
by_token w text after t (named n k e) = plain_token w text after (name_plain text n.1)
by_token w text after t (reserved j n k e) = plain_token w text after (name_plain text n.1)
by_token w text after t (escaped_name body n e) = escaped_token w body text after n.0 n.1 n.2 n.3 e
by_token w text after t (system_name body n e) = plain_token w text after (ap (list_all is_plain) n.2 ∙ system_plain body n.1)
by_token w text after t (numbered n k e) = plain_token w text after (number_plain text n k)
by_token w text after t (marked m k e) = mark_token w text after m k t

pub token_gives : (w : Word) (text after : List ℕ) → Stands w text after → TokenGives w text after
token_gives w text after t = by_token w text after t t.token
