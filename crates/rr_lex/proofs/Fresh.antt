-- The texts that are their token wherever a blank follows.
use Rattle.std.proofs.Common.{ℕ, suc, ◌≡◌, ◌+◌, ◌≤◌, ◌<◌, ◌^◌, List, [], ◌∷◌, ◌++◌, length, get_or, is_none, is_some, nat_lt, inl, inr, Bool, true, false, not, ◌&&◌, ◌==◌, Option, Some, None, refl, ap, ◌∙◌, sym, arith, subst}
use Rattle.std.specs.List.{prefix_len, list_all}
use Rattle.std.proofs.lemmas.Bool.{and_parts, cases_Bool, eqb-true, false≢true, ltb-true, not-true}
use Rattle.rr_syntax.specs.Words.{Word, Named, Reserved, Marked, Digits, keywords, marks}
use Rattle.rr_lex.specs.declared.number.Base.TheVariants as base
use Rattle.rr_syntax.specs.declared.token.Number.{Number}
use Rattle.rr_lex.specs.declared.piece.Piece.{Piece}
use Rattle.rr_lex.specs.declared.piece.Piece.TheVariants as part
use Rattle.rr_lex.specs.declared.piece.Shape.TheVariants as shape
use Rattle.rr_lex.specs.Bytes.{is, begins, is_letter, is_name_byte, is_dark, is_blank, is_digit}
use Rattle.rr_lex.specs.Numbers.{IsDecimal, text_of, literal_parts, size_text, number, digit}
use Rattle.rr_lex.specs.Tokens.{place_of, IsName, Stands, more, begins_with, attribute_begins}
use Rattle.rr_lex.specs.Patch.{IsNew, IsNewUnquoted, IsNameText, is_plain_name, new_name, new_keyword, new_mark, new_literal, new_decimal}
use Rattle.rr_lex.specs.Reading.{some_piece, word_of, is_mark, keyword_word, mark_word, mark_len, mark_piece, has_mark, at_least}
use Rattle.rr_lex.proofs.Places.{all_below, below_all, is_place, place_is}
use Rattle.rr_lex.proofs.Runs.{run_stops, run_all}
use Rattle.rr_lex.proofs.Exact.{name_first, escape_piece, read_stands}
use Rattle.rr_lex.proofs.Edges.{dark_name}
use Rattle.rr_lex.proofs.Unique.{literal_alone, decimal_alone}
use Rattle.rr_lex.proofs.Written.{written_parts, size_decimal, written_fits, written_literal}

-- a name
name_alone : (text : List ℕ) → IsName text → (after : List ℕ) → some_piece (text ++ (32 ∷ after)) ≡ part.Text shape.Name (length text)
name_alone [] n after = absurd (false≢true n.0)
name_alone (b ∷ text) n after = name_first b (text ++ (32 ∷ after)) n.0 ∙ ap (part.Text shape.Name) (run_stops is_name_byte (b ∷ text) (32 ∷ after) n.1 dark_name.blank)

name_length : (text : List ℕ) → IsName text → 0 < length text
name_length [] n = absurd (false≢true n.0)
name_length (b ∷ text) n = omega arith

name_stands : (w : Word) (text : List ℕ) → IsName text → w ≡ keyword_word text (place_of text keywords) → (after : List ℕ) → Stands w text (32 ∷ after)
unfolding word_of
name_stands w text n e after =
    let t : Stands (word_of shape.Name text) text (32 ∷ after) = read_stands shape.Name text (32 ∷ after) (name_alone text n after) (name_length text n) in
    subst (λ (v : Word). Stands v text (32 ∷ after)) (sym e) t

-- reserved words
keyword_ok : ℕ → Bool
keyword_ok k = let t = get_or keywords k [] in begins is_letter t && (list_all is_name_byte t && (is_place k (place_of t keywords) && not (begins (is 39) t)))

keywords_ok : all_below keyword_ok 124 ≡ true
unfolding all_below keyword_ok is_place place_of more is_letter is_name_byte
keywords_ok = refl

pub keyword_new : (k : ℕ) → k < 124 → IsNew (new_keyword k)
unfolding keyword_ok
keyword_new k l =
    let h = below_all keyword_ok 124 k keywords_ok l in
    let t = get_or keywords k [] in
    let a = and_parts (begins is_letter t) _ h in
    let b = and_parts (list_all is_name_byte t) _ a.1 in
    let c = and_parts (is_place k (place_of t keywords)) _ b.1 in
    record {
      alone = name_stands (Reserved k) t (a.0, b.0) (ap (keyword_word t) (sym (place_is k (place_of t keywords) c.0)));
      unquoted = not-true (begins (is 39) t) c.1;
    }

-- marks
is_mark_text : ℕ → Piece → Bool
is_mark_text n (part.White m) = false
is_mark_text n (part.Text shape.Mark m) = m == n
is_mark_text n (part.Text shape.Name m) = false
is_mark_text n (part.Text shape.Escaped m) = false
is_mark_text n (part.Text shape.System m) = false
is_mark_text n (part.Text (shape.Number v) m) = false
is_mark_text n (part.Fault f) = false

text_is : (n : ℕ) (p : Piece) → is_mark_text n p ≡ true → p ≡ part.Text shape.Mark n
unfolding is_mark_text
text_is n (part.White m) h = absurd (cc)
text_is n (part.Text shape.Mark m) h = ap (part.Text shape.Mark) (eqb-true m n h)
text_is n (part.Text shape.Name m) h = absurd (cc)
text_is n (part.Text shape.Escaped m) h = absurd (cc)
text_is n (part.Text shape.System m) h = absurd (cc)
text_is n (part.Text (shape.Number v) m) h = absurd (cc)
text_is n (part.Fault f) h = absurd (cc)

mark_ok : List ℕ → ℕ → Bool
mark_ok after m = let t = get_or marks m [] in is_mark_text (length t) (some_piece (t ++ (32 ∷ after))) && (is_place m (place_of t marks) && (not (begins (is 39) t) && nat_lt 0 (length t)))

marks_ok : (after : List ℕ) → all_below (mark_ok after) 45 ≡ true
unfolding all_below mark_ok is_place place_of more is_mark_text some_piece is_blank is_letter is_digit begins_with attribute_begins mark_piece mark_len has_mark at_least is_mark
marks_ok after = refl

mark_stands : (m : ℕ) (after : List ℕ) → m < 45 → Stands (Marked m) (get_or marks m []) (32 ∷ after)
unfolding mark_ok word_of
mark_stands m after l =
    let t = get_or marks m [] in
    let h = below_all (mark_ok after) 45 m (marks_ok after) l in
    let a = and_parts (is_mark_text (length t) (some_piece (t ++ (32 ∷ after)))) _ h in
    let b = and_parts (is_place m (place_of t marks)) _ a.1 in
    let c = and_parts (not (begins (is 39) t)) _ b.1 in
    let s : Stands (word_of shape.Mark t) t (32 ∷ after) = read_stands shape.Mark t (32 ∷ after) (text_is (length t) _ a.0) (ltb-true 0 (length t) c.1) in
    subst (λ (v : Word). Stands v t (32 ∷ after)) (ap mark_word (place_is m (place_of t marks) b.0)) s

pub mark_new : (m : ℕ) → m < 45 → IsNew (new_mark m)
unfolding mark_ok
mark_new m l =
    let t = get_or marks m [] in
    let h = below_all (mark_ok []) 45 m (marks_ok []) l in
    let a = and_parts (is_mark_text (length t) (some_piece (t ++ (32 ∷ [])))) _ h in
    let b = and_parts (is_place m (place_of t marks)) _ a.1 in
    let c = and_parts (not (begins (is 39) t)) _ b.1 in
    record { alone = λ after. mark_stands m after l; unquoted = not-true (begins (is 39) t) c.0 }

-- names
quote_letter : is_letter 39 ≡ true → ⊥
unfolding is_letter
quote_letter h = false≢true h

letter_quote : (b : ℕ) → is_letter b ≡ true → (b == 39) ≡ false
letter_quote b h = elim (cases_Bool (b == 39)) [ inr e ↦ e | inl e ↦ let q : b ≡ 39 = eqb-true b 39 e in absurd (quote_letter (ap is_letter (sym q) ∙ h)) ]

letter_unquoted : (text : List ℕ) → begins is_letter text ≡ true → begins (is 39) text ≡ false
letter_unquoted [] h = refl
letter_unquoted (b ∷ text) h = letter_quote b h

none_place : (o : Option ℕ) → is_none o ≡ true → o ≡ None
none_place None h = refl
none_place (Some k) h = absurd (cc)

plain_new : (name : List ℕ) → is_plain_name name ≡ true → IsNew (record { word = Named name; text = name })
unfolding is_plain_name
plain_new name h =
    let a = and_parts (begins is_letter name) _ h in
    let b = and_parts (list_all is_name_byte name) _ a.1 in
    record {
      alone = name_stands (Named name) name (a.0, b.0) (ap (keyword_word name) (sym (none_place (place_of name keywords) b.1)));
      unquoted = letter_unquoted name a.0;
    }

dark_blank : begins is_dark (32 ∷ []) ≡ false
unfolding is_dark is_blank
dark_blank = refl

escaped_stands : (name after : List ℕ) → IsNameText name → Stands (Named name) (92 ∷ name) (32 ∷ after)
unfolding word_of is_dark is_blank
escaped_stands name after n = read_stands shape.Escaped (92 ∷ name) (32 ∷ after) (escape_piece name (32 ∷ after) n.0 n.1 refl ∙ ap (part.Text shape.Escaped) (omega arith)) (omega arith)

escaped_new : (name : List ℕ) → IsNameText name → IsNew (record { word = Named name; text = 92 ∷ name })
escaped_new name n = record { alone = λ after. escaped_stands name after n; unquoted = refl }

pub name_new : (name : List ℕ) → IsNameText name → IsNew (new_name name)
name_new name n = elim (cases_Bool (is_plain_name name)) [
  | inl h ↦ rw h (plain_new name h)
  | inr h ↦ rw h (escaped_new name n)
]

-- literals
quote_digit : is_digit 39 ≡ true → ⊥
unfolding is_digit
quote_digit h = false≢true h

digit_quote : (b : ℕ) → is_digit b ≡ true → (b == 39) ≡ false
digit_quote b h = elim (cases_Bool (b == 39)) [ inr e ↦ e | inl e ↦ let q : b ≡ 39 = eqb-true b 39 e in absurd (quote_digit (ap is_digit (sym q) ∙ h)) ]

sized_unquoted : (size rest : List ℕ) → begins is_digit size ≡ true → begins (is 39) (size ++ rest) ≡ false
sized_unquoted [] rest h = absurd (false≢true h)
sized_unquoted (b ∷ size) rest h = digit_quote b h

pub literal_new : (w : ℕ) (signed : Bool) (v : ℕ) → 1 ≤ w → w ≤ 128 → v < 2 ^ w → IsNew (new_literal w signed v)
literal_new w signed v h k l =
    let d = size_decimal w (omega arith) in
    let p = literal_parts w signed v in
    record {
      alone = λ after. subst (λ (n : Number). Stands (Digits n) (text_of p) (32 ∷ after)) (sym (written_literal w signed v h k l)) (literal_alone p base.Hexadecimal (written_parts w signed v h d) (written_fits w signed v h k) after);
      unquoted = sized_unquoted (size_text w) _ d.0;
    }

-- plain decimals
decimal_unquoted : (text : List ℕ) → begins is_digit text ≡ true → begins (is 39) text ≡ false
decimal_unquoted [] h = refl
decimal_unquoted (b ∷ text) h = digit_quote b h

pub decimal_new : (text : List ℕ) → IsDecimal text → number 10 digit text < 2 ^ 32 → IsNewUnquoted (new_decimal text)
decimal_new text d f = record { alone = λ after q. decimal_alone text d f after q; unquoted = decimal_unquoted text d.0 }

-- whether a name is plain, by its run of bytes
whole_run : (p : ℕ → Bool) (xs : List ℕ) → prefix_len p xs ≡ length xs → list_all p xs ≡ true
whole_run p [] h = refl
whole_run p (x ∷ xs) h = elim (cases_Bool (p x)) [
  | inl e ↦ let s : prefix_len p (x ∷ xs) ≡ 1 + prefix_len p xs = rw e refl in let q : 1 + prefix_len p xs ≡ suc (length xs) = sym s ∙ h in rw (e, whole_run p xs (omega arith)) refl
  | inr e ↦ let s : prefix_len p (x ∷ xs) ≡ 0 = rw e refl in let q : 0 ≡ suc (length xs) = sym s ∙ h in absurd (omega arith)
]

part_run : (p : ℕ → Bool) (xs : List ℕ) → (prefix_len p xs ≡ length xs → ⊥) → list_all p xs ≡ false
part_run p xs h = elim (cases_Bool (list_all p xs)) [ inr e ↦ e | inl e ↦ absurd (h (run_all p xs e)) ]

pub plain_no_letter : (name : List ℕ) → begins is_letter name ≡ false → false ≡ is_plain_name name
unfolding is_plain_name
plain_no_letter name h = sym (rw h refl)

pub plain_no_name : (name : List ℕ) (k : ℕ) → begins is_letter name ≡ true → k ≡ 0 + prefix_len is_name_byte name → (k ≡ length name → ⊥) → false ≡ is_plain_name name
unfolding is_plain_name
plain_no_name name k h e d = sym (rw (h, part_run is_name_byte name (λ q. d (e ∙ (let z : 0 + prefix_len is_name_byte name ≡ length name = omega arith in z)))) refl)

pub plain_yes : (name : List ℕ) (k : ℕ) → begins is_letter name ≡ true → k ≡ 0 + prefix_len is_name_byte name → k ≡ length name → is_none (place_of name keywords) ≡ is_plain_name name
unfolding is_plain_name
plain_yes name k h e d = sym (rw (h, whole_run is_name_byte name (omega arith)) refl)

pub none_by : (o : Option ℕ) (r : Bool) → is_some o ≡ not r → r ≡ is_none o
none_by None true h = refl
none_by None false h = absurd (false≢true h)
none_by (Some k) true h = absurd (false≢true (sym h))
none_by (Some k) false h = refl
