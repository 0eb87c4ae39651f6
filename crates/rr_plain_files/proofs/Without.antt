-- A file without a backtick in which no attribute begins.
use Rattle.std.proofs.Common.{ℕ, ◌≡◌, ◌+◌, ◌==◌, List, [], ◌∷◌, ◌++◌, length, true, false, refl, ap, ◌∙◌, sym, inl, inr}
use Rattle.std.proofs.lemmas.Bool.{cases_Bool}
use Rattle.std.proofs.lemmas.List.{append_assoc}
use Rattle.rr_directive.proofs.PlainPlaces.{no_backticks}
use Rattle.rr_lex.specs.declared.piece.Piece.TheVariants as part
use Rattle.rr_lex.specs.Bytes.{is_blank, is_digit, is_letter}
use Rattle.rr_lex.specs.Reading.{mark_len, mark_piece, some_piece}
use Rattle.rr_lex.specs.Tokens.{IsWhite, Lexeme, Read, attribute, attribute_begins, begins_with, here, token, white}
use Rattle.rr_lex.proofs.Exact.{white_is}
use Rattle.rr_plain_files.specs.Laws.{AreCalm, PlainWithout}

-- bytes that are left of others are their end
left_end : (end : ℕ) (rest : List ℕ) (at : ℕ) (bs : List ℕ) (ts : List Lexeme) → Read end rest at bs ts → (front : List ℕ) × (bs ≡ front ++ rest)
left_end end rest a b c (here at bs e w) = ([], w)
left_end end rest a b c (white at bs text after ts w k r) =
    let l = left_end end rest (at + length text) after ts r in (text ++ l.0, w ∙ ap (λ (xs : List ℕ). text ++ xs) l.1 ∙ sym (append_assoc text l.0 rest))
left_end end rest a b c (token at bs text after w ts q k r) =
    let l = left_end end rest (at + length text) after ts r in (text ++ l.0, q ∙ ap (λ (xs : List ℕ). text ++ xs) l.1 ∙ sym (append_assoc text l.0 rest))

no_white : (m n : ℕ) → mark_piece m ≡ part.White n → ⊥
unfolding mark_piece
no_white m n e = elim (cases_Bool (m == 0)) [
  | inl h ↦ absurd (cc (rw h at e))
  | inr h ↦ absurd (cc (rw h at e))
]

-- white space that begins with ( begins with an attribute
opened : (bs : List ℕ) (n : ℕ) → some_piece (40 ∷ bs) ≡ part.White n → attribute_begins (40 ∷ bs) ≡ true
unfolding some_piece is_blank begins_with is_letter is_digit
opened bs n e = elim (cases_Bool (attribute_begins (40 ∷ bs))) [
  | inl h ↦ h
  | inr h ↦ absurd (no_white (mark_len (40 ∷ bs)) n (rw h at e))
]

none_begins : (file : List ℕ) → ((front rest : List ℕ) → file ≡ front ++ rest → attribute_begins rest ≡ false) → AreCalm file
none_begins file h at ts body after r c n =
    let l = left_end at (40 ∷ (42 ∷ (body ++ after))) 0 file ts r in
    let w : IsWhite (40 ∷ (42 ∷ body)) after = attribute body c n refl in
    let o : attribute_begins (40 ∷ (42 ∷ (body ++ after))) ≡ true = opened (42 ∷ (body ++ after)) (length (40 ∷ (42 ∷ body))) (white_is (40 ∷ (42 ∷ body)) after w) in
    let f = h l.0 (40 ∷ (42 ∷ (body ++ after))) l.1 in
    absurd (cc)

pub plain_without : PlainWithout
plain_without file b h = record { units = no_backticks file b; attributes = none_begins file h }
