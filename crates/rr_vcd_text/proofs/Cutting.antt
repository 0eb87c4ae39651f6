-- Words at the places where they begin and end.
use Rattle.std.proofs.Common.{◌≡◌, ◌⊎◌, inl, inr, ℕ, suc, ◌+◌, ◌<◌, ◌≤◌, ◌^◌, Bool, true, false, List, [], ◌∷◌, ◌++◌, length, get_or, take, drop, refl, sym, ◌∙◌, ap, subst, add-one, add-zero, arith, get_or-drop, length-take, drop-cons, nat_eq, if◌then◌else◌, cond}
use Rattle.std.proofs.Math.Seq.{take-suc}
use Rattle.rr_vcd_text.specs.Words.{Word, is_white, next_line, ended, words_from}

-- one byte of white space less
pub white_step : (line : ℕ) (b : ℕ) (bs : List ℕ) → is_white b ≡ true → words_from line [] (b ∷ bs) ≡ words_from (next_line line b) [] bs
unfolding words_from
white_step line b bs e = rw e refl

-- one byte of a word more
pub word_step : (line : ℕ) (word : List ℕ) (b : ℕ) (bs : List ℕ) → is_white b ≡ false → words_from line word (b ∷ bs) ≡ words_from line (word ++ b ∷ []) bs
unfolding words_from
word_step line word b bs e = rw e refl

pub no_words : (line : ℕ) → words_from line [] [] ≡ []
unfolding words_from
no_words line = refl

-- a word that ends
pub whole_word : (line : ℕ) (b : ℕ) (bs rest : List ℕ) → (rest ≡ []) ⊎ (is_white (get_or rest 0 0) ≡ true)
    → words_from line (b ∷ bs) rest ≡ record { text = b ∷ bs; line = line } ∷ words_from line [] rest
unfolding words_from
whole_word line b bs [] h = refl
whole_word line b bs (c ∷ cs) (inl e) = cc
whole_word line b bs (c ∷ cs) (inr e) = rw e refl

-- so many bytes at the head of a text are white space, with line feeds that make its lines greater
pub record Skips (text : List ℕ) (at above lines : ℕ) : Type 0 where
  pub same : words_from (lines + 1) [] (drop at text) ≡ words_from (above + 1) [] text
  pub fits : lines + length text < 2 ^ 64 + at

pub Skips-none : (text : List ℕ) (above : ℕ) → above + length text < 2 ^ 64 → Skips text 0 above above
Skips-none text above h = record { same = refl; fits = omega arith }

pub Skips-line : (text : List ℕ) (at above lines : ℕ) → Skips text at above lines → at < length text → is_white (get_or text at 0) ≡ true → get_or text at 0 ≡ 10
    → Skips text (at + 1) above (lines + 1)
Skips-line text at above lines s inside white feed = record {
  same =
      let e : drop at text ≡ get_or text at 0 ∷ drop (suc at) text = drop-cons text at 0 inside in
      let step = white_step (lines + 1) (get_or text at 0) (drop (suc at) text) white in
      let line : next_line (lines + 1) (get_or text at 0) ≡ lines + 1 + 1 = rw feed refl in
      ap (λ k. words_from (lines + 1 + 1) [] (drop k text)) (add-one at) ∙ (sym (ap (λ l. words_from l [] (drop (suc at) text)) line) ∙ (sym step ∙ (sym (ap (words_from (lines + 1) []) e) ∙ s.same)));
  fits = let f = s.fits in omega arith;
}

pub Skips-more : (text : List ℕ) (at above lines : ℕ) → Skips text at above lines → at < length text → is_white (get_or text at 0) ≡ true → (nat_eq (get_or text at 0) 10 ≡ false)
    → Skips text (at + 1) above lines
Skips-more text at above lines s inside white feed = record {
  same =
      let e : drop at text ≡ get_or text at 0 ∷ drop (suc at) text = drop-cons text at 0 inside in
      let step = white_step (lines + 1) (get_or text at 0) (drop (suc at) text) white in
      let line : next_line (lines + 1) (get_or text at 0) ≡ lines + 1 = rw feed refl in
      ap (λ k. words_from (lines + 1) [] (drop k text)) (add-one at) ∙ (sym (ap (λ l. words_from l [] (drop (suc at) text)) line) ∙ (sym step ∙ (sym (ap (words_from (lines + 1) []) e) ∙ s.same)));
  fits = let f = s.fits in omega arith;
}

-- so many bytes at the head of a text are the front of a word
pub record Words (text : List ℕ) (at : ℕ) : Type 0 where
  pub same : (line : ℕ) → words_from line (take at text) (drop at text) ≡ words_from line [] text

pub Words-none : (text : List ℕ) → Words text 0
Words-none text = record { same = λ line. refl }

pub Words-more : (text : List ℕ) (at : ℕ) → Words text at → at < length text → is_white (get_or text at 0) ≡ false → Words text (at + 1)
Words-more text at s inside dark = record {
  same = λ line.
      let e : drop at text ≡ get_or text at 0 ∷ drop (suc at) text = drop-cons text at 0 inside in
      let step = word_step line (take at text) (get_or text at 0) (drop (suc at) text) dark in
      let t : take (suc at) text ≡ take at text ++ get_or text at 0 ∷ [] = take-suc text at 0 inside in
      ap (λ k. words_from line (take k text) (drop k text)) (add-one at) ∙ (ap (λ x. words_from line x (drop (suc at) text)) t ∙ (sym step ∙ (sym (ap (words_from line (take at text)) e) ∙ s.same line)));
}

drop_whole : (xs : List ℕ) → drop (length xs) xs ≡ []
drop_whole [] = refl
drop_whole (x ∷ xs) = drop_whole xs

none_left : (xs : List ℕ) → length xs ≡ 0 → xs ≡ []
none_left [] e = refl
none_left (x ∷ xs) e = absurd (omega arith)

-- where no word stands next there is none
pub no_word : (text rest : List ℕ) (above lines : ℕ) → words_from (lines + 1) [] rest ≡ words_from (above + 1) [] text → (0 ≡ length rest) ⊎ (is_white (get_or rest 0 0) ≡ true)
    → (0 < length rest → is_white (get_or rest 0 0) ≡ false) → words_from (above + 1) [] text ≡ []
no_word text [] above lines same ends dark = sym same ∙ no_words (lines + 1)
no_word text (b ∷ bs) above lines same (inl e) dark = absurd (omega arith)
no_word text (b ∷ bs) above lines same (inr e) dark = let d : is_white b ≡ false = dark (omega arith) in cc

-- the word that stands next
pub next_word : (text rest : List ℕ) (above lines n : ℕ) → words_from (lines + 1) [] rest ≡ words_from (above + 1) [] text → 0 < n → n ≤ length rest
    → ((line : ℕ) → words_from line (take n rest) (drop n rest) ≡ words_from line [] rest) → (n ≡ length rest) ⊎ (is_white (get_or rest n 0) ≡ true)
    → words_from (above + 1) [] text ≡ record { text = take n rest; line = lines + 1 } ∷ words_from (lines + 1) [] (drop n rest)
next_word text rest above lines n same some within whole ends =
    sym same ∙ (sym (whole (lines + 1)) ∙ by_front (take n rest) (omega (arith, length-take n rest)))
  where
    dark : (n ≡ length rest) ⊎ (is_white (get_or rest n 0) ≡ true) → (drop n rest ≡ []) ⊎ (is_white (get_or (drop n rest) 0 0) ≡ true)
    dark (inl e) = inl (ap (λ k. drop k rest) e ∙ drop_whole rest)
    dark (inr e) = inr (ap is_white (get_or-drop n rest 0 0 ∙ ap (λ k. get_or rest k 0) (add-zero n)) ∙ e)

    by_front : (front : List ℕ) → 0 < length front → words_from (lines + 1) front (drop n rest) ≡ record { text = front; line = lines + 1 } ∷ words_from (lines + 1) [] (drop n rest)
    by_front [] h = absurd (omega arith)
    by_front (b ∷ bs) h = whole_word (lines + 1) b bs (drop n rest) (dark ends)
