-- The words of a patched text.
use Rattle.std.proofs.Common.{zero-add, ℕ, suc, ◌≡◌, ◌≢◌, ◌+◌, ◌-◌, ◌≤◌, List, [], ◌∷◌, ◌++◌, length, drop, take, Bool, true, false, not, ◌&&◌, ◌||◌, ◌==◌, Option, Some, None, refl, ap, ◌∙◌, sym, arith, subst, ◌⊎◌, inl, inr}
use Rattle.std.specs.List.{prefix_len, list_all}
use Rattle.std.proofs.lemmas.Bool.{and_parts, cases_Bool, eqb-true, false≢true, not-true, not-false}
use Rattle.std.proofs.lemmas.List.{drop_at, take_at, append_assoc, length-append}
use Rattle.rr_lex.specs.Bytes.{is, begins, starts, is_dark, is_blank, is_gap, is_in_line, is_digit, is_letter}
use Rattle.rr_syntax.specs.Words.{Word, Marked, marks, mark_star, mark_close_parenthesis}
use Rattle.rr_lex.specs.Tokens.{Lexeme, place_of, more, is_closed_next, IsWhite, blank, line, block, attribute, skipped, IsToken, named, reserved, escaped_name, system_name, numbered, marked, Stands, Read, here, white, token, words_of, AreTokens}
use Rattle.rr_lex.specs.Numbers.{IsNumberText}
use Rattle.rr_lex.specs.Reading.{is_mark}
use Rattle.rr_lex.specs.Patch.{New, Edit, run_end, run_text, token_text, patched, token_word, new_words, patched_words, IsNew, IsNewUnquoted, IsNewBefore, AllNew, Replaces, IsNext, AreEdits, AreWords}
use Rattle.rr_lex.proofs.Runs.{gap_blank}
use Rattle.rr_lex.proofs.Marks.{place_sound, fine_parts}
use Rattle.rr_lex.proofs.Exact.{empty_seen, text_first, number_text, place_mark}
use Rattle.rr_lex.proofs.Edges.{Edged, opens, stays}

-- these bytes have tokens with these words, from any place
abbrev Reads : List ℕ → List Word → Type 0
Reads bs ws = (at : ℕ) → (end : ℕ) × (ts : List Lexeme) × Read end [] at bs ts × (words_of ts ≡ ws)

-- what holds of the bytes after a change, for what stands before them
pub record Same (old new : List ℕ) : Type 0 where
  pub edged : Edged old new
  pub closed : is_closed_next old ≡ true → is_closed_next new ≡ true
  pub lines : begins is_in_line old ≡ false → begins is_in_line new ≡ false

same : (bs : List ℕ) → Same bs bs
same bs = record { edged = record { heads = λ p d h. h; quote = λ h. h; star = λ h. h }; closed = λ h. h; lines = λ h. h }

blank_space : IsWhite (32 ∷ []) []
unfolding is_blank
blank_space = blank 32 refl refl

space : (after : List ℕ) → IsWhite (32 ∷ []) after
unfolding is_blank
space after = blank 32 refl refl

-- no token begins with a blank
token_dark : (w : Word) (b : ℕ) (text after : List ℕ) → Stands w (b ∷ text) after → is_blank b ≡ false
token_dark w b text after t = elim (cases_Bool (is_blank b)) [ inr h ↦ h | inl h ↦ absurd (t.dark (b ∷ []) (text ++ after) refl (blank b h refl)) ]

no_gap : (b : ℕ) → is_blank b ≡ false → is_gap b ≡ false
no_gap b h = elim (cases_Bool (is_gap b)) [ inr e ↦ e | inl e ↦ absurd (false≢true (sym h ∙ gap_blank b e)) ]

-- past blanks, at a byte that is none
at_dark : (b : ℕ) (bs : List ℕ) → is_gap b ≡ false → starts is_gap (b ∷ bs) ≡ b ∷ bs
at_dark b bs h = rw h refl

past_blank : (b : ℕ) (bs : List ℕ) → is_gap b ≡ true → starts is_gap (b ∷ bs) ≡ starts is_gap bs
past_blank b bs h = let e : prefix_len is_gap (b ∷ bs) ≡ suc (prefix_len is_gap bs) = rw h (omega arith) in ap (λ (n : ℕ). drop n (b ∷ bs)) e

-- a new token that begins with no apostrophe
quote_there : (w : Word) (text rest after : List ℕ) → Stands w text after → begins (is 39) text ≡ false → begins (is 39) (starts is_gap (text ++ rest)) ≡ false
quote_there w [] rest after t q = absurd (empty_seen w after t.token)
quote_there w (b ∷ text) rest after t q = rw (at_dark b (text ++ rest) (no_gap b (token_dark w b text after t))) q

new_quote : (w : Word) (text rest after : List ℕ) → Stands w text after → begins (is 39) text ≡ false → begins (is 39) (starts is_gap (32 ∷ (text ++ rest))) ≡ false
unfolding is_gap
new_quote w text rest after t q = rw (past_blank 32 (text ++ rest) refl) (quote_there w text rest after t q)

-- what holds wherever a blank follows
weaker : (n : New) → IsNew n → IsNewUnquoted n
weaker n k = record { alone = λ after _. k.alone after; unquoted = k.unquoted }

-- of each token of a run
first_new : (n : New) (ns : List New) → IsNewBefore ns n → IsNewUnquoted n
first_new n [] k = weaker n k
first_new n (m ∷ ns) k = k

alone_there : (n : New) → IsNewUnquoted n → Stands n.word n.text (32 ∷ [])
alone_there n k = k.alone [] refl

-- a blank and a new token
new_edge : (old rest : List ℕ) (n : New) → IsNewUnquoted n → Edged old (32 ∷ (n.text ++ rest))
unfolding opens
new_edge old rest n k = record {
  heads = λ p d h. d.blank;
  quote = λ _. new_quote n.word n.text rest (32 ∷ []) (alone_there n k) k.unquoted;
  star = λ _. refl;
}

-- the bytes read on, from any place
read_white : (text after : List ℕ) (ws : List Word) → IsWhite text after → Reads after ws → Reads (text ++ after) ws
read_white text after ws w r at = let k = r (at + length text) in (k.0, k.1, white at (text ++ after) text after k.1 refl w k.2, k.3)

read_token : (w : Word) (text after : List ℕ) (ws : List Word) → Stands w text after → Reads after ws → Reads (text ++ after) (w ∷ ws)
read_token w text after ws t r at = let k = r (at + length text) in
    (k.0, record { word = w; start = at; end = at + length text } ∷ k.1, token at (text ++ after) text after w k.1 refl t k.2, ap (λ (l : List Word). w ∷ l) k.3)

-- a run of new tokens, each after a blank
read_run : (n : New) (ns : List New) (after : List ℕ) (ws : List Word) → AllNew (n ∷ ns) → Reads after ws → Reads (run_end (n ∷ ns) ++ after) (new_words (n ∷ ns) ++ ws)
read_run n [] after ws k r =
    let a : Reads (n.text ++ (32 ∷ after)) (n.word ∷ ws) = read_token n.word n.text (32 ∷ after) ws (k.0.alone after) (read_white (32 ∷ []) after ws (space after) r) in
    let b : Reads (32 ∷ (n.text ++ (32 ∷ after))) (n.word ∷ ws) = read_white (32 ∷ []) (n.text ++ (32 ∷ after)) (n.word ∷ ws) (space _) a in
    subst (λ (l : List ℕ). Reads (32 ∷ l) (n.word ∷ ws)) (sym (append_assoc n.text (32 ∷ []) after)) b
read_run n (m ∷ ns) after ws k r =
    let t : Reads (run_end (m ∷ ns) ++ after) (new_words (m ∷ ns) ++ ws) = read_run m ns after ws k.1 r in
    let h = first_new m ns k.1.0 in
    let q : begins (is 39) (starts is_gap ((m.text ++ run_end ns) ++ after)) ≡ false =
    subst (λ (l : List ℕ). begins (is 39) (starts is_gap l) ≡ false) (sym (append_assoc m.text (run_end ns) after)) (quote_there m.word m.text (run_end ns ++ after) (32 ∷ []) (alone_there m h) h.unquoted) in
    let a : Reads (n.text ++ (run_end (m ∷ ns) ++ after)) (n.word ∷ (new_words (m ∷ ns) ++ ws)) =
    read_token n.word n.text (run_end (m ∷ ns) ++ after) (new_words (m ∷ ns) ++ ws) (k.0.alone ((m.text ++ run_end ns) ++ after) q) t in
    let b : Reads (32 ∷ (n.text ++ (run_end (m ∷ ns) ++ after))) (n.word ∷ (new_words (m ∷ ns) ++ ws)) = read_white (32 ∷ []) (n.text ++ (run_end (m ∷ ns) ++ after)) _ (space _) a in
    subst (λ (l : List ℕ). Reads (32 ∷ l) (n.word ∷ (new_words (m ∷ ns) ++ ws))) (sym (append_assoc n.text (run_end (m ∷ ns)) after)) b

read_runs : (ns : List New) (after : List ℕ) (ws : List Word) → AllNew ns → Reads after ws → Reads (run_text ns ++ after) (new_words ns ++ ws)
read_runs [] after ws k r = r
read_runs (n ∷ ns) after ws k r = read_run n ns after ws k r

-- what a token sees of a run after it
run_edge : (old rest : List ℕ) (n : New) (ns : List New) → IsNewUnquoted n → Edged old (run_end (n ∷ ns) ++ rest)
run_edge old rest n ns k = subst (λ (l : List ℕ). Edged old (32 ∷ l)) (sym (append_assoc n.text (run_end ns) rest)) (new_edge old (run_end ns ++ rest) n k)

-- white space stays before other bytes
white_stays : (text old new : List ℕ) → IsWhite text old → (begins is_in_line old ≡ false → begins is_in_line new ≡ false) → IsWhite text new
white_stays text old new (blank b h e) l = blank b h e
white_stays text old new (line body h s e) l = line body h (l s) e
white_stays text old new (block body c e) l = block body c e
white_stays text old new (skipped k name rest n b h s e) l = skipped k name rest n b h (l s) e
white_stays text old new (attribute body c s e) l = attribute body c s e

-- the same byte at the front
front_edge : (b : ℕ) (old new : List ℕ) → is_gap b ≡ false → (b == 42) ≡ false → Same (b ∷ old) (b ∷ new)
unfolding opens
front_edge b old new g s = record {
  edged = record {
    heads = λ p d h. h;
    quote = λ h. rw (at_dark b new g) (rw (at_dark b old g) at h);
    star = λ h. rw s refl;
  };
  closed = λ h. rw (at_dark b new g) (rw (at_dark b old g) at h);
  lines = λ h. h;
}

blank_edge : (b : ℕ) (old new : List ℕ) → is_gap b ≡ true → (b == 42) ≡ false → Same old new → Same (b ∷ old) (b ∷ new)
unfolding opens
blank_edge b old new g s k = record {
  edged = record {
    heads = λ p d h. h;
    quote = λ h. rw (past_blank b new g) (k.edged.quote (rw (past_blank b old g) at h));
    star = λ h. rw s refl;
  };
  closed = λ h. rw (past_blank b new g) (k.closed (rw (past_blank b old g) at h));
  lines = λ h. h;
}

blank_star : (b : ℕ) → is_blank b ≡ true → (b == 42) ≡ false
unfolding is_blank
blank_star b h = elim (cases_Bool (b == 42)) [ inr e ↦ e | inl e ↦ let q : b ≡ 42 = eqb-true b 42 e in absurd (false≢true (ap is_blank (sym q) ∙ h)) ]

white_same : (text old new : List ℕ) → IsWhite text old → Same old new → Same (text ++ old) (text ++ new)
unfolding is_gap
white_same text old new (blank b h e) k = rw e (elim (cases_Bool (is_gap b)) [ inl g ↦ blank_edge b old new g (blank_star b h) k | inr g ↦ front_edge b old new g (blank_star b h) ])
white_same text old new (line body h s e) k = rw e (front_edge 47 (47 ∷ (body ++ old)) (47 ∷ (body ++ new)) refl refl)
white_same text old new (block body c e) k = rw e (front_edge 47 (42 ∷ (body ++ old)) (42 ∷ (body ++ new)) refl refl)
white_same text old new (skipped i name rest n b h s e) k = rw e (front_edge 96 ((name ++ rest) ++ old) ((name ++ rest) ++ new) refl refl)
white_same text old new (attribute body c s e) k = rw e (front_edge 40 (42 ∷ (body ++ old)) (42 ∷ (body ++ new)) refl refl)

is_place : ℕ → Option ℕ → Bool
is_place m None = false
is_place m (Some n) = n == m

bracket_dark : is_blank 41 ≡ true → ⊥
unfolding is_blank
bracket_dark h = false≢true h

-- the marks that begin with a closing bracket
closes : List ℕ → Bool
closes text = not (begins (is 41) text) || is_place mark_close_parenthesis (place_of text marks)

all_close : list_all closes marks ≡ true
unfolding closes is_place place_of more
all_close = refl

place_is : (m : ℕ) (o : Option ℕ) (n : ℕ) → is_place m o ≡ true → o ≡ Some n → n ≡ m
unfolding is_place
place_is m None n h e = absurd (cc)
place_is m (Some k) n h e = let q : k ≡ m = eqb-true k m h in cc

number_begins : (text : List ℕ) (b : ℕ) (xs : List ℕ) → text ≡ b ∷ xs → IsNumberText text → (is_digit b || (b == 39)) ≡ true
number_begins text b xs e t = rw (ap (λ (l : List ℕ). l ++ []) e) at (text_first text [] t)

-- a token that begins as a mark is one
mark_of : (w : Word) (text after : List ℕ) → IsToken w text after → begins is_letter text ≡ false → begins (is 92) text ≡ false → begins (is 36) text ≡ false → (begins is_digit (text ++ []) || begins (is 39) (text ++ [])) ≡ false →
    (m : ℕ) × (place_of text marks ≡ Some m) × (w ≡ Marked m)
mark_of w text after (named n k e) l s y d = absurd (false≢true (sym l ∙ n.0))
mark_of w text after (reserved j n k e) l s y d = absurd (false≢true (sym l ∙ n.0))
mark_of w text after (escaped_name body n e) l s y d = absurd (false≢true (sym s ∙ ap (begins (is 92)) n.3))
mark_of w text after (system_name body n e) l s y d = absurd (false≢true (sym y ∙ ap (begins (is 36)) n.2))
mark_of w text after (numbered n t e) l s y d = absurd (false≢true (sym d ∙ text_first text [] (number_text text n t)))
mark_of w text after (marked m k e) l s y d = (m, k, e)

closing_word : (w : Word) (text after : List ℕ) → IsToken w (41 ∷ text) after → w ≡ Marked mark_close_parenthesis
unfolding closes is_letter is_digit
closing_word w text after t =
    let k = mark_of w (41 ∷ text) after t refl refl refl refl in
    k.2 ∙ ap Marked (place_is mark_close_parenthesis (place_of (41 ∷ text) marks) k.0 (place_sound closes (41 ∷ text) marks k.0 all_close k.1) k.1)

is_nil : List ℕ → Bool
is_nil [] = true
is_nil (b ∷ bs) = false

stars : List ℕ → Bool
stars text = not (begins (is 42) text && is_nil (drop 1 text)) || is_place mark_star (place_of text marks)

all_stars : list_all stars marks ≡ true
unfolding stars is_nil is_place place_of more
all_stars = refl

star_word : (w : Word) (after : List ℕ) → IsToken w (42 ∷ []) after → w ≡ Marked mark_star
unfolding stars is_nil is_letter is_digit
star_word w after t =
    let k = mark_of w (42 ∷ []) after t refl refl refl refl in
    k.2 ∙ ap Marked (place_is mark_star (place_of (42 ∷ []) marks) k.0 (place_sound stars (42 ∷ []) marks k.0 all_stars k.1) k.1)

star_mark : (w : Word) (y : ℕ) (xs after : List ℕ) → IsToken w (42 ∷ (y ∷ xs)) after → is_mark (42 ∷ (y ∷ xs)) ≡ true
unfolding is_letter is_digit
star_mark w y xs after t = let k = mark_of w (42 ∷ (y ∷ xs)) after t refl refl refl refl in place_mark (42 ∷ (y ∷ xs)) k.0 k.1

dark_gap : (y : ℕ) → is_dark y ≡ true → is_gap y ≡ false
unfolding is_dark
dark_gap y h = no_gap y (not-true (is_blank y) h)

after_star : (w : Word) (xs old new : List ℕ) → IsToken w (42 ∷ xs) old → (is_closed_next old ≡ true → w ≡ Marked mark_star → is_closed_next new ≡ true) → is_closed_next (xs ++ old) ≡ true → is_closed_next (xs ++ new) ≡ true
after_star w [] old new t c h = c h (star_word w old t)
after_star w (y ∷ xs) old new t c h =
    let g = dark_gap y (and_parts (is_dark y) (list_all is_dark xs) (fine_parts 42 (y ∷ xs) (star_mark w y xs old t)).dark).0 in
    rw (at_dark y (xs ++ new) g) (rw (at_dark y (xs ++ old) g) at h)

token_star : (w : Word) (b : ℕ) (xs old new : List ℕ) → IsToken w (b ∷ xs) old → (is_closed_next old ≡ true → w ≡ Marked mark_star → is_closed_next new ≡ true) → opens (b ∷ (xs ++ old)) ≡ false → opens (b ∷ (xs ++ new)) ≡ false
unfolding opens
token_star w b xs old new t c h = elim (cases_Bool (b == 42)) [
  | inr e ↦ rw e refl
  | inl e ↦
      let q : b ≡ 42 = eqb-true b 42 e in
      let k : is_closed_next (xs ++ old) ≡ true = not-false (is_closed_next (xs ++ old)) (rw e at h) in
      rw (e, after_star w xs old new (subst (λ (n : ℕ). IsToken w (n ∷ xs) old) q t) c k) refl
]

token_same : (w : Word) (text old new : List ℕ) → Stands w text old → Edged old new → (is_closed_next old ≡ true → w ≡ Marked mark_star → is_closed_next new ≡ true) → Same (text ++ old) (text ++ new)
token_same w [] old new t d c = absurd (empty_seen w old t.token)
token_same w (b ∷ xs) old new t d c =
    let g = no_gap b (token_dark w b xs old t) in
    record {
      edged = record {
        heads = λ p k h. h;
        quote = λ h. rw (at_dark b (xs ++ new) g) (rw (at_dark b (xs ++ old) g) at h);
        star = token_star w b xs old new t.token c;
      };
      closed = λ h. rw (at_dark b (xs ++ new) g) (rw (at_dark b (xs ++ old) g) at h);
      lines = λ h. h;
    }

closed_first : (w : Word) (text after : List ℕ) → Stands w text after → is_closed_next (text ++ after) ≡ true → w ≡ Marked mark_close_parenthesis
closed_first w [] after t h = absurd (empty_seen w after t.token)
closed_first w (b ∷ xs) after t h =
    let q : b ≡ 41 = eqb-true b 41 (rw (at_dark b (xs ++ after) (no_gap b (token_dark w b xs after t))) at h) in
    closing_word w xs after (subst (λ (n : ℕ). IsToken w (n ∷ xs) after) q t.token)

-- past blanks a closing bracket is the next token
white_closed : (text after : List ℕ) → IsWhite text after → is_closed_next (text ++ after) ≡ true → is_closed_next after ≡ true
unfolding is_gap
white_closed text after (blank b h e) c = elim (cases_Bool (is_gap b)) [
  | inl g ↦ rw (past_blank b after g) at (rw e at c)
  | inr g ↦ let q : b ≡ 41 = eqb-true b 41 (rw (at_dark b after g) at (rw e at c)) in absurd (bracket_dark (ap is_blank (sym q) ∙ h))
]
white_closed text after (line body h s e) c = absurd (false≢true (rw e at c))
white_closed text after (block body k e) c = absurd (false≢true (rw e at c))
white_closed text after (skipped i name rest n b h s e) c = absurd (false≢true (rw e at c))
white_closed text after (attribute body k s e) c = absurd (false≢true (rw e at c))

closed_next : (end at : ℕ) (bs : List ℕ) (ts : List Lexeme) → Read end [] at bs ts → is_closed_next bs ≡ true → IsNext (Marked mark_close_parenthesis) ts
closed_next end a b c (here at bs e w) h = absurd (false≢true (rw w at h))
closed_next end a b c (white at bs text after ts w k r) h = closed_next end (at + length text) after ts r (white_closed text after k (rw w at h))
closed_next end a b c (token at bs text after w ts q t r) h = closed_first w text after t (rw q at h)

-- any text reads from any place
reads_of : (end at : ℕ) (bs : List ℕ) (ts : List Lexeme) → Read end [] at bs ts → Reads bs (words_of ts)
reads_of end a b c (here at bs e w) = rw w (λ n. (n, [], here n [] refl refl, refl))
reads_of end a b c (white at bs text after ts w k r) = rw w (read_white text after (words_of ts) k (reads_of end (at + length text) after ts r))
reads_of end a b c (token at bs text after w ts q t r) = rw q (read_token w text after (words_of ts) t (reads_of end (at + length text) after ts r))

starts_from : (end at : ℕ) (bs : List ℕ) (t : Lexeme) (ts us : List Lexeme) → us ≡ t ∷ ts → Read end [] at bs us → (at ≤ t.start) × (t.start ≤ t.end)
starts_from end a b t ts c e (here at bs f w) = absurd (cc)
starts_from end a b t ts c e (white at bs text after us w k r) = let i = starts_from end (at + length text) after t ts us e r in (omega arith, i.1)
starts_from end a b t ts c e (token at bs text after w us q k r) = let p : record { word = w; start = at; end = at + length text } ≡ t = cc in subst (λ (u : Lexeme). (at ≤ u.start) × (u.start ≤ u.end)) p (omega arith, omega arith)

take_past : (xs ys : List ℕ) (n : ℕ) → take (length xs + n) (xs ++ ys) ≡ xs ++ take n ys
take_past [] ys n = ap (λ (k : ℕ). take k ys) (zero-add n)
take_past (x ∷ xs) ys n = let e : suc (length xs) + n ≡ suc (length xs + n) = omega arith in ap (λ (k : ℕ). take k (x ∷ (xs ++ ys))) e ∙ ap (λ (l : List ℕ). x ∷ l) (take_past xs ys n)

drop_past : (xs ys : List ℕ) (n : ℕ) → drop (length xs + n) (xs ++ ys) ≡ drop n ys
drop_past [] ys n = ap (λ (k : ℕ). drop k ys) (zero-add n)
drop_past (x ∷ xs) ys n = let e : suc (length xs) + n ≡ suc (length xs + n) = omega arith in ap (λ (k : ℕ). drop k (x ∷ (xs ++ ys))) e ∙ drop_past xs ys n

patched_white : (end at : ℕ) (text after : List ℕ) (ts : List Lexeme) (es : List Edit) → Read end [] (at + length text) after ts → patched at (text ++ after) ts es ≡ text ++ patched (at + length text) after ts es
patched_white end at text after [] es r = refl
patched_white end at text after (t ∷ ts) [] r = refl
patched_white end at text after (t ∷ ts) (e ∷ es) r =
    let i = starts_from end (at + length text) after t ts (t ∷ ts) refl r in
    let q : t.start - at ≡ length text + (t.start - (at + length text)) = omega arith in
    let u : t.end - at ≡ length text + (t.end - (at + length text)) = omega arith in
    rw (q, u, take_past text after (t.start - (at + length text)), drop_past text after (t.start - (at + length text)), drop_past text after (t.end - (at + length text))) (append_assoc text _ _)

patched_token : (at : ℕ) (text after : List ℕ) (w : Word) (ts : List Lexeme) (e : Edit) (es : List Edit) →
    patched at (text ++ after) (record { word = w; start = at; end = at + length text } ∷ ts) (e ∷ es) ≡ token_text e.text text ++ (run_text e.run ++ patched (at + length text) after ts es)
patched_token at text after w ts e es =
    let z : at - at ≡ 0 = omega arith in
    let l : at + length text - at ≡ length text = omega arith in
    rw (z, l, take_at text after (length text) refl, drop_at text after (length text) refl) refl

pub record Patches (bs new : List ℕ) (ws : List Word) : Type 0 where
  pub reads : Reads new ws
  pub sees : Same bs new

run_sees : (old next : List ℕ) (ns : List New) → AllNew ns → Edged old next → Edged old (run_text ns ++ next)
run_sees old next [] k e = e
run_sees old next (n ∷ ns) k e = run_edge old next n ns (first_new n ns k.0)

run_closed : (w : Word) (old next : List ℕ) (ns : List New) (ts : List Lexeme) → ((ns ≡ []) ⊎ (w ≡ Marked mark_star → IsNext (Marked mark_close_parenthesis) ts → ⊥)) → (is_closed_next old ≡ true → IsNext (Marked mark_close_parenthesis) ts) →
    (is_closed_next old ≡ true → is_closed_next next ≡ true) → is_closed_next old ≡ true → w ≡ Marked mark_star → is_closed_next (run_text ns ++ next) ≡ true
run_closed w old next [] ts c i k h s = k h
run_closed w old next (n ∷ ns) ts c i k h s = elim c [ inl e ↦ absurd (cc) | inr f ↦ absurd (f s (i h)) ]

kept_patch : (w : Word) (text old next : List ℕ) (ts : List Lexeme) (ws : List Word) (ns : List New) → Stands w text old → AllNew ns → ((ns ≡ []) ⊎ (w ≡ Marked mark_star → IsNext (Marked mark_close_parenthesis) ts → ⊥)) →
    (is_closed_next old ≡ true → IsNext (Marked mark_close_parenthesis) ts) → Patches old next ws → Patches (text ++ old) (text ++ (run_text ns ++ next)) (w ∷ (new_words ns ++ ws))
kept_patch w text old next ts ws ns t n c i p =
    let e = run_sees old next ns n p.sees.edged in
    record {
      reads = read_token w text (run_text ns ++ next) (new_words ns ++ ws) (stays w text old (run_text ns ++ next) t e) (read_runs ns next ws n p.reads);
      sees = token_same w text old (run_text ns ++ next) t e (run_closed w old next ns ts c i p.sees.closed);
    }

line_dark : (b : ℕ) → is_blank b ≡ false → is_in_line b ≡ true
unfolding is_blank is_in_line
line_dark b h = elim (cases_Bool (b == 10)) [ inr e ↦ rw e refl | inl e ↦ let q : b ≡ 10 = eqb-true b 10 e in absurd (false≢true (sym h ∙ ap is_blank q)) ]

token_line : (w : Word) (text old : List ℕ) → Stands w text old → begins is_in_line (text ++ old) ≡ true
token_line w [] old t = absurd (empty_seen w old t.token)
token_line w (b ∷ xs) old t = line_dark b (token_dark w b xs old t)

replaced_patch : (w : Word) (text old next : List ℕ) (ws : List Word) (m : New) (ns : List New) → Stands w text old → IsNew m → (w ≢ Marked mark_close_parenthesis) → AllNew ns → Patches old next ws →
    Patches (text ++ old) ((32 ∷ (m.text ++ (32 ∷ []))) ++ (run_text ns ++ next)) (m.word ∷ (new_words ns ++ ws))
replaced_patch w text old next ws m ns t k d n p =
    record {
      reads = read_run m [] (run_text ns ++ next) (new_words ns ++ ws) (k, tt) (read_runs ns next ws n p.reads);
      sees = record {
        edged = run_edge (text ++ old) (run_text ns ++ next) m [] (weaker m k);
        closed = λ h. absurd (d (closed_first w text old t h));
        lines = λ h. absurd (false≢true (sym h ∙ token_line w text old t));
      };
    }

token_patch : (w : Word) (text old next : List ℕ) (ts : List Lexeme) (ws : List Word) (o : Option New) (ns : List New) → Stands w text old → Replaces o w → AllNew ns → ((ns ≡ []) ⊎ (w ≡ Marked mark_star → IsNext (Marked mark_close_parenthesis) ts → ⊥)) →
    (is_closed_next old ≡ true → IsNext (Marked mark_close_parenthesis) ts) → Patches old next ws → Patches (text ++ old) (token_text o text ++ (run_text ns ++ next)) (token_word o w ∷ (new_words ns ++ ws))
token_patch w text old next ts ws None ns t r n c i p = kept_patch w text old next ts ws ns t n c i p
token_patch w text old next ts ws (Some m) ns t r n c i p = replaced_patch w text old next ws m ns t r.0 r.1 n p

-- The patched text has the words with the edits.
pub patch_is : (end at : ℕ) (bs : List ℕ) (ts : List Lexeme) → Read end [] at bs ts → (es : List Edit) → AreEdits ts es → Patches bs (patched at bs ts es) (patched_words ts es)
patch_is end a b c (here at bs e w) es k = record { reads = reads_of end at bs [] (here at bs e w); sees = same bs }
patch_is end a b c (white at bs text after ts w k r) es f =
    let p = patch_is end (at + length text) after ts r es f in
    rw (w, patched_white end at text after ts es r) (record {
      reads = read_white text (patched (at + length text) after ts es) (patched_words ts es) (white_stays text after (patched (at + length text) after ts es) k p.sees.lines) p.reads;
      sees = white_same text after (patched (at + length text) after ts es) k p.sees;
    })
patch_is end a b c (token at bs text after w ts q t r) [] f = record { reads = reads_of end at bs _ (token at bs text after w ts q t r); sees = same bs }
patch_is end a b c (token at bs text after w ts q t r) (e ∷ es) f =
    let p = patch_is end (at + length text) after ts r es f.3 in
    rw (q, patched_token at text after w ts e es)
    (token_patch w text after (patched (at + length text) after ts es) ts (patched_words ts es) e.text e.run t f.0 f.1 f.2 (closed_next end (at + length text) after ts r) p)

-- the place where reading ends
read_end : (end at : ℕ) (bs : List ℕ) (ts : List Lexeme) → Read end [] at bs ts → end ≡ at + length bs
read_end end a b c (here at bs e w) = rw w (sym e ∙ omega arith)
read_end end a b c (white at bs text after ts w k r) =
    let i : end ≡ at + length text + length after = read_end end (at + length text) after ts r in
    rw w (rw (length-append text after) (i ∙ omega arith))
read_end end a b c (token at bs text after w ts q t r) =
    let i : end ≡ at + length text + length after = read_end end (at + length text) after ts r in
    rw q (rw (length-append text after) (i ∙ omega arith))

are_words : (bs : List ℕ) (ws : List Word) → Reads bs ws → AreWords bs ws
are_words bs ws r =
    let k = r 0 in
    let e : k.0 ≡ length bs = read_end k.0 0 bs k.1 k.2 ∙ zero-add (length bs) in
    (k.1, subst (λ (n : ℕ). Read n [] 0 bs k.1) e k.2, k.3)

pub patch_words : (bs : List ℕ) (ts : List Lexeme) (es : List Edit) → AreTokens bs ts → AreEdits ts es → AreWords (patched 0 bs ts es) (patched_words ts es)
patch_words bs ts es r f = are_words (patched 0 bs ts es) (patched_words ts es) (patch_is (length bs) 0 bs ts r es f).reads
