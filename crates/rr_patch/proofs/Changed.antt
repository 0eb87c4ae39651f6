-- The changes of pieces make their edits.
use Rattle.std.proofs.Common.{◌≡◌, ◌⊎◌, inl, inr, ℕ, zero, suc, ◌+◌, ◌-◌, ◌<◌, ◌≤◌, ◌==◌, ◌&&◌, not, Bool, true, false, if◌then◌else◌, List, [], ◌∷◌, ◌++◌, take, drop, get_or, Option, Some, None, refl, sym, ◌∙◌, ap, ap₂, subst, length, append-nil, arith, add-one, drop-cons, length-drop}
use Rattle.std.proofs.lemmas.Bool.{eq-eqb, eqb-true, cases_Bool}
use Rattle.rr_lex.specs.Tokens.{Lexeme, words_of}
use Rattle.rr_lex.specs.Patch.{New, token_text, run_end}
use Rattle.rr_respell.specs.Pieces.{Piece, Kept, Replaced, Put, source_words, run_of, edits}
use Rattle.std.proofs.lemmas.List.Elements.{All-rest, All-tail}
use Rattle.std.proofs.lemmas.List.{append_assoc, map-append, take_all}
use Rattle.rr_patch.specs.declared.change.Change.{Change as Made}
use Rattle.rr_patch.specs.Changes.{plain_added, plain_change, plain_changes, IsFitAdded, AreFit, Change, changes, is_over_at, is_before_at, over_at, after_over, run_at, after_run, made_edits}
use Rattle.rr_edit.specs.declared.edit.Edit.{Edit as MadeEdit}
use Rattle.rr_edit.specs.Edits.{Edit}
use Rattle.rr_edit.specs.View.{plain_edit, plain_edits}
use Rattle.rr_patch.specs.Edits.{byte_edits, replaced_edit, run_edit}
use Rattle.rr_respell.proofs.PrintedTree.{no_words, same_rest}

same_place : (k : ℕ) → (k == k) ≡ true
same_place k = eq-eqb k k refl

other_place : (j k : ℕ) → k < j → (j == k) ≡ false
other_place j k l = by_test (cases_Bool (j == k))
  where
    by_test : ((j == k) ≡ true) ⊎ ((j == k) ≡ false) → (j == k) ≡ false
    by_test (inr e) = e
    by_test (inl e) = let q = eqb-true j k e in absurd (omega (arith, q, l))

-- changes that are all behind a token
abbrev Behind : ℕ → List Change → Type 0
Behind k [] = Unit {0}
Behind k (c ∷ cs) = k < c.place

behind : (k j : ℕ) (xs : List Piece) → k < j → Behind k (changes j xs)
unfolding changes
behind k j [] l = tt
behind k j (Kept w ∷ xs) l = behind k (j + 1) xs (omega (arith, l))
behind k j (Replaced w n ∷ xs) l = l
behind k j (Put n ∷ xs) l = l

and_false : (b c : Bool) → c ≡ false → (b && c) ≡ false
and_false true c e = e
and_false false c e = refl

over_behind : (k : ℕ) (cs : List Change) → Behind k cs → over_at k cs ≡ None
unfolding over_at
over_behind k [] b = refl
over_behind k (c ∷ cs) b = ap (λ t. if t then Some c.new else None) (and_false c.over (c.place == k) (other_place c.place k b))

after_over_behind : (k : ℕ) (cs : List Change) → Behind k cs → after_over k cs ≡ cs
unfolding after_over
after_over_behind k [] b = refl
after_over_behind k (c ∷ cs) b = ap (λ t. if t then cs else c ∷ cs) (and_false c.over (c.place == k) (other_place c.place k b))

run_behind : (k : ℕ) (cs : List Change) → Behind k cs → run_at k cs ≡ []
unfolding run_at
run_behind k [] b = refl
run_behind k (c ∷ cs) b = ap (λ t. if t then c.new ∷ run_at k cs else []) (and_false (not c.over) (c.place == k) (other_place c.place k b))

after_run_behind : (k : ℕ) (cs : List Change) → Behind k cs → after_run k cs ≡ cs
unfolding after_run
after_run_behind k [] b = refl
after_run_behind k (c ∷ cs) b = ap (λ t. if t then after_run k cs else c ∷ cs) (and_false (not c.over) (c.place == k) (other_place c.place k b))

-- the pieces from the next token of the source on
past : List Piece → List Piece
past [] = []
past (Kept w ∷ xs) = Kept w ∷ xs
past (Replaced w n ∷ xs) = Replaced w n ∷ xs
past (Put n ∷ xs) = past xs

past_edits : (xs : List Piece) → edits (past xs) ≡ edits xs
unfolding past edits
past_edits [] = refl
past_edits (Kept w ∷ xs) = refl
past_edits (Replaced w n ∷ xs) = refl
past_edits (Put n ∷ xs) = past_edits xs

past_words : (xs : List Piece) → source_words (past xs) ≡ source_words xs
unfolding past source_words
past_words [] = refl
past_words (Kept w ∷ xs) = refl
past_words (Replaced w n ∷ xs) = refl
past_words (Put n ∷ xs) = past_words xs

past_run : (xs : List Piece) → run_of (past xs) ≡ []
unfolding past run_of
past_run [] = refl
past_run (Kept w ∷ xs) = refl
past_run (Replaced w n ∷ xs) = refl
past_run (Put n ∷ xs) = past_run xs

run_is : (k : ℕ) (xs : List Piece) → run_at k (changes k xs) ≡ run_of xs
unfolding changes run_at run_of
run_is k [] = refl
run_is k (Kept w ∷ xs) = run_behind k (changes (k + 1) xs) (behind k (k + 1) xs (omega arith))
run_is k (Replaced w n ∷ xs) = refl
run_is k (Put n ∷ xs) = ap (λ t. if t then n ∷ run_at k (changes k xs) else []) (same_place k) ∙ ap (λ (l : List New). n ∷ l) (run_is k xs)

rest_is : (k : ℕ) (xs : List Piece) → after_run k (changes k xs) ≡ changes k (past xs)
unfolding changes after_run past
rest_is k [] = refl
rest_is k (Kept w ∷ xs) = after_run_behind k (changes (k + 1) xs) (behind k (k + 1) xs (omega arith))
rest_is k (Replaced w n ∷ xs) = refl
rest_is k (Put n ∷ xs) =
    ap (λ t. if t then after_run k (changes k xs) else record { place = k; over = false; new = n } ∷ changes k xs) (same_place k) ∙ rest_is k xs

-- a token with what follows it
one_more : (k : ℕ) (t : Lexeme) (ts : List Lexeme) (o : Option New) (cs ds : List Change) (xs : List Piece) →
    over_at k cs ≡ o → after_over k cs ≡ ds → ds ≡ changes (k + 1) xs →
    made_edits (k + 1) ts (changes (k + 1) (past xs)) ≡ byte_edits ts (edits xs) →
    made_edits k (t ∷ ts) cs ≡ byte_edits (t ∷ ts) (record { text = o; run = run_of xs } ∷ edits xs)
unfolding made_edits byte_edits
one_more k t ts o cs ds xs e f g h =
    let r : run_at (k + 1) (after_over k cs) ≡ run_of xs = ap (run_at (k + 1)) (f ∙ g) ∙ run_is (k + 1) xs in
    let a : after_run (k + 1) (after_over k cs) ≡ changes (k + 1) (past xs) = ap (after_run (k + 1)) (f ∙ g) ∙ rest_is (k + 1) xs in
    append_assoc (replaced_edit (over_at k cs) t) (run_edit (run_at (k + 1) (after_over k cs)) t) _
    ∙ ap₂ (λ (x y : List Edit). x ++ y) (ap (λ (x : Option New). replaced_edit x t) e)
    (ap₂ (λ (x y : List Edit). x ++ y) (ap (λ (x : List New). run_edit x t) r) (ap (made_edits (k + 1) ts) a ∙ h))

put_run : {A : Type 0} (n : New) (ns : List New) → n ∷ ns ≡ [] → A
put_run n ns e = absurd (cc e)

pub made_is : (k : ℕ) (ts : List Lexeme) (xs : List Piece) → run_of xs ≡ [] → words_of ts ≡ source_words xs → made_edits k ts (changes k xs) ≡ byte_edits ts (edits xs)
unfolding made_edits changes source_words edits run_of over_at after_over byte_edits
made_is k [] xs r e = refl
made_is k (t ∷ ts) [] r e = no_words t.word (words_of ts) (sym e)
made_is k (t ∷ ts) (Kept w ∷ xs) r e =
    let b : Behind k (changes (k + 1) xs) = behind k (k + 1) xs (omega arith) in
    let next = made_is (k + 1) ts (past xs) (past_run xs) (same_rest t.word w (words_of ts) (source_words xs) e ∙ sym (past_words xs)) in
    one_more k t ts None (changes (k + 1) xs) (changes (k + 1) xs) xs (over_behind k (changes (k + 1) xs) b) (after_over_behind k (changes (k + 1) xs) b) refl
    (next ∙ ap (byte_edits ts) (past_edits xs))
made_is k (t ∷ ts) (Replaced w n ∷ xs) r e =
    let next = made_is (k + 1) ts (past xs) (past_run xs) (same_rest t.word w (words_of ts) (source_words xs) e ∙ sym (past_words xs)) in
    one_more k t ts (Some n) (record { place = k; over = true; new = n } ∷ changes (k + 1) xs) (changes (k + 1) xs) xs
    (ap (λ b. if b then Some n else None) (same_place k)) (ap (λ b. if b then changes (k + 1) xs else record { place = k; over = true; new = n } ∷ changes (k + 1) xs) (same_place k)) refl
    (next ∙ ap (byte_edits ts) (past_edits xs))
made_is k (t ∷ ts) (Put n ∷ xs) r e = put_run n (run_of xs) r

-- a slice to the end
pub whole_rest : (cs : List Made) (i : ℕ) → take (length cs - i) (drop i cs) ≡ drop i cs
whole_rest cs i = take_all (length cs - i) (drop i cs) (let n = length-drop i cs in omega (arith, n))

fit_drop : (i : ℕ) (cs : List Made) → AreFit cs → AreFit (drop i cs)
fit_drop zero cs h = h
fit_drop (suc i) [] h = h
fit_drop (suc i) (c ∷ cs) h = fit_drop i cs (All-tail (λ (c : Made). IsFitAdded c.new) c cs h)

pub fit_from : (i : ℕ) (cs : List Made) → AreFit cs → AreFit (take (length cs - i) (drop i cs))
fit_from i cs h = subst AreFit (sym (whole_rest cs i)) (fit_drop i cs h)

-- one edit more
pub pushed : (o o1 : List MadeEdit) (e : MadeEdit) → o1 ≡ o ++ (e ∷ []) → plain_edits o1 ≡ plain_edits o ++ (plain_edit e ∷ [])
pushed o o1 e h = ap plain_edits h ∙ map-append plain_edit o (e ∷ [])

-- a step of the code, at the first of some changes
module _ (k : ℕ) (x : Made) (xs ys : List Made) (here : ys ≡ x ∷ xs) where
  over_is : (b : Bool) → is_over_at k (plain_change x) ≡ b → over_at k (plain_changes ys) ≡ (if b then Some (plain_added x.new) else None)
  unfolding over_at
  over_is b e = ap (λ l. over_at k (plain_changes l)) here ∙ ap (λ c. if c then Some (plain_added x.new) else None) e

  pub over_first : (o : List Edit) (t : Lexeme) (text : List ℕ) → is_over_at k (plain_change x) ≡ true → text ≡ token_text (Some (plain_added x.new)) [] →
      o ++ (record { from = t.start; to = t.end; text = text } ∷ []) ≡ o ++ replaced_edit (over_at k (plain_changes ys)) t
  over_first o t text e h =
      ap (λ (l : List ℕ). o ++ (record { from = t.start; to = t.end; text = l } ∷ [])) h ∙ ap (λ (n : Option New). o ++ replaced_edit n t) (sym (over_is true e))

  pub over_other : (o : List Edit) (t : Lexeme) → is_over_at k (plain_change x) ≡ false → o ≡ o ++ replaced_edit (over_at k (plain_changes ys)) t
  over_other o t e = sym (append-nil o) ∙ ap (λ (n : Option New). o ++ replaced_edit n t) (sym (over_is false e))

  pub after_first : is_over_at k (plain_change x) ≡ true → plain_changes xs ≡ after_over k (plain_changes ys)
  unfolding after_over
  after_first e = sym (ap (λ b. if b then plain_changes xs else plain_changes (x ∷ xs)) e) ∙ ap (λ l. after_over k (plain_changes l)) (sym here)

  pub after_other : is_over_at k (plain_change x) ≡ false → plain_changes ys ≡ after_over k (plain_changes ys)
  unfolding after_over
  after_other e = ap plain_changes here ∙ sym (ap (λ b. if b then plain_changes xs else plain_changes (x ∷ xs)) e) ∙ ap (λ l. after_over k (plain_changes l)) (sym here)

  run_is_first : is_before_at k (plain_change x) ≡ true → run_at k (plain_changes ys) ≡ plain_added x.new ∷ run_at k (plain_changes xs)
  unfolding run_at
  run_is_first e = ap (λ l. run_at k (plain_changes l)) here ∙ ap (λ b. if b then plain_added x.new ∷ run_at k (plain_changes xs) else []) e

  run_is_none : is_before_at k (plain_change x) ≡ false → run_at k (plain_changes ys) ≡ []
  unfolding run_at
  run_is_none e = ap (λ l. run_at k (plain_changes l)) here ∙ ap (λ b. if b then plain_added x.new ∷ run_at k (plain_changes xs) else []) e

  pub end_first : (o0 o1 o2 : List ℕ) → is_before_at k (plain_change x) ≡ true → o1 ≡ o0 ++ (32 ∷ (plain_added x.new).text) → o2 ≡ o1 ++ run_end (run_at k (plain_changes xs)) →
      o2 ≡ o0 ++ run_end (run_at k (plain_changes ys))
  end_first o0 o1 o2 e a b =
      b ∙ ap (λ (l : List ℕ). l ++ run_end (run_at k (plain_changes xs))) a ∙ append_assoc o0 (32 ∷ (plain_added x.new).text) (run_end (run_at k (plain_changes xs)))
      ∙ ap (λ (l : List New). o0 ++ run_end l) (sym (run_is_first e))

  pub end_other : (o0 o1 : List ℕ) → is_before_at k (plain_change x) ≡ false → o1 ≡ o0 ++ (32 ∷ []) → o1 ≡ o0 ++ run_end (run_at k (plain_changes ys))
  end_other o0 o1 e a = a ∙ ap (λ (l : List New). o0 ++ run_end l) (sym (run_is_none e))

  pub left_first : (ws : List Change) → is_before_at k (plain_change x) ≡ true → ws ≡ after_run k (plain_changes xs) → ws ≡ after_run k (plain_changes ys)
  unfolding after_run
  left_first ws e h = h ∙ sym (ap (λ b. if b then after_run k (plain_changes xs) else plain_changes (x ∷ xs)) e) ∙ ap (λ l. after_run k (plain_changes l)) (sym here)

  pub left_other : is_before_at k (plain_change x) ≡ false → plain_changes ys ≡ after_run k (plain_changes ys)
  unfolding after_run
  left_other e = ap plain_changes here ∙ sym (ap (λ b. if b then after_run k (plain_changes xs) else plain_changes (x ∷ xs)) e) ∙ ap (λ l. after_run k (plain_changes l)) (sym here)

  pub run_first : (o : List Edit) (t : Lexeme) (empty text : List ℕ) → is_before_at k (plain_change x) ≡ true → empty ≡ [] → text ≡ empty ++ run_end (run_at k (plain_changes ys)) →
      o ++ (record { from = t.end; to = t.end; text = text } ∷ []) ≡ o ++ run_edit (run_at k (plain_changes ys)) t
  run_first o t empty text e n h =
      ap (λ (l : List ℕ). o ++ (record { from = t.end; to = t.end; text = l } ∷ [])) (h ∙ ap₂ (λ (x : List ℕ) (y : List New). x ++ run_end y) n (run_is_first e))
      ∙ ap (λ (l : List New). o ++ run_edit l t) (sym (run_is_first e))

  pub run_other : (o : List Edit) (t : Lexeme) → is_before_at k (plain_change x) ≡ false → o ≡ o ++ run_edit (run_at k (plain_changes ys)) t
  run_other o t e = sym (append-nil o) ∙ ap (λ (l : List New). o ++ run_edit l t) (sym (run_is_none e))

  pub fit_rest : AreFit ys → AreFit xs
  fit_rest h = All-rest (λ (c : Made). IsFitAdded c.new) x xs ys here h

-- and where there is none
module _ (k : ℕ) (ys : List Made) (none : length ys ≡ 0) where
  no_changes : ys ≡ []
  no_changes = by_length ys none
    where
      by_length : (l : List Made) → length l ≡ 0 → l ≡ []
      by_length [] e = refl
      by_length (x ∷ l) e = absurd (omega (arith, e))

  pub over_none : (o : List Edit) (t : Lexeme) → o ≡ o ++ replaced_edit (over_at k (plain_changes ys)) t
  unfolding over_at
  over_none o t = sym (append-nil o) ∙ ap (λ l. o ++ replaced_edit (over_at k (plain_changes l)) t) (sym no_changes)

  pub after_none : plain_changes ys ≡ after_over k (plain_changes ys)
  unfolding after_over
  after_none = ap plain_changes no_changes ∙ ap (λ l. after_over k (plain_changes l)) (sym no_changes)

  pub end_none : (o0 o1 : List ℕ) → o1 ≡ o0 ++ (32 ∷ []) → o1 ≡ o0 ++ run_end (run_at k (plain_changes ys))
  unfolding run_at
  end_none o0 o1 a = a ∙ ap (λ l. o0 ++ run_end (run_at k (plain_changes l))) (sym no_changes)

  pub left_none : plain_changes ys ≡ after_run k (plain_changes ys)
  unfolding after_run
  left_none = ap plain_changes no_changes ∙ ap (λ l. after_run k (plain_changes l)) (sym no_changes)

  pub run_none : (o : List Edit) (t : Lexeme) → o ≡ o ++ run_edit (run_at k (plain_changes ys)) t
  unfolding run_at
  run_none o t = sym (append-nil o) ∙ ap (λ l. o ++ run_edit (run_at k (plain_changes l)) t) (sym no_changes)

-- the changes from one on, as the run goes through them
module _ (k : ℕ) (cs : List Made) (i : ℕ) (d : Made) (l : i < length cs) where
  abbrev X : Made
  X = get_or cs i d

  from_here : drop i cs ≡ X ∷ drop (i + 1) cs
  from_here = drop-cons cs i d l ∙ ap (λ j. X ∷ drop j cs) (sym (add-one i))

  pub run_goes : (start o o1 : List ℕ) → is_before_at k (plain_change X) ≡ true → o1 ≡ o ++ (32 ∷ (plain_added X.new).text) →
      o ++ run_end (run_at k (plain_changes (drop i cs))) ≡ start → o1 ++ run_end (run_at k (plain_changes (drop (i + 1) cs))) ≡ start
  run_goes start o o1 e a h = end_first k X (drop (i + 1) cs) (drop i cs) from_here o o1 (o1 ++ run_end (run_at k (plain_changes (drop (i + 1) cs)))) e a refl ∙ h

  pub rest_goes : (start : List Change) → is_before_at k (plain_change X) ≡ true → after_run k (plain_changes (drop i cs)) ≡ start → after_run k (plain_changes (drop (i + 1) cs)) ≡ start
  rest_goes start e h = left_first k X (drop (i + 1) cs) (drop i cs) from_here (after_run k (plain_changes (drop (i + 1) cs))) e refl ∙ h

  pub run_stops : (start o o1 : List ℕ) → is_before_at k (plain_change X) ≡ false → o1 ≡ o ++ (32 ∷ []) → o ++ run_end (run_at k (plain_changes (drop i cs))) ≡ start → o1 ≡ start
  run_stops start o o1 e a h = end_other k X (drop (i + 1) cs) (drop i cs) from_here o o1 e a ∙ h

  pub rest_stops : (start : List Change) → is_before_at k (plain_change X) ≡ false → after_run k (plain_changes (drop i cs)) ≡ start → plain_changes (take (length cs - i) (drop i cs)) ≡ start
  rest_stops start e h = ap plain_changes (whole_rest cs i) ∙ left_other k X (drop (i + 1) cs) (drop i cs) from_here e ∙ h

  pub item_fit : AreFit cs → IsFitAdded X.new
  item_fit h = h i d l

module _ (k : ℕ) (cs : List Made) (i : ℕ) (l : length cs ≤ i) where
  none_left : length (drop i cs) ≡ 0
  none_left = let n = length-drop i cs in omega (arith, n, l)

  pub run_ends : (start o o1 : List ℕ) → o1 ≡ o ++ (32 ∷ []) → o ++ run_end (run_at k (plain_changes (drop i cs))) ≡ start → o1 ≡ start
  run_ends start o o1 a h = end_none k (drop i cs) none_left o o1 a ∙ h

  pub rest_ends : (start : List Change) → after_run k (plain_changes (drop i cs)) ≡ start → plain_changes (take (length cs - i) (drop i cs)) ≡ start
  rest_ends start h = ap plain_changes (whole_rest cs i) ∙ left_none k (drop i cs) none_left ∙ h

pub ruleset over_steps = (over_first, over_other, after_first, after_other, over_none, after_none)

pub ruleset token_steps = (append_assoc)

pub ruleset run_steps = (run_first, run_other, left_first, left_other, run_none, left_none)
