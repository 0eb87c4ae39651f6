-- Lists that were read part by part are those of the grammar.
use Rattle.std.proofs.Common.{◌≡◌, ℕ, zero, suc, ◌+◌, ◌≤◌, ◌<◌, List, [], ◌∷◌, ◌++◌, length, drop, map, Bool, true, false, nat_eq, refl, ap, ◌∙◌, sym, arith, Some, None, Result, Ok, Err, ◌⊎◌, inl, inr, length-append, length-drop, append_assoc, append-nil, subst}
use Rattle.std.proofs.lemmas.Bool.Decides.{Decides-eqb}
use Rattle.rr_syntax.specs.declared.token.Token.{Token}
use Rattle.rr_syntax.specs.Words.{Word, words, keyword_or, mark_comma}
use Rattle.rr_syntax.specs.Items.{spell_all, spell_each, spell_separated, NumberedAll, NumberedEach, NumberedSeparated}
use Rattle.rr_parse_expr.specs.Reading.{Found, mark, rest, expect}
use Rattle.rr_parse_expr.specs.declared.expression.ParseFault.{ParseFault}
use Rattle.rr_parse_expr.specs.declared.expression.ParseFault.TheVariants.{Unsupported, Syntax, Memory}
use Rattle.rr_parse_expr.proofs.Answered.{not_equal, rest_drop}
use Rattle.rr_parse_expr.proofs.FrontMarks.{mark_found, mark_is}
use Rattle.rr_parse_expr.proofs.TokenWords.{length_words}
use Rattle.rr_parse_stmt.specs.Reading.{keyword}
use Rattle.rr_grammar.specs.Formats.{Format, both, or_else, more, some_of, list, again, any_of, repeated, Finds, FindsNone}
use Rattle.rr_grammar.specs.Parts.{separator_of, separated, firsts, seconds}
use Rattle.rr_parse_expr.specs.declared.lists.Piece.{Piece}
use Rattle.rr_parse.specs.declared.lists.Separated.{Separated}
use Rattle.rr_parse.specs.Answer.{Misses, Answers}
use Rattle.rr_parse_expr.specs.Lists.{Reads, found, Refuses, comma_at, Behind, Row, IsList, AnswersList}
use Rattle.rr_parse.specs.Chains.{Run, IsRun, AnswersAll, Between, Alternate, Closes, IsSeparated, AnswersSeparated}
use Rattle.rr_parse.specs.Trees.{plain_list_by, FindsSeparated, AnswersParts}
use Rattle.rr_parse.proofs.Founds.{same, if_true, if_false, expect_here, other_mark, chain_here, chain_none, chain_then, mapped_none, finds_both, mark_here, word_here}
use denote.Ref.{Bor}

or_else_here : {A B : Type 0} (x : Found A) (old : Found B) (k : A → List Word → Found B) (p : A × List Word) → x ≡ Some p → or_else x old k ≡ k p.0 p.1
unfolding or_else
or_else_here x old k p e = rw e refl

or_else_not : {A B : Type 0} (x : Found A) (old : Found B) (k : A → List Word → Found B) → x ≡ None → or_else x old k ≡ old
unfolding or_else
or_else_not x old k e = rw e refl

misses_none : {A : Type 0} (F : Format A) (T : List Token) (at : ℕ) (e : ParseFault) → (e ≡ Memory → ⊥) → Misses F T at e → FindsNone F T at
misses_none F T at (Syntax place) h m = m
misses_none F T at (Unsupported place) h m = absurd m
misses_none F T at Memory h m = absurd (h refl)

by_test : (b : Bool) {P : Type 0} → (b ≡ true → P) → (b ≡ false → P) → P
by_test true f g = f refl
by_test false f g = g refl

equal_of : (a b : ℕ) → nat_eq a b ≡ true → a ≡ b
equal_of a b e = (Decides-eqb a b).0 e

-- ---- separators

pub comma_there : (T : List Token) (at : ℕ) → mark (drop at (words T)) ≡ mark_comma → Finds separator_of T at true (at + 1)
comma_there T at e = record {
  found_is = if_true (nat_eq (mark (drop at (words T))) mark_comma) (Some (true, rest (drop at (words T)))) _ (Some (true, drop (at + 1) (words T))) (same (mark (drop at (words T))) mark_comma e) (ap (λ (us : List Word). Some (true, us)) (rest_drop (words T) at));
  within = omega (arith, (mark_here T at mark_comma e (omega arith)).2);
  taken = omega arith;
  numbered = tt;
}

pub or_there : (T : List Token) (at : ℕ) → (mark (drop at (words T)) ≡ mark_comma → ⊥) → keyword (drop at (words T)) ≡ keyword_or → Finds separator_of T at false (at + 1)
or_there T at h e =
    let ws : List Word = drop at (words T) in
    let p = Some (false, drop (at + 1) (words T)) in
    record {
      found_is = if_false (nat_eq (mark ws) mark_comma) (Some (true, rest ws)) _ p (not_equal (mark ws) mark_comma h)
          (if_true (nat_eq (keyword ws) keyword_or) (Some (false, rest ws)) None p (same (keyword ws) keyword_or e) (ap (λ (us : List Word). Some (false, us)) (rest_drop (words T) at)));
      within = omega (arith, (word_here T at keyword_or e (omega arith)).2);
      taken = omega arith;
      numbered = tt;
    }

pub no_separator : (T : List Token) (at : ℕ) → (mark (drop at (words T)) ≡ mark_comma → ⊥) → (keyword (drop at (words T)) ≡ keyword_or → ⊥) → FindsNone separator_of T at
no_separator T at h i =
    let ws : List Word = drop at (words T) in
    record {
      none_is = if_false (nat_eq (mark ws) mark_comma) (Some (true, rest ws)) _ None (not_equal (mark ws) mark_comma h)
          (if_false (nat_eq (keyword ws) keyword_or) (Some (false, rest ws)) None None (not_equal (keyword ws) keyword_or i) refl);
    }

-- no part stands behind the separator that is there
pub closes_behind : {A : Type 0} (R : Reads A) (T : List Token) (at : ℕ) (c : Bool) (s : ℕ) → Finds separator_of T at c s → Refuses R s → Closes R T at
closes_behind R T at c s f r = record { none = λ d n g. subst (λ (i : ℕ). Refuses R i) (omega (arith, f.taken, g.taken)) r }

pub closes_alone : {A : Type 0} (R : Reads A) (T : List Token) (at : ℕ) → FindsNone separator_of T at → Closes R T at
closes_alone R T at n = record { none = λ c s f. (let e : Some (c, drop s (words T)) ≡ None = sym f.found_is ∙ n.none_is in absurd (cc e)) }

pub separated_made : {A : Type 0} (R : Reads A) (T : List Token) (from : ℕ) (cs commas : List Bool) (xs items : List A) (next : ℕ) → commas ≡ cs → items ≡ xs → Alternate R T from cs xs next → Closes R T next → next ≤ length T → IsSeparated R T from commas items next
separated_made R T from cs commas xs items next d e a k w = rw (d, e) (record { parts = a; ends = k; within = w })

-- parts with the separators before them
pairs : {B : Type 0} → List Bool → List B → List (Bool × B)
pairs [] bs = []
pairs (c ∷ cs) [] = []
pairs (c ∷ cs) (b ∷ bs) = (c, b) ∷ pairs cs bs

module _ {A B : Type 0} (F : Format B) (plain : A → B) (T : List Token) (R : Reads A) (reads : (at : ℕ) (r : Result (Piece A) ParseFault) → R at r → Answers F plain T at r) where
  refused : (at : ℕ) → Refuses R at → FindsNone F T at
  refused at r = misses_none F T at r.fault r.cause (reads at (Err r.fault) r.answered)

  -- ---- behind commas

  record WentOn (at : ℕ) (xs : List A) (next : ℕ) : Type 0 where
    reading : (fuel : ℕ) (have : List B) → length T < fuel + at → more F.read fuel have (drop at (words T)) ≡ Some (have ++ map F.bare (map plain xs), drop next (words T))
    taken : next ≡ at + length (spell_each F.spell (map plain xs))
    numbered : NumberedEach F.spell F.Numbered (map plain xs) at

  no_more : (next : ℕ) → (comma_at T next → Refuses R (next + 1)) → expect mark_comma F.read (drop next (words T)) ≡ None
  no_more next ends = by_test (nat_eq (mark (drop next (words T))) mark_comma)
      (λ e. let c = equal_of (mark (drop next (words T))) mark_comma e in expect_here mark_comma F.read (drop next (words T)) None c (ap F.read (rest_drop (words T) next) ∙ (refused (next + 1) (ends (mark_is _ _ c (omega arith)))).none_is))
      (λ e. other_mark mark_comma F.read (drop next (words T)) (λ c. absurd (cc (e, same (mark (drop next (words T))) mark_comma c))))

  stops : (next fuel : ℕ) (have : List B) → next ≤ length T → length T < fuel + next → (comma_at T next → Refuses R (next + 1)) → more F.read fuel have (drop next (words T)) ≡ Some (have, drop next (words T))
  unfolding more
  stops next zero have w h ends = absurd (omega arith)
  stops next (suc n) have w h ends = or_else_not (expect mark_comma F.read (drop next (words T))) (Some (have, drop next (words T))) (λ a left. more F.read n (have ++ (a ∷ [])) left) (no_more next ends)

  goes : (at : ℕ) (x : A) (m fuel : ℕ) (have : List B) (o : Found (List B)) → comma_at T at → Finds F T (at + 1) (plain x) m → at ≤ length T → length T < fuel + at →
      ((n : ℕ) → length T < n + m → more F.read n (have ++ (F.bare (plain x) ∷ [])) (drop m (words T)) ≡ o) → more F.read fuel have (drop at (words T)) ≡ o
  unfolding more
  goes at x m zero have o c f w h go = absurd (omega arith)
  goes at x m (suc n) have o c f w h go =
      or_else_here (expect mark_comma F.read (drop at (words T))) (Some (have, drop at (words T))) (λ a left. more F.read n (have ++ (a ∷ [])) left) (F.bare (plain x), drop m (words T))
      (expect_here mark_comma F.read (drop at (words T)) (Some (F.bare (plain x), drop m (words T))) (mark_found _ (sym c)) (ap F.read (rest_drop (words T) at) ∙ f.found_is))
      ∙ go n (omega (arith, f.taken))

  went_on : (at : ℕ) (xs : List A) (next : ℕ) → at ≤ length T → (comma_at T next → Refuses R (next + 1)) → Behind R T at xs next → WentOn at xs next
  unfolding Behind spell_each NumberedEach
  went_on at [] next w ends b =
      let e : next ≡ at = sym b in
      let k : comma_at T at → Refuses R (at + 1) = subst (λ (i : ℕ). comma_at T i → Refuses R (i + 1)) e ends in
      rw e (record {
        reading = λ fuel have h. stops at fuel have w h k ∙ ap (λ (ys : List B). Some (ys, drop at (words T))) (sym (append-nil have));
        taken = omega arith;
        numbered = tt;
      })
  went_on at (x ∷ xs) next w ends (m, c, r, b) =
      let f : Finds F T (at + 1) (plain x) m = reads (at + 1) (found x m) r in
      let t : WentOn m xs next = went_on m xs next f.within ends b in
      record {
        reading = λ fuel have h. goes at x m fuel have (Some (have ++ (F.bare (plain x) ∷ map F.bare (map plain xs)), drop next (words T))) c f w h
            (λ n k. t.reading n (have ++ (F.bare (plain x) ∷ [])) k ∙ ap (λ (ys : List B). Some (ys, drop next (words T))) (append_assoc have (F.bare (plain x) ∷ []) (map F.bare (map plain xs))));
        taken = omega (arith, f.taken, t.taken, length-append (F.spell (plain x)) (spell_each F.spell (map plain xs)));
        numbered = (f.numbered, subst (NumberedEach F.spell F.Numbered (map plain xs)) (omega (arith, f.taken)) t.numbered);
      }

  listed : (from : ℕ) (xs : List A) (next : ℕ) → IsList R T from xs next → Finds (list F) T from (map plain xs) next
  unfolding Row some_of spell_separated NumberedSeparated
  listed from [] next l = absurd l.row
  listed from (x ∷ xs) next l =
      let m = l.row.0 in
      let f : Finds F T from (plain x) m = reads from (found x m) l.row.1 in
      let t : WentOn m xs next = went_on m xs next f.within l.ends l.row.2 in
      record {
        found_is = chain_here (F.read (drop from (words T))) (λ a left. more F.read (suc (length left)) (a ∷ []) left) (F.bare (plain x), drop m (words T)) f.found_is ∙
            t.reading (suc (length (drop m (words T)))) (F.bare (plain x) ∷ []) (omega (arith, length-drop m (words T), length_words T, f.within));
        within = l.within;
        taken = omega (arith, f.taken, t.taken, length-append (F.spell (plain x)) (spell_each F.spell (map plain xs)));
        numbered = (f.numbered, subst (NumberedEach F.spell F.Numbered (map plain xs)) f.taken t.numbered);
      }

  none_listed : (from : ℕ) → FindsNone F T from → FindsNone (list F) T from
  unfolding some_of
  none_listed from n = record { none_is = chain_none _ n.none_is }

  list_missed : (from : ℕ) (e : ParseFault) → (e ≡ Memory) ⊎ R from (Err e) → Misses (list F) T from e
  list_missed from (Syntax place) (inl h) = absurd (cc h)
  list_missed from (Syntax place) (inr h) = none_listed from (reads from (Err (Syntax place)) h)
  list_missed from (Unsupported place) (inl h) = absurd (cc h)
  list_missed from (Unsupported place) (inr h) = reads from (Err (Unsupported place)) h
  list_missed from Memory h = tt

  pub list_read : (from : ℕ) (r : Result (Piece (Bor (List A))) ParseFault) → AnswersList R T from r → Answers (list F) (plain_list_by plain) T from r
  list_read from (Ok p) l = listed from p.value.now p.next l
  list_read from (Err e) l = list_missed from e l

  -- ---- with nothing between

  record Ran (at : ℕ) (xs : List A) (next : ℕ) : Type 0 where
    reading : (fuel : ℕ) (have : List B) → length T < fuel + at → again F.read fuel have (drop at (words T)) ≡ Some (have ++ map F.bare (map plain xs), drop next (words T))
    taken : next ≡ at + length (spell_all F.spell (map plain xs))
    numbered : NumberedAll F.spell F.Numbered (map plain xs) at

  rests : (next fuel : ℕ) (have : List B) → next ≤ length T → length T < fuel + next → Refuses R next → again F.read fuel have (drop next (words T)) ≡ Some (have, drop next (words T))
  unfolding again
  rests next zero have w h ends = absurd (omega arith)
  rests next (suc n) have w h ends = or_else_not (F.read (drop next (words T))) (Some (have, drop next (words T))) (λ a left. again F.read n (have ++ (a ∷ [])) left) (refused next ends).none_is

  runs : (at : ℕ) (x : A) (m fuel : ℕ) (have : List B) (o : Found (List B)) → at < m → Finds F T at (plain x) m → at ≤ length T → length T < fuel + at →
      ((n : ℕ) → length T < n + m → again F.read n (have ++ (F.bare (plain x) ∷ [])) (drop m (words T)) ≡ o) → again F.read fuel have (drop at (words T)) ≡ o
  unfolding again
  runs at x m zero have o g f w h go = absurd (omega arith)
  runs at x m (suc n) have o g f w h go =
      or_else_here (F.read (drop at (words T))) (Some (have, drop at (words T))) (λ a left. again F.read n (have ++ (a ∷ [])) left) (F.bare (plain x), drop m (words T)) f.found_is ∙ go n (omega arith)

  ran : (at : ℕ) (xs : List A) (next : ℕ) → at ≤ length T → Refuses R next → Run R at xs next → Ran at xs next
  unfolding Run spell_all NumberedAll
  ran at [] next w ends b =
      let e : next ≡ at = sym b in
      let k : Refuses R at = subst (λ (i : ℕ). Refuses R i) e ends in
      rw e (record {
        reading = λ fuel have h. rests at fuel have w h k ∙ ap (λ (ys : List B). Some (ys, drop at (words T))) (sym (append-nil have));
        taken = omega arith;
        numbered = tt;
      })
  ran at (x ∷ xs) next w ends (m, g, r, b) =
      let f : Finds F T at (plain x) m = reads at (found x m) r in
      let t : Ran m xs next = ran m xs next f.within ends b in
      record {
        reading = λ fuel have h. runs at x m fuel have (Some (have ++ (F.bare (plain x) ∷ map F.bare (map plain xs)), drop next (words T))) g f w h
            (λ n k. t.reading n (have ++ (F.bare (plain x) ∷ [])) k ∙ ap (λ (ys : List B). Some (ys, drop next (words T))) (append_assoc have (F.bare (plain x) ∷ []) (map F.bare (map plain xs))));
        taken = omega (arith, f.taken, t.taken, length-append (F.spell (plain x)) (spell_all F.spell (map plain xs)));
        numbered = (f.numbered, subst (NumberedAll F.spell F.Numbered (map plain xs)) f.taken t.numbered);
      }

  all_listed : (from : ℕ) (xs : List A) (next : ℕ) → from ≤ length T → IsRun R T from xs next → Finds (repeated F) T from (map plain xs) next
  unfolding any_of
  all_listed from xs next w l =
      let t : Ran from xs next = ran from xs next w l.ends l.run in
      record {
        found_is = t.reading (suc (length (drop from (words T)))) [] (omega (arith, length-drop from (words T), length_words T, w));
        within = l.within;
        taken = t.taken;
        numbered = t.numbered;
      }

  all_missed : (from : ℕ) (e : ParseFault) → e ≡ Memory → Misses (repeated F) T from e
  all_missed from (Syntax place) h = absurd (cc h)
  all_missed from (Unsupported place) h = absurd (cc h)
  all_missed from Memory h = tt

  pub all_read : (from : ℕ) → from ≤ length T → (r : Result (Piece (Bor (List A))) ParseFault) → AnswersAll R T from r → Answers (repeated F) (plain_list_by plain) T from r
  all_read from w (Ok p) l = all_listed from p.value.now p.next w l
  all_read from w (Err e) l = all_missed from e l

  -- ---- behind separators

  record Alternates (at : ℕ) (cs : List Bool) (xs : List A) (next : ℕ) : Type 0 where
    reading : (fuel : ℕ) (have : List (Bool × B)) → length T < fuel + at →
        again (both separator_of F).read fuel have (drop at (words T)) ≡ Some (have ++ map (both separator_of F).bare (pairs cs (map plain xs)), drop next (words T))
    taken : next ≡ at + length (spell_all (both separator_of F).spell (pairs cs (map plain xs)))
    numbered : NumberedAll (both separator_of F).spell (both separator_of F).Numbered (pairs cs (map plain xs)) at
    list_is : seconds (pairs cs (map plain xs)) ≡ map plain xs
    commas_are : firsts (pairs cs (map plain xs)) ≡ cs

  none_between : (at : ℕ) (c : Bool) (s : ℕ) → Finds separator_of T at c s → Closes R T at → FindsNone (both separator_of F) T at
  none_between at c s f k = record { none_is = chain_then _ f.found_is (mapped_none _ (refused s (k.none c s f)).none_is) }

  no_pair : (at : ℕ) → Closes R T at → FindsNone (both separator_of F) T at
  no_pair at k = by_test (nat_eq (mark (drop at (words T))) mark_comma)
      (λ e. none_between at true (at + 1) (comma_there T at (equal_of (mark (drop at (words T))) mark_comma e)) k)
      (λ e. let h : mark (drop at (words T)) ≡ mark_comma → ⊥ = λ q. absurd (cc (e, same (mark (drop at (words T))) mark_comma q)) in
      by_test (nat_eq (keyword (drop at (words T))) keyword_or)
      (λ d. none_between at false (at + 1) (or_there T at h (equal_of (keyword (drop at (words T))) keyword_or d)) k)
      (λ d. record { none_is = chain_none _ (no_separator T at h (λ q. absurd (cc (d, same (keyword (drop at (words T))) keyword_or q)))).none_is }))

  pair_rests : (next fuel : ℕ) (have : List (Bool × B)) → next ≤ length T → length T < fuel + next → Closes R T next → again (both separator_of F).read fuel have (drop next (words T)) ≡ Some (have, drop next (words T))
  unfolding again
  pair_rests next zero have w h ends = absurd (omega arith)
  pair_rests next (suc n) have w h ends = or_else_not ((both separator_of F).read (drop next (words T))) (Some (have, drop next (words T))) (λ a left. again (both separator_of F).read n (have ++ (a ∷ [])) left) (no_pair next ends).none_is

  pair_runs : (at : ℕ) (c : Bool) (x : A) (m fuel : ℕ) (have : List (Bool × B)) (o : Found (List (Bool × B))) → at < m → Finds (both separator_of F) T at (c, plain x) m → at ≤ length T → length T < fuel + at →
      ((n : ℕ) → length T < n + m → again (both separator_of F).read n (have ++ ((c, F.bare (plain x)) ∷ [])) (drop m (words T)) ≡ o) → again (both separator_of F).read fuel have (drop at (words T)) ≡ o
  unfolding again
  pair_runs at c x m zero have o g f w h go = absurd (omega arith)
  pair_runs at c x m (suc n) have o g f w h go =
      or_else_here ((both separator_of F).read (drop at (words T))) (Some (have, drop at (words T))) (λ a left. again (both separator_of F).read n (have ++ (a ∷ [])) left) ((c, F.bare (plain x)), drop m (words T)) f.found_is ∙ go n (omega arith)

  alternates : (at : ℕ) (cs : List Bool) (xs : List A) (next : ℕ) → at ≤ length T → Closes R T next → Between R T at cs xs next → Alternates at cs xs next
  unfolding Between pairs spell_all NumberedAll
  alternates at [] [] next w ends b =
      let e : next ≡ at = sym b in
      let k : Closes R T at = subst (λ (i : ℕ). Closes R T i) e ends in
      rw e (record {
        reading = λ fuel have h. pair_rests at fuel have w h k ∙ ap (λ (ys : List (Bool × B)). Some (ys, drop at (words T))) (sym (append-nil have));
        taken = omega arith;
        numbered = tt;
        list_is = refl;
        commas_are = refl;
      })
  alternates at [] (x ∷ xs) next w ends b = absurd b
  alternates at (c ∷ cs) [] next w ends b = absurd b
  alternates at (c ∷ cs) (x ∷ xs) next w ends (s, m, g, r, b) =
      let f : Finds F T s (plain x) m = reads s (found x m) r in
      let p : Finds (both separator_of F) T at (c, plain x) m = finds_both g f in
      let t : Alternates m cs xs next = alternates m cs xs next f.within ends b in
      record {
        reading = λ fuel have h. pair_runs at c x m fuel have (Some (have ++ ((c, F.bare (plain x)) ∷ map (both separator_of F).bare (pairs cs (map plain xs))), drop next (words T))) (omega (arith, g.taken, f.taken)) p w h
            (λ n k. t.reading n (have ++ ((c, F.bare (plain x)) ∷ [])) k ∙ ap (λ (ys : List (Bool × B)). Some (ys, drop next (words T))) (append_assoc have ((c, F.bare (plain x)) ∷ []) (map (both separator_of F).bare (pairs cs (map plain xs)))));
        taken = omega (arith, p.taken, t.taken, length-append ((both separator_of F).spell (c, plain x)) (spell_all (both separator_of F).spell (pairs cs (map plain xs))));
        numbered = (p.numbered, subst (NumberedAll (both separator_of F).spell (both separator_of F).Numbered (pairs cs (map plain xs))) p.taken t.numbered);
        list_is = ap (λ (ys : List B). plain x ∷ ys) t.list_is;
        commas_are = ap (λ (ys : List Bool). c ∷ ys) t.commas_are;
      }

  parts_found : (from : ℕ) (cs : List Bool) (xs : List A) (next : ℕ) (p : Piece (Separated A)) → p.value.list.now ≡ xs → p.value.commas.now ≡ cs → p.next ≡ next → IsSeparated R T from cs xs next → FindsSeparated F plain T from p
  unfolding Alternate any_of
  parts_found from cs [] next p e d q l = absurd l.parts
  parts_found from cs (x ∷ xs) next p e d q l =
      let m = l.parts.0 in
      let f : Finds F T from (plain x) m = reads from (found x m) l.parts.1 in
      let t : Alternates m cs xs next = alternates m cs xs next f.within l.ends l.parts.2 in
      let g : Finds (repeated (both separator_of F)) T m (pairs cs (map plain xs)) next = record {
        found_is = t.reading (suc (length (drop m (words T)))) [] (omega (arith, length-drop m (words T), length_words T, f.within));
        within = l.within;
        taken = t.taken;
        numbered = t.numbered;
      } in
      record {
        parts = (plain x, pairs cs (map plain xs));
        finds = rw q (finds_both f g);
        list_is = ap (λ (ys : List B). plain x ∷ ys) t.list_is ∙ ap (map plain) (sym e);
        commas_are = t.commas_are ∙ sym d;
      }

  parts_missed : (from : ℕ) (e : ParseFault) → (e ≡ Memory) ⊎ R from (Err e) → Misses (separated F) T from e
  parts_missed from (Syntax place) (inl h) = absurd (cc h)
  parts_missed from (Syntax place) (inr h) = let n : FindsNone F T from = reads from (Err (Syntax place)) h in record { none_is = chain_none _ n.none_is }
  parts_missed from (Unsupported place) (inl h) = absurd (cc h)
  parts_missed from (Unsupported place) (inr h) = reads from (Err (Unsupported place)) h
  parts_missed from Memory h = tt

  pub parts_read : (from : ℕ) (r : Result (Piece (Separated A)) ParseFault) → AnswersSeparated R T from r → AnswersParts F plain T from r
  parts_read from (Ok p) l = parts_found from p.value.commas.now p.value.list.now p.next p refl refl refl l
  parts_read from (Err e) l = parts_missed from e l

-- the same, where what the calls answer is known from the list
pub list_as : {A B : Type 0} (F : Format B) (plain : A → B) (T : List Token) (R : Reads A) (from : ℕ) (r : Result (Piece (Bor (List A))) ParseFault) → AnswersList R T from r → ((at : ℕ) (r : Result (Piece A) ParseFault) → R at r → Answers F plain T at r) →
    Answers (list F) (plain_list_by plain) T from r
list_as F plain T R from r l h = list_read F plain T R h from r l

pub all_as : {A B : Type 0} (F : Format B) (plain : A → B) (T : List Token) (R : Reads A) (from : ℕ) → from ≤ length T → (r : Result (Piece (Bor (List A))) ParseFault) → AnswersAll R T from r → ((at : ℕ) (r : Result (Piece A) ParseFault) → R at r → Answers F plain T at r) →
    Answers (repeated F) (plain_list_by plain) T from r
all_as F plain T R from w r l h = all_read F plain T R h from w r l

pub parts_as : {A B : Type 0} (F : Format B) (plain : A → B) (T : List Token) (R : Reads A) (from : ℕ) (r : Result (Piece (Separated A)) ParseFault) → AnswersSeparated R T from r → ((at : ℕ) (r : Result (Piece A) ParseFault) → R at r → Answers F plain T at r) →
    AnswersParts F plain T from r
parts_as F plain T R from r l h = parts_read F plain T R h from r l
