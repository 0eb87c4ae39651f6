-- Labels that were read one by one, with commas between, are those of the reading function.
use Rattle.std.proofs.Common.{◌≡◌, ℕ, zero, suc, ◌+◌, ◌≤◌, ◌<◌, List, [], ◌∷◌, length, drop, refl, ap, ◌∙◌, sym, arith, Bool, true, false, nat_eq, Some, None, Result, Ok, Err, ◌⊎◌, inl, inr, length-append, length-drop, subst}
use Rattle.std.proofs.lemmas.Bool.Decides.{Decides-eqb}
use Rattle.rr_syntax.specs.declared.token.Token.{Token}
use Rattle.rr_syntax.specs.declared.tree.Expr.{Expr}
use Rattle.rr_syntax.specs.Words.{Word, words, mark_colon, mark_comma}
use Rattle.rr_syntax.specs.Tree.{Tree, Trees, End, More, bare}
use Rattle.rr_syntax.specs.Expressions.{spell, spell_more, NumberedMore}
use Rattle.rr_syntax.specs.Statements.{NumberedLabels}
use Rattle.rr_syntax.specs.View.{plain, plain_list}
use Rattle.rr_syntax.proofs.Equations.{spellings, more-End}
use Rattle.rr_syntax.proofs.Nonempty.{spell-some}
use Rattle.rr_parse_expr.specs.declared.lists.Piece.{Piece}
use Rattle.rr_parse_expr.specs.declared.expression.ParseFault.{ParseFault}
use Rattle.rr_parse_expr.specs.declared.expression.ParseFault.TheVariants.{Unsupported, Syntax, Memory}
use Rattle.rr_parse_expr.specs.Reading.{Found, Reader, mark, rest, snoc, below, chain}
use Rattle.rr_parse_expr.specs.Lists.{Reads, Refuses, comma_at, Behind, Row, IsList}
use Rattle.rr_parse_expr.specs.Lists as lists
use Rattle.rr_parse_expr.proofs.Answered.{not_equal, mark_inside, rest_drop}
use Rattle.rr_parse_expr.proofs.FrontMarks.{mark_found, mark_is}
use Rattle.rr_parse_expr.proofs.TokenWords.{length_words}
use Rattle.rr_parse_stmt.specs.Reading.{labels_after, labels}
use Rattle.rr_parse_stmt.specs.Answer.{FindsEntry, AnswersEntry, FindsLabels, AnswersList}
use Rattle.rr_parse_stmt.proofs.Complete.{joined_trees, joined_trees_one}
use Rattle.rr_parse_stmt.proofs.Steps.{labels-end, labels-comma, labels-first, labels-none}
use denote.Ref.{Bor}

by_test : (b : Bool) {P : Type 0} → (b ≡ true → P) → (b ≡ false → P) → P
by_test true f g = f refl
by_test false f g = g refl

equal_of : (a b : ℕ) → nat_eq a b ≡ true → a ≡ b
equal_of a b e = (Decides-eqb a b).0 e

unequal_of : (a b : ℕ) → nat_eq a b ≡ false → a ≡ b → ⊥
unequal_of a b e q = let t : nat_eq a b ≡ true = (Decides-eqb a b).1 q in cc (e, t)

labels_fail : (e : Reader) (n : ℕ) (have : Trees) (ws : List Word) → mark ws ≡ mark_comma → e 1 (rest ws) ≡ None → labels_after e (suc n) have ws ≡ None
unfolding labels_after chain
labels_fail e n have ws m f = rw (m, f) refl

labels_other : (e : Reader) (n : ℕ) (have : Trees) (ws : List Word) → (mark ws ≡ mark_comma → ⊥) → (mark ws ≡ mark_colon → ⊥) → labels_after e (suc n) have ws ≡ None
unfolding labels_after
labels_other e n have ws f g = let a = not_equal (mark ws) mark_comma f in let b = not_equal (mark ws) mark_colon g in rw (b, a) refl

labels_zero : (e : Reader) (have : Trees) (ws : List Word) → labels_after e zero have ws ≡ None
unfolding labels_after
labels_zero e have ws = refl

more_first : (t : Tree) (ts : Trees) → length (spell_more (More t ts)) ≡ 1 + length (spell t) + length (spell_more ts)
more_first t ts = simp (spellings, length-append) (omega arith)

module _ (T : List Token) (room : ℕ) (R : Reads Expr) (reads : (at : ℕ) (r : Result (Piece Expr) ParseFault) → R at r → AnswersEntry T at (below room 1 (drop at (words T))) r) where
  entry_none : (at : ℕ) (e : ParseFault) → (e ≡ Memory → ⊥) → AnswersEntry T at (below room 1 (drop at (words T))) (Err e) → below room 1 (drop at (words T)) ≡ None
  entry_none at (Syntax place) h a = a
  entry_none at (Unsupported place) h a = absurd a
  entry_none at Memory h a = absurd (h refl)

  -- a comma and a label behind it
  goes : (at : ℕ) (x : Expr) (m n : ℕ) (have : Trees) → comma_at T at → FindsEntry T (at + 1) (below room 1 (drop (at + 1) (words T))) (record { value = x; next = m }) →
      labels_after (below room) (suc n) have (drop at (words T)) ≡ labels_after (below room) n (snoc have (bare (plain x))) (drop m (words T))
  goes at x m n have c f =
      let k : below room 1 (rest (drop at (words T))) ≡ Some (bare (plain x), drop m (words T)) = rw rest_drop f.found_is in
      labels-comma (below room) n have (drop at (words T)) (bare (plain x), drop m (words T)) (mark_found (drop at (words T)) (sym c)) k

  -- labels behind commas, up to a colon
  to_colon : (at : ℕ) (xs : List Expr) (next : ℕ) → at ≤ length T → Behind R T at xs next → mark (drop next (words T)) ≡ mark_colon → (fuel : ℕ) (have : Trees) → length T < fuel + at →
      labels_after (below room) fuel have (drop at (words T)) ≡ Some (joined_trees have (plain_list xs), drop (next + 1) (words T))
  unfolding Behind plain_list joined_trees
  to_colon at [] next w b k zero have h = absurd (omega arith)
  to_colon at [] next w b k (suc n) have h =
      let e : at ≡ next = b in
      rw e (labels-end (below room) n have (drop next (words T)) k ∙ ap (λ (us : List Word). Some (have, us)) (rest_drop (words T) next))
  to_colon at (x ∷ xs) next w b k zero have h = absurd (omega arith)
  to_colon at (x ∷ xs) next w (m, c, r, b) k (suc n) have h =
      let f : FindsEntry T (at + 1) (below room 1 (drop (at + 1) (words T))) (record { value = x; next = m }) = reads (at + 1) (lists.found x m) r in
      goes at x m n have c f ∙ to_colon m xs next f.within b k n (snoc have (bare (plain x))) (omega (arith, f.taken))

  -- and where no colon stands behind them
  no_colon : (at : ℕ) (xs : List Expr) (next : ℕ) → Behind R T at xs next → (mark (drop next (words T)) ≡ mark_colon → ⊥) → (comma_at T next → Refuses R (next + 1)) → (fuel : ℕ) (have : Trees) →
      labels_after (below room) fuel have (drop at (words T)) ≡ None
  unfolding Behind
  no_colon at [] next b k ends zero have = labels_zero (below room) have (drop at (words T))
  no_colon at [] next b k ends (suc n) have =
      let e : at ≡ next = b in
      rw e (by_test (nat_eq (mark (drop next (words T))) mark_comma)
      (λ q. let c = equal_of (mark (drop next (words T))) mark_comma q in
      let s = ends (mark_is (drop next (words T)) (record { 0 = mark_comma }) c (omega arith)) in
      let z : below room 1 (rest (drop next (words T))) ≡ None = rw rest_drop (entry_none (next + 1) s.fault s.cause (reads (next + 1) (Err s.fault) s.answered)) in
      labels_fail (below room) n have (drop next (words T)) c z)
      (λ q. labels_other (below room) n have (drop next (words T)) (unequal_of (mark (drop next (words T))) mark_comma q) k))
  no_colon at (x ∷ xs) next b k ends zero have = labels_zero (below room) have (drop at (words T))
  no_colon at (x ∷ xs) next (m, c, r, b) k ends (suc n) have =
      let f : FindsEntry T (at + 1) (below room 1 (drop (at + 1) (words T))) (record { value = x; next = m }) = reads (at + 1) (lists.found x m) r in
      goes at x m n have c f ∙ no_colon m xs next b k ends n (snoc have (bare (plain x)))

  record Numbers (at : ℕ) (xs : List Expr) (next : ℕ) : Type 0 where
    taken : next ≡ at + length (spell_more (plain_list xs))
    numbered : NumberedMore (plain_list xs) at

  numbers : (at : ℕ) (xs : List Expr) (next : ℕ) → Behind R T at xs next → Numbers at xs next
  unfolding Behind plain_list NumberedMore
  numbers at [] next b = let e : next ≡ at = sym b in rw e (record { taken = omega (arith, ap length more-End); numbered = tt })
  numbers at (x ∷ xs) next (m, c, r, b) =
      let f : FindsEntry T (at + 1) (below room 1 (drop (at + 1) (words T))) (record { value = x; next = m }) = reads (at + 1) (lists.found x m) r in
      let t : Numbers m xs next = numbers m xs next b in
      record {
        taken = omega (arith, f.taken, t.taken, more_first (plain x) (plain_list xs));
        numbered = (f.numbered, subst (NumberedMore (plain_list xs)) f.taken t.numbered);
      }

  -- labels with their colon
  labels_found : (from : ℕ) (es : Bor (List Expr)) (xs : List Expr) (next : ℕ) → es.now ≡ xs → IsList R T from xs next → mark (drop next (words T)) ≡ mark_colon →
      FindsLabels T from (labels (below room) (drop from (words T))) (record { exprs = es; next = next + 1 })
  unfolding Row plain_list NumberedLabels
  labels_found from es [] next e l k = absurd l.row
  labels_found from es (x ∷ xs) next e l k =
      let m = l.row.0 in
      let f : FindsEntry T from (below room 1 (drop from (words T))) (record { value = x; next = m }) = reads from (lists.found x m) l.row.1 in
      let t : Numbers m xs next = numbers m xs next l.row.2 in
      rw e (record {
        found_is = labels-first (below room) (drop from (words T)) (bare (plain x), drop m (words T)) f.found_is ∙
            to_colon m xs next f.within l.row.2 k (suc (length (drop m (words T)))) (More (bare (plain x)) End) (omega (arith, length-drop m (words T), length_words T, f.within)) ∙
            ap (λ (ts : Trees). Some (ts, drop (next + 1) (words T))) (joined_trees_one (plain x) (plain_list xs));
        first = plain x;
        others = plain_list xs;
        some = refl;
        within = omega (arith, mark_inside T next mark_colon k (omega arith));
        taken = omega (arith, f.taken, t.taken, more_first (plain x) (plain_list xs));
        numbered = (f.numbered, subst (NumberedMore (plain_list xs)) f.taken t.numbered);
      })

  -- labels without one
  labels_open : (from : ℕ) (xs : List Expr) (next : ℕ) → IsList R T from xs next → (mark (drop next (words T)) ≡ mark_colon → ⊥) → labels (below room) (drop from (words T)) ≡ None
  unfolding Row
  labels_open from [] next l k = absurd l.row
  labels_open from (x ∷ xs) next l k =
      let m = l.row.0 in
      let f : FindsEntry T from (below room 1 (drop from (words T))) (record { value = x; next = m }) = reads from (lists.found x m) l.row.1 in
      labels-first (below room) (drop from (words T)) (bare (plain x), drop m (words T)) f.found_is ∙ no_colon m xs next l.row.2 k l.ends (suc (length (drop m (words T)))) (More (bare (plain x)) End)

  -- no first label
  labels_missed : (from : ℕ) (e : ParseFault) → (e ≡ Memory → ⊥) → (e ≡ Memory) ⊎ R from (Err e) → labels (below room) (drop from (words T)) ≡ None
  labels_missed from e h (inl q) = absurd (h q)
  labels_missed from e h (inr r) = labels-none (below room) (drop from (words T)) (entry_none from e h (reads from (Err e) r))

-- a label has a word at least
pub entry_moves : (T : List Token) (room at : ℕ) (p : Piece Expr) → FindsEntry T at (below room 1 (drop at (words T))) p → (at < p.next) × (p.next ≤ length T)
entry_moves T room at p f = (omega (arith, f.taken, spell-some (plain p.value)), f.within)

-- the same, where what the calls answer is known from the list
pub labels_as : (T : List Token) (room : ℕ) (R : Reads Expr) (from : ℕ) (r : Result (Piece (Bor (List Expr))) ParseFault) → lists.AnswersList R T from r →
    ((at : ℕ) (r : Result (Piece Expr) ParseFault) → R at r → AnswersEntry T at (below room 1 (drop at (words T))) r) → AnswersList T from (labels (below room) (drop from (words T))) r
labels_as T room R from (Ok p) l h = record {
  within = l.within;
  closed = λ k. labels_found T room R h from p.value p.value.now p.next refl l k;
  unclosed = λ k. labels_open T room R h from p.value.now p.next l k;
}
labels_as T room R from (Err (Syntax place)) l h = labels_missed T room R h from (Syntax place) (λ q. absurd (cc q)) l
labels_as T room R from (Err (Unsupported place)) (inl q) h = absurd (cc q)
labels_as T room R from (Err (Unsupported place)) (inr r) h = h from (Err (Unsupported place)) r
labels_as T room R from (Err Memory) l h = tt

-- a fault that is no want of memory says that no labels stand there
pub fails_labels : (T : List Token) (begin : ℕ) (found : Found Trees) (f : ParseFault) → (f ≡ Memory → ⊥) → AnswersList T begin found (Err f) → found ≡ None
fails_labels T begin found (Syntax at) h a = a
fails_labels T begin found (Unsupported at) h a = absurd a
fails_labels T begin found Memory h a = absurd (h refl)
