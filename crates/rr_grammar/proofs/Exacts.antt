-- Formats that are made of exact ones are exact.
use Rattle.std.proofs.Common.{◌≡◌, ℕ, zero, suc, ◌+◌, ◌≤◌, ◌<◌, List, [], ◌∷◌, ◌++◌, length, drop, map, refl, ap, ◌∙◌, sym, arith, Bool, true, false, cond, nat_eq, Option, Some, None, ◌⊎◌, inl, inr, length-append, append_assoc, append-nil, subst}
use Rattle.std.proofs.lemmas.Bool.Decides.{Decides-eqb, nat_tests}
use Rattle.std.specs.List.{AllByRecursion}
use Rattle.rr_syntax.specs.Words.{Word, Named, System, Digits, Marked, Reserved, mark_comma}
use Rattle.rr_syntax.specs.Items.{spell_all, spell_each, spell_separated}
use Rattle.rr_parse_expr.specs.Reading.{Found, mapped, chain, mark, rest, no_mark, expect}
use Rattle.rr_parse_expr.proofs.Climbs.{mapped_tells, chain_tells, if_tells, if_splits, expect_tells}
use Rattle.rr_parse_stmt.specs.Reading.{keyword, no_word}
use Rattle.rr_grammar.specs.Formats.{Format, IsExact, Anything, both, after_mark, after_word, before_word, position, before_mark, shaped, respelled, guarded, narrowed, or_else, more, some_of, list, again, any_of, repeated, choose, imaged, IsImage, nothing_of}

-- ---- single steps

pub chain_mapped : {A B C : Type 0} (x : Found A) (k : List Word → Found B) (f : A → B → C) (p : A × List Word) (q : B × List Word) → x ≡ Some p → k p.1 ≡ Some q → chain x (λ a left. mapped (f a) (k left)) ≡ Some (f p.0 q.0, q.1)
unfolding chain mapped
chain_mapped x k f p q e g = rw (e, g) refl

pub expect_marked : {A : Type 0} (m : ℕ) (k : List Word → Found A) (ws : List Word) → expect m k (Marked m ∷ ws) ≡ k ws
unfolding expect mark rest
expect_marked m k ws = let e : nat_eq m m ≡ true = (Decides-eqb m m).1 refl in rw e refl

chain_expect : {A : Type 0} (x : Found A) (m : ℕ) (p : A × List Word) (left : List Word) → x ≡ Some p → p.1 ≡ Marked m ∷ left → chain x (λ a us. expect m (λ after. Some (a, after)) us) ≡ Some (p.0, left)
unfolding chain
chain_expect x m p left e g = rw (e, g) (expect_marked m (λ after. Some (p.0, after)) left)

pub mapped_some : {A B : Type 0} (f : A → B) (x : Found A) (p : A × List Word) → x ≡ Some p → mapped f x ≡ Some (f p.0, p.1)
unfolding mapped
mapped_some f x p e = rw e refl

pub marked : (m : ℕ) (ws : List Word) → mark ws ≡ m → m < no_mark → ws ≡ Marked m ∷ rest ws
unfolding mark rest
marked m [] e h = absurd (omega arith)
marked m (Named s ∷ ws) e h = absurd (omega arith)
marked m (System s ∷ ws) e h = absurd (omega arith)
marked m (Digits s ∷ ws) e h = absurd (omega arith)
marked m (Reserved s ∷ ws) e h = absurd (omega arith)
marked m (Marked k ∷ ws) e h = ap (λ (x : ℕ). Marked x ∷ ws) e

-- ---- one part and then another

module _ {A B : Type 0} (F : Format A) (G : Format B) (f : IsExact F) (g : IsExact G) where
  both_found : (ws : List Word) (p : (A × B) × List Word) → (both F G).read ws ≡ Some p → (a : A × List Word) × (b : B × List Word) × (F.read ws ≡ Some a) × (G.read a.1 ≡ Some b) × ((a.0, b.0) ≡ p.0) × (b.1 ≡ p.1)
  both_found ws p e =
      let a = chain_tells (F.read ws) (λ x left. mapped (λ y. (x, y)) (G.read left)) p e in
      let b = mapped_tells (λ y. (a.0.0, y)) (G.read a.0.1) p a.2 in
      (a.0, b.0, a.1, b.1, b.2, b.3)

  pub both_exact : ((b : B) → G.Good b → (left : List Word) → G.Before left → F.Before (G.spell b ++ left)) → IsExact (both F G)
  both_exact h = record {
    finds = λ x w left v. ap (both F G).read (append_assoc (F.spell x.0) (G.spell x.1) left) ∙
        chain_mapped (F.read (F.spell x.0 ++ (G.spell x.1 ++ left))) G.read (λ a b. (a, b)) (F.bare x.0, G.spell x.1 ++ left) (G.bare x.1, left)
        (f.finds x.0 w.0 (G.spell x.1 ++ left) (h x.1 w.1 left v)) (g.finds x.1 w.1 left v);
    good = λ ws p e. let t = both_found ws p e in subst (both F G).Good t.4 (f.good ws t.0 t.2, g.good t.0.1 t.1 t.3);
    bared = λ ws p e. let t = both_found ws p e in
        ap (both F G).bare (sym t.4) ∙ ap (λ (x : A). (x, G.bare t.1.0)) (f.bared ws t.0 t.2) ∙ ap (λ (y : B). (t.0.0, y)) (g.bared t.0.1 t.1 t.3) ∙ t.4;
    spelled = λ ws p e. let t = both_found ws p e in
        f.spelled ws t.0 t.2 ∙ ap (λ (us : List Word). F.spell t.0.0 ++ us) (g.spelled t.0.1 t.1 t.3) ∙ sym (append_assoc (F.spell t.0.0) (G.spell t.1.0) t.1.1) ∙
        ap (λ (x : A × B). (both F G).spell x ++ t.1.1) t.4 ∙ ap (λ (us : List Word). (both F G).spell p.0 ++ us) t.5;
  }

-- ---- marks

module _ {A : Type 0} (F : Format A) (f : IsExact F) (m : ℕ) (h : m < no_mark) where
  pub after_mark_exact : IsExact (after_mark m F)
  after_mark_exact = record {
    finds = λ a w left v. expect_marked m F.read (F.spell a ++ left) ∙ f.finds a w left v;
    good = λ ws p e. let t = expect_tells m F.read ws p e in f.good (rest ws) p t.1;
    bared = λ ws p e. let t = expect_tells m F.read ws p e in f.bared (rest ws) p t.1;
    spelled = λ ws p e. let t = expect_tells m F.read ws p e in marked m ws t.0 h ∙ ap (λ (us : List Word). Marked m ∷ us) (f.spelled (rest ws) p t.1);
  }

  before_found : (ws : List Word) (p : A × List Word) → (before_mark F m).read ws ≡ Some p → (a : A × List Word) × (F.read ws ≡ Some a) × (a.0 ≡ p.0) × (a.1 ≡ Marked m ∷ p.1)
  before_found ws p e =
      let a = chain_tells (F.read ws) (λ x left. expect m (λ after. Some (x, after)) left) p e in
      let b = expect_tells m (λ after. Some (a.0.0, after)) a.0.1 p a.2 in
      let q : (a.0.0, rest a.0.1) ≡ p = cc b.1 in
      (a.0, a.1, ap (λ (x : A × List Word). x.0) q, marked m a.0.1 b.0 h ∙ ap (λ (x : A × List Word). Marked m ∷ x.1) q)

  pub before_mark_exact : ((left : List Word) → F.Before (Marked m ∷ left)) → IsExact (before_mark F m)
  before_mark_exact k = record {
    finds = λ a w left v. ap (before_mark F m).read (append_assoc (F.spell a) (Marked m ∷ []) left) ∙
        chain_expect (F.read (F.spell a ++ (Marked m ∷ left))) m (F.bare a, Marked m ∷ left) left (f.finds a w (Marked m ∷ left) (k left)) refl;
    good = λ ws p e. let t = before_found ws p e in subst F.Good t.2 (f.good ws t.0 t.1);
    bared = λ ws p e. let t = before_found ws p e in ap F.bare (sym t.2) ∙ f.bared ws t.0 t.1 ∙ t.2;
    spelled = λ ws p e. let t = before_found ws p e in
        f.spelled ws t.0 t.1 ∙ ap (λ (us : List Word). F.spell t.0.0 ++ us) t.3 ∙ sym (append_assoc (F.spell t.0.0) (Marked m ∷ []) p.1) ∙ ap (λ (x : A). (before_mark F m).spell x ++ p.1) t.2;
  }

-- ---- fewer words behind

pub narrowed_exact : {A : Type 0} (F : Format A) → IsExact F → (Before : List Word → Type 0) → ((ws : List Word) → Before ws → F.Before ws) → IsExact (narrowed F Before)
narrowed_exact F f Before h = record { finds = λ a w left v. f.finds a w left (h left v); good = f.good; bared = f.bared; spelled = f.spelled }

-- ---- another shape

pub shaped_exact : {A B : Type 0} (F : Format A) → IsExact F → (g : A → B) (h : B → A) → ((a : A) → h (g a) ≡ a) → IsExact (shaped F g h)
shaped_exact F f g h k = record {
  finds = λ b w left v. mapped_some g (F.read (F.spell (h b) ++ left)) (F.bare (h b), left) (f.finds (h b) w left v);
  good = λ ws p e. let t = mapped_tells g (F.read ws) p e in subst F.Good (sym (ap h (sym t.2) ∙ k t.0.0)) (f.good ws t.0 t.1);
  bared = λ ws p e. let t = mapped_tells g (F.read ws) p e in ap (λ x. g (F.bare x)) (ap h (sym t.2) ∙ k t.0.0) ∙ ap g (f.bared ws t.0 t.1) ∙ t.2;
  spelled = λ ws p e. let t = mapped_tells g (F.read ws) p e in f.spelled ws t.0 t.1 ∙ ap (λ x. F.spell x ++ t.0.1) (sym (ap h (sym t.2) ∙ k t.0.0)) ∙ ap (λ (us : List Word). F.spell (h p.0) ++ us) t.3;
}

-- ---- lists

or_else_splits : {A B : Type 0} (x : Found A) (old : Found B) (k : A → List Word → Found B) (p : B × List Word) → or_else x old k ≡ Some p → ((x ≡ None) × (old ≡ Some p)) ⊎ ((q : A × List Word) × (x ≡ Some q) × (k q.0 q.1 ≡ Some p))
unfolding or_else
or_else_splits None old k p e = inl (refl, e)
or_else_splits (Some q) old k p e = inr (q, refl, e)

or_else_none : {A B : Type 0} (x : Found A) (old : Found B) (k : A → List Word → Found B) → x ≡ None → or_else x old k ≡ old
unfolding or_else
or_else_none x old k e = rw e refl

or_else_some : {A B : Type 0} (x : Found A) (old : Found B) (k : A → List Word → Found B) (q : A × List Word) → x ≡ Some q → or_else x old k ≡ k q.0 q.1
unfolding or_else
or_else_some x old k q e = rw e refl

module _ {A : Type 0} (F : Format A) (f : IsExact F) (c : (a : A) → F.Good a → (left : List Word) → F.Before (Marked mark_comma ∷ (F.spell a ++ left))) where
  each_before : (xs : List A) → AllByRecursion F.Good xs → (left : List Word) → F.Before left → F.Before (spell_each F.spell xs ++ left)
  unfolding spell_each
  each_before [] w left v = v
  each_before (x ∷ xs) w left v = subst (λ (us : List Word). F.Before (Marked mark_comma ∷ us)) (sym (append_assoc (F.spell x) (spell_each F.spell xs) left)) (c x w.0 (spell_each F.spell xs ++ left))

  more_finds : (xs : List A) → AllByRecursion F.Good xs → (n : ℕ) → length xs < n → (have : List A) (left : List Word) → F.Before left → expect mark_comma F.read left ≡ None → more F.read n have (spell_each F.spell xs ++ left) ≡ Some (have ++ map F.bare xs, left)
  unfolding more spell_each
  more_finds [] w zero h have left v e = absurd (omega arith)
  more_finds [] w (suc n) h have left v e = or_else_none (expect mark_comma F.read left) (Some (have, left)) (λ a us. more F.read n (have ++ (a ∷ [])) us) e ∙ ap (λ (xs : List A). Some (xs, left)) (sym (append-nil have))
  more_finds (x ∷ xs) w zero h have left v e = absurd (omega arith)
  more_finds (x ∷ xs) w (suc n) h have left v e =
      let r : expect mark_comma F.read (Marked mark_comma ∷ ((F.spell x ++ spell_each F.spell xs) ++ left)) ≡ Some (F.bare x, spell_each F.spell xs ++ left) =
      expect_marked mark_comma F.read ((F.spell x ++ spell_each F.spell xs) ++ left) ∙ ap F.read (append_assoc (F.spell x) (spell_each F.spell xs) left) ∙ f.finds x w.0 (spell_each F.spell xs ++ left) (each_before xs w.1 left v) in
      or_else_some (expect mark_comma F.read (Marked mark_comma ∷ ((F.spell x ++ spell_each F.spell xs) ++ left))) (Some (have, Marked mark_comma ∷ ((F.spell x ++ spell_each F.spell xs) ++ left))) (λ a us. more F.read n (have ++ (a ∷ [])) us) (F.bare x, spell_each F.spell xs ++ left) r ∙
      more_finds xs w.1 n (omega arith) (have ++ (F.bare x ∷ [])) left v e ∙ ap (λ (us : List A). Some (us, left)) (append_assoc have (F.bare x ∷ []) (map F.bare xs))

  each_long : (xs : List A) → length xs ≤ length (spell_each F.spell xs)
  unfolding spell_each
  each_long [] = omega arith
  each_long (x ∷ xs) = simp length-append (omega (arith, each_long xs))

  list_finds : (xs : List A) → (list F).Good xs → (left : List Word) → (list F).Before left → (list F).read ((list F).spell xs ++ left) ≡ Some ((list F).bare xs, left)
  unfolding some_of spell_separated chain
  list_finds [] w left v = absurd (omega (arith, w.0))
  list_finds (x ∷ xs) w left v =
      let r : F.read ((F.spell x ++ spell_each F.spell xs) ++ left) ≡ Some (F.bare x, spell_each F.spell xs ++ left) =
      ap F.read (append_assoc (F.spell x) (spell_each F.spell xs) left) ∙ f.finds x w.1.0 (spell_each F.spell xs ++ left) (each_before xs w.1.1 left v.0) in
      rw r (more_finds xs w.1.1 (suc (length (spell_each F.spell xs ++ left))) (omega (arith, each_long xs, length-append (spell_each F.spell xs) left)) (F.bare x ∷ []) left v.0 v.1)

  -- the new parts of a list
  record NewFits (have : List A) (ws : List Word) (p : List A × List Word) : Type 0 where
    new : List A
    all : p.0 ≡ have ++ new
    good : AllByRecursion F.Good new
    bared : map F.bare new ≡ new
    spelled : ws ≡ spell_each F.spell new ++ p.1

  stopped : (have : List A) (ws : List Word) (p : List A × List Word) → Some (have, ws) ≡ Some p → NewFits have ws p
  unfolding spell_each
  stopped have ws p e =
      let q : (have, ws) ≡ p = cc e in
      record { new = []; all = sym (ap (λ (x : List A × List Word). x.0) q) ∙ sym (append-nil have); good = tt; bared = refl; spelled = ap (λ (x : List A × List Word). x.1) q }

  more_sound : (n : ℕ) (have : List A) (ws : List Word) (p : List A × List Word) → more F.read n have ws ≡ Some p → NewFits have ws p
  unfolding more spell_each
  more_sound zero have ws p e = stopped have ws p e
  more_sound (suc n) have ws p e = elim (or_else_splits (expect mark_comma F.read ws) (Some (have, ws)) (λ a left. more F.read n (have ++ (a ∷ [])) left) p e) [
    | inl h ↦ stopped have ws p h.1
    | inr h ↦
        let t = expect_tells mark_comma F.read ws h.0 h.1 in
        let r = more_sound n (have ++ (h.0.0 ∷ [])) h.0.1 p h.2 in
        record {
          new = h.0.0 ∷ r.new;
          all = r.all ∙ append_assoc have (h.0.0 ∷ []) r.new;
          good = (f.good (rest ws) h.0 t.1, r.good);
          bared = ap (λ (y : A). y ∷ map F.bare r.new) (f.bared (rest ws) h.0 t.1) ∙ ap (λ (ys : List A). h.0.0 ∷ ys) r.bared;
          spelled = marked mark_comma ws t.0 (omega arith) ∙ ap (λ (us : List Word). Marked mark_comma ∷ us) (f.spelled (rest ws) h.0 t.1 ∙ ap (λ (us : List Word). F.spell h.0.0 ++ us) r.spelled ∙ sym (append_assoc (F.spell h.0.0) (spell_each F.spell r.new) p.1));
        }
  ]

  list_found : (ws : List Word) (p : List A × List Word) → some_of F.read ws ≡ Some p → (a : A × List Word) × (F.read ws ≡ Some a) × NewFits (a.0 ∷ []) a.1 p
  unfolding some_of
  list_found ws p e =
      let a = chain_tells (F.read ws) (λ x left. more F.read (suc (length left)) (x ∷ []) left) p e in
      (a.0, a.1, more_sound (suc (length a.0.1)) (a.0.0 ∷ []) a.0.1 p a.2)

  pub list_exact_by : IsExact (list F)
  unfolding spell_separated
  list_exact_by = record {
    finds = list_finds;
    good = λ ws p e. let t = list_found ws p e in subst (list F).Good (sym t.2.all) (omega arith, (f.good ws t.0 t.1, t.2.good));
    bared = λ ws p e. let t = list_found ws p e in
        ap (map F.bare) t.2.all ∙ ap (λ (y : A). y ∷ map F.bare t.2.new) (f.bared ws t.0 t.1) ∙ ap (λ (ys : List A). t.0.0 ∷ ys) t.2.bared ∙ sym t.2.all;
    spelled = λ ws p e. let t = list_found ws p e in
        f.spelled ws t.0 t.1 ∙ ap (λ (us : List Word). F.spell t.0.0 ++ us) t.2.spelled ∙ sym (append_assoc (F.spell t.0.0) (spell_each F.spell t.2.new) p.1) ∙ ap (λ (xs : List A). spell_separated F.spell xs ++ p.1) (sym t.2.all);
  }

pub list_exact : {A : Type 0} (F : Format A) → IsExact F → ((left : List Word) → F.Before (Marked mark_comma ∷ left)) → IsExact (list F)
list_exact F f c = list_exact_by F f (λ a g left. c (F.spell a ++ left))

-- ---- any number of parts

module _ {A : Type 0} (F : Format A) (f : IsExact F) (long : (a : A) → 0 < length (F.spell a)) (c : (a : A) → F.Good a → (left : List Word) → F.Before (F.spell a ++ left)) where
  all_before : (xs : List A) → AllByRecursion F.Good xs → (left : List Word) → F.Before left → F.Before (spell_all F.spell xs ++ left)
  unfolding spell_all
  all_before [] w left v = v
  all_before (x ∷ xs) w left v = subst F.Before (sym (append_assoc (F.spell x) (spell_all F.spell xs) left)) (c x w.0 (spell_all F.spell xs ++ left))

  again_finds : (xs : List A) → AllByRecursion F.Good xs → (n : ℕ) → length xs < n → (have : List A) (left : List Word) → F.Before left → F.read left ≡ None → again F.read n have (spell_all F.spell xs ++ left) ≡ Some (have ++ map F.bare xs, left)
  unfolding again spell_all
  again_finds [] w zero h have left v e = absurd (omega arith)
  again_finds [] w (suc n) h have left v e = or_else_none (F.read left) (Some (have, left)) (λ a us. again F.read n (have ++ (a ∷ [])) us) e ∙ ap (λ (xs : List A). Some (xs, left)) (sym (append-nil have))
  again_finds (x ∷ xs) w zero h have left v e = absurd (omega arith)
  again_finds (x ∷ xs) w (suc n) h have left v e =
      let r : F.read ((F.spell x ++ spell_all F.spell xs) ++ left) ≡ Some (F.bare x, spell_all F.spell xs ++ left) =
      ap F.read (append_assoc (F.spell x) (spell_all F.spell xs) left) ∙ f.finds x w.0 (spell_all F.spell xs ++ left) (all_before xs w.1 left v) in
      or_else_some (F.read ((F.spell x ++ spell_all F.spell xs) ++ left)) (Some (have, (F.spell x ++ spell_all F.spell xs) ++ left)) (λ a us. again F.read n (have ++ (a ∷ [])) us) (F.bare x, spell_all F.spell xs ++ left) r ∙
      again_finds xs w.1 n (omega arith) (have ++ (F.bare x ∷ [])) left v e ∙ ap (λ (us : List A). Some (us, left)) (append_assoc have (F.bare x ∷ []) (map F.bare xs))

  all_long : (xs : List A) → length xs ≤ length (spell_all F.spell xs)
  unfolding spell_all
  all_long [] = omega arith
  all_long (x ∷ xs) = simp length-append (omega (arith, long x, all_long xs))

  record AgainFits (have : List A) (ws : List Word) (p : List A × List Word) : Type 0 where
    new : List A
    all : p.0 ≡ have ++ new
    good : AllByRecursion F.Good new
    bared : map F.bare new ≡ new
    spelled : ws ≡ spell_all F.spell new ++ p.1

  again_stopped : (have : List A) (ws : List Word) (p : List A × List Word) → Some (have, ws) ≡ Some p → AgainFits have ws p
  unfolding spell_all
  again_stopped have ws p e =
      let q : (have, ws) ≡ p = cc e in
      record { new = []; all = sym (ap (λ (x : List A × List Word). x.0) q) ∙ sym (append-nil have); good = tt; bared = refl; spelled = ap (λ (x : List A × List Word). x.1) q }

  again_sound : (n : ℕ) (have : List A) (ws : List Word) (p : List A × List Word) → again F.read n have ws ≡ Some p → AgainFits have ws p
  unfolding again spell_all
  again_sound zero have ws p e = again_stopped have ws p e
  again_sound (suc n) have ws p e = elim (or_else_splits (F.read ws) (Some (have, ws)) (λ a left. again F.read n (have ++ (a ∷ [])) left) p e) [
    | inl h ↦ again_stopped have ws p h.1
    | inr h ↦
        let r = again_sound n (have ++ (h.0.0 ∷ [])) h.0.1 p h.2 in
        record {
          new = h.0.0 ∷ r.new;
          all = r.all ∙ append_assoc have (h.0.0 ∷ []) r.new;
          good = (f.good ws h.0 h.1, r.good);
          bared = ap (λ (y : A). y ∷ map F.bare r.new) (f.bared ws h.0 h.1) ∙ ap (λ (ys : List A). h.0.0 ∷ ys) r.bared;
          spelled = f.spelled ws h.0 h.1 ∙ ap (λ (us : List Word). F.spell h.0.0 ++ us) r.spelled ∙ sym (append_assoc (F.spell h.0.0) (spell_all F.spell r.new) p.1);
        }
  ]

  pub repeated_exact : IsExact (repeated F)
  unfolding any_of
  repeated_exact = record {
    finds = λ xs w left v. again_finds xs w (suc (length (spell_all F.spell xs ++ left))) (omega (arith, all_long xs, length-append (spell_all F.spell xs) left)) [] left v.0 v.1;
    good = λ ws p e. let t = again_sound (suc (length ws)) [] ws p e in subst (AllByRecursion F.Good) (sym t.all) t.good;
    bared = λ ws p e. let t = again_sound (suc (length ws)) [] ws p e in ap (map F.bare) t.all ∙ t.bared ∙ sym t.all;
    spelled = λ ws p e. let t = again_sound (suc (length ws)) [] ws p e in t.spelled ∙ ap (λ (xs : List A). spell_all F.spell xs ++ p.1) (sym t.all);
  }

-- ---- one of two forms

pub record Tells {A : Type 0} (t : List Word → Bool) (F : Format A) (b : Bool) : Type 0 where
  pub at_front : (a : A) → F.Good a → (left : List Word) → F.Before left → t (F.spell a ++ left) ≡ b

if_true : {A : Type 0} (b : Bool) (x y : Found A) → b ≡ true → cond b x y ≡ x
if_true b x y e = rw e refl

if_false : {A : Type 0} (b : Bool) (x y : Found A) → b ≡ false → cond b x y ≡ y
if_false b x y e = rw e refl

module _ {A : Type 0} (t : List Word → Bool) (F G : Format A) (f : IsExact F) (g : IsExact G) (s : (a : A) → G.spell a ≡ F.spell a) (b : (a : A) → G.bare a ≡ F.bare a) (l : Tells t F true) (r : Tells t G false) where
  choose_finds : (a : A) → F.Good a ⊎ G.Good a → (left : List Word) → (choose t F G).Before left → (choose t F G).read (F.spell a ++ left) ≡ Some (F.bare a, left)
  choose_finds a (inl w) left v = if_true (t (F.spell a ++ left)) (F.read (F.spell a ++ left)) (G.read (F.spell a ++ left)) (l.at_front a w left v.0) ∙ f.finds a w left v.0
  choose_finds a (inr w) left v =
      let e : t (F.spell a ++ left) ≡ false = ap (λ (us : List Word). t (us ++ left)) (sym (s a)) ∙ r.at_front a w left v.1 in
      if_false (t (F.spell a ++ left)) (F.read (F.spell a ++ left)) (G.read (F.spell a ++ left)) e ∙ ap (λ (us : List Word). G.read (us ++ left)) (sym (s a)) ∙ g.finds a w left v.1 ∙ ap (λ (x : A). Some (x, left)) (b a)

  pub choose_exact : IsExact (choose t F G)
  choose_exact = record {
    finds = choose_finds;
    good = λ ws p e. elim (if_splits (t ws) (F.read ws) (G.read ws) p e) [ inl h ↦ inl (f.good ws p h.1) | inr h ↦ inr (g.good ws p h.1) ];
    bared = λ ws p e. elim (if_splits (t ws) (F.read ws) (G.read ws) p e) [ inl h ↦ f.bared ws p h.1 | inr h ↦ sym (b p.0) ∙ g.bared ws p h.1 ];
    spelled = λ ws p e. elim (if_splits (t ws) (F.read ws) (G.read ws) p e) [ inl h ↦ f.spelled ws p h.1 | inr h ↦ g.spelled ws p h.1 ∙ ap (λ (us : List Word). us ++ p.1) (s p.0) ];
  }

-- ---- another type

pub imaged_exact : {A B : Type 0} (F : Format A) → IsExact F → (g : A → B) (spell : B → List Word) (bare : B → B) (Good : B → Type 0) {N : B → ℕ → Type 0} → IsImage F g spell bare Good → IsExact (imaged F g spell bare Good N)
imaged_exact F f g spell bare Good i = record {
  finds = λ b w left v.
      let a = i.from b w in
      let e : spell b ≡ F.spell a = ap spell (sym (i.from_is b w)) ∙ i.spelled a (i.from_good b w) in
      ap (λ (us : List Word). mapped g (F.read (us ++ left))) e ∙ mapped_some g (F.read (F.spell a ++ left)) (F.bare a, left) (f.finds a (i.from_good b w) left v) ∙
      ap (λ x. Some (x, left)) (sym (i.bared a) ∙ ap bare (i.from_is b w));
  good = λ ws p e. let t = mapped_tells g (F.read ws) p e in subst Good t.2 (i.good t.0.0 (f.good ws t.0 t.1));
  bared = λ ws p e. let t = mapped_tells g (F.read ws) p e in ap bare (sym t.2) ∙ i.bared t.0.0 ∙ ap g (f.bared ws t.0 t.1) ∙ t.2;
  spelled = λ ws p e. let t = mapped_tells g (F.read ws) p e in f.spelled ws t.0 t.1 ∙ ap (λ (us : List Word). us ++ t.0.1) (sym (i.spelled t.0.0 (f.good ws t.0 t.1))) ∙ ap (λ x. spell x ++ t.0.1) t.2 ∙ ap (λ (us : List Word). spell p.0 ++ us) t.3;
}

-- ---- nothing

pub nothing_exact : {A : Type 0} (a : A) → IsExact (nothing_of a)
nothing_exact a = record {
  finds = λ x w left v. ap (λ y. Some (y, left)) (sym w);
  good = λ ws p e. (let q : (a, ws) ≡ p = cc e in sym (ap (λ x. x.0) q));
  bared = λ ws p e. refl;
  spelled = λ ws p e. (let q : (a, ws) ≡ p = cc e in ap (λ x. x.1) q);
}

-- ---- other words, and tests

pub respelled_exact : {A : Type 0} (F : Format A) → IsExact F → (spell : A → List Word) (bare : A → A) {N : A → ℕ → Type 0} → ((a : A) → spell a ≡ F.spell a) → ((a : A) → bare a ≡ F.bare a) → IsExact (respelled F spell bare N)
respelled_exact F f spell bare s b = record {
  finds = λ a w left v. ap (λ (us : List Word). F.read (us ++ left)) (s a) ∙ f.finds a w left v ∙ ap (λ x. Some (x, left)) (sym (b a));
  good = f.good;
  bared = λ ws p e. b p.0 ∙ f.bared ws p e;
  spelled = λ ws p e. f.spelled ws p e ∙ ap (λ (us : List Word). us ++ p.1) (sym (s p.0));
}

chain_test : {A : Type 0} (x : Found A) (t : A → Bool) (p : A × List Word) → x ≡ Some p → t p.0 ≡ true → chain x (λ a left. cond (t a) (Some (a, left)) None) ≡ Some p
unfolding chain
chain_test x t p e h = rw (e, h) refl

guarded_found : {A : Type 0} (F : Format A) (t : A → Bool) (ws : List Word) (p : A × List Word) → (guarded F t).read ws ≡ Some p → (F.read ws ≡ Some p) × (t p.0 ≡ true)
guarded_found F t ws p e =
    let a = chain_tells (F.read ws) (λ x left. cond (t x) (Some (x, left)) None) p e in
    let b = if_tells (t a.0.0) (Some (a.0.0, a.0.1)) p a.2 in
    let k : a.0 ≡ p = cc b.1 in
    (a.1 ∙ ap (λ x. Some x) k, ap (λ x. t x.0) (sym k) ∙ b.0)

pub guarded_exact : {A : Type 0} (F : Format A) → IsExact F → (t : A → Bool) → ((a : A) → t (F.bare a) ≡ t a) → IsExact (guarded F t)
guarded_exact F f t k = record {
  finds = λ a w left v. chain_test (F.read (F.spell a ++ left)) t (F.bare a, left) (f.finds a w.0 left v) (k a ∙ w.1);
  good = λ ws p e. let q = guarded_found F t ws p e in (f.good ws p q.0, q.1);
  bared = λ ws p e. f.bared ws p (guarded_found F t ws p e).0;
  spelled = λ ws p e. f.spelled ws p (guarded_found F t ws p e).0;
}

-- ---- reserved words

pub reserved : (k : ℕ) (ws : List Word) → keyword ws ≡ k → k < no_word → ws ≡ Reserved k ∷ rest ws
unfolding keyword rest
reserved k [] e h = absurd (omega arith)
reserved k (Named s ∷ ws) e h = absurd (omega arith)
reserved k (System s ∷ ws) e h = absurd (omega arith)
reserved k (Digits s ∷ ws) e h = absurd (omega arith)
reserved k (Marked s ∷ ws) e h = absurd (omega arith)
reserved k (Reserved j ∷ ws) e h = ap (λ (x : ℕ). Reserved x ∷ ws) e

word_read : {A : Type 0} (r : List Word → Found A) (k : ℕ) (ws : List Word) → cond (nat_eq (keyword (Reserved k ∷ ws)) k) (r (rest (Reserved k ∷ ws))) None ≡ r ws
unfolding keyword rest
word_read r k ws = let e : nat_eq k k ≡ true = (Decides-eqb k k).1 refl in rw e refl

chain_word : {A : Type 0} (x : Found A) (k : ℕ) (p : A × List Word) (left : List Word) → x ≡ Some p → p.1 ≡ Reserved k ∷ left → chain x (λ a us. cond (nat_eq (keyword us) k) (Some (a, rest us)) None) ≡ Some (p.0, left)
unfolding chain
chain_word x k p left e g = rw (e, g) (word_read (λ us. Some (p.0, us)) k left)

module _ {A : Type 0} (F : Format A) (f : IsExact F) (k : ℕ) (h : k < no_word) where
  word_tells : (ws : List Word) (p : A × List Word) → (after_word k F).read ws ≡ Some p → (ws ≡ Reserved k ∷ rest ws) × (F.read (rest ws) ≡ Some p)
  word_tells ws p e = let t = if_tells (nat_eq (keyword ws) k) (F.read (rest ws)) p e in (reserved k ws ((Decides-eqb (keyword ws) k).0 t.0) h, t.1)

  pub after_word_exact : IsExact (after_word k F)
  after_word_exact = record {
    finds = λ a w left v. word_read F.read k (F.spell a ++ left) ∙ f.finds a w left v;
    good = λ ws p e. let t = word_tells ws p e in f.good (rest ws) p t.1;
    bared = λ ws p e. let t = word_tells ws p e in f.bared (rest ws) p t.1;
    spelled = λ ws p e. let t = word_tells ws p e in t.0 ∙ ap (λ (us : List Word). Reserved k ∷ us) (f.spelled (rest ws) p t.1);
  }

  behind_found : (ws : List Word) (p : A × List Word) → (before_word F k).read ws ≡ Some p → (a : A × List Word) × (F.read ws ≡ Some a) × (a.0 ≡ p.0) × (a.1 ≡ Reserved k ∷ p.1)
  behind_found ws p e =
      let a = chain_tells (F.read ws) (λ x left. cond (nat_eq (keyword left) k) (Some (x, rest left)) None) p e in
      let b = if_tells (nat_eq (keyword a.0.1) k) (Some (a.0.0, rest a.0.1)) p a.2 in
      let q : (a.0.0, rest a.0.1) ≡ p = cc b.1 in
      (a.0, a.1, ap (λ (x : A × List Word). x.0) q, reserved k a.0.1 ((Decides-eqb (keyword a.0.1) k).0 b.0) h ∙ ap (λ (x : A × List Word). Reserved k ∷ x.1) q)

  pub before_word_exact : ((left : List Word) → F.Before (Reserved k ∷ left)) → IsExact (before_word F k)
  before_word_exact b = record {
    finds = λ a w left v. ap (before_word F k).read (append_assoc (F.spell a) (Reserved k ∷ []) left) ∙
        chain_word (F.read (F.spell a ++ (Reserved k ∷ left))) k (F.bare a, Reserved k ∷ left) left (f.finds a w (Reserved k ∷ left) (b left)) refl;
    good = λ ws p e. let t = behind_found ws p e in subst F.Good t.2 (f.good ws t.0 t.1);
    bared = λ ws p e. let t = behind_found ws p e in ap F.bare (sym t.2) ∙ f.bared ws t.0 t.1 ∙ t.2;
    spelled = λ ws p e. let t = behind_found ws p e in
        f.spelled ws t.0 t.1 ∙ ap (λ (us : List Word). F.spell t.0.0 ++ us) t.3 ∙ sym (append_assoc (F.spell t.0.0) (Reserved k ∷ []) p.1) ∙ ap (λ (x : A). (before_word F k).spell x ++ p.1) t.2;
  }

pub position_exact : IsExact position
position_exact = record {
  finds = λ n w left v. refl;
  good = λ ws p e. tt;
  bared = λ ws p e. (let q : (0, ws) ≡ p = cc e in ap (λ (x : ℕ × List Word). x.0) q);
  spelled = λ ws p e. (let q : (0, ws) ≡ p = cc e in ap (λ (x : ℕ × List Word). x.1) q);
}

pub tells_choose : {A : Type 0} (t u : List Word → Bool) (F G : Format A) (b : Bool) → ((a : A) → G.spell a ≡ F.spell a) → Tells t F b → Tells t G b → Tells t (choose u F G) b
tells_choose t u F G b s l r = record { at_front = λ a w left v. elim w [ inl x ↦ l.at_front a x left v.0 | inr x ↦ ap (λ (us : List Word). t (us ++ left)) (sym (s a)) ∙ r.at_front a x left v.1 ] }
