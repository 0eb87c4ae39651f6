-- The formats of declarations are exact.
use Rattle.std.proofs.Common.{◌≡◌, ℕ, zero, suc, ◌+◌, ◌≤◌, ◌<◌, List, [], ◌∷◌, ◌++◌, length, refl, ap, ◌∙◌, sym, arith, Bool, true, false, cond, nat_eq, Option, Some, None, ◌⊎◌, inl, inr, subst, IsTrue, append_assoc}
use Rattle.std.proofs.lemmas.Bool.Decides.{Decides-eqb}
use Rattle.rr_syntax.specs.declared.tree.Dir.{Dir}
use Rattle.rr_syntax.specs.declared.tree.Dir.TheVariants as dir
use Rattle.rr_syntax.specs.Words.{Word, Named, System, Digits, Marked, Reserved, keyword_input, keyword_output, keyword_reg, keyword_signed, keyword_wire, mark_open_bracket, mark_close_bracket, mark_colon, mark_comma, mark_equals}
use Rattle.rr_syntax.specs.Tree.{Tree, Identifier, Range, bare, bare_identifier, bare_range}
use Rattle.rr_syntax.specs.Expressions.{spell, depth, is_target, infix_level, unary_level, WellFormed}
use Rattle.rr_syntax.specs.Items.{spell_identifier, spell_where, spell_dir, spell_range}
use Rattle.rr_syntax.proofs.BareExpressions.{is_target-bare}
use Rattle.rr_parse_expr.specs.Reading.{Found, Reader, mapped, chain, mark, rest, no_mark, reads}
use Rattle.rr_parse_expr.proofs.Answered.{not_equal}
use Rattle.rr_parse_expr.proofs.Climbs.{mapped_tells, chain_tells, if_tells, if_splits}
use Rattle.rr_parse_expr.proofs.Facts.{follow_level, follow_other}
use Rattle.rr_parse_expr.proofs.Sound.{Fits, reads_sound}
use Rattle.rr_parse_stmt.specs.Reading.{keyword, no_word, name, only_target, target}
use Rattle.rr_parse_stmt.proofs.Before.{before_mark as before_mark_read, target_before}
use Rattle.rr_parse_stmt.proofs.Steps.{target-is}
use Rattle.rr_grammar.specs.Formats.{Format, IsExact, Anything, both, before_mark, shaped, respelled, narrowed, list}
use Rattle.rr_grammar.specs.Leaves.{identifier, Ends, expression, EndsTarget, target_of, flag, spell_option, bare_option, AllOption, there, where_mark, to_range, of_range, range, NoType, typed, of_input, of_output, direction, choice}
use Rattle.rr_grammar.proofs.Exacts.{marked, expect_marked, mapped_some, both_exact, before_mark_exact, shaped_exact, respelled_exact, narrowed_exact, list_exact}

-- ---- names

name_tells : (ws : List Word) (p : Identifier × List Word) → name ws ≡ Some p → (ws ≡ Named p.0.text ∷ p.1) × (bare_identifier p.0 ≡ p.0)
unfolding name bare_identifier
name_tells [] p e = absurd cc
name_tells (Named s ∷ ws) p e =
    let q : (record { token = 0; text = s }, ws) ≡ p = cc in
    (ap (λ (x : Identifier × List Word). Named x.0.text ∷ x.1) q, ap (λ (x : Identifier × List Word). bare_identifier x.0) (sym q) ∙ ap (λ (x : Identifier × List Word). x.0) q)
name_tells (System s ∷ ws) p e = absurd cc
name_tells (Digits d ∷ ws) p e = absurd cc
name_tells (Marked m ∷ ws) p e = absurd cc
name_tells (Reserved k ∷ ws) p e = absurd cc

pub identifier_exact : IsExact identifier
unfolding name bare_identifier spell_identifier
identifier_exact = record {
  finds = λ a w left v. refl;
  good = λ ws p e. tt;
  bared = λ ws p e. (name_tells ws p e).1;
  spelled = λ ws p e. (name_tells ws p e).0;
}

-- ---- expressions and targets

ends_follow : (ws : List Word) → Ends ws → follow_level (mark ws) ≡ 0
ends_follow ws h = follow_other (mark ws) (not_equal (mark ws) mark_open_bracket h.no_select) ∙ h.no_operator

pub expression_exact : (k : ℕ) → IsExact (expression k)
expression_exact k = record {
  finds = λ t w left v. before_mark_read t w.0 k w.1 left (ends_follow left v);
  good = λ ws p e. let s = reads_sound k 1 (omega arith) (omega arith) ws p e in (s.well, s.deep);
  bared = λ ws p e. (reads_sound k 1 (omega arith) (omega arith) ws p e).bared;
  spelled = λ ws p e. (reads_sound k 1 (omega arith) (omega arith) ws p e).spelled;
}

target_tells : (e : Reader) (ws : List Word) (p : Tree × List Word) → target e ws ≡ Some p → (e unary_level ws ≡ Some p) × (is_target p.0 ≡ true)
unfolding target
target_tells e ws p q =
    let a = chain_tells (e unary_level ws) only_target p q in
    let b = if_tells (is_target a.0.0) (Some (a.0.0, a.0.1)) p a.2 in
    let k : a.0 ≡ p = cc b.1 in
    (a.1 ∙ ap (λ (x : Tree × List Word). Some x) k, ap (λ (x : Tree × List Word). is_target x.0) (sym k) ∙ b.0)

ends_target : (ws : List Word) → EndsTarget ws → follow_level (mark ws) < unary_level
ends_target ws h = omega (arith, follow_other (mark ws) (not_equal (mark ws) mark_open_bracket h.no_select), h.low)

pub target_exact : (k : ℕ) → IsExact (target_of k)
target_exact k = record {
  finds = λ t w left v. target-is (reads k) (spell t ++ left) (bare t, left) (target_before t w.1 w.0 k w.2 left (ends_target left v)) (is_target-bare t ∙ w.0);
  good = λ ws p e. let t = target_tells (reads k) ws p e in let s = reads_sound k unary_level (omega arith) (omega arith) ws p t.0 in (t.1, s.well, s.deep);
  bared = λ ws p e. (reads_sound k unary_level (omega arith) (omega arith) ws p (target_tells (reads k) ws p e).0).bared;
  spelled = λ ws p e. (reads_sound k unary_level (omega arith) (omega arith) ws p (target_tells (reads k) ws p e).0).spelled;
}

-- ---- reserved words

pub reserved : (k : ℕ) (ws : List Word) → keyword ws ≡ k → k < no_word → ws ≡ Reserved k ∷ rest ws
unfolding keyword rest
reserved k [] e h = absurd (omega arith)
reserved k (Named s ∷ ws) e h = absurd (omega arith)
reserved k (System s ∷ ws) e h = absurd (omega arith)
reserved k (Digits s ∷ ws) e h = absurd (omega arith)
reserved k (Marked s ∷ ws) e h = absurd (omega arith)
reserved k (Reserved j ∷ ws) e h = ap (λ (x : ℕ). Reserved x ∷ ws) e

pub same : (m : ℕ) → nat_eq m m ≡ true
same m = (Decides-eqb m m).1 refl

pub eq_of : (a b : ℕ) → nat_eq a b ≡ true → a ≡ b
eq_of a b e = (Decides-eqb a b).0 e

flag_finds : (w : ℕ) (b : Bool) (left : List Word) → (keyword left ≡ w → ⊥) → (flag w).read (spell_where b w ++ left) ≡ Some (b, left)
unfolding keyword rest spell_where
flag_finds w true left v = let e = same w in rw e refl
flag_finds w false left v = let e = not_equal (keyword left) w v in rw e refl

pub flag_exact : (w : ℕ) → w < no_word → IsExact (flag w)
unfolding spell_where
flag_exact w h = record {
  finds = λ b g left v. flag_finds w b left v;
  good = λ ws p e. tt;
  bared = λ ws p e. refl;
  spelled = λ ws p e. elim (if_splits (nat_eq (keyword ws) w) (Some (true, rest ws)) (Some (false, ws)) p e) [
    | inl t ↦ (let q : (true, rest ws) ≡ p = cc (t.1) in reserved w ws (eq_of (keyword ws) w t.0) h ∙ ap (λ (x : Bool × List Word). spell_where x.0 w ++ x.1) q)
    | inr t ↦ (let q : (false, ws) ≡ p = cc (t.1) in ap (λ (x : Bool × List Word). spell_where x.0 w ++ x.1) q)
  ];
}

-- ---- options

module _ {A : Type 0} (F : Format A) (f : IsExact F) (m : ℕ) (h : m < no_mark) where
  where_finds : (o : Option A) → AllOption F.Good o → (left : List Word) → (where_mark m F).Before left → (where_mark m F).read (spell_option m F.spell o ++ left) ≡ Some (bare_option F.bare o, left)
  unfolding mark rest
  where_finds None w left v = let e = not_equal (mark left) m v.1 in rw e refl
  where_finds (Some a) w left v = let e = same m in rw e (mapped_some there (F.read (F.spell a ++ left)) (F.bare a, left) (f.finds a w left v.0))

  where_found : (ws : List Word) (p : Option A × List Word) → (where_mark m F).read ws ≡ Some p → ((None, ws) ≡ p) ⊎ ((mark ws ≡ m) × (a : A × List Word) × (F.read (rest ws) ≡ Some a) × ((Some a.0, a.1) ≡ p))
  where_found ws p e = elim (if_splits (nat_eq (mark ws) m) (mapped there (F.read (rest ws))) (Some (None, ws)) p e) [
    | inl t ↦ (let a = mapped_tells there (F.read (rest ws)) p t.1 in inr (eq_of (mark ws) m t.0, a.0, a.1, ap (λ (x : Option A). (x, a.0.1)) a.2 ∙ ap (λ (x : List Word). (p.0, x)) a.3))
    | inr t ↦ inl (cc (t.1))
  ]

  pub where_mark_exact : IsExact (where_mark m F)
  where_mark_exact = record {
    finds = where_finds;
    good = λ ws p e. elim (where_found ws p e) [
      | inl q ↦ subst (λ (x : Option A × List Word). AllOption F.Good x.0) q tt
      | inr t ↦ subst (λ (x : Option A × List Word). AllOption F.Good x.0) t.3 (f.good (rest ws) t.1 t.2)
    ];
    bared = λ ws p e. elim (where_found ws p e) [
      | inl q ↦ subst (λ (x : Option A × List Word). bare_option F.bare x.0 ≡ x.0) q refl
      | inr t ↦ subst (λ (x : Option A × List Word). bare_option F.bare x.0 ≡ x.0) t.3 (ap there (f.bared (rest ws) t.1 t.2))
    ];
    spelled = λ ws p e. elim (where_found ws p e) [
      | inl q ↦ subst (λ (x : Option A × List Word). ws ≡ spell_option m F.spell x.0 ++ x.1) q refl
      | inr t ↦ subst (λ (x : Option A × List Word). ws ≡ spell_option m F.spell x.0 ++ x.1) t.3 (marked m ws t.0 h ∙ ap (λ (us : List Word). Marked m ∷ us) (f.spelled (rest ws) t.1 t.2))
    ];
  }

-- ---- ranges

pub ends_at : (m : ℕ) (left : List Word) → infix_level m ≡ 0 → nat_eq m mark_open_bracket ≡ false → Ends (Marked m ∷ left)
unfolding mark
ends_at m left e h = record { no_operator = e; no_select = λ k. cc (h, (Decides-eqb m mark_open_bracket).1 k) }

level-colon : infix_level mark_colon ≡ 0
unfolding infix_level
level-colon = refl

level-close_bracket : infix_level mark_close_bracket ≡ 0
unfolding infix_level
level-close_bracket = refl

pub range_words : (o : Option Range) → spell_range o ≡ spell_option mark_open_bracket (λ (r : Range). (spell r.left ++ (Marked mark_colon ∷ [])) ++ (spell r.right ++ (Marked mark_close_bracket ∷ []))) o
unfolding spell_range
range_words None = refl
range_words (Some r) = ap (λ (us : List Word). Marked mark_open_bracket ∷ us) (sym (append_assoc (spell r.left) (Marked mark_colon ∷ []) (spell r.right ++ (Marked mark_close_bracket ∷ []))))

pub range_bare : (o : Option Range) → bare_range o ≡ bare_option (λ (r : Range). to_range (bare r.left, bare r.right)) o
unfolding bare_range
range_bare None = refl
range_bare (Some r) = refl

pub range_exact : (k : ℕ) → IsExact (range k)
range_exact k =
    let l = before_mark_exact (expression k) (expression_exact k) mark_colon (omega arith) (λ left. ends_at mark_colon left level-colon refl) in
    let r = before_mark_exact (expression k) (expression_exact k) mark_close_bracket (omega arith) (λ left. ends_at mark_close_bracket left level-close_bracket refl) in
    let b = both_exact (before_mark (expression k) mark_colon) (before_mark (expression k) mark_close_bracket) l r (λ t g left v. tt) in
    respelled_exact (where_mark mark_open_bracket (shaped (both (before_mark (expression k) mark_colon) (before_mark (expression k) mark_close_bracket)) to_range of_range))
    (where_mark_exact (shaped (both (before_mark (expression k) mark_colon) (before_mark (expression k) mark_close_bracket)) to_range of_range)
    (shaped_exact (both (before_mark (expression k) mark_colon) (before_mark (expression k) mark_close_bracket)) b to_range of_range (λ a. refl)) mark_open_bracket (omega arith)) spell_range bare_range range_words range_bare

-- ---- `signed` and a range

range_front : (k : ℕ) (o : Option Range) (left : List Word) → NoType left → keyword ((range k).spell o ++ left) ≡ keyword_signed → ⊥
unfolding keyword spell_range
range_front k None left v e = v.0 e
range_front k (Some r) left v e = absurd (omega (arith, e))

pub typed_exact : (k : ℕ) → IsExact (typed k)
typed_exact k = both_exact (flag keyword_signed) (narrowed (range k) NoType) (flag_exact keyword_signed (omega arith))
    (narrowed_exact (range k) (range_exact k) NoType (λ ws v. (tt, v.1))) (λ o g left v e. range_front k o left v e)

-- ---- one of two words

choice_finds : (v w : ℕ) (b : Bool) (left : List Word) → (v ≡ w → ⊥) → (choice v w).read ((choice v w).spell b ++ left) ≡ Some (b, left)
unfolding keyword rest
choice_finds v w true left h = let e = same v in rw e refl
choice_finds v w false left h = let e = same w in let f = not_equal w v (λ q. h (sym q)) in rw (f, e) refl

pub choice_exact : (v w : ℕ) → v < no_word → w < no_word → (v ≡ w → ⊥) → IsExact (choice v w)
choice_exact v w a b h = record {
  finds = λ x g left u. choice_finds v w x left h;
  good = λ ws p e. tt;
  bared = λ ws p e. refl;
  spelled = λ ws p e. elim (if_splits (nat_eq (keyword ws) v) (Some (true, rest ws)) (cond (nat_eq (keyword ws) w) (Some (false, rest ws)) None) p e) [
    | inl t ↦ (let q : (true, rest ws) ≡ p = cc (t.1) in reserved v ws (eq_of (keyword ws) v t.0) a ∙ ap (λ (x : Bool × List Word). (choice v w).spell x.0 ++ x.1) q)
    | inr t ↦ (let s = if_tells (nat_eq (keyword ws) w) (Some (false, rest ws)) p t.1 in let q : (false, rest ws) ≡ p = cc (s.1) in reserved w ws (eq_of (keyword ws) w s.0) b ∙ ap (λ (x : Bool × List Word). (choice v w).spell x.0 ++ x.1) q)
  ];
}
