-- The pieces of expressions lift.
use Rattle.std.proofs.Common.{◌≡◌, ℕ, ◌+◌, ◌==◌, ◌&&◌, ◌%◌, ◌^◌, Bool, true, false, cond, if◌then◌else◌, List, [], ◌∷◌, ◌++◌, length, get_or, codes, Option, Some, None, refl, subst, arith}
use Rattle.std.specs.List.{AllByRecursion}
use Rattle.std.proofs.lemmas.Bool.{eqb-true}
use Rattle.rr_syntax.specs.declared.token.Number.{Number}
use Rattle.rr_syntax.specs.Words.{Word, Named, System, Digits, Marked, mark_open_parenthesis, mark_close_parenthesis, mark_open_brace, mark_close_brace, mark_comma, mark_colon, mark_question, mark_not, mark_logical_and, mark_logical_or}
use Rattle.rr_syntax.specs.Tree.{Tree, Trees, Name, Literal, Bit, Part, Indexed, Unary, Binary, Cond, Concat, Repeat, Cast, Paren, End, More}
use Rattle.rr_syntax.specs.Expressions.{spell, spell_parts, spell_more, WellFormed, WellFormedParts, WellFormedMore, Numbered, NumberedMore}
use Rattle.rr_expr.specs.declared.operators.Infix.TheVariants.{Either}
use Rattle.rr_expr.specs.Faults.{takes_constants}
use Rattle.rr_expr.specs.Operators.{infixes}
use Rattle.rr_lex.specs.Patch.{new_literal, new_mark, new_name}
use Rattle.rr_choice.specs.declared.pick.Pick.{Pick}
use Rattle.rr_choice.specs.Sites as sites
use Rattle.rr_choice.specs.Sites.{SiteKind, Site, guard_names}
use Rattle.rr_choice.specs.Choices.{picked_form, picked_name}
use Rattle.rr_choice.specs.Places.{find_pick, is_literal_at, is_guard_at}
use Rattle.rr_instance.specs.Instances.{is_guard_of}
use Rattle.rr_instance_laws.proofs.FirstLaws.{first_is}
use Rattle.rr_respell.specs.Pieces.{Piece, Kept, Replaced, Put, kept, puts}
use Rattle.rr_respell.specs.Printing.{literal_pieces, bracketed, negated_name, guarded_pieces, test_pieces, condition_pieces, tree_pieces, part_pieces, more_pieces}
use Rattle.rr_kept.proofs.Lifting.{Lifts, none, from, keep, join, put, replace, words, after}

-- each site has what lets its changes lift: a literal may be replaced, a text may be put before a condition and behind it, and
-- before a body and behind as many tokens as a body there has
abbrev pub Allows : (T P : ℕ → Type 0) → (ℕ → ℕ) → ℕ → SiteKind → Type 0
Allows T P size token (sites.Literal width signed) = T token
Allows T P size token (sites.Guard owner extent names) = P token × P (token + extent)
Allows T P size token (sites.Overwrite owner target width now names) = P token × P (token + size token)

abbrev pub AllAllow : (T P : ℕ → Type 0) → (ℕ → ℕ) → List Site → Type 0
AllAllow T P size ss = AllByRecursion (λ s. Allows T P size s.token s.kind) ss

module _ (T P : ℕ → Type 0) (size : ℕ → ℕ) where
  -- what was found passes the test
  abbrev Found : (Site → Bool) → Option (Site × Pick) → Type 0
  Found test None = Unit {0}
  Found test (Some (s, p)) = (test s ≡ true) × Allows T P size s.token s.kind

  found : (test : Site → Bool) (ss : List Site) (ps : List Pick) → AllAllow T P size ss → Found test (find_pick test ss ps)
  unfolding find_pick
  found test [] ps h = tt
  found test (s ∷ ss) [] h = tt
  found test (s ∷ ss) (p ∷ ps) h = by_test (test s) refl (found test ss ps h.1)
    where
      by_test : (t : Bool) → test s ≡ t → Found test (find_pick test ss ps) → Found test (if t then Some (s, p) else find_pick test ss ps)
      by_test true e r = (e, h.0)
      by_test false e r = r

  literal_allows : (token : ℕ) (k : SiteKind) (own : ℕ) → is_literal_at token (record { kind = k; token = own }) ≡ true → Allows T P size own k → T token
  literal_allows token (sites.Literal width signed) own e h = subst T (eqb-true own token e) h
  literal_allows token (sites.Guard owner extent names) own e h = absurd (cc e)
  literal_allows token (sites.Overwrite owner target width now names) own e h = absurd (cc e)

  guard_allows : (token n : ℕ) (k : SiteKind) (own : ℕ) → is_guard_at token n (record { kind = k; token = own }) ≡ true → Allows T P size own k → P token × P (token + n)
  guard_allows token n (sites.Literal width signed) own e h = absurd (cc e)
  guard_allows token n (sites.Guard owner extent names) own e h = by_tests (extent == n) refl (own == token) refl e
    where
      by_tests : (a : Bool) → (extent == n) ≡ a → (b : Bool) → (own == token) ≡ b → (a && b) ≡ true → P token × P (token + n)
      by_tests true x true y q =
          let i = eqb-true extent n x in
          let j = eqb-true own token y in
          (subst P j h.0, subst P (omega (arith, i, j)) h.1)
      by_tests true x false y q = absurd (cc q)
      by_tests false x b y q = absurd (cc q)
  guard_allows token n (sites.Overwrite owner target width now names) own e h = absurd (cc e)

  module _ (ss : List Site) (allow : AllAllow T P size ss) (ps : List Pick) where
    literal_lifts : (found : Option (Site × Pick)) (token : ℕ) (n : Number) → Found (is_literal_at token) found → Lifts T P token (literal_pieces found n) (Digits n ∷ [])
    literal_lifts None token n h = keep (Digits n) none
    literal_lifts (Some (s, p)) token n h = by_switch p.on
      where
        by_switch : (on : Bool) → Lifts T P token (if on then Replaced (Digits n) (new_literal n.width n.signed (p.value % 2 ^ n.width)) ∷ [] else Kept (Digits n) ∷ []) (Digits n ∷ [])
        by_switch true = replace (Digits n) (new_literal n.width n.signed (p.value % 2 ^ n.width)) (literal_allows token s.kind s.token h.0 h.1)
        by_switch false = keep (Digits n) none

    bracketed_lifts : {k : ℕ} {xs : List Piece} {a : List Word} → P k → P (k + length a) → Lifts T P k xs a → Lifts T P k (bracketed xs) a
    bracketed_lifts b e x = put (new_mark mark_open_parenthesis) b (after (new_mark mark_close_parenthesis ∷ []) e x)

    guarded_lifts : (form : ℕ) (name : List ℕ) {k : ℕ} {xs : List Piece} {a : List Word} → P k → P (k + length a) → Lifts T P k xs a → Lifts T P k (guarded_pieces form name xs) a
    guarded_lifts form name {k} {xs} {a} b e x = by_form (form == 0) (form == 1) (form == 2) (form == 3)
      where
        by_form : (c0 c1 c2 c3 : Bool) →
            Lifts T P k
            (if c0 then Put (new_mark mark_not) ∷ bracketed xs
            else if c1 then bracketed xs ++ puts (new_mark mark_logical_and ∷ (new_name name ∷ []))
            else if c2 then bracketed xs ++ puts (new_mark mark_logical_and ∷ negated_name name)
            else if c3 then bracketed xs ++ puts (new_mark mark_logical_or ∷ (new_name name ∷ []))
            else bracketed xs ++ puts (new_mark mark_logical_or ∷ negated_name name))
            a
        by_form true c1 c2 c3 = put (new_mark mark_not) b (bracketed_lifts b e x)
        by_form false true c2 c3 = after (new_mark mark_logical_and ∷ (new_name name ∷ [])) e (bracketed_lifts b e x)
        by_form false false true c3 = after (new_mark mark_logical_and ∷ negated_name name) e (bracketed_lifts b e x)
        by_form false false false true = after (new_mark mark_logical_or ∷ (new_name name ∷ [])) e (bracketed_lifts b e x)
        by_form false false false false = after (new_mark mark_logical_or ∷ negated_name name) e (bracketed_lifts b e x)

    test_lifts : (found : Option (Site × Pick)) (k : ℕ) (xs : List Piece) (a : List Word) → Found (is_guard_at k (length a)) found → Lifts T P k xs a → Lifts T P k (test_pieces found xs) a
    test_lifts None k xs a h x = x
    test_lifts (Some (s, p)) k xs a h x = by_switch p.on
      where
        by_switch : (on : Bool) → Lifts T P k (if on then guarded_pieces (picked_form (guard_names s.kind) p.form) (picked_name (guard_names s.kind) p.name) xs else xs) a
        by_switch true =
            let q = guard_allows k (length a) s.kind s.token h.0 h.1 in
            guarded_lifts (picked_form (guard_names s.kind) p.form) (picked_name (guard_names s.kind) p.name) q.0 q.1 x
        by_switch false = x

    some_more : (ts : Trees) → WellFormedParts ts → WellFormedMore ts
    unfolding WellFormed
    some_more End w = absurd w
    some_more (More t ts) w = (w.0, w.1)

    tested : (c : Tree) (at : ℕ) → WellFormed c → Numbered c at → Lifts T P at (tree_pieces ss ps c) (spell c) → Lifts T P at (condition_pieces ss ps c) (spell c)
    tested c at w n x =
        test_lifts (find_pick (is_guard_of c) ss ps) at (tree_pieces ss ps c) (spell c)
        (subst (λ k. Found (is_guard_at k (length (spell c))) (find_pick (is_guard_of c) ss ps)) (first_is c at w n) (found (is_guard_of c) ss ps allow)) x

    mutual
      unfolding spell tree_pieces WellFormed Numbered

      pub tree_lifts : (t : Tree) (at : ℕ) → WellFormed t → Numbered t at → Lifts T P at (tree_pieces ss ps t) (spell t)
      tree_lifts (Name token x) at w n = keep (Named x) none
      tree_lifts (Literal token d) at w n = from n (literal_lifts (find_pick (is_literal_at token) ss ps) token d (found (is_literal_at token) ss ps allow))
      tree_lifts (Bit token x i) at w n = words (spell (Bit token x i))
      tree_lifts (Part token x l r) at w n = words (spell (Part token x l r))
      tree_lifts (Indexed token x f c up) at w n = words (spell (Indexed token x f c up))
      tree_lifts (Unary op t) at w n = keep (Marked op) (tree_lifts t (at + 1) w.1 n)
      tree_lifts (Binary op l r) at w n = by_kind (takes_constants (get_or infixes op Either)) (tree_lifts l at w.1 n.0) (tree_lifts r (at + length (spell l) + 1) w.2 n.1)
        where
          by_kind : (c : Bool) → Lifts T P at (tree_pieces ss ps l) (spell l) → Lifts T P (at + length (spell l) + 1) (tree_pieces ss ps r) (spell r) →
              Lifts T P at (if c then kept (spell (Binary op l r)) else tree_pieces ss ps l ++ (Kept (Marked op) ∷ tree_pieces ss ps r)) (spell (Binary op l r))
          by_kind true x y = words (spell (Binary op l r))
          by_kind false x y = join x (keep (Marked op) y)
      tree_lifts (Cond a b c) at w n =
          join (tested a at w.0 n.0 (tree_lifts a at w.0 n.0))
          (keep (Marked mark_question) (join (tree_lifts b (at + length (spell a) + 1) w.1 n.1) (keep (Marked mark_colon) (tree_lifts c (at + length (spell a) + 1 + length (spell b) + 1) w.2 n.2))))
      tree_lifts (Concat ts) at w n = keep (Marked mark_open_brace) (join (parts_lift ts at (some_more ts w) n) (keep (Marked mark_close_brace) none))
      tree_lifts (Repeat c ts) at w n =
          keep (Marked mark_open_brace)
          (join (words (spell c))
          (keep (Marked mark_open_brace) (join (parts_lift ts (at + 1 + length (spell c)) (some_more ts w.1) n.1) (keep (Marked mark_close_brace) (keep (Marked mark_close_brace) none)))))
      tree_lifts (Cast signed t) at w n =
          keep (System (cond signed (codes "signed") (codes "unsigned")))
          (keep (Marked mark_open_parenthesis) (join (from (omega arith) (tree_lifts t (at + 2) w n)) (keep (Marked mark_close_parenthesis) none)))
      tree_lifts (Paren t) at w n = keep (Marked mark_open_parenthesis) (join (tree_lifts t (at + 1) w n) (keep (Marked mark_close_parenthesis) none))

      -- `at` is the number of the mark before the first
      pub parts_lift : (ts : Trees) (at : ℕ) → WellFormedMore ts → NumberedMore ts at → Lifts T P (at + 1) (part_pieces ss ps ts) (spell_parts ts)
      parts_lift End at w n = none
      parts_lift (More t ts) at w n = join (tree_lifts t (at + 1) w.0 n.0) (more_lift ts (at + 1 + length (spell t)) w.1 n.1)

      pub more_lift : (ts : Trees) (at : ℕ) → WellFormedMore ts → NumberedMore ts at → Lifts T P at (more_pieces ss ps ts) (spell_more ts)
      more_lift End at w n = none
      more_lift (More t ts) at w n = keep (Marked mark_comma) (join (tree_lifts t (at + 1) w.0 n.0) (more_lift ts (at + 1 + length (spell t)) w.1 n.1))

    pub condition_lifts : (c : Tree) (at : ℕ) → WellFormed c → Numbered c at → Lifts T P at (condition_pieces ss ps c) (spell c)
    condition_lifts c at w n = tested c at w n (tree_lifts c at w n)
