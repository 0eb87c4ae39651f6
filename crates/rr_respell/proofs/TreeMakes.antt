-- The pieces of expressions.
use Rattle.std.proofs.Common.{◌≡◌, ℕ, ◌<◌, ◌^◌, ◌%◌, ◌==◌, Bool, true, false, cond, if◌then◌else◌, List, [], ◌∷◌, ◌++◌, get_or, codes, Option, Some, None, refl, arith}
use Rattle.std.specs.List.{Contains}
use Rattle.std.proofs.lemmas.Nat.{mod_below, pow_pos}
use Rattle.rr_syntax.specs.declared.token.Number.{Number}
use Rattle.rr_syntax.specs.Words.{Word, Named, System, Digits, Marked, mark_open_parenthesis, mark_close_parenthesis, mark_open_brace, mark_close_brace, mark_comma, mark_colon, mark_question, mark_not, mark_logical_and, mark_logical_or}
use Rattle.rr_syntax.specs.Tree.{Tree, Trees, Name, Literal, Bit, Part, Indexed, Unary, Binary, Cond, Concat, Repeat, Cast, Paren, End, More}
use Rattle.rr_syntax.specs.Expressions.{spell, spell_parts, spell_more}
use Rattle.rr_expr.specs.declared.operators.Infix.TheVariants.{Either}
use Rattle.rr_expr.specs.Faults.{takes_constants}
use Rattle.rr_expr.specs.Operators.{infixes}
use Rattle.rr_lex.specs.Patch as lex
use Rattle.rr_lex.specs.Patch.{New, new_keyword, new_mark, new_name, new_words}
use Rattle.rr_choice.specs.declared.pick.Pick.{Pick}
use Rattle.rr_choice.specs.Sites as sites
use Rattle.rr_choice.specs.Sites.{SiteKind, Site, Guard, Overwrite, guard_names}
use Rattle.rr_choice.specs.Choices.{picked_form, picked_name}
use Rattle.rr_choice.specs.Places.{find_pick, is_literal_at}
use Rattle.rr_instance.specs.Instances.{is_guard_of, fresh, number_with, new_literal, named, negated, guarded, new_test, instance_tree, instance_parts, instance_test}
use Rattle.rr_instance_laws.proofs.Rounds.{picked_is_one}
use Rattle.rr_respell.specs.Pieces.{Piece, Kept, Replaced, Put, kept, puts}
use Rattle.rr_respell.specs.Printing.{literal_pieces, bracketed, negated_name, guarded_pieces, test_pieces, condition_pieces, tree_pieces, part_pieces, more_pieces}
use Rattle.rr_respell.proofs.Makes.{AllowsNames, AllowsKind, AllowsSites, Allows, Makes, none, join, keep, put, replace, words, after}

abbrev pub FoundAllows : (New → Type 0) → Option (Site × Pick) → Type 0
FoundAllows P None = Unit {0}
FoundAllows P (Some (s, p)) = AllowsNames P (guard_names s.kind)

pub kind_names : (P : New → Type 0) (k : SiteKind) → AllowsKind P k → AllowsNames P (guard_names k)
kind_names P (sites.Literal width signed) h = λ name (c : Contains [] name). absurd (omega (arith, c.1))
kind_names P (sites.Guard owner extent names) h = h
kind_names P (sites.Overwrite owner target width now names) h = h.0

pub found_allows : (P : New → Type 0) (test : Site → Bool) (ss : List Site) (ps : List Pick) → AllowsSites P ss → FoundAllows P (find_pick test ss ps)
unfolding find_pick AllowsSites
found_allows P test [] ps h = tt
found_allows P test (s ∷ ss) [] h = tt
found_allows P test (s ∷ ss) (p ∷ ps) h = by_test (test s) (found_allows P test ss ps h.1)
  where
    by_test : (t : Bool) → FoundAllows P (find_pick test ss ps) → FoundAllows P (if t then Some (s, p) else find_pick test ss ps)
    by_test true r = kind_names P s.kind h.0
    by_test false r = r

module _ (P : New → Type 0) (ss : List Site) (k : Allows P ss) where
  literal_makes : (found : Option (Site × Pick)) (token : ℕ) (n : Number) → Makes P (literal_pieces found n) (Digits n ∷ []) (spell (new_literal found token n))
  unfolding spell
  literal_makes None token n = keep (Digits n) (none P)
  literal_makes (Some (s, p)) token n = by_switch p.on
    where
      by_switch : (on : Bool) →
          Makes P (if on then Replaced (Digits n) (lex.new_literal n.width n.signed (p.value % 2 ^ n.width)) ∷ [] else Kept (Digits n) ∷ []) (Digits n ∷ [])
          (spell (if on then Literal fresh (number_with n p.value) else Literal token n))
      by_switch true = replace (Digits n) (lex.new_literal n.width n.signed (p.value % 2 ^ n.width)) (λ h. k.literals n.width n.signed (p.value % 2 ^ n.width) h.0 h.1 (mod_below p.value (2 ^ n.width) (pow_pos n.width)))
      by_switch false = keep (Digits n) (none P)

  bracketed_makes : {xs : List Piece} {a b : List Word} → Makes P xs a b → Makes P (bracketed xs) a (Marked mark_open_parenthesis ∷ (b ++ (Marked mark_close_parenthesis ∷ [])))
  bracketed_makes x = put (new_mark mark_open_parenthesis) (k.marks 0 (omega arith)) (after (new_mark mark_close_parenthesis ∷ []) (k.marks 1 (omega arith), tt) x)

  guarded_makes : (form : ℕ) (name : List ℕ) (xs : List Piece) (a : List Word) (t : Tree) → ((form == 0) ≡ false → P (new_name name)) → Makes P xs a (spell t) → Makes P (guarded_pieces form name xs) a (spell (guarded form name t))
  unfolding spell
  guarded_makes form name xs a t h x = by_form (form == 0) (form == 1) (form == 2) (form == 3) h
    where
      joined : (mark : ℕ) → mark < 45 → P (new_name name) → Makes P (bracketed xs ++ puts (new_mark mark ∷ (new_name name ∷ []))) a (spell (Binary mark (Paren t) (named name)))
      joined mark l n = after (new_mark mark ∷ (new_name name ∷ [])) (k.marks mark l, (n, tt)) (bracketed_makes x)

      joined_not : (mark : ℕ) → mark < 45 → P (new_name name) → Makes P (bracketed xs ++ puts (new_mark mark ∷ negated_name name)) a (spell (Binary mark (Paren t) (negated (named name))))
      joined_not mark l n = after (new_mark mark ∷ negated_name name) (k.marks mark l, (k.marks mark_not (omega arith), (n, tt))) (bracketed_makes x)

      by_form : (c0 c1 c2 c3 : Bool) → (c0 ≡ false → P (new_name name)) →
          Makes P
          (if c0 then Put (new_mark mark_not) ∷ bracketed xs
          else if c1 then bracketed xs ++ puts (new_mark mark_logical_and ∷ (new_name name ∷ []))
          else if c2 then bracketed xs ++ puts (new_mark mark_logical_and ∷ negated_name name)
          else if c3 then bracketed xs ++ puts (new_mark mark_logical_or ∷ (new_name name ∷ []))
          else bracketed xs ++ puts (new_mark mark_logical_or ∷ negated_name name))
          a
          (spell (if c0 then negated (Paren t) else if c1 then Binary mark_logical_and (Paren t) (named name) else if c2 then Binary mark_logical_and (Paren t) (negated (named name)) else if c3 then Binary mark_logical_or (Paren t) (named name) else Binary mark_logical_or (Paren t) (negated (named name))))
      by_form true c1 c2 c3 p = put (new_mark mark_not) (k.marks mark_not (omega arith)) (bracketed_makes x)
      by_form false true c2 c3 p = joined mark_logical_and (omega arith) (p refl)
      by_form false false true c3 p = joined_not mark_logical_and (omega arith) (p refl)
      by_form false false false true p = joined mark_logical_or (omega arith) (p refl)
      by_form false false false false p = joined_not mark_logical_or (omega arith) (p refl)

  test_makes : (found : Option (Site × Pick)) (xs : List Piece) (a : List Word) (t : Tree) → FoundAllows P found → Makes P xs a (spell t) → Makes P (test_pieces found xs) a (spell (new_test found t))
  test_makes None xs a t h x = x
  test_makes (Some (s, p)) xs a t h x = by_switch p.on
    where
      by_switch : (on : Bool) →
          Makes P (if on then guarded_pieces (picked_form (guard_names s.kind) p.form) (picked_name (guard_names s.kind) p.name) xs else xs) a
          (spell (if on then guarded (picked_form (guard_names s.kind) p.form) (picked_name (guard_names s.kind) p.name) t else t))
      by_switch true = guarded_makes (picked_form (guard_names s.kind) p.form) (picked_name (guard_names s.kind) p.name) xs a t (λ e. h (picked_name (guard_names s.kind) p.name) (picked_is_one (guard_names s.kind) p.form p.name e)) x
      by_switch false = x

  module _ (ps : List Pick) where
    mutual
      unfolding spell tree_pieces instance_tree

      pub tree_makes : (t : Tree) → Makes P (tree_pieces ss ps t) (spell t) (spell (instance_tree ss ps t))
      tree_makes (Name token x) = keep (Named x) (none P)
      tree_makes (Literal token n) = literal_makes (find_pick (is_literal_at token) ss ps) token n
      tree_makes (Bit token x i) = words P (spell (Bit token x i))
      tree_makes (Part token x l r) = words P (spell (Part token x l r))
      tree_makes (Indexed token x f n up) = words P (spell (Indexed token x f n up))
      tree_makes (Unary op t) = keep (Marked op) (tree_makes t)
      tree_makes (Binary op l r) = by_kind (takes_constants (get_or infixes op Either)) (tree_makes l) (tree_makes r)
        where
          by_kind : (c : Bool) → Makes P (tree_pieces ss ps l) (spell l) (spell (instance_tree ss ps l)) → Makes P (tree_pieces ss ps r) (spell r) (spell (instance_tree ss ps r)) →
              Makes P (if c then kept (spell (Binary op l r)) else tree_pieces ss ps l ++ (Kept (Marked op) ∷ tree_pieces ss ps r)) (spell (Binary op l r))
              (spell (if c then Binary op l r else Binary op (instance_tree ss ps l) (instance_tree ss ps r)))
          by_kind true x y = words P (spell (Binary op l r))
          by_kind false x y = join x (keep (Marked op) y)
      tree_makes (Cond a b c) =
          join (test_makes (find_pick (is_guard_of a) ss ps) (tree_pieces ss ps a) (spell a) (instance_tree ss ps a) (found_allows P (is_guard_of a) ss ps k.sites) (tree_makes a))
          (keep (Marked mark_question) (join (tree_makes b) (keep (Marked mark_colon) (tree_makes c))))
      tree_makes (Concat ts) = keep (Marked mark_open_brace) (join (parts_make ts) (keep (Marked mark_close_brace) (none P)))
      tree_makes (Repeat n ts) =
          keep (Marked mark_open_brace)
          (join (words P (spell n)) (keep (Marked mark_open_brace) (join (parts_make ts) (keep (Marked mark_close_brace) (keep (Marked mark_close_brace) (none P))))))
      tree_makes (Cast signed t) = keep (System (cond signed (codes "signed") (codes "unsigned"))) (keep (Marked mark_open_parenthesis) (join (tree_makes t) (keep (Marked mark_close_parenthesis) (none P))))
      tree_makes (Paren t) = keep (Marked mark_open_parenthesis) (join (tree_makes t) (keep (Marked mark_close_parenthesis) (none P)))

      pub parts_make : (ts : Trees) → Makes P (part_pieces ss ps ts) (spell_parts ts) (spell_parts (instance_parts ss ps ts))
      parts_make End = none P
      parts_make (More t ts) = join (tree_makes t) (more_make ts)

      pub more_make : (ts : Trees) → Makes P (more_pieces ss ps ts) (spell_more ts) (spell_more (instance_parts ss ps ts))
      more_make End = none P
      more_make (More t ts) = keep (Marked mark_comma) (join (tree_makes t) (more_make ts))

    pub condition_makes : (t : Tree) → Makes P (condition_pieces ss ps t) (spell t) (spell (instance_test ss ps t))
    condition_makes t = test_makes (find_pick (is_guard_of t) ss ps) (tree_pieces ss ps t) (spell t) (instance_tree ss ps t) (found_allows P (is_guard_of t) ss ps k.sites) (tree_makes t)
