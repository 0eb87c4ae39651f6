-- The pieces of statements lift, and those of the bodies of `always`.
use Rattle.std.proofs.Common.{◌≡◌, ℕ, ◌+◌, ◌&&◌, ◌%◌, ◌^◌, Bool, true, false, cond, if◌then◌else◌, List, [], ◌∷◌, length, Option, Some, None, unwrap_or, refl, ◌∙◌, ap, subst, arith}
use Rattle.std.proofs.lemmas.Bool.{eqb-true}
use Rattle.rr_syntax.specs.Words.{Word, Reserved, Marked, keyword_begin, keyword_else, keyword_end, keyword_endcase, keyword_for, keyword_if, mark_open_parenthesis, mark_close_parenthesis, mark_colon, mark_semicolon, mark_equals, mark_less_or_equal}
use Rattle.rr_syntax.specs.Tree.{Trees, End, More, Statement, Statements, Arm, Arms, Null, Block, If, IfElse, Case, Assign, For, Done, Then, CaseItem, NoArms, MoreArms}
use Rattle.rr_syntax.specs.Expressions.{spell, WellFormed, WellFormedMore}
use Rattle.rr_syntax.specs.Statements.{spell_label, spell_labels, spell_loop, spell_statement, spell_statements, spell_arm, spell_arms, WellFormedStatement, WellFormedStatements, WellFormedArm, WellFormedArms, NumberedLabels, NumberedStatement, NumberedStatements, NumberedArm, NumberedArms}
use Rattle.rr_lex.specs.Patch.{new_literal, new_keyword}
use Rattle.rr_choice.specs.declared.pick.Pick.{Pick}
use Rattle.rr_choice.specs.Sites as sites
use Rattle.rr_choice.specs.Sites.{SiteKind, Site}
use Rattle.rr_choice.specs.Choices.{picked_form, picked_name}
use Rattle.rr_choice.specs.Places.{is_overwrite_at}
use Rattle.rr_instance.specs.Firsts.{told, first_token}
use Rattle.rr_instance_laws.specs.Laws.{Tells}
use Rattle.rr_instance_laws.proofs.FirstLaws.{told_is}
use Rattle.rr_respell.specs.Pieces.{Piece}
use Rattle.rr_respell.specs.Printing.{tree_pieces, label_pieces, statement_pieces, statements_pieces, arm_pieces, arms_pieces, gate_words, last_assignment, overwritten_pieces, new_body_pieces, all_overwritten_pieces, body_pieces}
use Rattle.rr_kept.proofs.Lifting.{Lifts, none, from, keep, join, put, words, after}
use Rattle.rr_kept.proofs.TreesLift.{Allows, AllAllow, tree_lifts, more_lift, condition_lifts}

module _ (T P : ℕ → Type 0) (size : ℕ → ℕ) where
  module _ (ss : List Site) (allow : AllAllow T P size ss) (ps : List Pick) where
    labels_lift : (labels : Trees) (colon : Bool) (at : ℕ) → WellFormedMore labels → NumberedLabels labels at → Lifts T P at (label_pieces ss ps labels colon) (spell_labels labels colon)
    unfolding label_pieces spell_labels NumberedLabels tree_pieces spell WellFormed
    labels_lift End colon at w n = words (spell_labels End colon)
    labels_lift (More t ts) colon at w n =
        join (join (tree_lifts T P size ss allow ps t at w.0 n.0) (more_lift T P size ss allow ps ts (at + length (spell t)) w.1 n.1)) (keep (Marked mark_colon) none)

    mutual
      unfolding spell_statement statement_pieces WellFormedStatement NumberedStatement

      pub statement_lifts : (t : Statement) (at : ℕ) → WellFormedStatement t → NumberedStatement t at → Lifts T P at (statement_pieces ss ps t) (spell_statement t)
      statement_lifts Null at w n = keep (Marked mark_semicolon) none
      statement_lifts (Block label ts) at w n =
          keep (Reserved keyword_begin) (join (words (spell_label label)) (join (statements_lift ts (at + 1 + length (spell_label label)) w n.1) (keep (Reserved keyword_end) none)))
      statement_lifts (If c t) at w n =
          keep (Reserved keyword_if)
          (keep (Marked mark_open_parenthesis)
          (from (omega arith)
          (join (condition_lifts T P size ss allow ps c (at + 2) w.0 n.0) (keep (Marked mark_close_parenthesis) (statement_lifts t (at + 2 + length (spell c) + 1) w.1 n.1)))))
      statement_lifts (IfElse c t u) at w n =
          keep (Reserved keyword_if)
          (keep (Marked mark_open_parenthesis)
          (from (omega arith)
          (join (condition_lifts T P size ss allow ps c (at + 2) w.0 n.0)
          (keep (Marked mark_close_parenthesis)
          (join (statement_lifts t (at + 2 + length (spell c) + 1) w.1 n.1)
          (keep (Reserved keyword_else) (statement_lifts u (at + 2 + length (spell c) + 1 + length (spell_statement t) + 1) w.3 n.2)))))))
      statement_lifts (Case kind on arms) at w n =
          keep (Reserved kind)
          (keep (Marked mark_open_parenthesis)
          (from (omega arith)
          (join (tree_lifts T P size ss allow ps on (at + 2) w.1 n.0)
          (keep (Marked mark_close_parenthesis) (join (arms_lift arms (at + 2 + length (spell on) + 1) w.3 n.1) (keep (Reserved keyword_endcase) none))))))
      statement_lifts (Assign t now e) at w n =
          join (words (spell t))
          (keep (Marked (cond now mark_equals mark_less_or_equal)) (join (tree_lifts T P size ss allow ps e (at + length (spell t) + 1) w.2 n.1) (keep (Marked mark_semicolon) none)))
      statement_lifts (For h t) at w n =
          keep (Reserved keyword_for) (join (words (spell_loop h)) (statement_lifts t (at + 1 + length (spell_loop h)) w.1 n.1))

      pub statements_lift : (ts : Statements) (at : ℕ) → WellFormedStatements ts → NumberedStatements ts at → Lifts T P at (statements_pieces ss ps ts) (spell_statements ts)
      statements_lift Done at w n = none
      statements_lift (Then t ts) at w n = join (statement_lifts t at w.0 n.0) (statements_lift ts (at + length (spell_statement t)) w.1 n.1)

      arm_lifts : (a : Arm) (at : ℕ) → WellFormedArm a → NumberedArm a at → Lifts T P at (arm_pieces ss ps a) (spell_arm a)
      arm_lifts (CaseItem labels colon t) at w n = join (labels_lift labels colon at w.0 n.0) (statement_lifts t (at + length (spell_labels labels colon)) w.2 n.1)

      pub arms_lift : (arms : Arms) (at : ℕ) → WellFormedArms arms → NumberedArms arms at → Lifts T P at (arms_pieces ss ps arms) (spell_arms arms)
      arms_lift NoArms at w n = none
      arms_lift (MoreArms a rest) at w n = join (arm_lifts a at w.0 n.0) (arms_lift rest (at + length (spell_arm a)) w.1 n.1)

  module _ (token : ℕ) {k : ℕ} {a : List Word} (begins : P token → P k) (ends : P token → P (token + size token) → P (k + length a)) where
    overwritten_lifts : (kind : SiteKind) (own : ℕ) (p : Pick) (xs : List Piece) → is_overwrite_at token (record { kind = kind; token = own }) ≡ true → Allows T P size own kind →
        Lifts T P k xs a → Lifts T P k (overwritten_pieces kind p xs) a
    overwritten_lifts (sites.Literal width signed) own p xs e h x = x
    overwritten_lifts (sites.Guard owner extent names) own p xs e h x = x
    overwritten_lifts (sites.Overwrite owner target width now names) own p xs e h x =
        let q = eqb-true own token e in
        let b : P token = subst P q h.0 in
        let f : P (token + size token) = subst (λ n. P (n + size n)) q h.1 in
        put (new_keyword keyword_begin) (begins b)
        (after (last_assignment (gate_words (picked_form names p.form) (picked_name names p.name)) target now (new_literal width false (p.value % 2 ^ width))) (ends b f) x)

    overwritten_more : (s : Site) (p : Pick) (xs : List Piece) → Allows T P size s.token s.kind → Lifts T P k xs a → Lifts T P k (new_body_pieces token s p xs) a
    overwritten_more s p xs h x = by_test (is_overwrite_at token s) refl p.on
      where
        by_test : (c : Bool) → is_overwrite_at token s ≡ c → (on : Bool) → Lifts T P k (if c && on then overwritten_pieces s.kind p xs else xs) a
        by_test true e true = overwritten_lifts s.kind s.token p xs e h x
        by_test true e false = x
        by_test false e on = x

    all_overwritten_lift : (list : List Site) (ps : List Pick) (xs : List Piece) → AllAllow T P size list → Lifts T P k xs a → Lifts T P k (all_overwritten_pieces token list ps xs) a
    unfolding all_overwritten_pieces
    all_overwritten_lift [] ps xs h x = x
    all_overwritten_lift (s ∷ list) [] xs h x = x
    all_overwritten_lift (s ∷ list) (p ∷ ps) xs h x = all_overwritten_lift list ps (new_body_pieces token s p xs) h.1 (overwritten_more s p xs h.0 x)

  -- nothing is put before the first token; and a body tells its first token or nothing, where its sites would have the first of all
  module _ (ss : List Site) (allow : AllAllow T P size ss) (ps : List Pick) (nowhere : P 0 → ⊥) where
    pub body_lifts : (t : Statement) (at : ℕ) → WellFormedStatement t → NumberedStatement t at → size at ≡ length (spell_statement t) → Lifts T P at (body_pieces ss ps (first_token t) t) (spell_statement t)
    body_lifts t at w n e = by_told (told t) refl (told_is t at w n)
      where
        x : Lifts T P at (statement_pieces ss ps t) (spell_statement t)
        x = statement_lifts ss allow ps t at w n

        by_told : (o : Option ℕ) → told t ≡ o → Tells o at → Lifts T P at (all_overwritten_pieces (unwrap_or (told t) 0) ss ps (statement_pieces ss ps t)) (spell_statement t)
        by_told None q h =
            rw q (all_overwritten_lift 0 (λ b. absurd (nowhere b)) (λ b f. absurd (nowhere b)) ss ps (statement_pieces ss ps t) allow x)
        by_told (Some m) q h =
            rw q (all_overwritten_lift m (λ b. subst P h b) (λ b f. subst P (ap (λ i. i + size i) h ∙ ap (λ i. at + i) e) f) ss ps (statement_pieces ss ps t) allow x)
