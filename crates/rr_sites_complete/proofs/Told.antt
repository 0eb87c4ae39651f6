-- What stands inside a tree is spelled among its words.
use Rattle.std.proofs.Common.{◌≡◌, ℕ, ◌+◌, Bool, List, [], ◌∷◌, ◌++◌, length, sym, subst, ap, ◌∙◌, arith, append_assoc, length-append}
use Rattle.rr_syntax.specs.Expressions.{spell, spell_parts, spell_more, WellFormed, WellFormedParts, WellFormedMore, Numbered, NumberedMore}
use Rattle.rr_syntax.specs.Statements.{spell_label, spell_labels, spell_loop, spell_statement, spell_statements, spell_arm, spell_arms, WellFormedStatement, WellFormedStatements, WellFormedArm, WellFormedArms, NumberedLabels, NumberedStatement, NumberedStatements, NumberedArm, NumberedArms}
use Rattle.rr_syntax.specs.Tree.{Tree, Trees, End, More, Statement, Statements, Arm, Arms, Case}
use Rattle.rr_syntax.specs.Words.{Word}
use Rattle.rr_sites_complete.specs.Inside.{IsPart, first_part, later_part, IsOneOf, first_statement, later_statement, IsArm, first_arm, later_arm, IsInside, itself, operand, left, right, condition, where_true, where_false, in_concatenation, in_replication, in_cast, in_brackets, StandsIn, itself_whole, in_block, in_if, in_true, in_false, in_case, in_loop}
use Rattle.rr_sites_complete.specs.Places.{IsCondition, of_if, of_if_else, StandsAt, as_condition, as_selector, as_label, as_right_side}
use Rattle.rr_sites_complete.specs.Spelled.{StandAt}

module _ (ws : List Word) where
  pub to : (part : List Word) (a b : ℕ) → a ≡ b → StandAt ws a part → StandAt ws b part
  to part a b e h = subst (λ (n : ℕ). StandAt ws n part) e h

  pub front : (a b : List Word) (at : ℕ) → StandAt ws at (a ++ b) → StandAt ws at a
  front a b at h = record { before = h.before; after = b ++ h.after; count = h.count; are = h.are ∙ ap (λ l. h.before ++ l) (append_assoc a b h.after) }

  pub back : (a b : List Word) (at : ℕ) → StandAt ws at (a ++ b) → StandAt ws (at + length a) b
  back a b at h = record {
    before = h.before ++ a;
    after = h.after;
    count = let e = length-append h.before a in let c = h.count in omega (arith, e, c);
    are = h.are ∙ (ap (λ l. h.before ++ l) (append_assoc a b h.after) ∙ sym (append_assoc h.before a (b ++ h.after)));
  }

  pub next : (w : Word) (part : List Word) (at : ℕ) → StandAt ws at (w ∷ part) → StandAt ws (at + 1) part
  next w part at h = back (w ∷ []) part at h

  pub second : (v w : Word) (part : List Word) (at : ℕ) → StandAt ws at (v ∷ (w ∷ part)) → StandAt ws (at + 2) part
  second v w part at h = back (v ∷ (w ∷ [])) part at h

  -- Expressions

  pub record Told (e : Tree) : Type 0 where
    pub at : ℕ
    pub formed : WellFormed e
    pub numbered : Numbered e at
    pub spelled : StandAt ws at (spell e)

  -- `at` is the number of the mark before the first
  more_told : {t : Tree} {ts : Trees} → IsPart t ts → (at : ℕ) → WellFormedMore ts → NumberedMore ts at → StandAt ws at (spell_more ts) → Told t
  unfolding spell WellFormed Numbered
  more_told {t} (first_part {ts}) at w n h = record { at = at + 1; formed = w.0; numbered = n.0; spelled = front (spell t) (spell_more ts) (at + 1) (next _ (spell t ++ spell_more ts) at h) }
  more_told (later_part {u} {ts} p) at w n h = more_told p (at + 1 + length (spell u)) w.1 n.1 (back (spell u) (spell_more ts) (at + 1) (next _ (spell u ++ spell_more ts) at h))

  pub parts_told : {t : Tree} {ts : Trees} → IsPart t ts → (at : ℕ) → WellFormedMore ts → NumberedMore ts at → StandAt ws (at + 1) (spell_parts ts) → Told t
  unfolding spell WellFormed Numbered
  parts_told {t} (first_part {ts}) at w n h = record { at = at + 1; formed = w.0; numbered = n.0; spelled = front (spell t) (spell_more ts) (at + 1) h }
  parts_told (later_part {u} {ts} p) at w n h = more_told p (at + 1 + length (spell u)) w.1 n.1 (back (spell u) (spell_more ts) (at + 1) h)

  some_more : (ts : Trees) → WellFormedParts ts → WellFormedMore ts
  unfolding WellFormed
  some_more End w = absurd w
  some_more (More t ts) w = (w.0, w.1)

  pub inside_told : {e t : Tree} → IsInside e t → (at : ℕ) → WellFormed t → Numbered t at → StandAt ws at (spell t) → Told e
  unfolding spell WellFormed Numbered
  inside_told itself at w n h = record { at = at; formed = w; numbered = n; spelled = h }
  inside_told (operand {t} i) at w n h = inside_told i (at + 1) w.1 n (next _ (spell t) at h)
  inside_told (left {t} {u} e i) at w n h = inside_told i at w.1 n.0 (front (spell t) _ at h)
  inside_told (right {t} {u} e i) at w n h = inside_told i (at + length (spell t) + 1) w.2 n.1 (next _ (spell u) (at + length (spell t)) (back (spell t) _ at h))
  inside_told (condition {c} i) at w n h = inside_told i at w.0 n.0 (front (spell c) _ at h)
  inside_told (where_true {c} {t} {u} i) at w n h =
      let k = next _ _ (at + length (spell c)) (back (spell c) _ at h) in inside_told i (at + length (spell c) + 1) w.1 n.1 (front (spell t) _ (at + length (spell c) + 1) k)
  inside_told (where_false {c} {t} {u} i) at w n h =
      let k = next _ _ (at + length (spell c)) (back (spell c) _ at h) in
      let mid = at + length (spell c) + 1 in
      inside_told i (mid + length (spell t) + 1) w.2 n.2 (next _ (spell u) (mid + length (spell t)) (back (spell t) _ mid k))
  inside_told (in_concatenation {ts} p i) at w n h =
      let r = parts_told p at (some_more ts w) n (front (spell_parts ts) _ (at + 1) (next _ _ at h)) in inside_told i r.at r.formed r.numbered r.spelled
  inside_told (in_replication {count} {ts} p i) at w n h =
      let mid = at + 1 + length (spell count) in
      let r = parts_told p mid (some_more ts w.1) n.1 (front (spell_parts ts) _ (mid + 1) (next _ _ mid (back (spell count) _ (at + 1) (next _ _ at h)))) in
      inside_told i r.at r.formed r.numbered r.spelled
  inside_told (in_cast {t} i) at w n h = inside_told i (at + 2) w n (front (spell t) _ (at + 2) (second _ _ _ at h))
  inside_told (in_brackets {t} i) at w n h = inside_told i (at + 1) w n (front (spell t) _ (at + 1) (next _ _ at h))

  -- Statements

  pub record ToldStatement (s : Statement) : Type 0 where
    pub at : ℕ
    pub formed : WellFormedStatement s
    pub numbered : NumberedStatement s at
    pub spelled : StandAt ws at (spell_statement s)

  one_told : {t : Statement} {ts : Statements} → IsOneOf t ts → (at : ℕ) → WellFormedStatements ts → NumberedStatements ts at → StandAt ws at (spell_statements ts) → ToldStatement t
  unfolding spell_statement WellFormedStatement NumberedStatement
  one_told {t} (first_statement {ts}) at w n h = record { at = at; formed = w.0; numbered = n.0; spelled = front (spell_statement t) (spell_statements ts) at h }
  one_told (later_statement {u} {ts} p) at w n h = one_told p (at + length (spell_statement u)) w.1 n.1 (back (spell_statement u) (spell_statements ts) at h)

  record ToldArm (a : Arm) : Type 0 where
    at : ℕ
    formed : WellFormedArm a
    numbered : NumberedArm a at
    spelled : StandAt ws at (spell_arm a)

  arm_told : {a : Arm} {arms : Arms} → IsArm a arms → (at : ℕ) → WellFormedArms arms → NumberedArms arms at → StandAt ws at (spell_arms arms) → ToldArm a
  unfolding spell_statement WellFormedStatement NumberedStatement
  arm_told {a} (first_arm {rest}) at w n h = record { at = at; formed = w.0; numbered = n.0; spelled = front (spell_arm a) (spell_arms rest) at h }
  arm_told (later_arm {b} {rest} p) at w n h = arm_told p (at + length (spell_arm b)) w.1 n.1 (back (spell_arm b) (spell_arms rest) at h)

  -- the arms of a `case`
  arms_of : (kind : ℕ) (on : Tree) (arms : Arms) (at : ℕ) → NumberedStatement (Case kind on arms) at → StandAt ws at (spell_statement (Case kind on arms)) →
      (mid : ℕ) × NumberedArms arms mid × StandAt ws mid (spell_arms arms)
  unfolding spell_statement NumberedStatement
  arms_of kind on arms at n h =
      let mid = at + 2 + length (spell on) + 1 in (mid, n.1, front (spell_arms arms) _ mid (next _ _ (at + 2 + length (spell on)) (back (spell on) _ (at + 2) (second _ _ _ at h))))

  pub statement_told : {s t : Statement} → StandsIn s t → (at : ℕ) → WellFormedStatement t → NumberedStatement t at → StandAt ws at (spell_statement t) → ToldStatement s
  unfolding spell_statement WellFormedStatement NumberedStatement
  statement_told itself_whole at w n h = record { at = at; formed = w; numbered = n; spelled = h }
  statement_told (in_block {label} {ts} p d) at w n h =
      let mid = at + 1 + length (spell_label label) in
      let r = one_told p mid w n.1 (front (spell_statements ts) _ mid (back (spell_label label) _ (at + 1) (next _ _ at h))) in
      statement_told d r.at r.formed r.numbered r.spelled
  statement_told (in_if {c} {t} d) at w n h =
      let mid = at + 2 + length (spell c) + 1 in statement_told d mid w.1 n.1 (next _ (spell_statement t) (at + 2 + length (spell c)) (back (spell c) _ (at + 2) (second _ _ _ at h)))
  statement_told (in_true {c} {t} {u} d) at w n h =
      let mid = at + 2 + length (spell c) + 1 in
      statement_told d mid w.1 n.1 (front (spell_statement t) _ mid (next _ _ (at + 2 + length (spell c)) (back (spell c) _ (at + 2) (second _ _ _ at h))))
  statement_told (in_false {c} {t} {u} d) at w n h =
      let mid = at + 2 + length (spell c) + 1 in
      let k = next _ _ (at + 2 + length (spell c)) (back (spell c) _ (at + 2) (second _ _ _ at h)) in
      statement_told d (mid + length (spell_statement t) + 1) w.3 n.2 (next _ (spell_statement u) (mid + length (spell_statement t)) (back (spell_statement t) _ mid k))
  statement_told (in_case {kind} {on} {labels} {colon} {t} {arms} a d) at w n h =
      let k = arms_of kind on arms at n h in
      let r = arm_told a k.0 w.3 k.1 k.2 in
      statement_told d (r.at + length (spell_labels labels colon)) r.formed.2 r.numbered.1 (back (spell_labels labels colon) (spell_statement t) r.at r.spelled)
  statement_told (in_loop {head} {t} d) at w n h =
      statement_told d (at + 1 + length (spell_loop head)) w.1 n.1 (back (spell_loop head) (spell_statement t) (at + 1) (next _ (spell_loop head ++ spell_statement t) at h))

  label_told : {e : Tree} {labels : Trees} → IsPart e labels → (colon : Bool) (at : ℕ) → WellFormedMore labels → NumberedLabels labels at → StandAt ws at (spell_labels labels colon) → Told e
  unfolding spell WellFormed spell_labels NumberedLabels
  label_told {e} (first_part {ts}) colon at w n h = record { at = at; formed = w.0; numbered = n.0; spelled = front (spell e) (spell_more ts) at (front (spell e ++ spell_more ts) _ at h) }
  label_told (later_part {u} {ts} p) colon at w n h = more_told p (at + length (spell u)) w.1 n.1 (back (spell u) (spell_more ts) at (front (spell u ++ spell_more ts) _ at h))

  -- the condition of an `if`, and any place of a statement
  pub condition_told : {e : Tree} {body : Statement} → IsCondition e body → (at : ℕ) → WellFormedStatement body → NumberedStatement body at → StandAt ws at (spell_statement body) → Told e
  unfolding spell_statement WellFormedStatement NumberedStatement
  condition_told {e} (of_if {t} d) at w n h =
      let r = statement_told d at w n h in record { at = r.at + 2; formed = r.formed.0; numbered = r.numbered.0; spelled = front (spell e) _ (r.at + 2) (second _ _ _ r.at r.spelled) }
  condition_told {e} (of_if_else {t} {u} d) at w n h =
      let r = statement_told d at w n h in record { at = r.at + 2; formed = r.formed.0; numbered = r.numbered.0; spelled = front (spell e) _ (r.at + 2) (second _ _ _ r.at r.spelled) }

  pub place_told : {e : Tree} {body : Statement} → StandsAt e body → (at : ℕ) → WellFormedStatement body → NumberedStatement body at → StandAt ws at (spell_statement body) → Told e
  unfolding spell_statement WellFormedStatement NumberedStatement
  place_told (as_condition d) at w n h = condition_told d at w n h
  place_told {e} (as_selector {kind} {arms} d) at w n h =
      let r = statement_told d at w n h in record { at = r.at + 2; formed = r.formed.1; numbered = r.numbered.0; spelled = front (spell e) _ (r.at + 2) (second _ _ _ r.at r.spelled) }
  place_told {e} (as_label {kind} {on} {arms} {labels} {colon} {t} d a p) at w n h =
      let r = statement_told d at w n h in
      let k = arms_of kind on arms r.at r.numbered r.spelled in
      let q = arm_told a k.0 r.formed.3 k.1 k.2 in
      label_told p colon q.at q.formed.0 q.numbered.0 (front (spell_labels labels colon) (spell_statement t) q.at q.spelled)
  place_told {e} (as_right_side {target} {now} d) at w n h =
      let r = statement_told d at w n h in
      let mid = r.at + length (spell target) + 1 in
      record { at = mid; formed = r.formed.2; numbered = r.numbered.1; spelled = front (spell e) _ mid (next _ _ (r.at + length (spell target)) (back (spell target) _ r.at r.spelled)) }
