-- Whatever is well-formed is read: the reading function finds each statement that ends where it ends.
use Rattle.std.proofs.Common.{◌≡◌, ℕ, zero, suc, ◌+◌, ◌≤◌, ◌<◌, List, [], ◌∷◌, ◌++◌, length, refl, ap, ◌∙◌, sym, arith, Bool, true, false, cond, nat_eq, Option, Some, None, length-append, append_assoc}
use Rattle.std.proofs.lemmas.Bool.Decides.{nat_tests, Decides-eqb}
use Rattle.rr_syntax.specs.Words.{Word, Named, Marked, Reserved, keyword_begin, keyword_default, keyword_else, keyword_end, keyword_endcase, keyword_for, keyword_if, mark_open_parenthesis, mark_close_parenthesis, mark_comma, mark_colon, mark_semicolon, mark_equals, mark_less_or_equal}
use Rattle.rr_syntax.specs.Tree.{Tree, Trees, End, More, Identifier, LoopHead, Statement, Statements, Arm, Arms, Null, Block, If, IfElse, Case, Assign, For, Done, Then, CaseItem, NoArms, MoreArms, bare, bare_parts, bare_identifier, bare_label, bare_loop, bare_statement, bare_statements, bare_arm, bare_arms}
use Rattle.rr_syntax.specs.Expressions.{depth, height, WellFormed, WellFormedMore, spell, spell_more, is_target, unary_level}
use Rattle.rr_syntax.specs.Statements.{is_open, spell_label, spell_labels, spell_loop, spell_statement, spell_statements, spell_arm, spell_arms, is_case, HasColon, defaults, HasArms, WellFormedLoop, WellFormedStatement, WellFormedStatements, WellFormedArm, WellFormedArms, depth_loop, depth_statement, height_statements, depth_arm, height_arms}
use Rattle.rr_syntax.proofs.BareExpressions.{is_target-bare}
use Rattle.rr_syntax.proofs.Equations.{spellings, statement_spellings, loop-Head, more-End, more-More, labels-End, statement-Null, arms-NoArms, statements-Done}
use Rattle.rr_parse_expr.specs.Reading.{Found, mark, rest, snoc, reads, nothing}
use Rattle.rr_parse_expr.proofs.Facts.{follow_level, follow-colon, follow-comma}
use Rattle.rr_parse_expr.proofs.Complete.{appended, appended-snoc, appended-End}
use Rattle.rr_parse_stmt.specs.Reading.{keyword, no_word, name, label, snoc_statement, snoc_arm, body, setting, head, labels_after, labels, arms, assigned, statement, arm, below_statement, below_arm, no_statement, no_arm}
use Rattle.rr_parse_stmt.specs.Exact.{Closes}
use Rattle.rr_syntax.proofs.Nonempty.{spell_statement-some, spell_arm-some}
use Rattle.rr_parse_expr.specs.Reading as expressions
use Rattle.rr_parse_stmt.proofs.Steps.{statement-below, body-end, body-next, label-none, label-some, block-some, if-then, then-alone, then-else, setting-some, head-start, start-some, looped-some, labels-end, labels-comma, labels-first, default-colon, default-alone, labelled-some, arm-default, arm-labelled, go_on, arms-step, case-some, assigned-now, assigned-later, assignment-target, by-null, by-begin, by-if, by-for, by-case, by-assignment}
use Rattle.rr_parse_stmt.proofs.Before.{before_mark, closed_before, tested_before, target_before, follow-semicolon, follow-equals, follow-less_or_equal, follow-close, keyword_spell, target_mark}

-- ---- words

pub words-Block : (l : Option Identifier) (ss : Statements) (left : List Word) → spell_statement (Block l ss) ++ left ≡ Reserved keyword_begin ∷ (spell_label l ++ (spell_statements ss ++ (Reserved keyword_end ∷ left)))
words-Block l ss left = simp (statement_spellings, append_assoc)

pub words-If : (t : Tree) (s : Statement) (left : List Word) → spell_statement (If t s) ++ left ≡ Reserved keyword_if ∷ (Marked mark_open_parenthesis ∷ (spell t ++ (Marked mark_close_parenthesis ∷ (spell_statement s ++ left))))
words-If t s left = simp (statement_spellings, append_assoc)

pub words-IfElse : (t : Tree) (s u : Statement) (left : List Word) → spell_statement (IfElse t s u) ++ left ≡ Reserved keyword_if ∷ (Marked mark_open_parenthesis ∷ (spell t ++ (Marked mark_close_parenthesis ∷ (spell_statement s ++ (Reserved keyword_else ∷ (spell_statement u ++ left))))))
words-IfElse t s u left = simp (statement_spellings, append_assoc)

pub words-Case : (kind : ℕ) (t : Tree) (list : Arms) (left : List Word) → spell_statement (Case kind t list) ++ left ≡ Reserved kind ∷ (Marked mark_open_parenthesis ∷ (spell t ++ (Marked mark_close_parenthesis ∷ (spell_arms list ++ (Reserved keyword_endcase ∷ left)))))
words-Case kind t list left = simp (statement_spellings, append_assoc)

pub words-Assign : (t : Tree) (now : Bool) (v : Tree) (left : List Word) → spell_statement (Assign t now v) ++ left ≡ spell t ++ (Marked (cond now mark_equals mark_less_or_equal) ∷ (spell v ++ (Marked mark_semicolon ∷ left)))
words-Assign t now v left = simp (statement_spellings, append_assoc)

pub words-Loop : (h : LoopHead) (left : List Word) → spell_loop h ++ left ≡
    Marked mark_open_parenthesis ∷ (Named h.text ∷ (Marked mark_equals ∷ (spell h.start ++ (Marked mark_semicolon ∷ (spell h.test ++ (Marked mark_semicolon ∷ (Named h.step_text ∷ (Marked mark_equals ∷ (spell h.step ++ (Marked mark_close_parenthesis ∷ left))))))))))
words-Loop h left = simp (loop-Head, append_assoc)

pub words-For : (h : LoopHead) (s : Statement) (left : List Word) → spell_statement (For h s) ++ left ≡ Reserved keyword_for ∷ (spell_loop h ++ (spell_statement s ++ left))
words-For h s left = simp (statement_spellings, append_assoc)

pub words-Arm : (ts : Trees) (c : Bool) (s : Statement) (left : List Word) → spell_arm (CaseItem ts c s) ++ left ≡ spell_labels ts c ++ (spell_statement s ++ left)
words-Arm ts c s left = simp (statement_spellings, append_assoc)

pub words-Then : (s : Statement) (ss : Statements) (left : List Word) → spell_statements (Then s ss) ++ left ≡ spell_statement s ++ (spell_statements ss ++ left)
words-Then s ss left = simp (statement_spellings, append_assoc)

pub words-Arms : (a : Arm) (rest : Arms) (left : List Word) → spell_arms (MoreArms a rest) ++ left ≡ spell_arm a ++ (spell_arms rest ++ left)
words-Arms a rest left = simp (statement_spellings, append_assoc)

-- ---- what stands at the front of a statement

pub record Front (ws : List Word) : Type 0 where
  pub no_colon : nat_eq (mark ws) mark_colon ≡ false
  pub no_end : nat_eq (keyword ws) keyword_end ≡ false
  pub no_else : nat_eq (keyword ws) keyword_else ≡ false
  pub no_endcase : nat_eq (keyword ws) keyword_endcase ≡ false

case_front : (kind : ℕ) → is_case kind ≡ true → (nat_eq kind keyword_end ≡ false) × (nat_eq kind keyword_else ≡ false) × (nat_eq kind keyword_endcase ≡ false)
case_front kind h = (grind (arith, nat_tests), grind (arith, nat_tests), grind (arith, nat_tests))

by_word : (ws : List Word) (k : ℕ) → keyword ws ≡ k → nat_eq (mark ws) mark_colon ≡ false → nat_eq k keyword_end ≡ false → nat_eq k keyword_else ≡ false → nat_eq k keyword_endcase ≡ false → Front ws
by_word ws k e c a b d = record { no_colon = c; no_end = rw e a; no_else = rw e b; no_endcase = rw e d }

statement_front : (s : Statement) → WellFormedStatement s → (left : List Word) → Front (spell_statement s ++ left)
unfolding WellFormedStatement keyword mark
statement_front Null w left = rw statement-Null (by_word (Marked mark_semicolon ∷ left) no_word refl refl refl refl refl)
statement_front (Block l ss) w left = rw words-Block (by_word (Reserved keyword_begin ∷ (spell_label l ++ (spell_statements ss ++ (Reserved keyword_end ∷ left)))) keyword_begin refl refl refl refl refl)
statement_front (If t s) w left = rw words-If (by_word (Reserved keyword_if ∷ (Marked mark_open_parenthesis ∷ (spell t ++ (Marked mark_close_parenthesis ∷ (spell_statement s ++ left))))) keyword_if refl refl refl refl refl)
statement_front (IfElse t s u) w left = rw words-IfElse (by_word (Reserved keyword_if ∷ (Marked mark_open_parenthesis ∷ (spell t ++ (Marked mark_close_parenthesis ∷ (spell_statement s ++ (Reserved keyword_else ∷ (spell_statement u ++ left))))))) keyword_if refl refl refl refl refl)
statement_front (Case kind t list) w left =
    let h = case_front kind w.0 in
    rw words-Case (by_word (Reserved kind ∷ (Marked mark_open_parenthesis ∷ (spell t ++ (Marked mark_close_parenthesis ∷ (spell_arms list ++ (Reserved keyword_endcase ∷ left)))))) kind refl refl h.0 h.1 h.2)
statement_front (Assign t now v) w left =
    let last : List Word = Marked (cond now mark_equals mark_less_or_equal) ∷ (spell v ++ (Marked mark_semicolon ∷ left)) in
    rw words-Assign (by_word (spell t ++ last) no_word (keyword_spell t last) (target_mark t w.0 last).1 refl refl refl)
statement_front (For h s) w left = rw words-For (by_word (Reserved keyword_for ∷ (spell_loop h ++ (spell_statement s ++ left))) keyword_for refl refl refl refl refl)

-- labels begin with `default` or an expression
labels_front : (ts : Trees) (c : Bool) (left : List Word) → (nat_eq (keyword (spell_labels ts c ++ left)) keyword_else ≡ false) × (nat_eq (keyword (spell_labels ts c ++ left)) keyword_endcase ≡ false)
unfolding keyword
labels_front End c left = rw labels-End (refl, refl)
labels_front (More t ts) c left =
    let e : spell_labels (More t ts) c ++ left ≡ spell t ++ ((spell_more ts ++ (Marked mark_colon ∷ [])) ++ left) = simp (statement_spellings, spellings, append_assoc) in
    let k : keyword (spell_labels (More t ts) c ++ left) ≡ no_word = ap keyword e ∙ keyword_spell t ((spell_more ts ++ (Marked mark_colon ∷ [])) ++ left) in
    (rw k refl, rw k refl)

arm_front : (a : Arm) (left : List Word) → (nat_eq (keyword (spell_arm a ++ left)) keyword_else ≡ false) × (nat_eq (keyword (spell_arm a ++ left)) keyword_endcase ≡ false)
arm_front (CaseItem ts c s) left = let h = labels_front ts c (spell_statement s ++ left) in (rw words-Arm h.0, rw words-Arm h.1)

-- ---- a statement ends before what begins with no `else`

closes_by : (s : Statement) (left : List Word) → nat_eq (keyword left) keyword_else ≡ false → Closes s left
closes_by s left e = λ o h. let f : nat_eq (keyword left) keyword_else ≡ true = (Decides-eqb (keyword left) keyword_else).1 h in cc (e, f)

rest_front : (ss : Statements) → WellFormedStatements ss → (left : List Word) → nat_eq (keyword (spell_statements ss ++ (Reserved keyword_end ∷ left))) keyword_else ≡ false
unfolding WellFormedStatement keyword
rest_front Done w left = rw statements-Done refl
rest_front (Then s ss) w left = rw words-Then (statement_front s w.0 (spell_statements ss ++ (Reserved keyword_end ∷ left))).no_else

rest_colon : (ss : Statements) → WellFormedStatements ss → (left : List Word) → nat_eq (mark (spell_statements ss ++ (Reserved keyword_end ∷ left))) mark_colon ≡ false
unfolding WellFormedStatement mark
rest_colon Done w left = rw statements-Done refl
rest_colon (Then s ss) w left = rw words-Then (statement_front s w.0 (spell_statements ss ++ (Reserved keyword_end ∷ left))).no_colon

arms_front : (list : Arms) (left : List Word) → nat_eq (keyword (spell_arms list ++ (Reserved keyword_endcase ∷ left))) keyword_else ≡ false
unfolding keyword
arms_front NoArms left = rw arms-NoArms refl
arms_front (MoreArms a rest) left = rw words-Arms (arm_front a (spell_arms rest ++ (Reserved keyword_endcase ∷ left))).0

-- ---- lists

unfoldable pub joined_statements : Statements → Statements → Statements
joined_statements have Done = have
joined_statements have (Then s ss) = joined_statements (snoc_statement have (bare_statement s)) ss

unfoldable pub appended_statements : Statements → Statements → Statements
appended_statements Done ss = ss
appended_statements (Then s have) ss = Then s (appended_statements have ss)

pub appended_snoc_statement : (have : Statements) (s : Statement) (ss : Statements) → appended_statements (snoc_statement have s) ss ≡ appended_statements have (Then s ss)
unfolding appended_statements snoc_statement
appended_snoc_statement Done s ss = refl
appended_snoc_statement (Then t have) s ss = ap (Then t) (appended_snoc_statement have s ss)

pub appended_Done : (have : Statements) → appended_statements have Done ≡ have
unfolding appended_statements
appended_Done Done = refl
appended_Done (Then t have) = ap (Then t) (appended_Done have)

joined_statements_is : (ss have : Statements) → joined_statements have ss ≡ appended_statements have (bare_statements ss)
unfolding joined_statements bare_statement
joined_statements_is Done have = sym (appended_Done have)
joined_statements_is (Then s ss) have = joined_statements_is ss (snoc_statement have (bare_statement s)) ∙ appended_snoc_statement have (bare_statement s) (bare_statements ss)

joined_statements_all : (ss : Statements) → joined_statements Done ss ≡ bare_statements ss
unfolding appended_statements
joined_statements_all ss = joined_statements_is ss Done

unfoldable pub joined_arms : Arms → Arms → Arms
joined_arms have NoArms = have
joined_arms have (MoreArms a rest) = joined_arms (snoc_arm have (bare_arm a)) rest

unfoldable pub appended_arms : Arms → Arms → Arms
appended_arms NoArms rest = rest
appended_arms (MoreArms a have) rest = MoreArms a (appended_arms have rest)

pub appended_snoc_arm : (have : Arms) (a : Arm) (rest : Arms) → appended_arms (snoc_arm have a) rest ≡ appended_arms have (MoreArms a rest)
unfolding appended_arms snoc_arm
appended_snoc_arm NoArms a rest = refl
appended_snoc_arm (MoreArms b have) a rest = ap (MoreArms b) (appended_snoc_arm have a rest)

pub appended_NoArms : (have : Arms) → appended_arms have NoArms ≡ have
unfolding appended_arms
appended_NoArms NoArms = refl
appended_NoArms (MoreArms b have) = ap (MoreArms b) (appended_NoArms have)

joined_arms_is : (rest have : Arms) → joined_arms have rest ≡ appended_arms have (bare_arms rest)
unfolding joined_arms bare_statement
joined_arms_is NoArms have = sym (appended_NoArms have)
joined_arms_is (MoreArms a rest) have = joined_arms_is rest (snoc_arm have (bare_arm a)) ∙ appended_snoc_arm have (bare_arm a) (bare_arms rest)

joined_arms_all : (rest : Arms) → joined_arms NoArms rest ≡ bare_arms rest
unfolding appended_arms
joined_arms_all rest = joined_arms_is rest NoArms

defaults_snoc : (have : Arms) (a : Arm) → defaults (snoc_arm have a) ≡ defaults have + defaults (MoreArms a NoArms)
unfolding defaults snoc_arm
defaults_snoc NoArms (CaseItem End c s) = refl
defaults_snoc NoArms (CaseItem (More t ts) c s) = refl
defaults_snoc (MoreArms (CaseItem End d u) have) a = omega (arith, defaults_snoc have a)
defaults_snoc (MoreArms (CaseItem (More u us) d v) have) a = defaults_snoc have a

defaults_first : (a : Arm) (rest : Arms) → defaults (MoreArms a rest) ≡ defaults (MoreArms a NoArms) + defaults rest
unfolding defaults
defaults_first (CaseItem End c s) rest = omega arith
defaults_first (CaseItem (More t ts) c s) rest = omega arith

defaults_bare : (a : Arm) → defaults (MoreArms (bare_arm a) NoArms) ≡ defaults (MoreArms a NoArms)
unfolding defaults bare_statement bare
defaults_bare (CaseItem End c s) = refl
defaults_bare (CaseItem (More t ts) c s) = refl

unfoldable pub count_statements : Statements → ℕ
count_statements Done = 0
count_statements (Then s ss) = suc (count_statements ss)

unfoldable pub count_arms : Arms → ℕ
count_arms NoArms = 0
count_arms (MoreArms a rest) = suc (count_arms rest)

count_statements_less : (ss : Statements) → count_statements ss ≤ length (spell_statements ss)
unfolding count_statements
count_statements_less Done = omega arith
count_statements_less (Then s ss) = simp (statement_spellings, length-append) (omega (arith, spell_statement-some s, count_statements_less ss))

count_arms_less : (list : Arms) → count_arms list ≤ length (spell_arms list)
unfolding count_arms
count_arms_less NoArms = omega arith
count_arms_less (MoreArms a rest) = simp (statement_spellings, length-append) (omega (arith, spell_arm-some a, count_arms_less rest))

unfoldable pub count_trees : Trees → ℕ
count_trees End = 0
count_trees (More t ts) = suc (count_trees ts)

count_trees_less : (ts : Trees) → count_trees ts ≤ length (spell_more ts)
unfolding count_trees
count_trees_less End = omega arith
count_trees_less (More t ts) = simp (spellings, length-append) (omega (arith, count_trees_less ts))

unfoldable pub joined_trees : Trees → Trees → Trees
joined_trees have End = have
joined_trees have (More t ts) = joined_trees (snoc have (bare t)) ts

joined_trees_is : (ts have : Trees) → joined_trees have ts ≡ appended have (bare_parts ts)
unfolding joined_trees bare
joined_trees_is End have = sym (appended-End have)
joined_trees_is (More t ts) have = joined_trees_is ts (snoc have (bare t)) ∙ appended-snoc have (bare t) (bare_parts ts)

pub joined_trees_one : (t : Tree) (ts : Trees) → joined_trees (More (bare t) End) ts ≡ bare_parts (More t ts)
unfolding appended bare
joined_trees_one t ts = joined_trees_is ts (More (bare t) End)

pub words-More : (t : Tree) (ts : Trees) (left : List Word) → spell_more (More t ts) ++ left ≡ Marked mark_comma ∷ (spell t ++ (spell_more ts ++ left))
words-More t ts left = simp (spellings, append_assoc)

more_follow : (ts : Trees) (left : List Word) → follow_level (mark (spell_more ts ++ (Marked mark_colon ∷ left))) ≡ 0
unfolding mark
more_follow End left = rw more-End follow-colon
more_follow (More t ts) left = rw more-More follow-comma

-- labels up to their colon
labels_pass : (ts : Trees) → WellFormedMore ts → (k : ℕ) → height ts ≤ suc k → (fuel : ℕ) → count_trees ts < fuel → (have : Trees) (left : List Word) →
    labels_after (reads k) fuel have (spell_more ts ++ (Marked mark_colon ∷ left)) ≡ Some (joined_trees have ts, left)
unfolding WellFormed height count_trees joined_trees mark rest
labels_pass End w k h zero f have left = absurd (omega (arith, f))
labels_pass End w k h (suc n) f have left = rw more-End (labels-end (reads k) n have (Marked mark_colon ∷ left) refl)
labels_pass (More t ts) w k h zero f have left = absurd (omega (arith, f))
labels_pass (More t ts) w k h (suc n) f have left =
    let last : List Word = spell_more ts ++ (Marked mark_colon ∷ left) in
    let e = before_mark t w.0 k (omega (arith, h)) last (more_follow ts left) in
    rw words-More (labels-comma (reads k) n have (Marked mark_comma ∷ (spell t ++ last)) (bare t, last) refl e ∙ labels_pass ts w.1 k (omega (arith, h)) n (omega (arith, f)) (snoc have (bare t)) left)

-- the labels of an arm
labels_read : (t : Tree) (ts : Trees) → WellFormed t → WellFormedMore ts → (k : ℕ) → height (More t ts) ≤ suc k → (left : List Word) →
    labels (reads k) (spell_labels (More t ts) true ++ left) ≡ Some (bare_parts (More t ts), left)
unfolding height
labels_read t ts w v k h left =
    let last : List Word = spell_more ts ++ (Marked mark_colon ∷ left) in
    let q : spell_labels (More t ts) true ++ left ≡ spell t ++ last = simp (statement_spellings, spellings, append_assoc) in
    let e = before_mark t w k (omega (arith, h)) last (more_follow ts left) in
    let f : count_trees ts < suc (length last) = simp length-append (omega (arith, count_trees_less ts)) in
    ap (labels (reads k)) q ∙ labels-first (reads k) (spell t ++ last) (bare t, last) e ∙ labels_pass ts v k (omega (arith, h)) (suc (length last)) f (More (bare t) End) left ∙
    ap (λ (us : Trees). Some (us, left)) (joined_trees_one t ts)

-- the name of a block before its statements
label_read : (l : Option Identifier) (ws : List Word) → nat_eq (mark ws) mark_colon ≡ false → label (spell_label l ++ ws) ≡ Some (bare_label l, ws)
unfolding spell_label bare_label bare_identifier mark rest name
label_read None ws e = label-none ws e
label_read (Some i) ws e = label-some (Marked mark_colon ∷ (Named i.text ∷ ws)) (record { token = 0; text = i.text }, ws) refl refl

no_semicolon : (k : ℕ) (ws : List Word) → nat_eq (mark (Reserved k ∷ ws)) mark_semicolon ≡ false
unfolding mark
no_semicolon k ws = refl

-- which value an assignment has behind its target
assigned_read : (now : Bool) (t v : Tree) → WellFormed v → (k : ℕ) → depth v ≤ k → (left : List Word) →
    assigned (reads k) t (Marked (cond now mark_equals mark_less_or_equal) ∷ (spell v ++ (Marked mark_semicolon ∷ left))) ≡ Some (Assign t now (bare v), left)
unfolding mark rest
assigned_read true t v w k d left = assigned-now (reads k) t (Marked mark_equals ∷ (spell v ++ (Marked mark_semicolon ∷ left))) (bare v, left) refl (closed_before v w k d mark_semicolon follow-semicolon left)
assigned_read false t v w k d left = assigned-later (reads k) t (Marked mark_less_or_equal ∷ (spell v ++ (Marked mark_semicolon ∷ left))) (bare v, left) refl (closed_before v w k d mark_semicolon follow-semicolon left)

assign_follow : (now : Bool) (ws : List Word) → follow_level (mark (Marked (cond now mark_equals mark_less_or_equal) ∷ ws)) < unary_level
unfolding mark
assign_follow true ws = omega (arith, follow-equals)
assign_follow false ws = omega (arith, follow-less_or_equal)

assign_read : (t : Tree) (now : Bool) (v : Tree) → is_target t ≡ true → WellFormed t → WellFormed v → (k : ℕ) → depth t ≤ k → depth v ≤ k → (left : List Word) →
    statement (suc k) (spell_statement (Assign t now v) ++ left) ≡ Some (Assign (bare t) now (bare v), left)
unfolding statement
assign_read t now v h w x k d e left =
    let last : List Word = Marked (cond now mark_equals mark_less_or_equal) ∷ (spell v ++ (Marked mark_semicolon ∷ left)) in
    let ws : List Word = spell t ++ last in
    let m = target_mark t h last in
    let kw : keyword ws ≡ no_word = keyword_spell t last in
    let one = by-assignment (reads k) (statement k) (arm k) ws m.0 (rw kw refl) (rw kw refl) (rw kw refl) (rw kw refl) in
    let et = target_before t w h k d last (assign_follow now (spell v ++ (Marked mark_semicolon ∷ left))) in
    rw words-Assign (one ∙ assignment-target (reads k) ws (bare t, last) et (is_target-bare t ∙ h) ∙ assigned_read now (bare t) v x k e left)

-- a name that is set before a mark
setting_read : (s : List ℕ) (t : Tree) → WellFormed t → (k : ℕ) → depth t ≤ k → (m : ℕ) → follow_level m ≡ 0 → (left : List Word) →
    setting (reads k) m (Named s ∷ (Marked mark_equals ∷ (spell t ++ (Marked m ∷ left)))) ≡ Some (record { text = s; value = bare t }, left)
unfolding mark rest name
setting_read s t w k d m e left =
    let last : List Word = Marked mark_equals ∷ (spell t ++ (Marked m ∷ left)) in
    setting-some (reads k) m (Named s ∷ last) (record { token = 0; text = s }, last) (bare t, left) refl refl (closed_before t w k d m e left)

-- the head of a loop
head_read : (h : LoopHead) → WellFormedLoop h → (k : ℕ) → depth_loop h ≤ k → (left : List Word) → head (reads k) (spell_loop h ++ left) ≡ Some (bare_loop h, left)
unfolding WellFormedLoop depth_loop bare_loop mark rest
head_read h w k d left =
    let third : List Word = Named h.step_text ∷ (Marked mark_equals ∷ (spell h.step ++ (Marked mark_close_parenthesis ∷ left))) in
    let second : List Word = spell h.test ++ (Marked mark_semicolon ∷ third) in
    let all : List Word = Marked mark_open_parenthesis ∷ (Named h.text ∷ (Marked mark_equals ∷ (spell h.start ++ (Marked mark_semicolon ∷ second)))) in
    let a = setting_read h.text h.start w.0 k (omega (arith, d)) mark_semicolon follow-semicolon second in
    let t = closed_before h.test w.1 k (omega (arith, d)) mark_semicolon follow-semicolon third in
    let b = setting_read h.step_text h.step w.2 k (omega (arith, d)) mark_close_parenthesis follow-close left in
    rw words-Loop (head-start (reads k) all (record { text = h.text; value = bare h.start }, second) refl a ∙ start-some (reads k) (record { text = h.text; value = bare h.start }) second (bare h.test, third) (record { text = h.step_text; value = bare h.step }, left) t b)

has_more : (t : Tree) (ts : Trees) (c : Bool) → HasColon (More t ts) c → c ≡ true
has_more t ts c h = h

not_else : (ws : List Word) → (keyword ws ≡ keyword_else → ⊥) → nat_eq (keyword ws) keyword_else ≡ false
not_else ws h = grind (arith, nat_tests)

none_yet : (list : Arms) → HasArms list → defaults NoArms + defaults list ≤ 1
unfolding defaults
none_yet NoArms h = absurd h
none_yet (MoreArms a rest) h = omega (arith, h)

-- at depth 0 a block is empty
empty_body : (ss : Statements) → height_statements ss ≤ 0 → (left : List Word) → body no_statement (suc (length (spell_statements ss ++ (Reserved keyword_end ∷ left)))) Done (spell_statements ss ++ (Reserved keyword_end ∷ left)) ≡ Some (bare_statements ss, left)
unfolding depth_statement bare_statement keyword rest
empty_body Done d left = rw statements-Done (body-end no_statement (length (Reserved keyword_end ∷ left)) Done (Reserved keyword_end ∷ left) refl)
empty_body (Then s ss) d left = absurd (omega (arith, d))

label_word : (t : Tree) (ts : Trees) (last : List Word) → nat_eq (keyword (spell_labels (More t ts) true ++ last)) keyword_default ≡ false
label_word t ts last =
    let e : spell_labels (More t ts) true ++ last ≡ spell t ++ ((spell_more ts ++ (Marked mark_colon ∷ [])) ++ last) = simp (statement_spellings, spellings, append_assoc) in
    let k : keyword (spell_labels (More t ts) true ++ last) ≡ no_word = ap keyword e ∙ keyword_spell t ((spell_more ts ++ (Marked mark_colon ∷ [])) ++ last) in
    rw k refl

arms_begin : (b : Arm) (list : Arms) (left : List Word) → nat_eq (keyword (spell_arms (MoreArms b list) ++ (Reserved keyword_endcase ∷ left))) keyword_endcase ≡ false
arms_begin b list left = rw words-Arms (arm_front b (spell_arms list ++ (Reserved keyword_endcase ∷ left))).1

goes_on_at : (f : Arms → List Word → Found Arms) (have : Arms) (ws : List Word) → nat_eq (keyword ws) keyword_endcase ≡ false → go_on f have ws ≡ f have ws
goes_on_at f have ws e = rw e refl

mutual
  unfolding WellFormedStatement WellFormed height depth_statement bare_statement bare is_open mark rest keyword statement joined_statements joined_arms count_statements count_arms

  pub reads_statement : (s : Statement) → WellFormedStatement s → (n : ℕ) → depth_statement s ≤ n → (left : List Word) → Closes s left → statement n (spell_statement s ++ left) ≡ Some (bare_statement s, left)
  reads_statement Null w n d left c = rw statement-Null (statement-below n (Marked mark_semicolon ∷ left) ∙ by-null (expressions.below n) (below_statement n) (below_arm n) (Marked mark_semicolon ∷ left) refl)
  reads_statement (Block l ss) w zero d left c =
      let last : List Word = spell_statements ss ++ (Reserved keyword_end ∷ left) in
      let e = label_read l last (rest_colon ss w left) in
      let f = empty_body ss d left in
      rw words-Block (by-begin nothing no_statement no_arm (Reserved keyword_begin ∷ (spell_label l ++ last)) refl refl ∙ block-some no_statement (spell_label l ++ last) (bare_label l, last) (bare_statements ss, left) e f)
  reads_statement (Block l ss) w (suc k) d left c =
      let last : List Word = spell_statements ss ++ (Reserved keyword_end ∷ left) in
      let e = label_read l last (rest_colon ss w left) in
      let less : count_statements ss < suc (length last) = simp length-append (omega (arith, count_statements_less ss)) in
      let f = reads_body ss w k d (suc (length last)) less Done left ∙ ap (λ (x : Statements). Some (x, left)) (joined_statements_all ss) in
      rw words-Block (by-begin (reads k) (statement k) (arm k) (Reserved keyword_begin ∷ (spell_label l ++ last)) refl refl ∙ block-some (statement k) (spell_label l ++ last) (bare_label l, last) (bare_statements ss, left) e f)
  reads_statement (If t s) w zero d left c = absurd (omega (arith, d))
  reads_statement (If t s) w (suc k) d left c =
      let after : List Word = spell_statement s ++ left in
      let all : List Word = Marked mark_open_parenthesis ∷ (spell t ++ (Marked mark_close_parenthesis ∷ after)) in
      let apart : nat_eq (keyword left) keyword_else ≡ false = not_else left (c refl) in
      let et = tested_before t w.0 k (omega (arith, d)) after in
      let es = reads_statement s w.1 k (omega (arith, d)) left (λ o. c refl) in
      rw words-If (by-if (reads k) (statement k) (arm k) (Reserved keyword_if ∷ all) refl refl ∙ if-then (reads k) (statement k) all (bare t, after) (bare_statement s, left) et es ∙ then-alone (statement k) (bare t) (bare_statement s) left apart)
  reads_statement (IfElse t s u) w zero d left c = absurd (omega (arith, d))
  reads_statement (IfElse t s u) w (suc k) d left c =
      let more : List Word = Reserved keyword_else ∷ (spell_statement u ++ left) in
      let after : List Word = spell_statement s ++ more in
      let all : List Word = Marked mark_open_parenthesis ∷ (spell t ++ (Marked mark_close_parenthesis ∷ after)) in
      let et = tested_before t w.0 k (omega (arith, d)) after in
      let es = reads_statement s w.1 k (omega (arith, d)) more (λ o. absurd (let b : true ≡ false = sym o ∙ w.2 in cc (b))) in
      let eu = reads_statement u w.3 k (omega (arith, d)) left c in
      rw words-IfElse (by-if (reads k) (statement k) (arm k) (Reserved keyword_if ∷ all) refl refl ∙ if-then (reads k) (statement k) all (bare t, after) (bare_statement s, more) et es ∙ then-else (statement k) (bare t) (bare_statement s) more (bare_statement u, left) refl eu)
  reads_statement (Case kind t NoArms) w n d left c = absurd w.2
  reads_statement (Case kind t (MoreArms a list)) w zero d left c = absurd (omega (arith, d))
  reads_statement (Case kind t (MoreArms a list)) w (suc k) d left c =
      let after : List Word = spell_arms (MoreArms a list) ++ (Reserved keyword_endcase ∷ left) in
      let all : List Word = Marked mark_open_parenthesis ∷ (spell t ++ (Marked mark_close_parenthesis ∷ after)) in
      let et = tested_before t w.1 k (omega (arith, d)) after in
      let less : count_arms list ≤ length after = simp (statement_spellings, length-append) (omega (arith, spell_arm-some a, count_arms_less list)) in
      let last : List Word = spell_arms list ++ (Reserved keyword_endcase ∷ left) in
      let q = none_yet (MoreArms a list) w.2 in
      let one : defaults (snoc_arm NoArms (bare_arm a)) ≤ 1 = omega (arith, defaults_snoc NoArms (bare_arm a), defaults_bare a, defaults_first a list, q) in
      let ef = reads_arm a w.3.0 k (omega (arith, d)) last (arms_front list left) in
      let ea = ap (arms (arm k) (suc (length after)) NoArms) (words-Arms a list (Reserved keyword_endcase ∷ left)) ∙ arms-step (arm k) (length after) NoArms (spell_arm a ++ last) (bare_arm a, last) ef one ∙
      reads_rest list w.3.1 k (omega (arith, d)) (length after) less (snoc_arm NoArms (bare_arm a)) (omega (arith, defaults_snoc NoArms (bare_arm a), defaults_bare a, defaults_first a list, q)) left ∙
      ap (λ (x : Arms). Some (x, left)) (joined_arms_all (MoreArms a list)) in
      rw words-Case (by-case (reads k) (statement k) (arm k) (Reserved kind ∷ all) refl w.0 ∙ case-some (reads k) (arm k) kind all (bare t, after) (bare_arms (MoreArms a list), left) et ea)
  reads_statement (Assign t now v) w zero d left c = absurd (omega (arith, d))
  reads_statement (Assign t now v) w (suc k) d left c = assign_read t now v w.0 w.1 w.2 k (omega (arith, d)) (omega (arith, d)) left
  reads_statement (For h s) w zero d left c = absurd (omega (arith, d))
  reads_statement (For h s) w (suc k) d left c =
      let after : List Word = spell_statement s ++ left in
      let eh = head_read h w.0 k (omega (arith, d)) after in
      let es = reads_statement s w.1 k (omega (arith, d)) left c in
      rw words-For (by-for (reads k) (statement k) (arm k) (Reserved keyword_for ∷ (spell_loop h ++ after)) refl refl ∙ looped-some (reads k) (statement k) (spell_loop h ++ after) (bare_loop h, after) (bare_statement s, left) eh es)

  reads_body : (ss : Statements) → WellFormedStatements ss → (k : ℕ) → height_statements ss ≤ suc k → (fuel : ℕ) → count_statements ss < fuel → (have : Statements) (left : List Word) →
      body (statement k) fuel have (spell_statements ss ++ (Reserved keyword_end ∷ left)) ≡ Some (joined_statements have ss, left)
  reads_body Done w k d zero f have left = absurd (omega (arith, f))
  reads_body Done w k d (suc n) f have left = rw statements-Done (body-end (statement k) n have (Reserved keyword_end ∷ left) refl)
  reads_body (Then s ss) w k d zero f have left = absurd (omega (arith, f))
  reads_body (Then s ss) w k d (suc n) f have left =
      let last : List Word = spell_statements ss ++ (Reserved keyword_end ∷ left) in
      let e = reads_statement s w.0 k (omega (arith, d)) last (closes_by s last (rest_front ss w.1 left)) in
      rw words-Then (body-next (statement k) n have (spell_statement s ++ last) (bare_statement s, last) (statement_front s w.0 last).no_end e ∙ reads_body ss w.1 k (omega (arith, d)) n (omega (arith, f)) (snoc_statement have (bare_statement s)) left)

  reads_arm : (a : Arm) → WellFormedArm a → (n : ℕ) → depth_arm a ≤ n → (left : List Word) → nat_eq (keyword left) keyword_else ≡ false → arm n (spell_arm a ++ left) ≡ Some (bare_arm a, left)
  reads_arm (CaseItem ts c s) w zero d left x = absurd (omega (arith, d))
  reads_arm (CaseItem End true s) w (suc k) d left x =
      let e = reads_statement s w.2 k (omega (arith, d)) left (closes_by s left x) in
      rw words-Arm (rw labels-End (arm-default (reads k) (statement k) (Reserved keyword_default ∷ (Marked mark_colon ∷ (spell_statement s ++ left))) refl ∙ default-colon (statement k) (Marked mark_colon ∷ (spell_statement s ++ left)) (bare_statement s, left) refl e))
  reads_arm (CaseItem End false s) w (suc k) d left x =
      let e = reads_statement s w.2 k (omega (arith, d)) left (closes_by s left x) in
      rw words-Arm (rw labels-End (arm-default (reads k) (statement k) (Reserved keyword_default ∷ (spell_statement s ++ left)) refl ∙ default-alone (statement k) (spell_statement s ++ left) (bare_statement s, left) (statement_front s w.2 left).no_colon e))
  reads_arm (CaseItem (More t ts) false s) w (suc k) d left x = absurd (cc (w.1))
  reads_arm (CaseItem (More t ts) true s) w (suc k) d left x =
      let last : List Word = spell_statement s ++ left in
      let e = reads_statement s w.2 k (omega (arith, d)) left (closes_by s left x) in
      let f = labels_read t ts w.0.0 w.0.1 k (omega (arith, d)) last in
      rw words-Arm (arm-labelled (reads k) (statement k) (spell_labels (More t ts) true ++ last) (label_word t ts last) ∙ labelled-some (reads k) (statement k) (spell_labels (More t ts) true ++ last) (bare_parts (More t ts), last) (bare_statement s, left) f e)

  reads_rest : (list : Arms) → WellFormedArms list → (k : ℕ) → height_arms list ≤ suc k → (fuel : ℕ) → count_arms list ≤ fuel → (have : Arms) → defaults have + defaults list ≤ 1 → (left : List Word) →
      go_on (arms (arm k) fuel) have (spell_arms list ++ (Reserved keyword_endcase ∷ left)) ≡ Some (joined_arms have list, left)
  reads_rest NoArms v k h n f have q left = rw arms-NoArms refl
  reads_rest (MoreArms a list) v k h zero f have q left = absurd (omega (arith, f))
  reads_rest (MoreArms a list) v k h (suc n) f have q left =
      let last : List Word = spell_arms list ++ (Reserved keyword_endcase ∷ left) in
      let e = reads_arm a v.0 k (omega (arith, h)) last (arms_front list left) in
      let one : defaults (snoc_arm have (bare_arm a)) ≤ 1 = omega (arith, defaults_snoc have (bare_arm a), defaults_bare a, defaults_first a list, q) in
      goes_on_at (arms (arm k) (suc n)) have (spell_arms (MoreArms a list) ++ (Reserved keyword_endcase ∷ left)) (arms_begin a list left) ∙
      ap (arms (arm k) (suc n) have) (words-Arms a list (Reserved keyword_endcase ∷ left)) ∙
      arms-step (arm k) n have (spell_arm a ++ last) (bare_arm a, last) e one ∙
      reads_rest list v.1 k (omega (arith, h)) n (omega (arith, f)) (snoc_arm have (bare_arm a)) (omega (arith, defaults_snoc have (bare_arm a), defaults_bare a, defaults_first a list, q)) left
