-- What is read is well-formed, within the depth, without token numbers, spelled by the words that were taken, and ends there.
use Rattle.std.proofs.Common.{◌≡◌, ℕ, zero, suc, ◌≤◌, ◌<◌, List, [], ◌∷◌, ◌++◌, length, refl, ap, ◌∙◌, sym, arith, Bool, true, false, cond, nat_eq, nat_le, Option, Some, None, inl, inr, append_assoc, subst}
use Rattle.std.proofs.lemmas.Bool.Decides.{Decides-eqb, nat_tests}
use Rattle.rr_syntax.specs.Words.{Word, Named, System, Digits, Marked, Reserved, keyword_begin, keyword_default, keyword_else, keyword_end, keyword_endcase, keyword_for, keyword_if, mark_open_parenthesis, mark_close_parenthesis, mark_comma, mark_colon, mark_semicolon, mark_equals, mark_less_or_equal}
use Rattle.rr_syntax.specs.Tree.{Tree, Trees, End, More, Identifier, LoopHead, Statement, Statements, Arm, Arms, Null, Block, If, IfElse, Case, Assign, For, Done, Then, CaseItem, NoArms, MoreArms, bare, bare_parts, bare_identifier, bare_label, bare_loop, bare_statement, bare_statements, bare_arm, bare_arms}
use Rattle.rr_syntax.specs.Expressions.{depth, height, WellFormed, WellFormedMore, spell, spell_more, is_target, unary_level}
use Rattle.rr_syntax.specs.Statements.{is_open, spell_label, spell_labels, spell_loop, spell_statement, spell_statements, spell_arm, spell_arms, is_case, HasColon, defaults, WellFormedLoop, WellFormedStatement, WellFormedStatements, WellFormedArm, WellFormedArms, depth_loop, depth_statement, height_statements, depth_arm, height_arms}
use Rattle.rr_syntax.proofs.Equations.{spellings, statement_spellings, more-End, statement-Null, statements-Done}
use Rattle.rr_parse_expr.specs.Reading.{Reader, mapped, chain, mark, rest, no_mark, expect, closed, snoc, reads, nothing}
use Rattle.rr_parse_expr.proofs.Climbs.{mapped_tells, chain_tells, if_tells, if_splits, expect_tells, closed_tells}
use Rattle.rr_parse_expr.proofs.Complete.{appended, appended-snoc, appended-End}
use Rattle.rr_parse_expr.proofs.Sound.{Fits, reads_sound}
use Rattle.rr_parse_stmt.specs.Reading.{keyword, no_word, StatementReader, ArmReader, name, label, labelled, snoc_statement, snoc_arm, body, block, tested, after_then, conditional, NamedValue, named_value, setting, loop_head, after_start, head, looped, labels_after, labels, default_arm, labelled_arm, arm_by, arms, cases, assigned, only_target, target, assignment, statement_by, statement, arm, no_statement, no_arm}
use Rattle.rr_parse_stmt.specs.Exact.{Closes}
use Rattle.rr_parse_stmt.proofs.Complete.{words-Block, words-If, words-IfElse, words-Case, words-Assign, words-Loop, words-For, words-Arm, words-Then, words-Arms, words-More, appended_statements, appended_snoc_statement, appended_Done, appended_arms, appended_snoc_arm}

-- what the readers of expressions keep
abbrev SoundReader : Reader → ℕ → Type 0
SoundReader e limit = (low : ℕ) (ws : List Word) (p : Tree × List Word) → 1 ≤ low → low ≤ unary_level → e low ws ≡ Some p → (depth p.0 < limit) × Fits limit low ws p.0 p.1

-- the statement s stands before the words left, within this depth
pub record FitsStatement (limit : ℕ) (ws : List Word) (s : Statement) (left : List Word) : Type 0 where
  pub well : WellFormedStatement s
  pub deep : depth_statement s ≤ limit
  pub bared : bare_statement s ≡ s
  pub spelled : ws ≡ spell_statement s ++ left
  pub closes : Closes s left

pub record FitsArm (limit : ℕ) (ws : List Word) (a : Arm) (left : List Word) : Type 0 where
  pub well : WellFormedArm a
  pub deep : depth_arm a ≤ limit
  pub bared : bare_arm a ≡ a
  pub spelled : ws ≡ spell_arm a ++ left

-- what the readers of parts keep
abbrev SoundStatements : StatementReader → ℕ → Type 0
SoundStatements sub limit = (ws : List Word) (p : Statement × List Word) → sub ws ≡ Some p → (depth_statement p.0 < limit) × FitsStatement limit ws p.0 p.1

abbrev SoundArms : ArmReader → ℕ → Type 0
SoundArms sub limit = (ws : List Word) (p : Arm × List Word) → sub ws ≡ Some p → (depth_arm p.0 < limit) × FitsArm limit ws p.0 p.1

-- ---- words at the front

marked : (m : ℕ) (ws : List Word) → mark ws ≡ m → m < no_mark → ws ≡ Marked m ∷ rest ws
unfolding mark rest
marked m [] e h = absurd (omega arith)
marked m (Named s ∷ ws) e h = absurd (omega arith)
marked m (System s ∷ ws) e h = absurd (omega arith)
marked m (Digits s ∷ ws) e h = absurd (omega arith)
marked m (Reserved s ∷ ws) e h = absurd (omega arith)
marked m (Marked k ∷ ws) e h = ap (λ (x : ℕ). Marked x ∷ ws) e

reserved : (k : ℕ) (ws : List Word) → keyword ws ≡ k → k < no_word → ws ≡ Reserved k ∷ rest ws
unfolding keyword rest
reserved k [] e h = absurd (omega arith)
reserved k (Named s ∷ ws) e h = absurd (omega arith)
reserved k (System s ∷ ws) e h = absurd (omega arith)
reserved k (Digits s ∷ ws) e h = absurd (omega arith)
reserved k (Marked s ∷ ws) e h = absurd (omega arith)
reserved k (Reserved j ∷ ws) e h = ap (λ (x : ℕ). Reserved x ∷ ws) e

eq_of : (a b : ℕ) → nat_eq a b ≡ true → a ≡ b
eq_of a b e = (Decides-eqb a b).0 e

-- ---- parts

record ClosedFits (limit m : ℕ) (ws : List Word) (t : Tree) (left : List Word) : Type 0 where
  well : WellFormed t
  deeper : depth t < limit
  bared : bare t ≡ t
  spelled : ws ≡ spell t ++ (Marked m ∷ left)

closed_sound : (e : Reader) (limit : ℕ) → SoundReader e limit → (m : ℕ) → m < no_mark → (ws : List Word) (p : Tree × List Word) → closed e m ws ≡ Some p → ClosedFits limit m ws p.0 p.1
closed_sound e limit s m h ws p q =
    let b = closed_tells e m ws p q in
    let f = s 1 ws b.inner (omega arith) (omega arith) b.read in
    record {
      well = let P : Tree → Type 0 = λ (x : Tree). WellFormed x in subst P b.tree f.1.well;
      deeper = omega (arith, f.0, ap depth b.tree);
      bared = ap bare (sym b.tree) ∙ f.1.bared ∙ b.tree;
      spelled = f.1.spelled ∙ ap (λ (x : List Word). spell b.inner.0 ++ x) (marked m b.inner.1 b.marked h) ∙ ap (λ (x : Tree). spell x ++ (Marked m ∷ rest b.inner.1)) b.tree ∙ ap (λ (x : List Word). spell p.0 ++ (Marked m ∷ x)) b.left;
    }

record TestedFits (limit : ℕ) (ws : List Word) (t : Tree) (left : List Word) : Type 0 where
  well : WellFormed t
  deeper : depth t < limit
  bared : bare t ≡ t
  spelled : ws ≡ Marked mark_open_parenthesis ∷ (spell t ++ (Marked mark_close_parenthesis ∷ left))

tested_sound : (e : Reader) (limit : ℕ) → SoundReader e limit → (ws : List Word) (p : Tree × List Word) → tested e ws ≡ Some p → TestedFits limit ws p.0 p.1
unfolding tested
tested_sound e limit s ws p q =
    let a = expect_tells mark_open_parenthesis (closed e mark_close_parenthesis) ws p q in
    let f = closed_sound e limit s mark_close_parenthesis (omega arith) (rest ws) p a.1 in
    record { well = f.well; deeper = f.deeper; bared = f.bared; spelled = marked mark_open_parenthesis ws a.0 (omega arith) ∙ ap (λ (x : List Word). Marked mark_open_parenthesis ∷ x) f.spelled }

moved : (limit : ℕ) (ws : List Word) (s : Statement) (left : List Word) (p : Statement × List Word) → s ≡ p.0 → left ≡ p.1 → FitsStatement limit ws s left → FitsStatement limit ws p.0 p.1
moved limit ws s left p e f h =
    let P : Statement → Type 0 = λ (x : Statement). FitsStatement limit ws x left in
    let Q : List Word → Type 0 = λ (x : List Word). FitsStatement limit ws p.0 x in
    subst Q f (subst P e h)

at_pair : (limit : ℕ) (ws : List Word) (s : Statement) (left : List Word) (p : Statement × List Word) → Some (s, left) ≡ Some p → FitsStatement limit ws s left → FitsStatement limit ws p.0 p.1
at_pair limit ws s left p e h =
    let q : (s, left) ≡ p = cc in
    moved limit ws s left p (ap (λ (x : Statement × List Word). x.0) q) (ap (λ (x : Statement × List Word). x.1) q) h

moved_arm : (limit : ℕ) (ws : List Word) (a : Arm) (left : List Word) (p : Arm × List Word) → a ≡ p.0 → left ≡ p.1 → FitsArm limit ws a left → FitsArm limit ws p.0 p.1
moved_arm limit ws a left p e f h =
    let P : Arm → Type 0 = λ (x : Arm). FitsArm limit ws x left in
    let Q : List Word → Type 0 = λ (x : List Word). FitsArm limit ws p.0 x in
    subst Q f (subst P e h)

-- ---- blocks

record BodyFits (limit : ℕ) (have : Statements) (ws : List Word) (p : Statements × List Word) : Type 0 where
  new : Statements
  all : p.0 ≡ appended_statements have new
  well : WellFormedStatements new
  low : height_statements new ≤ limit
  bared : bare_statements new ≡ new
  spelled : ws ≡ spell_statements new ++ (Reserved keyword_end ∷ p.1)

body_sound : (sub : StatementReader) (limit : ℕ) → SoundStatements sub limit → (fuel : ℕ) (have : Statements) (ws : List Word) (p : Statements × List Word) → body sub fuel have ws ≡ Some p → BodyFits limit have ws p
unfolding body WellFormedStatement depth_statement bare_statement
body_sound sub limit s zero have ws p e = absurd cc
body_sound sub limit s (suc n) have ws p e = elim (if_splits (nat_eq (keyword ws) keyword_end) (Some (have, rest ws)) (chain (sub ws) (λ u left. body sub n (snoc_statement have u) left)) p e) [
  | inl h ↦
      let q : (have, rest ws) ≡ p = cc (h.1) in
      record {
        new = Done;
        all = ap (λ (x : Statements × List Word). x.0) (sym q) ∙ sym (appended_Done have);
        well = tt;
        low = omega arith;
        bared = refl;
        spelled = reserved keyword_end ws (eq_of (keyword ws) keyword_end h.0) (omega arith) ∙ ap (λ (x : Statements × List Word). Reserved keyword_end ∷ x.1) q ∙ rw statements-Done refl;
      }
  | inr h ↦
      let a = chain_tells (sub ws) (λ u left. body sub n (snoc_statement have u) left) p h.1 in
      let f = s ws a.0 a.1 in
      let r = body_sound sub limit s n (snoc_statement have a.0.0) a.0.1 p a.2 in
      record {
        new = Then a.0.0 r.new;
        all = r.all ∙ appended_snoc_statement have a.0.0 r.new;
        well = (f.1.well, r.well);
        low = omega (arith, f.0, r.low);
        bared = ap (λ (x : Statement). Then x (bare_statements r.new)) f.1.bared ∙ ap (Then a.0.0) r.bared;
        spelled = f.1.spelled ∙ ap (λ (x : List Word). spell_statement a.0.0 ++ x) r.spelled ∙ sym (words-Then a.0.0 r.new (Reserved keyword_end ∷ p.1));
      }
]

name_sound : (ws : List Word) (p : Identifier × List Word) → name ws ≡ Some p → (ws ≡ Named p.0.text ∷ p.1) × (bare_identifier p.0 ≡ p.0)
unfolding name bare_identifier
name_sound [] p e = absurd cc
name_sound (Named s ∷ ws) p e =
    let q : (record { token = 0; text = s }, ws) ≡ p = cc in
    (ap (λ (x : Identifier × List Word). Named x.0.text ∷ x.1) q, ap (λ (x : Identifier × List Word). bare_identifier x.0) (sym q) ∙ ap (λ (x : Identifier × List Word). x.0) q)
name_sound (System s ∷ ws) p e = absurd cc
name_sound (Digits d ∷ ws) p e = absurd cc
name_sound (Marked m ∷ ws) p e = absurd cc
name_sound (Reserved k ∷ ws) p e = absurd cc

label_sound : (ws : List Word) (p : Option Identifier × List Word) → label ws ≡ Some p → (ws ≡ spell_label p.0 ++ p.1) × (bare_label p.0 ≡ p.0)
unfolding label spell_label bare_label
label_sound ws p e = elim (if_splits (nat_eq (mark ws) mark_colon) (mapped labelled (name (rest ws))) (Some (None, ws)) p e) [
  | inl h ↦
      let c = mapped_tells labelled (name (rest ws)) p h.1 in
      let f = name_sound (rest ws) c.0 c.1 in (
        marked mark_colon ws (eq_of (mark ws) mark_colon h.0) (omega arith) ∙ ap (λ (x : List Word). Marked mark_colon ∷ x) f.0 ∙ ap (λ (x : List Word). Marked mark_colon ∷ (Named c.0.0.text ∷ x)) c.3 ∙ ap (λ (x : Option Identifier). spell_label x ++ p.1) c.2,
        ap bare_label (sym c.2) ∙ ap labelled f.1 ∙ c.2,
      )
  | inr h ↦
      let q : (None, ws) ≡ p = cc (h.1) in
      (ap (λ (x : Option Identifier × List Word). spell_label x.0 ++ x.1) q, ap (λ (x : Option Identifier × List Word). bare_label x.0) (sym q) ∙ ap (λ (x : Option Identifier × List Word). x.0) q)
]

block_sound : (sub : StatementReader) (limit : ℕ) → SoundStatements sub limit → (ws : List Word) (p : Statement × List Word) → block sub ws ≡ Some p → FitsStatement limit (Reserved keyword_begin ∷ ws) p.0 p.1
unfolding block WellFormedStatement depth_statement bare_statement is_open appended_statements
block_sound sub limit s ws p e =
    let a = chain_tells (label ws) (λ l left. mapped (Block l) (body sub (suc (length left)) Done left)) p e in
    let c = mapped_tells (Block a.0.0) (body sub (suc (length a.0.1)) Done a.0.1) p a.2 in
    let f = label_sound ws a.0 a.1 in
    let r = body_sound sub limit s (suc (length a.0.1)) Done a.0.1 c.0 c.1 in
    moved limit (Reserved keyword_begin ∷ ws) (Block a.0.0 r.new) c.0.1 p (ap (Block a.0.0) (sym r.all) ∙ c.2) c.3 (record {
      well = r.well;
      deep = r.low;
      bared = ap (λ (x : Option Identifier). Block x (bare_statements r.new)) f.1 ∙ ap (Block a.0.0) r.bared;
      spelled = ap (λ (x : List Word). Reserved keyword_begin ∷ x) (f.0 ∙ ap (λ (x : List Word). spell_label a.0.0 ++ x) r.spelled) ∙ sym (words-Block a.0.0 r.new c.0.1);
      closes = λ o. absurd cc;
    })

-- ---- if

else_of : (s : Statement) (ws : List Word) → keyword ws ≡ keyword_else → Closes s ws → is_open s ≡ false
else_of s ws k c = elim (is_open s) as (λ b. is_open s ≡ b → b ≡ false) [ true ↦ λ o. absurd (c o k) | false ↦ λ o. refl ] refl

conditional_sound : (e : Reader) (sub : StatementReader) (limit : ℕ) → SoundReader e limit → SoundStatements sub limit → (ws : List Word) (p : Statement × List Word) → conditional e sub ws ≡ Some p → FitsStatement limit (Reserved keyword_if ∷ ws) p.0 p.1
unfolding conditional after_then WellFormedStatement depth_statement bare_statement is_open
conditional_sound e sub limit r s ws p q =
    let a = chain_tells (tested e ws) (λ t left. chain (sub left) (λ u more. after_then sub t u more)) p q in
    let b = chain_tells (sub a.0.1) (λ u more. after_then sub a.0.0 u more) p a.2 in
    let f = tested_sound e limit r ws a.0 a.1 in
    let g = s a.0.1 b.0 b.1 in
    elim (if_splits (nat_eq (keyword b.0.1) keyword_else) (mapped (IfElse a.0.0 b.0.0) (sub (rest b.0.1))) (Some (If a.0.0 b.0.0, b.0.1)) p b.2) [
      | inl h ↦
          let k : keyword b.0.1 ≡ keyword_else = eq_of (keyword b.0.1) keyword_else h.0 in
          let c = mapped_tells (IfElse a.0.0 b.0.0) (sub (rest b.0.1)) p h.1 in
          let u = s (rest b.0.1) c.0 c.1 in
          moved limit (Reserved keyword_if ∷ ws) (IfElse a.0.0 b.0.0 c.0.0) c.0.1 p c.2 c.3 (record {
            well = (f.well, g.1.well, else_of b.0.0 b.0.1 k g.1.closes, u.1.well);
            deep = omega (arith, f.deeper, g.0, u.0);
            bared = ap (λ (x : Tree). IfElse x (bare_statement b.0.0) (bare_statement c.0.0)) f.bared ∙ ap (λ (x : Statement). IfElse a.0.0 x (bare_statement c.0.0)) g.1.bared ∙ ap (IfElse a.0.0 b.0.0) u.1.bared;
            spelled = ap (λ (x : List Word). Reserved keyword_if ∷ x) (f.spelled ∙ ap (λ (x : List Word). Marked mark_open_parenthesis ∷ (spell a.0.0 ++ (Marked mark_close_parenthesis ∷ x))) (g.1.spelled ∙ ap (λ (x : List Word). spell_statement b.0.0 ++ x) (reserved keyword_else b.0.1 k (omega arith) ∙ ap (λ (x : List Word). Reserved keyword_else ∷ x) u.1.spelled))) ∙ sym (words-IfElse a.0.0 b.0.0 c.0.0 c.0.1);
            closes = u.1.closes;
          })
      | inr h ↦
          at_pair limit (Reserved keyword_if ∷ ws) (If a.0.0 b.0.0) b.0.1 p h.1 (record {
            well = (f.well, g.1.well);
            deep = omega (arith, f.deeper, g.0);
            bared = ap (λ (x : Tree). If x (bare_statement b.0.0)) f.bared ∙ ap (If a.0.0) g.1.bared;
            spelled = ap (λ (x : List Word). Reserved keyword_if ∷ x) (f.spelled ∙ ap (λ (x : List Word). Marked mark_open_parenthesis ∷ (spell a.0.0 ++ (Marked mark_close_parenthesis ∷ x))) g.1.spelled) ∙ sym (words-If a.0.0 b.0.0 b.0.1);
            closes = λ o k. let z : nat_eq (keyword b.0.1) keyword_else ≡ true = (Decides-eqb (keyword b.0.1) keyword_else).1 k in cc (z, h.0);
          })
    ]

-- ---- for

record SettingFits (limit m : ℕ) (ws : List Word) (v : NamedValue) (left : List Word) : Type 0 where
  well : WellFormed v.value
  deeper : depth v.value < limit
  bared : bare v.value ≡ v.value
  spelled : ws ≡ Named v.text ∷ (Marked mark_equals ∷ (spell v.value ++ (Marked m ∷ left)))

setting_sound : (e : Reader) (limit : ℕ) → SoundReader e limit → (m : ℕ) → m < no_mark → (ws : List Word) (p : NamedValue × List Word) → setting e m ws ≡ Some p → SettingFits limit m ws p.0 p.1
unfolding setting
setting_sound e limit s m h ws p q =
    let a = chain_tells (name ws) (λ i left. expect mark_equals (λ after. mapped (named_value i) (closed e m after)) left) p q in
    let b = expect_tells mark_equals (λ after. mapped (named_value a.0.0) (closed e m after)) a.0.1 p a.2 in
    let c = mapped_tells (named_value a.0.0) (closed e m (rest a.0.1)) p b.1 in
    let n = name_sound ws a.0 a.1 in
    let f = closed_sound e limit s m h (rest a.0.1) c.0 c.1 in
    let one : SettingFits limit m ws (named_value a.0.0 c.0.0) c.0.1 = record {
      well = f.well;
      deeper = f.deeper;
      bared = f.bared;
      spelled = n.0 ∙ ap (λ (x : List Word). Named a.0.0.text ∷ x) (marked mark_equals a.0.1 b.0 (omega arith) ∙ ap (λ (x : List Word). Marked mark_equals ∷ x) f.spelled);
    } in
    let P : NamedValue → Type 0 = λ (x : NamedValue). SettingFits limit m ws x c.0.1 in
    let Q : List Word → Type 0 = λ (x : List Word). SettingFits limit m ws p.0 x in
    subst Q c.3 (subst P c.2 one)

record HeadFits (limit : ℕ) (ws : List Word) (h : LoopHead) (left : List Word) : Type 0 where
  well : WellFormedLoop h
  deeper : depth_loop h < limit
  bared : bare_loop h ≡ h
  spelled : ws ≡ spell_loop h ++ left

head_sound : (e : Reader) (limit : ℕ) → SoundReader e limit → (ws : List Word) (p : LoopHead × List Word) → head e ws ≡ Some p → HeadFits limit ws p.0 p.1
unfolding head after_start WellFormedLoop depth_loop bare_loop
head_sound e limit s ws p q =
    let o = expect_tells mark_open_parenthesis (λ after. chain (setting e mark_semicolon after) (after_start e)) ws p q in
    let a = chain_tells (setting e mark_semicolon (rest ws)) (after_start e) p o.1 in
    let t = chain_tells (closed e mark_semicolon a.0.1) (λ t left. mapped (loop_head a.0.0 t) (setting e mark_close_parenthesis left)) p a.2 in
    let b = mapped_tells (loop_head a.0.0 t.0.0) (setting e mark_close_parenthesis t.0.1) p t.2 in
    let f = setting_sound e limit s mark_semicolon (omega arith) (rest ws) a.0 a.1 in
    let g = closed_sound e limit s mark_semicolon (omega arith) a.0.1 t.0 t.1 in
    let k = setting_sound e limit s mark_close_parenthesis (omega arith) t.0.1 b.0 b.1 in
    let one : HeadFits limit ws (loop_head a.0.0 t.0.0 b.0.0) b.0.1 = record {
      well = (f.well, g.well, k.well);
      deeper = omega (arith, f.deeper, g.deeper, k.deeper);
      bared = ap (λ (x : Tree). loop_head (record { text = a.0.0.text; value = x }) (bare t.0.0) (record { text = b.0.0.text; value = bare b.0.0.value })) f.bared ∙ ap (λ (x : Tree). loop_head a.0.0 x (record { text = b.0.0.text; value = bare b.0.0.value })) g.bared ∙ ap (λ (x : Tree). loop_head a.0.0 t.0.0 (record { text = b.0.0.text; value = x })) k.bared;
      spelled = marked mark_open_parenthesis ws o.0 (omega arith) ∙ ap (λ (x : List Word). Marked mark_open_parenthesis ∷ x) (f.spelled ∙ ap (λ (x : List Word). Named a.0.0.text ∷ (Marked mark_equals ∷ (spell a.0.0.value ++ (Marked mark_semicolon ∷ x)))) (g.spelled ∙ ap (λ (x : List Word). spell t.0.0 ++ (Marked mark_semicolon ∷ x)) k.spelled)) ∙ sym (words-Loop (loop_head a.0.0 t.0.0 b.0.0) b.0.1);
    } in
    let P : LoopHead → Type 0 = λ (x : LoopHead). HeadFits limit ws x b.0.1 in
    let Q : List Word → Type 0 = λ (x : List Word). HeadFits limit ws p.0 x in
    subst Q b.3 (subst P b.2 one)

looped_sound : (e : Reader) (sub : StatementReader) (limit : ℕ) → SoundReader e limit → SoundStatements sub limit → (ws : List Word) (p : Statement × List Word) → looped e sub ws ≡ Some p → FitsStatement limit (Reserved keyword_for ∷ ws) p.0 p.1
unfolding looped WellFormedStatement depth_statement bare_statement is_open
looped_sound e sub limit r s ws p q =
    let a = chain_tells (head e ws) (λ h left. mapped (For h) (sub left)) p q in
    let c = mapped_tells (For a.0.0) (sub a.0.1) p a.2 in
    let f = head_sound e limit r ws a.0 a.1 in
    let g = s a.0.1 c.0 c.1 in
    moved limit (Reserved keyword_for ∷ ws) (For a.0.0 c.0.0) c.0.1 p c.2 c.3 (record {
      well = (f.well, g.1.well);
      deep = omega (arith, f.deeper, g.0);
      bared = ap (λ (x : LoopHead). For x (bare_statement c.0.0)) f.bared ∙ ap (For a.0.0) g.1.bared;
      spelled = ap (λ (x : List Word). Reserved keyword_for ∷ x) (f.spelled ∙ ap (λ (x : List Word). spell_loop a.0.0 ++ x) g.1.spelled) ∙ sym (words-For a.0.0 c.0.0 c.0.1);
      closes = g.1.closes;
    })

-- ---- case

record LabelsFit (limit : ℕ) (have : Trees) (ws : List Word) (p : Trees × List Word) : Type 0 where
  new : Trees
  all : p.0 ≡ appended have new
  well : WellFormedMore new
  low : height new ≤ limit
  bared : bare_parts new ≡ new
  spelled : ws ≡ spell_more new ++ (Marked mark_colon ∷ p.1)

labels_sound : (e : Reader) (limit : ℕ) → SoundReader e limit → (fuel : ℕ) (have : Trees) (ws : List Word) (p : Trees × List Word) → labels_after e fuel have ws ≡ Some p → LabelsFit limit have ws p
unfolding labels_after WellFormed height bare
labels_sound e limit s zero have ws p q = absurd cc
labels_sound e limit s (suc n) have ws p q = elim (if_splits (nat_eq (mark ws) mark_colon) (Some (have, rest ws)) (cond (nat_eq (mark ws) mark_comma) (chain (e 1 (rest ws)) (λ t left. labels_after e n (snoc have t) left)) None) p q) [
  | inl h ↦
      let r : (have, rest ws) ≡ p = cc (h.1) in
      record {
        new = End;
        all = ap (λ (x : Trees × List Word). x.0) (sym r) ∙ sym (appended-End have);
        well = tt;
        low = omega arith;
        bared = refl;
        spelled = marked mark_colon ws (eq_of (mark ws) mark_colon h.0) (omega arith) ∙ ap (λ (x : Trees × List Word). Marked mark_colon ∷ x.1) r ∙ rw more-End refl;
      }
  | inr h ↦
      let g = if_tells (nat_eq (mark ws) mark_comma) (chain (e 1 (rest ws)) (λ t left. labels_after e n (snoc have t) left)) p h.1 in
      let a = chain_tells (e 1 (rest ws)) (λ t left. labels_after e n (snoc have t) left) p g.1 in
      let f = s 1 (rest ws) a.0 (omega arith) (omega arith) a.1 in
      let r = labels_sound e limit s n (snoc have a.0.0) a.0.1 p a.2 in
      record {
        new = More a.0.0 r.new;
        all = r.all ∙ appended-snoc have a.0.0 r.new;
        well = (f.1.well, r.well);
        low = omega (arith, f.0, r.low);
        bared = ap (λ (x : Tree). More x (bare_parts r.new)) f.1.bared ∙ ap (More a.0.0) r.bared;
        spelled = marked mark_comma ws (eq_of (mark ws) mark_comma g.0) (omega arith) ∙ ap (λ (x : List Word). Marked mark_comma ∷ x) (f.1.spelled ∙ ap (λ (x : List Word). spell a.0.0 ++ x) r.spelled) ∙ sym (words-More a.0.0 r.new (Marked mark_colon ∷ p.1));
      }
]

record AllLabels (limit : ℕ) (ws : List Word) (ts : Trees) (left : List Word) : Type 0 where
  first : Tree
  others : Trees
  some : ts ≡ More first others
  well : WellFormedMore ts
  low : height ts ≤ limit
  bared : bare_parts ts ≡ ts
  spelled : ws ≡ spell_labels ts true ++ left

all_labels_sound : (e : Reader) (limit : ℕ) → SoundReader e limit → (ws : List Word) (p : Trees × List Word) → labels e ws ≡ Some p → AllLabels limit ws p.0 p.1
unfolding labels WellFormed height bare appended
all_labels_sound e limit s ws p q =
    let a = chain_tells (e 1 ws) (λ t left. labels_after e (suc (length left)) (More t End) left) p q in
    let f = s 1 ws a.0 (omega arith) (omega arith) a.1 in
    let r = labels_sound e limit s (suc (length a.0.1)) (More a.0.0 End) a.0.1 p a.2 in
    let one : AllLabels limit ws (More a.0.0 r.new) p.1 = record {
      first = a.0.0;
      others = r.new;
      some = refl;
      well = (f.1.well, r.well);
      low = omega (arith, f.0, r.low);
      bared = ap (λ (x : Tree). More x (bare_parts r.new)) f.1.bared ∙ ap (More a.0.0) r.bared;
      spelled = f.1.spelled ∙ ap (λ (x : List Word). spell a.0.0 ++ x) r.spelled ∙ simp (statement_spellings, spellings, append_assoc);
    } in
    let P : Trees → Type 0 = λ (x : Trees). AllLabels limit ws x p.1 in
    subst P (sym r.all) one

colon_of : (ts : Trees) (t : Tree) (us : Trees) → ts ≡ More t us → HasColon ts true
colon_of ts t us e = rw e refl

arm_sound : (e : Reader) (sub : StatementReader) (limit : ℕ) → SoundReader e limit → SoundStatements sub limit → (ws : List Word) (p : Arm × List Word) → arm_by e sub ws ≡ Some p → FitsArm limit ws p.0 p.1
unfolding arm_by default_arm labelled_arm WellFormedStatement WellFormed depth_statement height bare_statement bare
arm_sound e sub limit r s ws p q = elim (if_splits (nat_eq (keyword ws) keyword_default) (cond (nat_eq (mark (rest ws)) mark_colon) (mapped (CaseItem End true) (sub (rest (rest ws)))) (mapped (CaseItem End false) (sub (rest ws)))) (chain (labels e ws) (λ ts left. mapped (CaseItem ts true) (sub left))) p q) [
  | inl h ↦ elim (if_splits (nat_eq (mark (rest ws)) mark_colon) (mapped (CaseItem End true) (sub (rest (rest ws)))) (mapped (CaseItem End false) (sub (rest ws))) p h.1) [
    | inl g ↦
        let c = mapped_tells (CaseItem End true) (sub (rest (rest ws))) p g.1 in
        let f = s (rest (rest ws)) c.0 c.1 in
        moved_arm limit ws (CaseItem End true c.0.0) c.0.1 p c.2 c.3 (record {
          well = (tt, tt, f.1.well);
          deep = omega (arith, f.0);
          bared = ap (CaseItem End true) f.1.bared;
          spelled = reserved keyword_default ws (eq_of (keyword ws) keyword_default h.0) (omega arith) ∙ ap (λ (x : List Word). Reserved keyword_default ∷ x) (marked mark_colon (rest ws) (eq_of (mark (rest ws)) mark_colon g.0) (omega arith) ∙ ap (λ (x : List Word). Marked mark_colon ∷ x) f.1.spelled) ∙ simp (statement_spellings, append_assoc);
        })
    | inr g ↦
        let c = mapped_tells (CaseItem End false) (sub (rest ws)) p g.1 in
        let f = s (rest ws) c.0 c.1 in
        moved_arm limit ws (CaseItem End false c.0.0) c.0.1 p c.2 c.3 (record {
          well = (tt, tt, f.1.well);
          deep = omega (arith, f.0);
          bared = ap (CaseItem End false) f.1.bared;
          spelled = reserved keyword_default ws (eq_of (keyword ws) keyword_default h.0) (omega arith) ∙ ap (λ (x : List Word). Reserved keyword_default ∷ x) f.1.spelled ∙ simp (statement_spellings, append_assoc);
        })
  ]
  | inr h ↦
      let a = chain_tells (labels e ws) (λ ts left. mapped (CaseItem ts true) (sub left)) p h.1 in
      let c = mapped_tells (CaseItem a.0.0 true) (sub a.0.1) p a.2 in
      let f = all_labels_sound e limit r ws a.0 a.1 in
      let g = s a.0.1 c.0 c.1 in
      moved_arm limit ws (CaseItem a.0.0 true c.0.0) c.0.1 p c.2 c.3 (record {
        well = (f.well, colon_of a.0.0 f.first f.others f.some, g.1.well);
        deep = omega (arith, f.low, g.0);
        bared = ap (λ (x : Trees). CaseItem x true (bare_statement c.0.0)) f.bared ∙ ap (CaseItem a.0.0 true) g.1.bared;
        spelled = f.spelled ∙ ap (λ (x : List Word). spell_labels a.0.0 true ++ x) g.1.spelled ∙ sym (words-Arm a.0.0 true c.0.0 c.0.1);
      })
]

record ArmsFit (limit : ℕ) (have : Arms) (ws : List Word) (p : Arms × List Word) : Type 0 where
  first : Arm
  others : Arms
  all : p.0 ≡ appended_arms have (MoreArms first others)
  once : defaults p.0 ≤ 1
  well : WellFormedArms (MoreArms first others)
  low : height_arms (MoreArms first others) ≤ limit
  bared : bare_arms (MoreArms first others) ≡ MoreArms first others
  spelled : ws ≡ spell_arms (MoreArms first others) ++ (Reserved keyword_endcase ∷ p.1)

one_at_most : (n : ℕ) → nat_le n 1 ≡ true → n ≤ 1
one_at_most n e = grind (arith, nat_tests)

appended_one : (have : Arms) (a : Arm) → appended_arms have (MoreArms a NoArms) ≡ snoc_arm have a
unfolding appended_arms snoc_arm
appended_one NoArms a = refl
appended_one (MoreArms b have) a = ap (MoreArms b) (appended_one have a)

arms_sound : (sub : ArmReader) (limit : ℕ) → SoundArms sub limit → (fuel : ℕ) (have : Arms) (ws : List Word) (p : Arms × List Word) → arms sub fuel have ws ≡ Some p → ArmsFit limit have ws p
unfolding arms WellFormedStatement depth_statement bare_statement
arms_sound sub limit s zero have ws p e = absurd cc
arms_sound sub limit s (suc n) have ws p e =
    let a = chain_tells (sub ws) (λ a left. cond (nat_le (defaults (snoc_arm have a)) 1) (cond (nat_eq (keyword left) keyword_endcase) (Some (snoc_arm have a, rest left)) (arms sub n (snoc_arm have a) left)) None) p e in
    let f = s ws a.0 a.1 in
    let b = if_tells (nat_le (defaults (snoc_arm have a.0.0)) 1) (cond (nat_eq (keyword a.0.1) keyword_endcase) (Some (snoc_arm have a.0.0, rest a.0.1)) (arms sub n (snoc_arm have a.0.0) a.0.1)) p a.2 in
    elim (if_splits (nat_eq (keyword a.0.1) keyword_endcase) (Some (snoc_arm have a.0.0, rest a.0.1)) (arms sub n (snoc_arm have a.0.0) a.0.1) p b.1) [
      | inl h ↦
          let q : (snoc_arm have a.0.0, rest a.0.1) ≡ p = cc (h.1) in
          let q0 : snoc_arm have a.0.0 ≡ p.0 = ap (λ (x : Arms × List Word). x.0) q in
          record {
            first = a.0.0;
            others = NoArms;
            all = sym q0 ∙ sym (appended_one have a.0.0);
            once = omega (arith, ap defaults q0, one_at_most (defaults (snoc_arm have a.0.0)) b.0);
            well = (f.1.well, tt);
            low = omega (arith, f.0);
            bared = ap (λ (x : Arm). MoreArms x NoArms) f.1.bared;
            spelled = f.1.spelled ∙ ap (λ (x : List Word). spell_arm a.0.0 ++ x) (reserved keyword_endcase a.0.1 (eq_of (keyword a.0.1) keyword_endcase h.0) (omega arith) ∙ ap (λ (x : Arms × List Word). Reserved keyword_endcase ∷ x.1) q) ∙ simp (statement_spellings, append_assoc);
          }
      | inr h ↦
          let r = arms_sound sub limit s n (snoc_arm have a.0.0) a.0.1 p h.1 in
          record {
            first = a.0.0;
            others = MoreArms r.first r.others;
            all = r.all ∙ appended_snoc_arm have a.0.0 (MoreArms r.first r.others);
            once = r.once;
            well = (f.1.well, r.well);
            low = omega (arith, f.0, r.low);
            bared = ap (λ (x : Arm). MoreArms x (bare_arms (MoreArms r.first r.others))) f.1.bared ∙ ap (MoreArms a.0.0) r.bared;
            spelled = f.1.spelled ∙ ap (λ (x : List Word). spell_arm a.0.0 ++ x) r.spelled ∙ sym (words-Arms a.0.0 (MoreArms r.first r.others) (Reserved keyword_endcase ∷ p.1));
          }
    ]

cases_sound : (e : Reader) (sub : ArmReader) (limit : ℕ) → SoundReader e limit → SoundArms sub limit → (kind : ℕ) → is_case kind ≡ true → (ws : List Word) (p : Statement × List Word) → cases e sub kind ws ≡ Some p → FitsStatement limit (Reserved kind ∷ ws) p.0 p.1
unfolding cases WellFormedStatement depth_statement bare_statement is_open appended_arms
cases_sound e sub limit r s kind k ws p q =
    let a = chain_tells (tested e ws) (λ t left. mapped (Case kind t) (arms sub (suc (length left)) NoArms left)) p q in
    let c = mapped_tells (Case kind a.0.0) (arms sub (suc (length a.0.1)) NoArms a.0.1) p a.2 in
    let f = tested_sound e limit r ws a.0 a.1 in
    let g = arms_sound sub limit s (suc (length a.0.1)) NoArms a.0.1 c.0 c.1 in
    moved limit (Reserved kind ∷ ws) (Case kind a.0.0 (MoreArms g.first g.others)) c.0.1 p (ap (Case kind a.0.0) (sym g.all) ∙ c.2) c.3 (record {
      well = (k, f.well, omega (arith, ap defaults g.all, g.once), g.well);
      deep = omega (arith, f.deeper, g.low);
      bared = ap (λ (x : Tree). Case kind x (bare_arms (MoreArms g.first g.others))) f.bared ∙ ap (Case kind a.0.0) g.bared;
      spelled = ap (λ (x : List Word). Reserved kind ∷ x) (f.spelled ∙ ap (λ (x : List Word). Marked mark_open_parenthesis ∷ (spell a.0.0 ++ (Marked mark_close_parenthesis ∷ x))) g.spelled) ∙ sym (words-Case kind a.0.0 (MoreArms g.first g.others) c.0.1);
      closes = λ o. absurd cc;
    })

restated : (limit : ℕ) (ws us : List Word) (p : Statement × List Word) → ws ≡ us → FitsStatement limit us p.0 p.1 → FitsStatement limit ws p.0 p.1
restated limit ws us p e f = record { well = f.well; deep = f.deep; bared = f.bared; spelled = e ∙ f.spelled; closes = f.closes }

pub case_less : (k : ℕ) → is_case k ≡ true → k < no_word
case_less k h = grind (arith, nat_tests)

-- ---- assignments

value_sound : (e : Reader) (limit : ℕ) → SoundReader e limit → (t : Tree) (now : Bool) (ws : List Word) (p : Statement × List Word) → is_target t ≡ true → WellFormed t → depth t < limit → bare t ≡ t →
    mapped (Assign t now) (closed e mark_semicolon ws) ≡ Some p → FitsStatement limit (spell t ++ (Marked (cond now mark_equals mark_less_or_equal) ∷ ws)) p.0 p.1
unfolding WellFormedStatement depth_statement bare_statement is_open
value_sound e limit r t now ws p h w d b q =
    let c = mapped_tells (Assign t now) (closed e mark_semicolon ws) p q in
    let f = closed_sound e limit r mark_semicolon (omega arith) ws c.0 c.1 in
    moved limit (spell t ++ (Marked (cond now mark_equals mark_less_or_equal) ∷ ws)) (Assign t now c.0.0) c.0.1 p c.2 c.3 (record {
      well = (h, w, f.well);
      deep = omega (arith, d, f.deeper);
      bared = ap (λ (x : Tree). Assign x now (bare c.0.0)) b ∙ ap (Assign t now) f.bared;
      spelled = ap (λ (x : List Word). spell t ++ (Marked (cond now mark_equals mark_less_or_equal) ∷ x)) f.spelled ∙ sym (words-Assign t now c.0.0 c.0.1);
      closes = λ o. absurd cc;
    })

target_tells : (e : Reader) (ws : List Word) (p : Tree × List Word) → target e ws ≡ Some p → (e unary_level ws ≡ Some p) × (is_target p.0 ≡ true)
unfolding target
target_tells e ws p q =
    let a = chain_tells (e unary_level ws) only_target p q in
    let b = if_tells (is_target a.0.0) (Some (a.0.0, a.0.1)) p a.2 in
    let k : a.0 ≡ p = cc b.1 in
    (a.1 ∙ ap (λ (x : Tree × List Word). Some x) k, ap (λ (x : Tree × List Word). is_target x.0) (sym k) ∙ b.0)

assignment_sound : (e : Reader) (limit : ℕ) → SoundReader e limit → (ws : List Word) (p : Statement × List Word) → assignment e ws ≡ Some p → FitsStatement limit ws p.0 p.1
unfolding assignment assigned
assignment_sound e limit r ws p q =
    let a = chain_tells (target e ws) (assigned e) p q in
    let t = target_tells e ws a.0 a.1 in
    let f = r unary_level ws a.0 (omega arith) (omega arith) t.0 in
    elim (if_splits (nat_eq (mark a.0.1) mark_equals) (mapped (Assign a.0.0 true) (closed e mark_semicolon (rest a.0.1))) (cond (nat_eq (mark a.0.1) mark_less_or_equal) (mapped (Assign a.0.0 false) (closed e mark_semicolon (rest a.0.1))) None) p a.2) [
      | inl h ↦
          let g = value_sound e limit r a.0.0 true (rest a.0.1) p t.1 f.1.well f.0 f.1.bared h.1 in
          restated limit ws (spell a.0.0 ++ (Marked mark_equals ∷ rest a.0.1)) p (f.1.spelled ∙ ap (λ (x : List Word). spell a.0.0 ++ x) (marked mark_equals a.0.1 (eq_of (mark a.0.1) mark_equals h.0) (omega arith))) g
      | inr h ↦
          let k = if_tells (nat_eq (mark a.0.1) mark_less_or_equal) (mapped (Assign a.0.0 false) (closed e mark_semicolon (rest a.0.1))) p h.1 in
          let g = value_sound e limit r a.0.0 false (rest a.0.1) p t.1 f.1.well f.0 f.1.bared k.1 in
          restated limit ws (spell a.0.0 ++ (Marked mark_less_or_equal ∷ rest a.0.1)) p (f.1.spelled ∙ ap (λ (x : List Word). spell a.0.0 ++ x) (marked mark_less_or_equal a.0.1 (eq_of (mark a.0.1) mark_less_or_equal k.0) (omega arith))) g
    ]

-- ---- all kinds

statement_by_sound : (e : Reader) (sub : StatementReader) (as_arm : ArmReader) (limit : ℕ) → SoundReader e limit → SoundStatements sub limit → SoundArms as_arm limit → (ws : List Word) (p : Statement × List Word) → statement_by e sub as_arm ws ≡ Some p → FitsStatement limit ws p.0 p.1
unfolding statement_by WellFormedStatement depth_statement bare_statement is_open
statement_by_sound e sub as_arm limit r s a ws p q = elim (if_splits (nat_eq (mark ws) mark_semicolon) (Some (Null, rest ws)) (cond (nat_eq (keyword ws) keyword_begin) (block sub (rest ws)) (cond (nat_eq (keyword ws) keyword_if) (conditional e sub (rest ws)) (cond (nat_eq (keyword ws) keyword_for) (looped e sub (rest ws)) (cond (is_case (keyword ws)) (cases e as_arm (keyword ws) (rest ws)) (assignment e ws))))) p q) [
  | inl h ↦ at_pair limit ws Null (rest ws) p h.1 (record { well = tt; deep = omega arith; bared = refl; spelled = marked mark_semicolon ws (eq_of (mark ws) mark_semicolon h.0) (omega arith) ∙ rw statement-Null refl; closes = λ o. absurd cc })
  | inr h ↦ elim (if_splits (nat_eq (keyword ws) keyword_begin) (block sub (rest ws)) (cond (nat_eq (keyword ws) keyword_if) (conditional e sub (rest ws)) (cond (nat_eq (keyword ws) keyword_for) (looped e sub (rest ws)) (cond (is_case (keyword ws)) (cases e as_arm (keyword ws) (rest ws)) (assignment e ws)))) p h.1) [
    | inl g ↦ restated limit ws (Reserved keyword_begin ∷ rest ws) p (reserved keyword_begin ws (eq_of (keyword ws) keyword_begin g.0) (omega arith)) (block_sound sub limit s (rest ws) p g.1)
    | inr g ↦ elim (if_splits (nat_eq (keyword ws) keyword_if) (conditional e sub (rest ws)) (cond (nat_eq (keyword ws) keyword_for) (looped e sub (rest ws)) (cond (is_case (keyword ws)) (cases e as_arm (keyword ws) (rest ws)) (assignment e ws))) p g.1) [
      | inl k ↦ restated limit ws (Reserved keyword_if ∷ rest ws) p (reserved keyword_if ws (eq_of (keyword ws) keyword_if k.0) (omega arith)) (conditional_sound e sub limit r s (rest ws) p k.1)
      | inr k ↦ elim (if_splits (nat_eq (keyword ws) keyword_for) (looped e sub (rest ws)) (cond (is_case (keyword ws)) (cases e as_arm (keyword ws) (rest ws)) (assignment e ws)) p k.1) [
        | inl l ↦ restated limit ws (Reserved keyword_for ∷ rest ws) p (reserved keyword_for ws (eq_of (keyword ws) keyword_for l.0) (omega arith)) (looped_sound e sub limit r s (rest ws) p l.1)
        | inr l ↦ elim (if_splits (is_case (keyword ws)) (cases e as_arm (keyword ws) (rest ws)) (assignment e ws) p l.1) [
          | inl o ↦ restated limit ws (Reserved (keyword ws) ∷ rest ws) p (reserved (keyword ws) ws refl (case_less (keyword ws) o.0)) (cases_sound e as_arm limit r a (keyword ws) o.0 (rest ws) p o.1)
          | inr o ↦ assignment_sound e limit r ws p o.1
        ]
      ]
    ]
  ]
]

sound_below : (k : ℕ) → SoundReader (reads k) (suc k)
sound_below k low ws p a b e =
    let f = reads_sound k low a b ws p e in
    (omega (arith, f.deep), record { well = f.well; high = f.high; deep = omega (arith, f.deep); bared = f.bared; spelled = f.spelled })

deeper : (k : ℕ) (ws : List Word) (p : Statement × List Word) → FitsStatement k ws p.0 p.1 → (depth_statement p.0 < suc k) × FitsStatement (suc k) ws p.0 p.1
deeper k ws p f = (omega (arith, f.deep), record { well = f.well; deep = omega (arith, f.deep); bared = f.bared; spelled = f.spelled; closes = f.closes })

deeper_arm : (k : ℕ) (ws : List Word) (p : Arm × List Word) → FitsArm k ws p.0 p.1 → (depth_arm p.0 < suc k) × FitsArm (suc k) ws p.0 p.1
deeper_arm k ws p f = (omega (arith, f.deep), record { well = f.well; deep = omega (arith, f.deep); bared = f.bared; spelled = f.spelled })

mutual
  unfolding statement

  pub statement_sound : (n : ℕ) (ws : List Word) (p : Statement × List Word) → statement n ws ≡ Some p → FitsStatement n ws p.0 p.1
  statement_sound zero ws p q = statement_by_sound nothing no_statement no_arm zero (λ l us r c d f. absurd cc) (λ us r f. absurd cc) (λ us r f. absurd cc) ws p q
  statement_sound (suc k) ws p q = statement_by_sound (reads k) (statement k) (arm k) (suc k) (sound_below k) (λ us r f. deeper k us r (statement_sound k us r f)) (λ us r f. deeper_arm k us r (arm_sound_at k us r f)) ws p q

  arm_sound_at : (n : ℕ) (ws : List Word) (p : Arm × List Word) → arm n ws ≡ Some p → FitsArm n ws p.0 p.1
  arm_sound_at zero ws p q = arm_sound nothing no_statement zero (λ l us r c d f. absurd cc) (λ us r f. absurd cc) ws p q
  arm_sound_at (suc k) ws p q = arm_sound (reads k) (statement k) (suc k) (sound_below k) (λ us r f. deeper k us r (statement_sound k us r f)) ws p q
