-- The equations of the reading function, a step at a time.
use Rattle.std.proofs.Common.{◌≡◌, ◌≤◌, ℕ, zero, suc, List, length, refl, arith, true, false, cond, nat_eq, nat_le, Option, Some, None}
use Rattle.std.proofs.lemmas.Bool.Decides.{nat_tests}
use Rattle.rr_syntax.specs.Words.{Word, keyword_begin, keyword_default, keyword_else, keyword_end, keyword_endcase, keyword_for, keyword_if, mark_open_parenthesis, mark_close_parenthesis, mark_comma, mark_colon, mark_semicolon, mark_equals, mark_less_or_equal}
use Rattle.rr_syntax.specs.Tree.{Tree, Trees, End, More, Identifier, LoopHead, Statement, Statements, Arm, Arms, Null, Block, If, IfElse, Case, Assign, For, Done, CaseItem, NoArms}
use Rattle.rr_syntax.specs.Expressions.{is_target, unary_level}
use Rattle.rr_syntax.specs.Statements.{is_case, defaults}
use Rattle.rr_parse_expr.specs.Reading.{Found, Reader, mapped, chain, mark, rest, expect, closed, snoc}
use Rattle.rr_parse_expr.specs.Reading as expressions
use Rattle.rr_parse_stmt.specs.Reading.{keyword, StatementReader, ArmReader, name, label, snoc_statement, snoc_arm, body, block, tested, after_then, conditional, NamedValue, named_value, setting, loop_head, after_start, head, looped, labels_after, labels, default_arm, labelled_arm, arm_by, arms, cases, assigned, target, assignment, statement_by, statement, arm, below_statement, below_arm}

pub statement-below : (n : ℕ) (ws : List Word) → statement n ws ≡ statement_by (expressions.below n) (below_statement n) (below_arm n) ws
unfolding statement expressions.below below_statement below_arm
statement-below zero ws = refl
statement-below (suc k) ws = refl

pub arm-below : (n : ℕ) (ws : List Word) → arm n ws ≡ arm_by (expressions.below n) (below_statement n) ws
unfolding statement expressions.below below_statement
arm-below zero ws = refl
arm-below (suc k) ws = refl

-- ---- the body of a block

pub body-end : (sub : StatementReader) (n : ℕ) (have : Statements) (ws : List Word) → keyword ws ≡ keyword_end → body sub (suc n) have ws ≡ Some (have, rest ws)
unfolding body
body-end sub n have ws e = rw e refl

pub body-next : (sub : StatementReader) (n : ℕ) (have : Statements) (ws : List Word) (p : Statement × List Word) → nat_eq (keyword ws) keyword_end ≡ false → sub ws ≡ Some p → body sub (suc n) have ws ≡ body sub n (snoc_statement have p.0) p.1
unfolding body chain
body-next sub n have ws p e f = rw (e, f) refl

pub body-none : (sub : StatementReader) (n : ℕ) (have : Statements) (ws : List Word) → nat_eq (keyword ws) keyword_end ≡ false → sub ws ≡ None → body sub n have ws ≡ None
unfolding body chain
body-none sub zero have ws e f = refl
body-none sub (suc n) have ws e f = rw (e, f) refl

pub label-none : (ws : List Word) → nat_eq (mark ws) mark_colon ≡ false → label ws ≡ Some (None, ws)
unfolding label
label-none ws e = rw e refl

pub label-some : (ws : List Word) (p : Identifier × List Word) → mark ws ≡ mark_colon → name (rest ws) ≡ Some p → label ws ≡ Some (Some p.0, p.1)
unfolding label mapped
label-some ws p e f = rw (e, f) refl

pub label-fail : (ws : List Word) → mark ws ≡ mark_colon → name (rest ws) ≡ None → label ws ≡ None
unfolding label mapped
label-fail ws e f = rw (e, f) refl

pub block-some : (sub : StatementReader) (ws : List Word) (l : Option Identifier × List Word) (p : Statements × List Word) → label ws ≡ Some l → body sub (suc (length l.1)) Done l.1 ≡ Some p → block sub ws ≡ Some (Block l.0 p.0, p.1)
unfolding block chain mapped
block-some sub ws l p e f = rw (e, f) refl

pub block-open : (sub : StatementReader) (ws : List Word) (l : Option Identifier × List Word) → label ws ≡ Some l → body sub (suc (length l.1)) Done l.1 ≡ None → block sub ws ≡ None
unfolding block chain mapped
block-open sub ws l e f = rw (e, f) refl

pub block-none : (sub : StatementReader) (ws : List Word) → label ws ≡ None → block sub ws ≡ None
unfolding block chain
block-none sub ws e = rw e refl

-- ---- if

pub tested-some : (e : Reader) (ws : List Word) (p : Tree × List Word) → mark ws ≡ mark_open_parenthesis → closed e mark_close_parenthesis (rest ws) ≡ Some p → tested e ws ≡ Some p
unfolding tested expect
tested-some e ws p m f = rw (m, f) refl

pub tested-open : (e : Reader) (ws : List Word) → mark ws ≡ mark_open_parenthesis → closed e mark_close_parenthesis (rest ws) ≡ None → tested e ws ≡ None
unfolding tested expect
tested-open e ws m f = rw (m, f) refl

pub tested-other : (e : Reader) (ws : List Word) → nat_eq (mark ws) mark_open_parenthesis ≡ false → tested e ws ≡ None
unfolding tested expect
tested-other e ws m = rw m refl

pub if-then : (e : Reader) (sub : StatementReader) (ws : List Word) (t : Tree × List Word) (s : Statement × List Word) → tested e ws ≡ Some t → sub t.1 ≡ Some s → conditional e sub ws ≡ after_then sub t.0 s.0 s.1
unfolding conditional chain
if-then e sub ws t s f g = rw (f, g) refl

pub if-none : (e : Reader) (sub : StatementReader) (ws : List Word) → tested e ws ≡ None → conditional e sub ws ≡ None
unfolding conditional chain
if-none e sub ws f = rw f refl

pub if-open : (e : Reader) (sub : StatementReader) (ws : List Word) (t : Tree × List Word) → tested e ws ≡ Some t → sub t.1 ≡ None → conditional e sub ws ≡ None
unfolding conditional chain
if-open e sub ws t f g = rw (f, g) refl

pub then-alone : (sub : StatementReader) (t : Tree) (s : Statement) (ws : List Word) → nat_eq (keyword ws) keyword_else ≡ false → after_then sub t s ws ≡ Some (If t s, ws)
unfolding after_then
then-alone sub t s ws e = rw e refl

pub then-else : (sub : StatementReader) (t : Tree) (s : Statement) (ws : List Word) (u : Statement × List Word) → keyword ws ≡ keyword_else → sub (rest ws) ≡ Some u → after_then sub t s ws ≡ Some (IfElse t s u.0, u.1)
unfolding after_then mapped
then-else sub t s ws u e f = rw (e, f) refl

pub then-open : (sub : StatementReader) (t : Tree) (s : Statement) (ws : List Word) → keyword ws ≡ keyword_else → sub (rest ws) ≡ None → after_then sub t s ws ≡ None
unfolding after_then mapped
then-open sub t s ws e f = rw (e, f) refl

-- ---- for

pub setting-some : (e : Reader) (m : ℕ) (ws : List Word) (i : Identifier × List Word) (t : Tree × List Word) → name ws ≡ Some i → mark i.1 ≡ mark_equals → closed e m (rest i.1) ≡ Some t → setting e m ws ≡ Some (named_value i.0 t.0, t.1)
unfolding setting chain expect mapped
setting-some e m ws i t f g h = rw (f, g, h) refl

pub setting-none : (e : Reader) (m : ℕ) (ws : List Word) → name ws ≡ None → setting e m ws ≡ None
unfolding setting chain
setting-none e m ws f = rw f refl

pub setting-other : (e : Reader) (m : ℕ) (ws : List Word) (i : Identifier × List Word) → name ws ≡ Some i → nat_eq (mark i.1) mark_equals ≡ false → setting e m ws ≡ None
unfolding setting chain expect
setting-other e m ws i f g = rw (f, g) refl

pub setting-open : (e : Reader) (m : ℕ) (ws : List Word) (i : Identifier × List Word) → name ws ≡ Some i → mark i.1 ≡ mark_equals → closed e m (rest i.1) ≡ None → setting e m ws ≡ None
unfolding setting chain expect mapped
setting-open e m ws i f g h = rw (f, g, h) refl

pub head-start : (e : Reader) (ws : List Word) (a : NamedValue × List Word) → mark ws ≡ mark_open_parenthesis → setting e mark_semicolon (rest ws) ≡ Some a → head e ws ≡ after_start e a.0 a.1
unfolding head expect chain
head-start e ws a m f = rw (m, f) refl

pub head-other : (e : Reader) (ws : List Word) → nat_eq (mark ws) mark_open_parenthesis ≡ false → head e ws ≡ None
unfolding head expect
head-other e ws m = rw m refl

pub head-none : (e : Reader) (ws : List Word) → mark ws ≡ mark_open_parenthesis → setting e mark_semicolon (rest ws) ≡ None → head e ws ≡ None
unfolding head expect chain
head-none e ws m f = rw (m, f) refl

pub start-some : (e : Reader) (a : NamedValue) (ws : List Word) (t : Tree × List Word) (b : NamedValue × List Word) → closed e mark_semicolon ws ≡ Some t → setting e mark_close_parenthesis t.1 ≡ Some b → after_start e a ws ≡ Some (loop_head a t.0 b.0, b.1)
unfolding after_start chain mapped
start-some e a ws t b f g = rw (f, g) refl

pub start-none : (e : Reader) (a : NamedValue) (ws : List Word) → closed e mark_semicolon ws ≡ None → after_start e a ws ≡ None
unfolding after_start chain
start-none e a ws f = rw f refl

pub start-open : (e : Reader) (a : NamedValue) (ws : List Word) (t : Tree × List Word) → closed e mark_semicolon ws ≡ Some t → setting e mark_close_parenthesis t.1 ≡ None → after_start e a ws ≡ None
unfolding after_start chain mapped
start-open e a ws t f g = rw (f, g) refl

pub looped-some : (e : Reader) (sub : StatementReader) (ws : List Word) (h : LoopHead × List Word) (s : Statement × List Word) → head e ws ≡ Some h → sub h.1 ≡ Some s → looped e sub ws ≡ Some (For h.0 s.0, s.1)
unfolding looped chain mapped
looped-some e sub ws h s f g = rw (f, g) refl

pub looped-none : (e : Reader) (sub : StatementReader) (ws : List Word) → head e ws ≡ None → looped e sub ws ≡ None
unfolding looped chain
looped-none e sub ws f = rw f refl

pub looped-open : (e : Reader) (sub : StatementReader) (ws : List Word) (h : LoopHead × List Word) → head e ws ≡ Some h → sub h.1 ≡ None → looped e sub ws ≡ None
unfolding looped chain mapped
looped-open e sub ws h f g = rw (f, g) refl

-- ---- case

pub labels-end : (e : Reader) (n : ℕ) (have : Trees) (ws : List Word) → mark ws ≡ mark_colon → labels_after e (suc n) have ws ≡ Some (have, rest ws)
unfolding labels_after
labels-end e n have ws m = rw m refl

pub labels-comma : (e : Reader) (n : ℕ) (have : Trees) (ws : List Word) (p : Tree × List Word) → mark ws ≡ mark_comma → e 1 (rest ws) ≡ Some p → labels_after e (suc n) have ws ≡ labels_after e n (snoc have p.0) p.1
unfolding labels_after chain
labels-comma e n have ws p m f = rw (m, f) refl

pub labels-first : (e : Reader) (ws : List Word) (p : Tree × List Word) → e 1 ws ≡ Some p → labels e ws ≡ labels_after e (suc (length p.1)) (More p.0 End) p.1
unfolding labels chain
labels-first e ws p f = rw f refl

pub labels-none : (e : Reader) (ws : List Word) → e 1 ws ≡ None → labels e ws ≡ None
unfolding labels chain
labels-none e ws f = rw f refl

pub default-colon : (sub : StatementReader) (ws : List Word) (p : Statement × List Word) → mark ws ≡ mark_colon → sub (rest ws) ≡ Some p → default_arm sub ws ≡ Some (CaseItem End true p.0, p.1)
unfolding default_arm mapped
default-colon sub ws p m f = rw (m, f) refl

pub default-alone : (sub : StatementReader) (ws : List Word) (p : Statement × List Word) → nat_eq (mark ws) mark_colon ≡ false → sub ws ≡ Some p → default_arm sub ws ≡ Some (CaseItem End false p.0, p.1)
unfolding default_arm mapped
default-alone sub ws p m f = rw (m, f) refl

pub labelled-some : (e : Reader) (sub : StatementReader) (ws : List Word) (ts : Trees × List Word) (p : Statement × List Word) → labels e ws ≡ Some ts → sub ts.1 ≡ Some p → labelled_arm e sub ws ≡ Some (CaseItem ts.0 true p.0, p.1)
unfolding labelled_arm chain mapped
labelled-some e sub ws ts p f g = rw (f, g) refl

pub arm-default : (e : Reader) (sub : StatementReader) (ws : List Word) → keyword ws ≡ keyword_default → arm_by e sub ws ≡ default_arm sub (rest ws)
unfolding arm_by
arm-default e sub ws f = rw f refl

pub arm-labelled : (e : Reader) (sub : StatementReader) (ws : List Word) → nat_eq (keyword ws) keyword_default ≡ false → arm_by e sub ws ≡ labelled_arm e sub ws
unfolding arm_by
arm-labelled e sub ws f = rw f refl

at_most_one : (n : ℕ) → n ≤ 1 → nat_le n 1 ≡ true
at_most_one n h = grind (arith, nat_tests)

-- after an arm: the end, or the next one
abbrev pub go_on : (Arms → List Word → Found Arms) → Arms → List Word → Found Arms
go_on f have ws = cond (nat_eq (keyword ws) keyword_endcase) (Some (have, rest ws)) (f have ws)

pub arms-step : (sub : ArmReader) (n : ℕ) (have : Arms) (ws : List Word) (p : Arm × List Word) → sub ws ≡ Some p → defaults (snoc_arm have p.0) ≤ 1 → arms sub (suc n) have ws ≡ go_on (arms sub n) (snoc_arm have p.0) p.1
unfolding arms chain
arms-step sub n have ws p f d = let e = at_most_one (defaults (snoc_arm have p.0)) d in rw (f, e) refl

pub arms-end : (sub : ArmReader) (n : ℕ) (have : Arms) (ws : List Word) (p : Arm × List Word) → sub ws ≡ Some p → defaults (snoc_arm have p.0) ≤ 1 → keyword p.1 ≡ keyword_endcase → arms sub (suc n) have ws ≡ Some (snoc_arm have p.0, rest p.1)
unfolding arms chain
arms-end sub n have ws p f d k = let e = at_most_one (defaults (snoc_arm have p.0)) d in rw (f, e, k) refl

pub arms-next : (sub : ArmReader) (n : ℕ) (have : Arms) (ws : List Word) (p : Arm × List Word) → sub ws ≡ Some p → defaults (snoc_arm have p.0) ≤ 1 → nat_eq (keyword p.1) keyword_endcase ≡ false → arms sub (suc n) have ws ≡ arms sub n (snoc_arm have p.0) p.1
unfolding arms chain
arms-next sub n have ws p f d k = let e = at_most_one (defaults (snoc_arm have p.0)) d in rw (f, e, k) refl

pub case-some : (e : Reader) (sub : ArmReader) (kind : ℕ) (ws : List Word) (t : Tree × List Word) (p : Arms × List Word) → tested e ws ≡ Some t → arms sub (suc (length t.1)) NoArms t.1 ≡ Some p → cases e sub kind ws ≡ Some (Case kind t.0 p.0, p.1)
unfolding cases chain mapped
case-some e sub kind ws t p f g = rw (f, g) refl

-- ---- assignments

pub assigned-now : (e : Reader) (t : Tree) (ws : List Word) (p : Tree × List Word) → mark ws ≡ mark_equals → closed e mark_semicolon (rest ws) ≡ Some p → assigned e t ws ≡ Some (Assign t true p.0, p.1)
unfolding assigned mapped
assigned-now e t ws p m f = rw (m, f) refl

pub assigned-later : (e : Reader) (t : Tree) (ws : List Word) (p : Tree × List Word) → mark ws ≡ mark_less_or_equal → closed e mark_semicolon (rest ws) ≡ Some p → assigned e t ws ≡ Some (Assign t false p.0, p.1)
unfolding assigned mapped
assigned-later e t ws p m f = rw (m, f) refl

pub target-is : (e : Reader) (ws : List Word) (p : Tree × List Word) → e unary_level ws ≡ Some p → is_target p.0 ≡ true → target e ws ≡ Some p
unfolding target chain
target-is e ws p f h = rw (f, h) refl

pub target-not : (e : Reader) (ws : List Word) (p : Tree × List Word) → e unary_level ws ≡ Some p → is_target p.0 ≡ false → target e ws ≡ None
unfolding target chain
target-not e ws p f h = rw (f, h) refl

pub target-none : (e : Reader) (ws : List Word) → e unary_level ws ≡ None → target e ws ≡ None
unfolding target chain
target-none e ws f = rw f refl

pub assignment-some : (e : Reader) (ws : List Word) (p : Tree × List Word) → target e ws ≡ Some p → assignment e ws ≡ assigned e p.0 p.1
unfolding assignment chain
assignment-some e ws p f = rw f refl

pub assignment-none : (e : Reader) (ws : List Word) → target e ws ≡ None → assignment e ws ≡ None
unfolding assignment chain
assignment-none e ws f = rw f refl

pub assignment-target : (e : Reader) (ws : List Word) (p : Tree × List Word) → e unary_level ws ≡ Some p → is_target p.0 ≡ true → assignment e ws ≡ assigned e p.0 p.1
assignment-target e ws p f h = assignment-some e ws p (target-is e ws p f h)

-- ---- the kinds of statements by their first words

not_begin : (k : ℕ) → is_case k ≡ true → nat_eq k keyword_begin ≡ false
not_begin k h = grind (arith, nat_tests)

not_if : (k : ℕ) → is_case k ≡ true → nat_eq k keyword_if ≡ false
not_if k h = grind (arith, nat_tests)

not_for : (k : ℕ) → is_case k ≡ true → nat_eq k keyword_for ≡ false
not_for k h = grind (arith, nat_tests)

module _ (e : Reader) (sub : StatementReader) (as_arm : ArmReader) (ws : List Word) where
  pub by-null : mark ws ≡ mark_semicolon → statement_by e sub as_arm ws ≡ Some (Null, rest ws)
  unfolding statement_by
  by-null m = rw m refl

  pub by-begin : nat_eq (mark ws) mark_semicolon ≡ false → keyword ws ≡ keyword_begin → statement_by e sub as_arm ws ≡ block sub (rest ws)
  unfolding statement_by
  by-begin m k = rw (m, k) refl

  pub by-if : nat_eq (mark ws) mark_semicolon ≡ false → keyword ws ≡ keyword_if → statement_by e sub as_arm ws ≡ conditional e sub (rest ws)
  unfolding statement_by
  by-if m k = rw (m, k) refl

  pub by-for : nat_eq (mark ws) mark_semicolon ≡ false → keyword ws ≡ keyword_for → statement_by e sub as_arm ws ≡ looped e sub (rest ws)
  unfolding statement_by
  by-for m k = rw (m, k) refl

  pub by-case : nat_eq (mark ws) mark_semicolon ≡ false → is_case (keyword ws) ≡ true → statement_by e sub as_arm ws ≡ cases e as_arm (keyword ws) (rest ws)
  unfolding statement_by
  by-case m k =
      let a : nat_eq (keyword ws) keyword_begin ≡ false = not_begin (keyword ws) k in
      let b : nat_eq (keyword ws) keyword_if ≡ false = not_if (keyword ws) k in
      let c : nat_eq (keyword ws) keyword_for ≡ false = not_for (keyword ws) k in
      rw (m, a, b, c, k) refl

  pub by-assignment : nat_eq (mark ws) mark_semicolon ≡ false → nat_eq (keyword ws) keyword_begin ≡ false → nat_eq (keyword ws) keyword_if ≡ false → nat_eq (keyword ws) keyword_for ≡ false → is_case (keyword ws) ≡ false → statement_by e sub as_arm ws ≡ assignment e ws
  unfolding statement_by
  by-assignment m a b c k = rw (m, a, b, c, k) refl
