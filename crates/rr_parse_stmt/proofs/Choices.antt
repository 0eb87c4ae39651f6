-- What the functions that read conditions, arms, assignments and whole statements answer, over plain values.
use Rattle.std.proofs.Common.{◌≡◌, ℕ, zero, suc, ◌+◌, ◌-◌, ◌^◌, ◌≤◌, ◌<◌, List, [], ◌∷◌, ◌++◌, length, drop, refl, ap, ◌∙◌, sym, arith, Bool, true, false, cond, nat_eq, nat_le, Option, Some, None, length-append, length-drop, subst}
use Rattle.std.proofs.lemmas.Bool.Decides.{Decides-eqb, nat_tests}
use Rattle.rr_syntax.specs.declared.token.Token.{Token}
use Rattle.rr_syntax.specs.declared.tree.Expr.{Expr}
use Rattle.rr_syntax.specs.declared.tree.Stmt.{Stmt}
use Rattle.rr_syntax.specs.declared.tree.Stmt.TheVariants as stmt
use Rattle.rr_syntax.specs.declared.tree.Arm.{Arm as Branch}
use Rattle.rr_syntax.specs.Words.{Word, words, keyword_begin, keyword_default, keyword_else, keyword_endcase, keyword_for, keyword_if, mark_colon, mark_semicolon, mark_equals, mark_less_or_equal}
use Rattle.rr_syntax.specs.Tree.{Tree, Trees, End, More, Statement, Arm, Arms, Null, If, IfElse, Case, Assign, CaseItem, NoArms, MoreArms, bare, bare_parts, bare_statement, bare_arm, bare_arms}
use Rattle.rr_syntax.specs.Expressions.{spell, spell_more, Numbered, is_target, unary_level}
use Rattle.rr_syntax.specs.Statements.{spell_labels, spell_statement, spell_arm, spell_arms, is_case, defaults, NumberedLabels, NumberedStatement, NumberedArm, NumberedArms}
use Rattle.rr_syntax.specs.View.{plain, plain_list, plain_statement, plain_arm, plain_arms}
use Rattle.rr_syntax.proofs.BareExpressions.{is_target-bare}
use Rattle.rr_syntax.proofs.Equations.{spellings, statement_spellings}
use Rattle.rr_syntax.proofs.Nonempty.{spell_arm-some}
use Rattle.rr_syntax.proofs.Rows.{plain_case}
use Rattle.rr_parse_expr.specs.Reading.{Found, Reader, mapped, chain, mark, rest, closed}
use Rattle.rr_parse_expr.specs.Reading as expressions
use Rattle.rr_parse_expr.proofs.TokenWords.{length_words}
use Rattle.rr_parse_expr.proofs.Answered.{not_equal, mark_inside, rest_drop, rest_next}
use Rattle.rr_parse_stmt.specs.declared.expressions.Placed.{Placed}
use Rattle.rr_parse_stmt.specs.declared.expressions.LabelList.{LabelList}
use Rattle.rr_parse_stmt.specs.declared.nodes.Piece.{Piece}
use Rattle.rr_parse_stmt.specs.declared.nodes.ArmPiece.{ArmPiece}
use Rattle.rr_parse_stmt.specs.Reading.{keyword, snoc_arm, block, tested, after_then, conditional, looped, labels, default_arm, labelled_arm, arm_by, arms, cases, sign, assigned, target, assignment, statement_by, below_statement, below_arm}
use Rattle.rr_parse_stmt.specs.Answer.{IsPiece, IsArmPiece, FindsTree, FindsTarget, AnswersTarget, FindsLabels, FindsStatement, FindsArm, FindsArms}
use Rattle.rr_parse_stmt.specs.Loops.{at_most_one, Armed}
use Rattle.rr_parse_stmt.proofs.Steps.{statement-below, arm-below, if-then, if-open, then-alone, then-else, then-open, default-colon, default-alone, labelled-some, arm-default, arm-labelled, go_on, arms-step, case-some, assigned-now, assigned-later, target-is, target-not, assignment-some, assignment-none, by-null, by-begin, by-if, by-for, by-case, by-assignment}
use denote.Ref.{Bor}
use Rattle.rr_parse_stmt.proofs.Answered.{keyword_inside}

-- ---- if

pub as_piece : (T : List Token) (begin : ℕ) (found : Found Statement) (s : Statement) (next : ℕ) (r : Piece) → IsPiece s next r → found ≡ Some (bare_statement s, drop next (words T)) → next ≤ length T → next ≡ begin + length (spell_statement s) → NumberedStatement s begin →
    FindsStatement T begin found r
as_piece T begin found s next r i f w t n =
    let P : Statement → Type 0 = λ (x : Statement). NumberedStatement x begin in
    record {
      found_is = f ∙ ap (λ (x : Statement). Some (bare_statement x, drop next (words T))) (sym i.tree) ∙ ap (λ (k : ℕ). Some (bare_statement (plain_statement r.stmt), drop k (words T))) (sym i.next_is);
      within = omega (arith, w, i.next_is);
      taken = omega (arith, t, i.next_is, ap (λ (x : Statement). length (spell_statement x)) i.tree);
      numbered = subst P (sym i.tree) n;
    }

pub as_arm : (T : List Token) (begin : ℕ) (found : Found Arm) (a : Arm) (next : ℕ) (r : ArmPiece) → IsArmPiece a next r → found ≡ Some (bare_arm a, drop next (words T)) → next ≤ length T → next ≡ begin + length (spell_arm a) → NumberedArm a begin →
    FindsArm T begin found r
as_arm T begin found a next r i f w t n =
    let P : Arm → Type 0 = λ (x : Arm). NumberedArm x begin in
    record {
      found_is = f ∙ ap (λ (x : Arm). Some (bare_arm x, drop next (words T))) (sym i.tree) ∙ ap (λ (k : ℕ). Some (bare_arm (plain_arm r.arm), drop k (words T))) (sym i.next_is);
      within = omega (arith, w, i.next_is);
      taken = omega (arith, t, i.next_is, ap (λ (x : Arm). length (spell_arm x)) i.tree);
      numbered = subst P (sym i.tree) n;
    }

len-If : (t : Tree) (s : Statement) → length (spell_statement (If t s)) ≡ 3 + length (spell t) + length (spell_statement s)
len-If t s = simp (statement_spellings, length-append) (omega arith)

len-IfElse : (t : Tree) (s u : Statement) → length (spell_statement (IfElse t s u)) ≡ 4 + length (spell t) + length (spell_statement s) + length (spell_statement u)
len-IfElse t s u = simp (statement_spellings, length-append) (omega arith)

pub at_next : (n m : ℕ) (t : Tree) → n ≡ m → Numbered t n → Numbered t m
at_next n m t e h = let P : ℕ → Type 0 = λ (k : ℕ). Numbered t k in subst P e h

pub at_place : (n m : ℕ) (s : Statement) → n ≡ m → NumberedStatement s n → NumberedStatement s m
at_place n m s e h = let P : ℕ → Type 0 = λ (k : ℕ). NumberedStatement s k in subst P e h

pub if_reads : (T : List Token) (from room : ℕ) (t : Placed) (s : Piece) → FindsTree T (from + 1 + 1) 1 (tested (expressions.below room) (drop (from + 1) (words T))) t → FindsStatement T t.next (below_statement room (drop t.next (words T))) s →
    conditional (expressions.below room) (below_statement room) (drop (from + 1) (words T)) ≡ after_then (below_statement room) (bare (plain t.expr.now)) (bare_statement (plain_statement s.stmt)) (drop s.next (words T))
if_reads T from room t s f g = if-then (expressions.below room) (below_statement room) (drop (from + 1) (words T)) (bare (plain t.expr.now), drop t.next (words T)) (bare_statement (plain_statement s.stmt), drop s.next (words T)) f.found_is g.found_is

pub made_if : (T : List Token) (from room : ℕ) (t : Placed) (s r : Piece) → IsPiece (If (plain t.expr.now) (plain_statement s.stmt)) s.next r → FindsTree T (from + 1 + 1) 1 (tested (expressions.below room) (drop (from + 1) (words T))) t → FindsStatement T t.next (below_statement room (drop t.next (words T))) s →
    (keyword (drop s.next (words T)) ≡ keyword_else → ⊥) → FindsStatement T from (conditional (expressions.below room) (below_statement room) (drop (from + 1) (words T))) r
unfolding bare_statement NumberedStatement
made_if T from room t s r i f g k =
    as_piece T from (conditional (expressions.below room) (below_statement room) (drop (from + 1) (words T))) (If (plain t.expr.now) (plain_statement s.stmt)) s.next r i
    (if_reads T from room t s f g ∙ then-alone (below_statement room) (bare (plain t.expr.now)) (bare_statement (plain_statement s.stmt)) (drop s.next (words T)) (not_equal (keyword (drop s.next (words T))) keyword_else k))
    g.within
    (omega (arith, f.taken, g.taken, len-If (plain t.expr.now) (plain_statement s.stmt)))
    (at_next (from + 1 + 1) (from + 2) (plain t.expr.now) (omega arith) f.numbered, at_place t.next (from + 2 + length (spell (plain t.expr.now)) + 1) (plain_statement s.stmt) (omega (arith, f.taken)) g.numbered)

pub made_else : (T : List Token) (from room : ℕ) (t : Placed) (s u r : Piece) → IsPiece (IfElse (plain t.expr.now) (plain_statement s.stmt) (plain_statement u.stmt)) u.next r → FindsTree T (from + 1 + 1) 1 (tested (expressions.below room) (drop (from + 1) (words T))) t → FindsStatement T t.next (below_statement room (drop t.next (words T))) s →
    keyword (drop s.next (words T)) ≡ keyword_else → FindsStatement T (s.next + 1) (below_statement room (drop (s.next + 1) (words T))) u →
    FindsStatement T from (conditional (expressions.below room) (below_statement room) (drop (from + 1) (words T))) r
unfolding bare_statement NumberedStatement
made_else T from room t s u r i f g k h =
    let w : below_statement room (rest (drop s.next (words T))) ≡ Some (bare_statement (plain_statement u.stmt), drop u.next (words T)) = rw rest_drop h.found_is in
    as_piece T from (conditional (expressions.below room) (below_statement room) (drop (from + 1) (words T))) (IfElse (plain t.expr.now) (plain_statement s.stmt) (plain_statement u.stmt)) u.next r i
    (if_reads T from room t s f g ∙ then-else (below_statement room) (bare (plain t.expr.now)) (bare_statement (plain_statement s.stmt)) (drop s.next (words T)) (bare_statement (plain_statement u.stmt), drop u.next (words T)) k w)
    h.within
    (omega (arith, f.taken, g.taken, h.taken, len-IfElse (plain t.expr.now) (plain_statement s.stmt) (plain_statement u.stmt))) (
      at_next (from + 1 + 1) (from + 2) (plain t.expr.now) (omega arith) f.numbered,
      at_place t.next (from + 2 + length (spell (plain t.expr.now)) + 1) (plain_statement s.stmt) (omega (arith, f.taken)) g.numbered,
      at_place (s.next + 1) (from + 2 + length (spell (plain t.expr.now)) + 1 + length (spell_statement (plain_statement s.stmt)) + 1) (plain_statement u.stmt) (omega (arith, f.taken, g.taken)) h.numbered,
    )

pub else_fails : (T : List Token) (from room : ℕ) (t : Placed) (s : Piece) → FindsTree T (from + 1 + 1) 1 (tested (expressions.below room) (drop (from + 1) (words T))) t → FindsStatement T t.next (below_statement room (drop t.next (words T))) s →
    keyword (drop s.next (words T)) ≡ keyword_else → below_statement room (drop (s.next + 1) (words T)) ≡ None → conditional (expressions.below room) (below_statement room) (drop (from + 1) (words T)) ≡ None
else_fails T from room t s f g k h = if_reads T from room t s f g ∙ then-open (below_statement room) (bare (plain t.expr.now)) (bare_statement (plain_statement s.stmt)) (drop s.next (words T)) k (rw rest_drop h)

pub then_fails : (T : List Token) (from room : ℕ) (t : Placed) → FindsTree T (from + 1 + 1) 1 (tested (expressions.below room) (drop (from + 1) (words T))) t → below_statement room (drop t.next (words T)) ≡ None →
    conditional (expressions.below room) (below_statement room) (drop (from + 1) (words T)) ≡ None
then_fails T from room t f e = if-open (expressions.below room) (below_statement room) (drop (from + 1) (words T)) (bare (plain t.expr.now), drop t.next (words T)) f.found_is e

-- ---- arms

arms_snoc : (list : List Branch) (a : Branch) → plain_arms (list ++ (a ∷ [])) ≡ snoc_arm (plain_arms list) (plain_arm a)
unfolding plain_arms snoc_arm
arms_snoc [] a = refl
arms_snoc (x ∷ list) a = ap (MoreArms (plain_arm x)) (arms_snoc list a)

bare_snoc_arm : (list : Arms) (a : Arm) → bare_arms (snoc_arm list a) ≡ snoc_arm (bare_arms list) (bare_arm a)
unfolding bare_statement snoc_arm
bare_snoc_arm NoArms a = refl
bare_snoc_arm (MoreArms b list) a = ap (MoreArms (bare_arm b)) (bare_snoc_arm list a)

arms_length : (list : Arms) (a : Arm) → length (spell_arms (snoc_arm list a)) ≡ length (spell_arms list) + length (spell_arm a)
unfolding snoc_arm
arms_length NoArms a = simp (statement_spellings, length-append) (omega arith)
arms_length (MoreArms b list) a = simp (statement_spellings, length-append) (omega (arith, arms_length list a))

arms_first : (a : Arm) (list : Arms) → length (spell_arms (MoreArms a list)) ≡ length (spell_arm a) + length (spell_arms list)
arms_first a list = simp (statement_spellings, length-append) (omega arith)

no_arms : length (spell_arms NoArms) ≡ 0
no_arms = simp statement_spellings refl

arms_numbered : (list : Arms) (a : Arm) (at n : ℕ) → n ≡ at + length (spell_arms list) → NumberedArms list at → NumberedArm a n → NumberedArms (snoc_arm list a) at
unfolding NumberedStatement snoc_arm
arms_numbered NoArms a at n h x y = (let P : ℕ → Type 0 = λ (k : ℕ). NumberedArm a k in subst P (omega (arith, h, no_arms)) y, tt)
arms_numbered (MoreArms b list) a at n h x y = (x.0, arms_numbered list a (at + length (spell_arm b)) n (omega (arith, h, arms_first b list)) x.1 y)

defaults_snoc : (have : Arms) (a : Arm) → defaults (snoc_arm have a) ≡ defaults have + defaults (MoreArms a NoArms)
unfolding defaults snoc_arm
defaults_snoc NoArms (CaseItem End c s) = refl
defaults_snoc NoArms (CaseItem (More t ts) c s) = refl
defaults_snoc (MoreArms (CaseItem End d u) have) a = omega (arith, defaults_snoc have a)
defaults_snoc (MoreArms (CaseItem (More u us) d v) have) a = defaults_snoc have a

defaults_bare : (list : Arms) → defaults (bare_arms list) ≡ defaults list
unfolding defaults bare_statement bare
defaults_bare NoArms = refl
defaults_bare (MoreArms (CaseItem End c s) list) = ap suc (defaults_bare list)
defaults_bare (MoreArms (CaseItem (More t ts) c s) list) = defaults_bare list

one_default : (c : Bool) (s : Statement) → defaults (MoreArms (CaseItem (plain_list []) c s) NoArms) ≡ 1
unfolding defaults plain_list
one_default c s = refl

no_default : (e : Expr) (es : List Expr) (c : Bool) (s : Statement) → defaults (MoreArms (CaseItem (plain_list (e ∷ es)) c s) NoArms) ≡ 0
unfolding defaults plain_list
no_default e es c s = refl

pub no_labels : (a : Branch) → length a.labels.now ≡ 0 → defaults (MoreArms (plain_arm a) NoArms) ≡ 1
unfolding defaults plain_arm
no_labels a e = elim (a.labels.now) as (λ es. length es ≡ 0 → defaults (MoreArms (CaseItem (plain_list es) a.colon (plain_statement a.body.now)) NoArms) ≡ 1) [ [] ↦ λ h. one_default a.colon (plain_statement a.body.now) | x ∷ xs ↦ λ h. absurd (omega arith) ] e

pub some_labels : (a : Branch) → (length a.labels.now ≡ 0 → ⊥) → defaults (MoreArms (plain_arm a) NoArms) ≡ 0
unfolding defaults plain_arm
some_labels a h = elim (a.labels.now) as (λ es. (length es ≡ 0 → ⊥) → defaults (MoreArms (CaseItem (plain_list es) a.colon (plain_statement a.body.now)) NoArms) ≡ 0) [ [] ↦ λ k. absurd (k refl) | x ∷ xs ↦ λ k. no_default x xs a.colon (plain_statement a.body.now) ] h

one_few : (n : ℕ) → n ≤ 1 → nat_le n 1 ≡ true
one_few n h = grind (arith, nat_tests)

pub at_most_few : (n : ℕ) → n ≤ 1 → at_most_one n ≡ Some n
unfolding at_most_one
at_most_few n h = let e = one_few n h in rw e refl

one_many : (n : ℕ) → 1 < n → nat_le n 1 ≡ false
one_many n h = grind (arith, nat_tests)

pub at_most_many : (n : ℕ) → 1 < n → at_most_one n ≡ None
unfolding at_most_one
at_most_many n h = let e = one_many n h in rw e refl

pub at_most_is : (n k : ℕ) → at_most_one n ≡ Some k → (k ≡ n) × (n ≤ 1)
at_most_is zero k e = let f : Some zero ≡ Some k = sym (at_most_few zero (omega arith)) ∙ e in (cc f, omega arith)
at_most_is (suc zero) k e = let f : Some 1 ≡ Some k = sym (at_most_few 1 (omega arith)) ∙ e in (cc f, omega arith)
at_most_is (suc (suc n)) k e = let f : None ≡ Some k = sym (at_most_many (suc (suc n)) (omega arith)) ∙ e in absurd cc

some_none : (k : ℕ) (o : Option ℕ) → o ≡ Some k → o ≡ None → ⊥
some_none k o e h = cc (e, h)

pub at_most_none : (n : ℕ) → at_most_one n ≡ None → 1 < n
at_most_none zero e = absurd (some_none zero (at_most_one zero) (at_most_few zero (omega arith)) e)
at_most_none (suc zero) e = absurd (some_none 1 (at_most_one 1) (at_most_few 1 (omega arith)) e)
at_most_none (suc (suc n)) e = omega arith

positive : (d : ℕ) → (d ≡ 0 → ⊥) → 0 < d
positive zero h = absurd (h refl)
positive (suc d) h = omega arith

pub counted_labels : (a : Branch) (d : ℕ) → d ≤ 1 → 0 < length a.labels.now → Some d ≡ at_most_one (d + defaults (MoreArms (plain_arm a) NoArms))
counted_labels a d h k =
    let e : d + defaults (MoreArms (plain_arm a) NoArms) ≡ d = omega (arith, some_labels a (λ n. absurd (omega arith))) in
    sym (ap at_most_one e ∙ at_most_few d h)

pub counted_first : (a : Branch) (d : ℕ) → d ≡ 0 → length a.labels.now ≡ 0 → Some 1 ≡ at_most_one (d + defaults (MoreArms (plain_arm a) NoArms))
counted_first a d z k =
    let e : d + defaults (MoreArms (plain_arm a) NoArms) ≡ 1 = omega (arith, z, no_labels a k) in
    sym (ap at_most_one e ∙ at_most_few 1 (omega arith))

pub counted_second : (a : Branch) (d : ℕ) → (d ≡ 0 → ⊥) → length a.labels.now ≡ 0 → None ≡ at_most_one (d + defaults (MoreArms (plain_arm a) NoArms))
counted_second a d z k = sym (at_most_many (d + defaults (MoreArms (plain_arm a) NoArms)) (omega (arith, no_labels a k, positive d z)))

pub armed_start : (T : List Token) (from room : ℕ) (items : List Branch) → from ≤ length T → items ≡ [] → Armed T from room (arms (below_arm room) (suc (length (drop from (words T)))) NoArms (drop from (words T))) items from 0
unfolding plain_arms bare_statement NumberedStatement defaults
armed_start T from room items i e = rw e (record {
  fuel = suc (length (drop from (words T)));
  enough = omega (arith, length-drop from (words T), length_words T);
  whole = refl;
  counted = refl;
  once = omega arith;
  within = i;
  taken = omega (arith, no_arms);
  numbered = tt;
})

-- what the loop knows after an arm, before it looks for the end
pub record ArmAdded (T : List Token) (begin room : ℕ) (found : Found Arms) (items : List Branch) (next count : ℕ) : Type 0 where
  pub fuel : ℕ
  pub enough : length T < fuel + next
  pub whole : found ≡ go_on (arms (below_arm room) fuel) (bare_arms (plain_arms items)) (drop next (words T))
  pub counted : count ≡ defaults (plain_arms items)
  pub once : count ≤ 1
  pub within : next ≤ length T
  pub taken : next ≡ begin + length (spell_arms (plain_arms items))
  pub numbered : NumberedArms (plain_arms items) begin

arm_turn : (T : List Token) (begin room : ℕ) (found : Found Arms) (items : List Branch) (next count more : ℕ) (r : ArmPiece) (fuel : ℕ) (c : Armed T begin room found items next count) → c.fuel ≡ fuel → FindsArm T next (below_arm room (drop next (words T))) r →
    more ≡ count + defaults (MoreArms (plain_arm r.arm) NoArms) → more ≤ 1 → ArmAdded T begin room found (items ++ (r.arm ∷ [])) r.next more
arm_turn T begin room found items next count more r zero c e h m o = absurd (omega (arith, c.enough, c.within))
arm_turn T begin room found items next count more r (suc n) c e h m o =
    let P : Arms → Type 0 = λ (x : Arms). NumberedArms x begin in
    let b : bare_arms (plain_arms (items ++ (r.arm ∷ []))) ≡ snoc_arm (bare_arms (plain_arms items)) (bare_arm (plain_arm r.arm)) = ap bare_arms (arms_snoc items r.arm) ∙ bare_snoc_arm (plain_arms items) (plain_arm r.arm) in
    let d : more ≡ defaults (plain_arms (items ++ (r.arm ∷ []))) = omega (arith, m, c.counted, ap defaults (arms_snoc items r.arm), defaults_snoc (plain_arms items) (plain_arm r.arm)) in
    let one : defaults (snoc_arm (bare_arms (plain_arms items)) (bare_arm (plain_arm r.arm))) ≤ 1 = omega (arith, d, o, ap defaults b, defaults_bare (plain_arms (items ++ (r.arm ∷ [])))) in
    record {
      fuel = n;
      enough = omega (arith, c.enough, h.taken, spell_arm-some (plain_arm r.arm));
      whole = c.whole ∙ ap (λ (k : ℕ). arms (below_arm room) k (bare_arms (plain_arms items)) (drop next (words T))) e ∙
          arms-step (below_arm room) n (bare_arms (plain_arms items)) (drop next (words T)) (bare_arm (plain_arm r.arm), drop r.next (words T)) h.found_is one ∙
          ap (λ (us : Arms). go_on (arms (below_arm room) n) us (drop r.next (words T))) (sym b);
      counted = d;
      once = o;
      within = h.within;
      taken = omega (arith, c.taken, h.taken, ap (λ (us : Arms). length (spell_arms us)) (arms_snoc items r.arm), arms_length (plain_arms items) (plain_arm r.arm));
      numbered = subst P (sym (arms_snoc items r.arm)) (arms_numbered (plain_arms items) (plain_arm r.arm) begin next c.taken c.numbered h.numbered);
    }

pub arm_added : (T : List Token) (begin room : ℕ) (found : Found Arms) (items new : List Branch) (next count more : ℕ) (r : ArmPiece) → Armed T begin room found items next count → FindsArm T next (below_arm room (drop next (words T))) r →
    new ≡ items ++ (r.arm ∷ []) → more ≡ count + defaults (MoreArms (plain_arm r.arm) NoArms) → more ≤ 1 → ArmAdded T begin room found new r.next more
arm_added T begin room found items new next count more r c h e m o = rw e (arm_turn T begin room found items next count more r c.fuel c refl h m o)

go-end : (f : Arms → List Word → Found Arms) (have : Arms) (ws : List Word) → keyword ws ≡ keyword_endcase → go_on f have ws ≡ Some (have, rest ws)
go-end f have ws e = rw e refl

go-next : (f : Arms → List Word → Found Arms) (have : Arms) (ws : List Word) → nat_eq (keyword ws) keyword_endcase ≡ false → go_on f have ws ≡ f have ws
go-next f have ws e = rw e refl

pub armed_end : (T : List Token) (begin room : ℕ) (found : Found Arms) (items : List Branch) (next count : ℕ) → ArmAdded T begin room found items next count → keyword (drop next (words T)) ≡ keyword_endcase → FindsArms T begin found items (next + 1)
armed_end T begin room found items next count c k = record {
  found_is = c.whole ∙ go-end (arms (below_arm room) c.fuel) (bare_arms (plain_arms items)) (drop next (words T)) k ∙ ap (λ (x : List Word). Some (bare_arms (plain_arms items), x)) (rest_drop (words T) next);
  within = omega (arith, keyword_inside T next keyword_endcase k (omega arith));
  taken = omega (arith, c.taken);
  numbered = c.numbered;
}

pub armed_next : (T : List Token) (begin room : ℕ) (found : Found Arms) (items : List Branch) (next count : ℕ) → ArmAdded T begin room found items next count → (keyword (drop next (words T)) ≡ keyword_endcase → ⊥) → Armed T begin room found items next count
armed_next T begin room found items next count c k = record {
  fuel = c.fuel;
  enough = c.enough;
  whole = c.whole ∙ go-next (arms (below_arm room) c.fuel) (bare_arms (plain_arms items)) (drop next (words T)) (not_equal (keyword (drop next (words T))) keyword_endcase k);
  counted = c.counted;
  once = c.once;
  within = c.within;
  taken = c.taken;
  numbered = c.numbered;
}

arms_stop : (sub : List Word → Found Arm) (fuel : ℕ) (have : Arms) (ws : List Word) → sub ws ≡ None → arms sub fuel have ws ≡ None
unfolding arms chain
arms_stop sub zero have ws e = refl
arms_stop sub (suc n) have ws e = rw e refl

pub armed_fail : (T : List Token) (begin room : ℕ) (found : Found Arms) (items : List Branch) (next count : ℕ) → Armed T begin room found items next count → below_arm room (drop next (words T)) ≡ None → found ≡ None
armed_fail T begin room found items next count c e = c.whole ∙ arms_stop (below_arm room) c.fuel (bare_arms (plain_arms items)) (drop next (words T)) e

too_many : (n : ℕ) → 1 < n → nat_le n 1 ≡ false
too_many n h = grind (arith, nat_tests)

arms_twice : (sub : List Word → Found Arm) (fuel : ℕ) (have : Arms) (ws : List Word) (p : Arm × List Word) → sub ws ≡ Some p → 1 < defaults (snoc_arm have p.0) → arms sub fuel have ws ≡ None
unfolding arms chain
arms_twice sub zero have ws p e h = refl
arms_twice sub (suc n) have ws p e h = let f = too_many (defaults (snoc_arm have p.0)) h in rw (e, f) refl

pub armed_twice : (T : List Token) (begin room : ℕ) (found : Found Arms) (items : List Branch) (next count : ℕ) (r : ArmPiece) → Armed T begin room found items next count → FindsArm T next (below_arm room (drop next (words T))) r →
    1 < count + defaults (MoreArms (plain_arm r.arm) NoArms) → found ≡ None
armed_twice T begin room found items next count r c h m =
    let b : bare_arms (plain_arms (items ++ (r.arm ∷ []))) ≡ snoc_arm (bare_arms (plain_arms items)) (bare_arm (plain_arm r.arm)) = ap bare_arms (arms_snoc items r.arm) ∙ bare_snoc_arm (plain_arms items) (plain_arm r.arm) in
    let d : 1 < defaults (snoc_arm (bare_arms (plain_arms items)) (bare_arm (plain_arm r.arm))) = omega (arith, m, c.counted, ap defaults (arms_snoc items r.arm), defaults_snoc (plain_arms items) (plain_arm r.arm), ap defaults b, defaults_bare (plain_arms (items ++ (r.arm ∷ [])))) in
    c.whole ∙ arms_twice (below_arm room) c.fuel (bare_arms (plain_arms items)) (drop next (words T)) (bare_arm (plain_arm r.arm), drop r.next (words T)) h.found_is d

len-Case : (kind : ℕ) (t : Tree) (list : Arms) → length (spell_statement (Case kind t list)) ≡ 4 + length (spell t) + length (spell_arms list)
len-Case kind t list = simp (statement_spellings, length-append) (omega arith)

pub made_case : (T : List Token) (from room kind : ℕ) (t : Placed) (es : Bor (List Branch)) (items : List Branch) (next : ℕ) → es.now ≡ items → FindsTree T (from + 1 + 1) 1 (tested (expressions.below room) (drop (from + 1) (words T))) t →
    FindsArms T t.next (arms (below_arm room) (suc (length (drop t.next (words T)))) NoArms (drop t.next (words T))) items next →
    FindsStatement T from (cases (expressions.below room) (below_arm room) kind (drop (from + 1) (words T))) (record { stmt = stmt.Case (record { 0 = kind }) t.expr es; next = next })
unfolding bare_statement NumberedStatement
made_case T from room kind t es items next e f g =
    let same : plain_statement (stmt.Case (record { 0 = kind }) t.expr es) ≡ Case kind (plain t.expr.now) (plain_arms items) = plain_case (record { 0 = kind }) t.expr es ∙ ap (λ (x : List Branch). Case kind (plain t.expr.now) (plain_arms x)) e in
    let P : Statement → Type 0 = λ (x : Statement). NumberedStatement x from in
    let Q : ℕ → Type 0 = λ (k : ℕ). NumberedArms (plain_arms items) k in
    let n : t.next ≡ from + 2 + length (spell (plain t.expr.now)) + 1 = omega (arith, f.taken) in
    record {
      found_is = case-some (expressions.below room) (below_arm room) kind (drop (from + 1) (words T)) (bare (plain t.expr.now), drop t.next (words T)) (bare_arms (plain_arms items), drop next (words T)) f.found_is g.found_is ∙ ap (λ (x : Statement). Some (bare_statement x, drop next (words T))) (sym same);
      within = g.within;
      taken = omega (arith, f.taken, g.taken, ap (λ (x : Statement). length (spell_statement x)) same, len-Case kind (plain t.expr.now) (plain_arms items));
      numbered = subst P (sym same) (at_next (from + 1 + 1) (from + 2) (plain t.expr.now) (omega arith) f.numbered, subst Q n g.numbered);
    }

case_none : (e : Reader) (sub : List Word → Found Arm) (kind : ℕ) (ws : List Word) → tested e ws ≡ None → cases e sub kind ws ≡ None
unfolding cases chain
case_none e sub kind ws f = rw f refl

case_open : (e : Reader) (sub : List Word → Found Arm) (kind : ℕ) (ws : List Word) (t : Tree × List Word) → tested e ws ≡ Some t → arms sub (suc (length t.1)) NoArms t.1 ≡ None → cases e sub kind ws ≡ None
unfolding cases chain mapped
case_open e sub kind ws t f g = rw (f, g) refl

pub case_test_fails : (T : List Token) (from room kind : ℕ) → tested (expressions.below room) (drop (from + 1) (words T)) ≡ None → cases (expressions.below room) (below_arm room) kind (drop (from + 1) (words T)) ≡ None
case_test_fails T from room kind e = case_none (expressions.below room) (below_arm room) kind (drop (from + 1) (words T)) e

pub case_arms_fail : (T : List Token) (from room kind : ℕ) (t : Placed) → FindsTree T (from + 1 + 1) 1 (tested (expressions.below room) (drop (from + 1) (words T))) t → arms (below_arm room) (suc (length (drop t.next (words T)))) NoArms (drop t.next (words T)) ≡ None →
    cases (expressions.below room) (below_arm room) kind (drop (from + 1) (words T)) ≡ None
case_arms_fail T from room kind t f e = case_open (expressions.below room) (below_arm room) kind (drop (from + 1) (words T)) (bare (plain t.expr.now), drop t.next (words T)) f.found_is e

-- ---- single arms

pub case_item_is : (es : Bor (List Expr)) (colon : Bool) (b : Bor Stmt) → plain_arm (record { labels = es; colon = colon; body = b }) ≡ CaseItem (plain_list es.now) colon (plain_statement b.now)
unfolding plain_arm
case_item_is es colon b = refl

len-Arm : (ts : Trees) (c : Bool) (s : Statement) → length (spell_arm (CaseItem ts c s)) ≡ length (spell_labels ts c) + length (spell_statement s)
len-Arm ts c s = simp (statement_spellings, length-append) (omega arith)

len-default : (c : Bool) → length (spell_labels End c) ≡ 1 + cond c 1 0
len-default true = simp statement_spellings refl
len-default false = simp statement_spellings refl

len-labels : (ts : Trees) (t : Tree) (us : Trees) → ts ≡ More t us → length (spell_labels ts true) ≡ length (spell_more ts)
len-labels ts t us e = rw e (simp (statement_spellings, spellings, length-append) (omega arith))

default_fail : (sub : List Word → Found Statement) (ws : List Word) → mark ws ≡ mark_colon → sub (rest ws) ≡ None → default_arm sub ws ≡ None
unfolding default_arm mapped
default_fail sub ws m e = rw (m, e) refl

default_alone_fail : (sub : List Word → Found Statement) (ws : List Word) → nat_eq (mark ws) mark_colon ≡ false → sub ws ≡ None → default_arm sub ws ≡ None
unfolding default_arm mapped
default_alone_fail sub ws m e = rw (m, e) refl

-- a default arm, with or without its colon
default_reads : (sub : List Word → Found Statement) (c : Bool) (ws : List Word) (T : List Token) (from : ℕ) (s : Statement × List Word) → ws ≡ drop (from + 1) (words T) → c ≡ nat_eq (mark ws) mark_colon → sub (drop (from + cond c 2 1) (words T)) ≡ Some s → default_arm sub ws ≡ Some (CaseItem End c s.0, s.1)
default_reads sub true ws T from s e m f =
    let w : sub (rest ws) ≡ Some s = rw (e, rest_next (words T) from) f in
    default-colon sub ws s ((Decides-eqb (mark ws) mark_colon).0 (sym m)) w
default_reads sub false ws T from s e m f = default-alone sub ws s (sym m) (rw e f)

default_reads_none : (sub : List Word → Found Statement) (c : Bool) (ws : List Word) (T : List Token) (from : ℕ) → ws ≡ drop (from + 1) (words T) → c ≡ nat_eq (mark ws) mark_colon → sub (drop (from + cond c 2 1) (words T)) ≡ None → default_arm sub ws ≡ None
default_reads_none sub true ws T from e m f =
    let w : sub (rest ws) ≡ None = rw (e, rest_next (words T) from) f in
    default_fail sub ws ((Decides-eqb (mark ws) mark_colon).0 (sym m)) w
default_reads_none sub false ws T from e m f = default_alone_fail sub ws (sym m) (rw e f)

default_length : (c : Bool) (s : Statement) → length (spell_arm (CaseItem End c s)) ≡ cond c 2 1 + length (spell_statement s)
default_length true s = omega (arith, len-Arm End true s, len-default true)
default_length false s = omega (arith, len-Arm End false s, len-default false)

default_place : (c : Bool) (from : ℕ) → from + cond c 2 1 ≡ from + length (spell_labels End c)
default_place true from = omega (arith, len-default true)
default_place false from = omega (arith, len-default false)

pub made_default : (T : List Token) (from room : ℕ) (c : Bool) (es : List Expr) (s : Piece) (r : ArmPiece) (n : ℕ) → es ≡ [] → IsArmPiece (CaseItem (plain_list es) c (plain_statement s.stmt)) s.next r → c ≡ nat_eq (mark (drop (from + 1) (words T))) mark_colon →
    n ≡ from + cond c 2 1 → FindsStatement T n (below_statement room (drop n (words T))) s → FindsArm T from (default_arm (below_statement room) (drop (from + 1) (words T))) r
unfolding plain_list bare_statement bare NumberedStatement NumberedLabels
made_default T from room c es s r n z i m e h =
    let P : List Expr → Type 0 = λ (x : List Expr). IsArmPiece (CaseItem (plain_list x) c (plain_statement s.stmt)) s.next r in
    let f : below_statement room (drop (from + cond c 2 1) (words T)) ≡ Some (bare_statement (plain_statement s.stmt), drop s.next (words T)) = ap (λ (k : ℕ). below_statement room (drop k (words T))) (sym e) ∙ h.found_is in
    as_arm T from (default_arm (below_statement room) (drop (from + 1) (words T))) (CaseItem End c (plain_statement s.stmt)) s.next r (subst P z i)
    (default_reads (below_statement room) c (drop (from + 1) (words T)) T from (bare_statement (plain_statement s.stmt), drop s.next (words T)) refl m f)
    h.within
    (omega (arith, h.taken, e, default_length c (plain_statement s.stmt)))
    (tt, at_place n (from + length (spell_labels End c)) (plain_statement s.stmt) (e ∙ default_place c from) h.numbered)

pub default_fits : (T : List Token) (from : ℕ) (c : Bool) → from < length T → length T < 2 ^ 32 → c ≡ nat_eq (mark (drop (from + 1) (words T))) mark_colon → from + cond c 2 1 < 2 ^ 32
default_fits T from true h s e = let k = mark_inside T (from + 1) mark_colon ((Decides-eqb (mark (drop (from + 1) (words T))) mark_colon).0 (sym e)) (omega arith) in omega arith
default_fits T from false h s e = omega arith

pub default_none : (T : List Token) (from room : ℕ) (c : Bool) (n : ℕ) → c ≡ nat_eq (mark (drop (from + 1) (words T))) mark_colon → n ≡ from + cond c 2 1 → below_statement room (drop n (words T)) ≡ None → default_arm (below_statement room) (drop (from + 1) (words T)) ≡ None
default_none T from room c n m e h = default_reads_none (below_statement room) c (drop (from + 1) (words T)) T from refl m (ap (λ (k : ℕ). below_statement room (drop k (words T))) (sym e) ∙ h)

pub made_arm : (T : List Token) (from room : ℕ) (l : LabelList) (s : Piece) (r : ArmPiece) → IsArmPiece (CaseItem (plain_list l.exprs.now) true (plain_statement s.stmt)) s.next r → FindsLabels T from (labels (expressions.below room) (drop from (words T))) l → FindsStatement T l.next (below_statement room (drop l.next (words T))) s →
    FindsArm T from (labelled_arm (expressions.below room) (below_statement room) (drop from (words T))) r
unfolding bare_statement NumberedStatement
made_arm T from room l s r i g h =
    let k = len-labels (plain_list l.exprs.now) g.first g.others g.some in
    as_arm T from (labelled_arm (expressions.below room) (below_statement room) (drop from (words T))) (CaseItem (plain_list l.exprs.now) true (plain_statement s.stmt)) s.next r i
    (labelled-some (expressions.below room) (below_statement room) (drop from (words T)) (bare_parts (plain_list l.exprs.now), drop l.next (words T)) (bare_statement (plain_statement s.stmt), drop s.next (words T)) g.found_is h.found_is)
    h.within
    (omega (arith, g.taken, h.taken, len-Arm (plain_list l.exprs.now) true (plain_statement s.stmt), k))
    (g.numbered, at_place l.next (from + length (spell_labels (plain_list l.exprs.now) true)) (plain_statement s.stmt) (omega (arith, g.taken, k)) h.numbered)

labelled_none : (e : Reader) (sub : List Word → Found Statement) (ws : List Word) → labels e ws ≡ None → labelled_arm e sub ws ≡ None
unfolding labelled_arm chain
labelled_none e sub ws f = rw f refl

labelled_open : (e : Reader) (sub : List Word → Found Statement) (ws : List Word) (ts : Trees × List Word) → labels e ws ≡ Some ts → sub ts.1 ≡ None → labelled_arm e sub ws ≡ None
unfolding labelled_arm chain mapped
labelled_open e sub ws ts f g = rw (f, g) refl

pub labels_fails : (T : List Token) (from room : ℕ) → labels (expressions.below room) (drop from (words T)) ≡ None → labelled_arm (expressions.below room) (below_statement room) (drop from (words T)) ≡ None
labels_fails T from room e = labelled_none (expressions.below room) (below_statement room) (drop from (words T)) e

pub labelled_fails : (T : List Token) (from room : ℕ) (l : LabelList) → FindsLabels T from (labels (expressions.below room) (drop from (words T))) l → below_statement room (drop l.next (words T)) ≡ None → labelled_arm (expressions.below room) (below_statement room) (drop from (words T)) ≡ None
labelled_fails T from room l f e = labelled_open (expressions.below room) (below_statement room) (drop from (words T)) (bare_parts (plain_list l.exprs.now), drop l.next (words T)) f.found_is e

-- ---- assignments

len-Assign : (t : Tree) (now : Bool) (v : Tree) → length (spell_statement (Assign t now v)) ≡ 2 + length (spell t) + length (spell v)
len-Assign t now v = simp (statement_spellings, length-append) (omega arith)

pub target_some : (T : List Token) (begin : ℕ) (found : Found Tree) (o : Option Placed) (r : Placed) → o ≡ Some r → AnswersTarget T begin found o → FindsTarget T begin found r
target_some T begin found o r e h = rw e at h

pub no_target : (T : List Token) (begin : ℕ) (found : Found Tree) (o : Option Placed) → o ≡ None → AnswersTarget T begin found o → found ≡ None
no_target T begin found o e h = rw e at h

assigned_by : (e : Reader) (t : Tree) (now : Bool) (ws : List Word) (p : Tree × List Word) → mark ws ≡ cond now mark_equals mark_less_or_equal → closed e mark_semicolon (rest ws) ≡ Some p → assigned e t ws ≡ Some (Assign t now p.0, p.1)
assigned_by e t true ws p m f = assigned-now e t ws p m f
assigned_by e t false ws p m f = assigned-later e t ws p m f

sign_cases : (a b : Bool) (m : ℕ) (now : Bool) → (a ≡ true → m ≡ mark_equals) → (b ≡ true → m ≡ mark_less_or_equal) → cond a (Some true) (cond b (Some false) None) ≡ Some now → m ≡ cond now mark_equals mark_less_or_equal
sign_cases true b m now h k e = let f : true ≡ now = cc e in rw (sym f) (h refl)
sign_cases false true m now h k e = let f : false ≡ now = cc e in rw (sym f) (k refl)
sign_cases false false m now h k e = absurd cc

pub sign_is : (ws : List Word) (now : Bool) → sign ws ≡ Some now → mark ws ≡ cond now mark_equals mark_less_or_equal
unfolding sign
sign_is ws now e = sign_cases (nat_eq (mark ws) mark_equals) (nat_eq (mark ws) mark_less_or_equal) (mark ws) now (Decides-eqb (mark ws) mark_equals).0 (Decides-eqb (mark ws) mark_less_or_equal).0 e

-- where a sign stands there is a token
pub sign_inside : (T : List Token) (at : ℕ) (now : Bool) → sign (drop at (words T)) ≡ Some now → at < length T
sign_inside T at true e = mark_inside T at mark_equals (sign_is (drop at (words T)) true e) (omega arith)
sign_inside T at false e = mark_inside T at mark_less_or_equal (sign_is (drop at (words T)) false e) (omega arith)

pub made_assign : (T : List Token) (from room : ℕ) (t v : Placed) (now : Bool) → FindsTarget T from (target (expressions.below room) (drop from (words T))) t → sign (drop t.next (words T)) ≡ Some now →
    FindsTree T (t.next + 1) 1 (closed (expressions.below room) mark_semicolon (drop (t.next + 1) (words T))) v → FindsStatement T from (assignment (expressions.below room) (drop from (words T))) (record { stmt = stmt.Assign t.expr now v.expr; next = v.next })
unfolding plain_statement bare_statement NumberedStatement
made_assign T from room t v now f m g =
    let w : closed (expressions.below room) mark_semicolon (rest (drop t.next (words T))) ≡ Some (bare (plain v.expr.now), drop v.next (words T)) = rw rest_drop g.found_is in
    record {
      found_is = assignment-some (expressions.below room) (drop from (words T)) (bare (plain t.expr.now), drop t.next (words T)) f.read.found_is ∙ assigned_by (expressions.below room) (bare (plain t.expr.now)) now (drop t.next (words T)) (bare (plain v.expr.now), drop v.next (words T)) (sign_is (drop t.next (words T)) now m) w;
      within = g.within;
      taken = omega (arith, f.read.taken, g.taken, len-Assign (plain t.expr.now) now (plain v.expr.now));
      numbered = (f.read.numbered, at_next (t.next + 1) (from + length (spell (plain t.expr.now)) + 1) (plain v.expr.now) (omega (arith, f.read.taken)) g.numbered);
    }

same_none : (a b : Bool) → cond {A = Found Statement} a None (cond b None None) ≡ None
same_none true b = refl
same_none false true = refl
same_none false false = refl

value_fails : (e : Reader) (t : Tree) (ws : List Word) → closed e mark_semicolon (rest ws) ≡ None → assigned e t ws ≡ None
unfolding assigned mapped
value_fails e t ws f = rw f (same_none (nat_eq (mark ws) mark_equals) (nat_eq (mark ws) mark_less_or_equal))

pub assign_fails : (T : List Token) (from room : ℕ) (t : Placed) → FindsTarget T from (target (expressions.below room) (drop from (words T))) t → closed (expressions.below room) mark_semicolon (drop (t.next + 1) (words T)) ≡ None →
    assignment (expressions.below room) (drop from (words T)) ≡ None
assign_fails T from room t f g = assignment-some (expressions.below room) (drop from (words T)) (bare (plain t.expr.now), drop t.next (words T)) f.read.found_is ∙ value_fails (expressions.below room) (bare (plain t.expr.now)) (drop t.next (words T)) (rw rest_drop g)

unsigned : (a b : Bool) (x y : Found Statement) → cond {A = Option Bool} a (Some true) (cond b (Some false) None) ≡ None → cond a x (cond b y None) ≡ None
unsigned true b x y h = absurd cc
unsigned false true x y h = absurd cc
unsigned false false x y h = refl

no_sign : (e : Reader) (t : Tree) (ws : List Word) → sign ws ≡ None → assigned e t ws ≡ None
unfolding assigned sign
no_sign e t ws h = unsigned (nat_eq (mark ws) mark_equals) (nat_eq (mark ws) mark_less_or_equal) (mapped (Assign t true) (closed e mark_semicolon (rest ws))) (mapped (Assign t false) (closed e mark_semicolon (rest ws))) h

pub sign_fails : (T : List Token) (from room : ℕ) (t : Placed) → FindsTarget T from (target (expressions.below room) (drop from (words T))) t → sign (drop t.next (words T)) ≡ None → assignment (expressions.below room) (drop from (words T)) ≡ None
sign_fails T from room t f h = assignment-some (expressions.below room) (drop from (words T)) (bare (plain t.expr.now), drop t.next (words T)) f.read.found_is ∙ no_sign (expressions.below room) (bare (plain t.expr.now)) (drop t.next (words T)) h

pub target_fails : (T : List Token) (from room : ℕ) → target (expressions.below room) (drop from (words T)) ≡ None → assignment (expressions.below room) (drop from (words T)) ≡ None
target_fails T from room e = assignment-none (expressions.below room) (drop from (words T)) e

-- ---- the kinds of statements

below_all : (room : ℕ) (ws : List Word) → 0 < room → below_statement room ws ≡ statement_by (expressions.below (room - 1)) (below_statement (room - 1)) (below_arm (room - 1)) ws
unfolding below_statement
below_all zero ws h = absurd (omega arith)
below_all (suc k) ws h = let e : suc k - 1 ≡ k = omega arith in rw e (statement-below k ws)

pub no_room : (room : ℕ) (ws : List Word) → room ≡ 0 → below_statement room ws ≡ None
unfolding below_statement
no_room room ws e = rw e refl

pub is_null : (room from : ℕ) (T : List Token) → 0 < room → mark (drop from (words T)) ≡ mark_semicolon → FindsStatement T from (below_statement room (drop from (words T))) (record { stmt = stmt.Null; next = from + 1 })
unfolding plain_statement bare_statement NumberedStatement
is_null room from T h m = record {
  found_is = below_all room (drop from (words T)) h ∙ by-null (expressions.below (room - 1)) (below_statement (room - 1)) (below_arm (room - 1)) (drop from (words T)) m ∙ ap (λ (x : List Word). Some (Null, x)) (rest_drop (words T) from);
  within = omega (arith, mark_inside T from mark_semicolon m (omega arith));
  taken = simp statement_spellings refl;
  numbered = tt;
}

module _ (room from : ℕ) (T : List Token) (h : 0 < room) (m : mark (drop from (words T)) ≡ mark_semicolon → ⊥) where
  front : nat_eq (mark (drop from (words T))) mark_semicolon ≡ false
  front = not_equal (mark (drop from (words T))) mark_semicolon m

  pub is_block : keyword (drop from (words T)) ≡ keyword_begin → below_statement room (drop from (words T)) ≡ block (below_statement (room - 1)) (drop (from + 1) (words T))
  is_block k = below_all room (drop from (words T)) h ∙ by-begin (expressions.below (room - 1)) (below_statement (room - 1)) (below_arm (room - 1)) (drop from (words T)) front k ∙ ap (block (below_statement (room - 1))) (rest_drop (words T) from)

  pub is_if : keyword (drop from (words T)) ≡ keyword_if → below_statement room (drop from (words T)) ≡ conditional (expressions.below (room - 1)) (below_statement (room - 1)) (drop (from + 1) (words T))
  is_if k = below_all room (drop from (words T)) h ∙ by-if (expressions.below (room - 1)) (below_statement (room - 1)) (below_arm (room - 1)) (drop from (words T)) front k ∙ ap (conditional (expressions.below (room - 1)) (below_statement (room - 1))) (rest_drop (words T) from)

  pub is_for : keyword (drop from (words T)) ≡ keyword_for → below_statement room (drop from (words T)) ≡ looped (expressions.below (room - 1)) (below_statement (room - 1)) (drop (from + 1) (words T))
  is_for k = below_all room (drop from (words T)) h ∙ by-for (expressions.below (room - 1)) (below_statement (room - 1)) (below_arm (room - 1)) (drop from (words T)) front k ∙ ap (looped (expressions.below (room - 1)) (below_statement (room - 1))) (rest_drop (words T) from)

  pub is_case_at : is_case (keyword (drop from (words T))) ≡ true → below_statement room (drop from (words T)) ≡ cases (expressions.below (room - 1)) (below_arm (room - 1)) (keyword (drop from (words T))) (drop (from + 1) (words T))
  is_case_at k = below_all room (drop from (words T)) h ∙ by-case (expressions.below (room - 1)) (below_statement (room - 1)) (below_arm (room - 1)) (drop from (words T)) front k ∙ ap (cases (expressions.below (room - 1)) (below_arm (room - 1)) (keyword (drop from (words T)))) (rest_drop (words T) from)

  pub is_assignment : (keyword (drop from (words T)) ≡ keyword_begin → ⊥) → (keyword (drop from (words T)) ≡ keyword_if → ⊥) → (keyword (drop from (words T)) ≡ keyword_for → ⊥) → is_case (keyword (drop from (words T))) ≡ false → below_statement room (drop from (words T)) ≡ assignment (expressions.below (room - 1)) (drop from (words T))
  is_assignment a b c k = below_all room (drop from (words T)) h ∙ by-assignment (expressions.below (room - 1)) (below_statement (room - 1)) (below_arm (room - 1)) (drop from (words T)) front (not_equal (keyword (drop from (words T))) keyword_begin a) (not_equal (keyword (drop from (words T))) keyword_if b) (not_equal (keyword (drop from (words T))) keyword_for c) k

-- ---- the two kinds of arms

arm_all : (room : ℕ) (ws : List Word) → 0 < room → below_arm room ws ≡ arm_by (expressions.below (room - 1)) (below_statement (room - 1)) ws
unfolding below_arm
arm_all zero ws h = absurd (omega arith)
arm_all (suc k) ws h = let e : suc k - 1 ≡ k = omega arith in rw e (arm-below k ws)

pub no_arm_room : (room : ℕ) (ws : List Word) → room ≡ 0 → below_arm room ws ≡ None
unfolding below_arm
no_arm_room room ws e = rw e refl

pub is_default : (room from : ℕ) (T : List Token) → 0 < room → keyword (drop from (words T)) ≡ keyword_default → below_arm room (drop from (words T)) ≡ default_arm (below_statement (room - 1)) (drop (from + 1) (words T))
is_default room from T h k = arm_all room (drop from (words T)) h ∙ arm-default (expressions.below (room - 1)) (below_statement (room - 1)) (drop from (words T)) k ∙ ap (default_arm (below_statement (room - 1))) (rest_drop (words T) from)

pub is_labelled : (room from : ℕ) (T : List Token) → 0 < room → (keyword (drop from (words T)) ≡ keyword_default → ⊥) → below_arm room (drop from (words T)) ≡ labelled_arm (expressions.below (room - 1)) (below_statement (room - 1)) (drop from (words T))
is_labelled room from T h k = arm_all room (drop from (words T)) h ∙ arm-labelled (expressions.below (room - 1)) (below_statement (room - 1)) (drop from (words T)) (not_equal (keyword (drop from (words T))) keyword_default k)
