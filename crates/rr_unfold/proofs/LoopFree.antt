-- Statements in which no loop stands.
use Rattle.std.proofs.Common.{◌≡◌, ◌∙◌, sym, ap, ℕ, Bool, true, false, ◌&&◌, List, [], Option, Result, Ok, refl}
use Rattle.rr_syntax.specs.declared.tree.Stmt.{Stmt}
use Rattle.rr_syntax.specs.Tree.{LoopHead, Statement, Statements, Arm, Arms, Null, Block, If, IfElse, Case, Assign, For, Done, Then, CaseItem, NoArms, MoreArms}
use Rattle.rr_syntax.specs.View.{plain_statement}
use Rattle.rr_expr.specs.Scopes.{Names}
use Rattle.rr_flat.specs.Faults.{and_then}
use Rattle.rr_flat.specs.Loops.{is_loop_free, all_loop_free, arm_loop_free, arms_loop_free}
use Rattle.rr_loop_names.specs.Turns.{Turn}
use Rattle.rr_loop_names.specs.View.{plain_turn}
use Rattle.rr_loop_names.proofs.Staying.{put_stays}
use Rattle.rr_loop_rules.specs.Rules.{LoopNames}
use Rattle.rr_unfold.specs.Laws.{LoopFreeStays, LoopFreeUncounted}
use Rattle.rr_unfold.specs.Unfold.{Count, counted, counted_all, counted_arm, counted_arms, unfold_statement, unfold_statements, unfold_arm, unfold_arms}

both : (a b : Bool) → (a && b) ≡ true → (a ≡ true) × (b ≡ true)
both true b e = (refl, e)
both false b e = absurd (cc)

-- they stay

mutual
  unfolding is_loop_free unfold_statement

  stays : (s : Names) (t : Statement) → is_loop_free t ≡ true → unfold_statement s [] t ≡ t
  stays s Null e = refl
  stays s (Block label ts) e = ap (Block label) (all_stay s ts e)
  stays s (If test t) e = rw (put_stays.alone test, stays s t e) refl
  stays s (IfElse test t u) e = let p = both (is_loop_free t) (is_loop_free u) e in rw (put_stays.alone test, stays s t p.0, stays s u p.1) refl
  stays s (Case kind on arms) e = rw (put_stays.alone on, arms_stay s arms e) refl
  stays s (Assign t now v) e = rw (put_stays.target_alone t, put_stays.alone v) refl
  stays s (For h t) e = absurd (cc)

  all_stay : (s : Names) (ts : Statements) → all_loop_free ts ≡ true → unfold_statements s [] ts ≡ ts
  all_stay s Done e = refl
  all_stay s (Then t ts) e = let p = both (is_loop_free t) (all_loop_free ts) e in rw (stays s t p.0, all_stay s ts p.1) refl

  arm_stays : (s : Names) (a : Arm) → arm_loop_free a ≡ true → unfold_arm s [] a ≡ a
  arm_stays s (CaseItem labels colon t) e = rw (put_stays.parts_alone labels, stays s t e) refl

  arms_stay : (s : Names) (arms : Arms) → arms_loop_free arms ≡ true → unfold_arms s [] arms ≡ arms
  arms_stay s NoArms e = refl
  arms_stay s (MoreArms a rest) e = let p = both (arm_loop_free a) (arms_loop_free rest) e in rw (arm_stays s a p.0, arms_stay s rest p.1) refl

pub loop_free_stays : LoopFreeStays
loop_free_stays s t e = stays s t e

-- nothing is counted

mutual
  unfolding is_loop_free counted

  uncounted : (limit : Option ℕ) (L : LoopNames) (s : Names) (turn : Turn) (t : Statement) (c : Count) → is_loop_free t ≡ true → counted limit L s turn t c ≡ Ok c
  uncounted limit L s turn Null c e = refl
  uncounted limit L s turn (Block label ts) c e = all_uncounted limit L s turn ts c e
  uncounted limit L s turn (If test t) c e = uncounted limit L s turn t c e
  uncounted limit L s turn (IfElse test t u) c e =
      let p = both (is_loop_free t) (is_loop_free u) e in
      ap (λ r. and_then r (counted limit L s turn u)) (uncounted limit L s turn t c p.0) ∙ uncounted limit L s turn u c p.1
  uncounted limit L s turn (Case kind on arms) c e = arms_uncounted limit L s turn arms c e
  uncounted limit L s turn (Assign t now v) c e = refl
  uncounted limit L s turn (For h t) c e = absurd (cc)

  all_uncounted : (limit : Option ℕ) (L : LoopNames) (s : Names) (turn : Turn) (ts : Statements) (c : Count) → all_loop_free ts ≡ true → counted_all limit L s turn ts c ≡ Ok c
  all_uncounted limit L s turn Done c e = refl
  all_uncounted limit L s turn (Then t ts) c e =
      let p = both (is_loop_free t) (all_loop_free ts) e in
      ap (λ r. and_then r (counted_all limit L s turn ts)) (uncounted limit L s turn t c p.0) ∙ all_uncounted limit L s turn ts c p.1

  arm_uncounted : (limit : Option ℕ) (L : LoopNames) (s : Names) (turn : Turn) (a : Arm) (c : Count) → arm_loop_free a ≡ true → counted_arm limit L s turn a c ≡ Ok c
  arm_uncounted limit L s turn (CaseItem labels colon t) c e = uncounted limit L s turn t c e

  arms_uncounted : (limit : Option ℕ) (L : LoopNames) (s : Names) (turn : Turn) (arms : Arms) (c : Count) → arms_loop_free arms ≡ true → counted_arms limit L s turn arms c ≡ Ok c
  arms_uncounted limit L s turn NoArms c e = refl
  arms_uncounted limit L s turn (MoreArms a rest) c e =
      let p = both (arm_loop_free a) (arms_loop_free rest) e in
      ap (λ r. and_then r (counted_arms limit L s turn rest)) (arm_uncounted limit L s turn a c p.0) ∙ arms_uncounted limit L s turn rest c p.1

pub loop_free_uncounted : LoopFreeUncounted
loop_free_uncounted limit L s t c e = uncounted limit L s [] t c e

pub ruleset loop_free_laws = (loop_free_stays, loop_free_uncounted)

-- in the arena, outside all loops

pub no_turn : plain_turn [] ≡ []
unfolding plain_turn
no_turn = refl

pub given_back : (s : Names) (t : Stmt) → is_loop_free (plain_statement t) ≡ true → plain_statement t ≡ unfold_statement s [] (plain_statement t)
given_back s t e = sym (stays s (plain_statement t) e)

pub given_back_uncounted : (limit : Option ℕ) (L : LoopNames) (s : Names) (t : Stmt) (c : Count) → is_loop_free (plain_statement t) ≡ true → counted limit L s [] (plain_statement t) c ≡ Ok c
given_back_uncounted limit L s t c e = uncounted limit L s [] (plain_statement t) c e

pub ruleset loop_free_answers = (no_turn, given_back, given_back_uncounted)
