-- What statements do, without token numbers.
use Rattle.std.proofs.Common.{◌≡◌, ◌∙◌, ap, ℕ, max, Bool, true, false, cond, not, ◌||◌, List, [], ◌∷◌, ◌++◌, refl}
use Rattle.rr_bits.specs.Words.{is_zero}
use Rattle.rr_syntax.specs.Tree.{Tree, Trees, Name, Literal, Bit as BitSelect, Part, Indexed, Unary, Binary, Cond, Concat, Repeat, Cast, Paren, End, More, Statement, Statements, Arm, Arms, Null, Block as Sequence, If, IfElse, Case, Assign, For, Done, Then, CaseItem, NoArms, MoreArms, bare, bare_parts, bare_statement, bare_statements, bare_arm, bare_arms}
use Rattle.rr_expr.specs.declared.types.Shape.{Shape}
use Rattle.rr_expr.specs.Operators.{joined, own_with}
use Rattle.rr_expr.specs.Scopes.{Names}
use Rattle.rr_expr.specs.Values.{form}
use Rattle.rr_flat.specs.Latches.{has_labels, is_default}
use Rattle.rr_flat.specs.Reads.{writes, write_any, arm_writes, arms_write}
use Rattle.rr_cycle.specs.Exec.{write, assigned, is_true, joined_all, labels_of, joined_labels, case_shape, wild, is_equal, is_matched, executed, executed_all, executed_arm, executed_case, executed_default, updates, updates_of_all, updates_of_arm, updates_of_case, updates_of_default}
use Rattle.rr_token_numbers.proofs.Shapes.{form-bare, value_path}
use Rattle.rr_token_number_meaning.proofs.Targets.{target_bits-bare, writes_target-bare}

-- the bits that a statement may write

mutual
  unfolding writes bare_statement

  pub writes-bare : (now : Bool) (s : Names) (t : Statement) → writes now s (bare_statement t) ≡ writes now s t
  writes-bare now s Null = refl
  writes-bare now s (Sequence label ts) = write_any-bare now s ts
  writes-bare now s (If c t) = writes-bare now s t
  writes-bare now s (IfElse c t u) = λ k b. writes-bare now s t k b || writes-bare now s u k b
  writes-bare now s (Case kind on arms) = arms_write-bare now s arms
  writes-bare true s (Assign t true e) = writes_target-bare s t
  writes-bare true s (Assign t false e) = refl
  writes-bare false s (Assign t true e) = refl
  writes-bare false s (Assign t false e) = writes_target-bare s t
  writes-bare now s (For h a) = refl

  write_any-bare : (now : Bool) (s : Names) (ts : Statements) → write_any now s (bare_statements ts) ≡ write_any now s ts
  write_any-bare now s Done = refl
  write_any-bare now s (Then t ts) = λ k b. writes-bare now s t k b || write_any-bare now s ts k b

  arm_writes-bare : (now : Bool) (s : Names) (a : Arm) → arm_writes now s (bare_arm a) ≡ arm_writes now s a
  arm_writes-bare now s (CaseItem labels colon t) = writes-bare now s t

  arms_write-bare : (now : Bool) (s : Names) (arms : Arms) → arms_write now s (bare_arms arms) ≡ arms_write now s arms
  arms_write-bare now s NoArms = refl
  arms_write-bare now s (MoreArms a rest) = λ k b. arm_writes-bare now s a k b || arms_write-bare now s rest k b

-- conditions and labels

true-bare : (s : Names) (c : Tree) → is_true s (bare c) ≡ is_true s c
true-bare s c = λ k env. not (is_zero (own_with (form-bare s c k) (value_path s c k env)))

assigned-bare : (s : Names) (t e : Tree) → assigned s (bare t) (bare e) ≡ assigned s t e
assigned-bare s t e = λ k env. value_path s e k env (max (form-bare s t k).width (form-bare s e k).width) (form-bare s e k).signed

joined_all-bare : (s : Names) (ts : Trees) (a : Shape) → joined_all s a (bare_parts ts) ≡ joined_all s a ts
unfolding joined_all bare
joined_all-bare s End a = refl
joined_all-bare s (More t ts) a = ap (λ (z : Shape). joined_all s (joined a z) (bare_parts ts)) (form-bare s t) ∙ joined_all-bare s ts (joined a (form s t))

labels-bare : (a : Arm) → labels_of (bare_arm a) ≡ bare_parts (labels_of a)
unfolding bare_statement
labels-bare (CaseItem labels colon t) = refl

joined_labels-bare : (s : Names) (arms : Arms) (a : Shape) → joined_labels s a (bare_arms arms) ≡ joined_labels s a arms
unfolding joined_labels bare_statement
joined_labels-bare s NoArms a = refl
joined_labels-bare s (MoreArms arm rest) a =
    ap (λ (z : Shape). joined_labels s z (bare_arms rest)) (ap (joined_all s a) (labels-bare arm) ∙ joined_all-bare s (labels_of arm) a) ∙ joined_labels-bare s rest (joined_all s a (labels_of arm))

shape-bare : (s : Names) (on : Tree) (arms : Arms) → case_shape s (bare on) (bare_arms arms) ≡ case_shape s on arms
shape-bare s on arms = ap (λ (z : Shape). joined_labels s z (bare_arms arms)) (form-bare s on) ∙ joined_labels-bare s arms (form s on)

wild-bare : (kind : ℕ) (t : Tree) (w : ℕ) → wild kind (bare t) w ≡ wild kind t w
unfolding wild bare
wild-bare kind (Name token x) w = refl
wild-bare kind (Literal token n) w = refl
wild-bare kind (BitSelect token x i) w = refl
wild-bare kind (Part token x l r) w = refl
wild-bare kind (Indexed token x f n up) w = refl
wild-bare kind (Unary op t) w = refl
wild-bare kind (Binary op l r) w = refl
wild-bare kind (Cond a b c) w = refl
wild-bare kind (Concat ts) w = refl
wild-bare kind (Repeat n ts) w = refl
wild-bare kind (Cast signed t) w = refl
wild-bare kind (Paren t) w = wild-bare kind t w

matched-bare : (s : Names) (kind : ℕ) (a : Shape) (x : List Bool) (ts : Trees) → is_matched s kind a x (bare_parts ts) ≡ is_matched s kind a x ts
unfolding is_matched bare
matched-bare s kind a x End = refl
matched-bare s kind a x (More t ts) = λ k env. is_equal (wild-bare kind t a.width k) x (value_path s t k env a.width a.signed) || matched-bare s kind a x ts k env

arm_matched-bare : (s : Names) (kind : ℕ) (a : Shape) (x : List Bool) (arm : Arm) → is_matched s kind a x (labels_of (bare_arm arm)) ≡ is_matched s kind a x (labels_of arm)
arm_matched-bare s kind a x arm = ap (is_matched s kind a x) (labels-bare arm) ∙ matched-bare s kind a x (labels_of arm)

has_labels-bare : (ts : Trees) → has_labels (bare_parts ts) ≡ has_labels ts
unfolding bare
has_labels-bare End = refl
has_labels-bare (More t ts) = refl

pub default-bare : (a : Arm) → is_default (bare_arm a) ≡ is_default a
unfolding bare_statement
default-bare (CaseItem labels colon t) = ap not (has_labels-bare labels)

-- what a statement leaves

mutual
  unfolding executed bare_statement

  pub executed-bare : (s : Names) (t : Statement) → executed s (bare_statement t) ≡ executed s t
  executed-bare s Null = refl
  executed-bare s (Sequence label ts) = executed_all-bare s ts
  executed-bare s (If c t) = λ k env. cond (true-bare s c k env) (executed-bare s t k env) env
  executed-bare s (IfElse c t u) = λ k env. cond (true-bare s c k env) (executed-bare s t k env) (executed-bare s u k env)
  executed-bare s (Case kind on arms) =
      λ k env. executed_case-bare s kind (shape-bare s on arms k) (value_path s on k env (shape-bare s on arms k).width (shape-bare s on arms k).signed) arms k (executed_default-bare s arms k env) env
  executed-bare s (Assign t true e) = λ k env. write (target_bits-bare s env t k) (assigned-bare s t e k env) env
  executed-bare s (Assign t false e) = refl
  executed-bare s (For h a) = refl

  executed_all-bare : (s : Names) (ts : Statements) → executed_all s (bare_statements ts) ≡ executed_all s ts
  executed_all-bare s Done = refl
  executed_all-bare s (Then t ts) = λ k env. executed_all-bare s ts k (executed-bare s t k env)

  executed_arm-bare : (s : Names) (a : Arm) → executed_arm s (bare_arm a) ≡ executed_arm s a
  executed_arm-bare s (CaseItem labels colon t) = executed-bare s t

  executed_case-bare : (s : Names) (kind : ℕ) (a : Shape) (x : List Bool) (arms : Arms) → executed_case s kind a x (bare_arms arms) ≡ executed_case s kind a x arms
  executed_case-bare s kind a x NoArms = refl
  executed_case-bare s kind a x (MoreArms arm rest) =
      λ k other env. cond (arm_matched-bare s kind a x arm k env) (executed_arm-bare s arm k env) (executed_case-bare s kind a x rest k other env)

  executed_default-bare : (s : Names) (arms : Arms) → executed_default s (bare_arms arms) ≡ executed_default s arms
  executed_default-bare s NoArms = refl
  executed_default-bare s (MoreArms arm rest) = λ k env. cond (default-bare arm k) (executed_arm-bare s arm k env) (executed_default-bare s rest k env)

mutual
  unfolding updates bare_statement

  pub updates-bare : (s : Names) (t : Statement) → updates s (bare_statement t) ≡ updates s t
  updates-bare s Null = refl
  updates-bare s (Sequence label ts) = updates_of_all-bare s ts
  updates-bare s (If c t) = λ k env. cond (true-bare s c k env) (updates-bare s t k env) []
  updates-bare s (IfElse c t u) = λ k env. cond (true-bare s c k env) (updates-bare s t k env) (updates-bare s u k env)
  updates-bare s (Case kind on arms) =
      λ k env. updates_of_case-bare s kind (shape-bare s on arms k) (value_path s on k env (shape-bare s on arms k).width (shape-bare s on arms k).signed) arms k (updates_of_default-bare s arms k env) env
  updates-bare s (Assign t true e) = refl
  updates-bare s (Assign t false e) = λ k env. record { bits = target_bits-bare s env t k; value = assigned-bare s t e k env } ∷ []
  updates-bare s (For h a) = refl

  updates_of_all-bare : (s : Names) (ts : Statements) → updates_of_all s (bare_statements ts) ≡ updates_of_all s ts
  updates_of_all-bare s Done = refl
  updates_of_all-bare s (Then t ts) = λ k env. updates-bare s t k env ++ updates_of_all-bare s ts k (executed-bare s t k env)

  updates_of_arm-bare : (s : Names) (a : Arm) → updates_of_arm s (bare_arm a) ≡ updates_of_arm s a
  updates_of_arm-bare s (CaseItem labels colon t) = updates-bare s t

  updates_of_case-bare : (s : Names) (kind : ℕ) (a : Shape) (x : List Bool) (arms : Arms) → updates_of_case s kind a x (bare_arms arms) ≡ updates_of_case s kind a x arms
  updates_of_case-bare s kind a x NoArms = refl
  updates_of_case-bare s kind a x (MoreArms arm rest) =
      λ k other env. cond (arm_matched-bare s kind a x arm k env) (updates_of_arm-bare s arm k env) (updates_of_case-bare s kind a x rest k other env)

  updates_of_default-bare : (s : Names) (arms : Arms) → updates_of_default s (bare_arms arms) ≡ updates_of_default s arms
  updates_of_default-bare s NoArms = refl
  updates_of_default-bare s (MoreArms arm rest) = λ k env. cond (default-bare arm k) (updates_of_arm-bare s arm k env) (updates_of_default-bare s rest k env)
