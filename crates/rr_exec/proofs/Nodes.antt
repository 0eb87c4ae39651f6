-- statements at nodes of the arena
use Rattle.std.proofs.Common.{◌≡◌, ◌∙◌, sym, ap, Bool, true, false, List, [], ◌∷◌, ◌++◌, Option, None, Some, refl}
use Rattle.rr_syntax.specs.declared.token.Keyword.{Keyword}
use Rattle.rr_syntax.specs.declared.tree.Arm.{Arm as Branch}
use Rattle.rr_syntax.specs.declared.tree.Expr.{Expr}
use Rattle.rr_syntax.specs.declared.tree.Named.{Named as Name}
use Rattle.rr_syntax.specs.declared.tree.Head.{Head}
use Rattle.rr_syntax.specs.declared.tree.Stmt.{Stmt, the_lemmas as stmt_lemmas}
use Rattle.rr_syntax.specs.declared.tree.Stmt.TheVariants as stmt
use Rattle.rr_syntax.specs.Tree.{Case}
use Rattle.rr_syntax.specs.View.{plain, plain_statement, plain_statements, plain_arms}
use Rattle.rr_syntax.proofs.Rows.{plain_block, plain_case}
use Rattle.rr_expr.specs.Scopes.{Names}
use Rattle.rr_flat.specs.Targets.{target_bits}
use Rattle.rr_flat.specs.Shapes.{shape_faults, statement_faults, statements_faults, arms_faults}
use Rattle.rr_cycle.specs.Exec.{Environment, applied, assigned, executed, executed_all, is_true, updates, updates_of_all, write}
use denote.Ref.{Bor}

left_none : {X : Type 0} (xs ys : List X) → xs ++ ys ≡ [] → xs ≡ []
left_none [] ys h = refl
left_none (x ∷ xs) ys h = cc

right_none : {X : Type 0} (xs ys : List X) → xs ++ ys ≡ [] → ys ≡ []
right_none [] ys h = h
right_none (x ∷ xs) ys h = cc

-- what a shape of the whole says of its parts

pub shaped-Block : (s : Names) (label : Option Name) (body : Bor (List Stmt)) → statement_faults s (plain_statement (stmt.Block label body)) ≡ [] → statements_faults s (plain_statements body.now) ≡ []
unfolding statement_faults
shaped-Block s label body h = ap (statement_faults s) (sym (plain_block label body)) ∙ h

pub shaped-If-test : (s : Names) (t : Bor Expr) (y : Bor Stmt) → statement_faults s (plain_statement (stmt.If t y None)) ≡ [] → shape_faults s (plain t.now) ≡ []
unfolding plain_statement statement_faults
shaped-If-test s t y h = left_none (shape_faults s (plain t.now)) (statement_faults s (plain_statement y.now)) h

pub shaped-If-yes : (s : Names) (t : Bor Expr) (y : Bor Stmt) → statement_faults s (plain_statement (stmt.If t y None)) ≡ [] → statement_faults s (plain_statement y.now) ≡ []
unfolding plain_statement statement_faults
shaped-If-yes s t y h = right_none (shape_faults s (plain t.now)) (statement_faults s (plain_statement y.now)) h

pub shaped-IfElse-test : (s : Names) (t : Bor Expr) (y n : Bor Stmt) → statement_faults s (plain_statement (stmt.If t y (Some n))) ≡ [] → shape_faults s (plain t.now) ≡ []
unfolding plain_statement statement_faults
shaped-IfElse-test s t y n h = left_none (shape_faults s (plain t.now)) (statement_faults s (plain_statement y.now) ++ statement_faults s (plain_statement n.now)) h

pub shaped-IfElse-yes : (s : Names) (t : Bor Expr) (y n : Bor Stmt) → statement_faults s (plain_statement (stmt.If t y (Some n))) ≡ [] → statement_faults s (plain_statement y.now) ≡ []
unfolding plain_statement statement_faults
shaped-IfElse-yes s t y n h =
    left_none (statement_faults s (plain_statement y.now)) (statement_faults s (plain_statement n.now))
    (right_none (shape_faults s (plain t.now)) (statement_faults s (plain_statement y.now) ++ statement_faults s (plain_statement n.now)) h)

pub shaped-IfElse-no : (s : Names) (t : Bor Expr) (y n : Bor Stmt) → statement_faults s (plain_statement (stmt.If t y (Some n))) ≡ [] → statement_faults s (plain_statement n.now) ≡ []
unfolding plain_statement statement_faults
shaped-IfElse-no s t y n h =
    right_none (statement_faults s (plain_statement y.now)) (statement_faults s (plain_statement n.now))
    (right_none (shape_faults s (plain t.now)) (statement_faults s (plain_statement y.now) ++ statement_faults s (plain_statement n.now)) h)

pub shaped-Case-on : (s : Names) (kind : Keyword) (t : Bor Expr) (arms : Bor (List Branch)) → statement_faults s (plain_statement (stmt.Case kind t arms)) ≡ [] → shape_faults s (plain t.now) ≡ []
unfolding statement_faults
shaped-Case-on s kind t arms h = left_none (shape_faults s (plain t.now)) (arms_faults s (plain_arms arms.now)) (ap (statement_faults s) (sym (plain_case kind t arms)) ∙ h)

pub shaped-Case-arms : (s : Names) (kind : Keyword) (t : Bor Expr) (arms : Bor (List Branch)) → statement_faults s (plain_statement (stmt.Case kind t arms)) ≡ [] → arms_faults s (plain_arms arms.now) ≡ []
unfolding statement_faults
shaped-Case-arms s kind t arms h = right_none (shape_faults s (plain t.now)) (arms_faults s (plain_arms arms.now)) (ap (statement_faults s) (sym (plain_case kind t arms)) ∙ h)

pub shaped-Assign-target : (s : Names) (t : Bor Expr) (now : Bool) (v : Bor Expr) → statement_faults s (plain_statement (stmt.Assign t now v)) ≡ [] → shape_faults s (plain t.now) ≡ []
unfolding plain_statement statement_faults
shaped-Assign-target s t now v h = left_none (shape_faults s (plain t.now)) (shape_faults s (plain v.now)) h

pub shaped-Assign-value : (s : Names) (t : Bor Expr) (now : Bool) (v : Bor Expr) → statement_faults s (plain_statement (stmt.Assign t now v)) ≡ [] → shape_faults s (plain v.now) ≡ []
unfolding plain_statement statement_faults
shaped-Assign-value s t now v h = right_none (shape_faults s (plain t.now)) (shape_faults s (plain v.now)) h

-- what statements do

pub run-Null : (s : Names) (e : Environment) → executed s (plain_statement stmt.Null) e ≡ e
unfolding plain_statement executed
run-Null s e = refl

pub run-For : (s : Names) (h : Head) (b : Bor Stmt) (e : Environment) → executed s (plain_statement (stmt.For h b)) e ≡ e
unfolding plain_statement executed
run-For s h b e = refl

pub run-Block : (s : Names) (label : Option Name) (body : Bor (List Stmt)) (e : Environment) → executed s (plain_statement (stmt.Block label body)) e ≡ executed_all s (plain_statements body.now) e
unfolding executed
run-Block s label body e = ap (λ p. executed s p e) (plain_block label body)

pub run-If-true : (s : Names) (t : Bor Expr) (y : Bor Stmt) (e : Environment) → is_true s (plain t.now) e ≡ true → executed s (plain_statement (stmt.If t y None)) e ≡ executed s (plain_statement y.now) e
unfolding plain_statement executed
run-If-true s t y e h = rw h refl

pub run-If-false : (s : Names) (t : Bor Expr) (y : Bor Stmt) (e : Environment) → is_true s (plain t.now) e ≡ false → executed s (plain_statement (stmt.If t y None)) e ≡ e
unfolding plain_statement executed
run-If-false s t y e h = rw h refl

pub run-IfElse-true : (s : Names) (t : Bor Expr) (y n : Bor Stmt) (e : Environment) → is_true s (plain t.now) e ≡ true → executed s (plain_statement (stmt.If t y (Some n))) e ≡ executed s (plain_statement y.now) e
unfolding plain_statement executed
run-IfElse-true s t y n e h = rw h refl

pub run-IfElse-false : (s : Names) (t : Bor Expr) (y n : Bor Stmt) (e : Environment) → is_true s (plain t.now) e ≡ false → executed s (plain_statement (stmt.If t y (Some n))) e ≡ executed s (plain_statement n.now) e
unfolding plain_statement executed
run-IfElse-false s t y n e h = rw h refl

pub run-Case : (s : Names) (kind : Keyword) (t : Bor Expr) (arms : Bor (List Branch)) (e : Environment) → executed s (plain_statement (stmt.Case kind t arms)) e ≡ executed s (Case kind.0 (plain t.now) (plain_arms arms.now)) e
run-Case s kind t arms e = ap (λ p. executed s p e) (plain_case kind t arms)

pub run-now : (s : Names) (t v : Bor Expr) (e : Environment) → executed s (plain_statement (stmt.Assign t true v)) e ≡ write (target_bits s e (plain t.now)) (assigned s (plain t.now) (plain v.now) e) e
unfolding plain_statement executed
run-now s t v e = refl

pub run-later : (s : Names) (t v : Bor Expr) (e : Environment) → executed s (plain_statement (stmt.Assign t false v)) e ≡ e
unfolding plain_statement executed
run-later s t v e = refl

-- what they leave for later

pub left-Null : (s : Names) (e : Environment) → updates s (plain_statement stmt.Null) e ≡ []
unfolding plain_statement updates
left-Null s e = refl

pub left-For : (s : Names) (h : Head) (b : Bor Stmt) (e : Environment) → updates s (plain_statement (stmt.For h b)) e ≡ []
unfolding plain_statement updates
left-For s h b e = refl

pub left-Block : (s : Names) (label : Option Name) (body : Bor (List Stmt)) (e : Environment) → updates s (plain_statement (stmt.Block label body)) e ≡ updates_of_all s (plain_statements body.now) e
unfolding updates
left-Block s label body e = ap (λ p. updates s p e) (plain_block label body)

pub left-If-true : (s : Names) (t : Bor Expr) (y : Bor Stmt) (e : Environment) → is_true s (plain t.now) e ≡ true → updates s (plain_statement (stmt.If t y None)) e ≡ updates s (plain_statement y.now) e
unfolding plain_statement updates
left-If-true s t y e h = rw h refl

pub left-If-false : (s : Names) (t : Bor Expr) (y : Bor Stmt) (e : Environment) → is_true s (plain t.now) e ≡ false → updates s (plain_statement (stmt.If t y None)) e ≡ []
unfolding plain_statement updates
left-If-false s t y e h = rw h refl

pub left-IfElse-true : (s : Names) (t : Bor Expr) (y n : Bor Stmt) (e : Environment) → is_true s (plain t.now) e ≡ true → updates s (plain_statement (stmt.If t y (Some n))) e ≡ updates s (plain_statement y.now) e
unfolding plain_statement updates
left-IfElse-true s t y n e h = rw h refl

pub left-IfElse-false : (s : Names) (t : Bor Expr) (y n : Bor Stmt) (e : Environment) → is_true s (plain t.now) e ≡ false → updates s (plain_statement (stmt.If t y (Some n))) e ≡ updates s (plain_statement n.now) e
unfolding plain_statement updates
left-IfElse-false s t y n e h = rw h refl

pub left-Case : (s : Names) (kind : Keyword) (t : Bor Expr) (arms : Bor (List Branch)) (e : Environment) → updates s (plain_statement (stmt.Case kind t arms)) e ≡ updates s (Case kind.0 (plain t.now) (plain_arms arms.now)) e
left-Case s kind t arms e = ap (λ p. updates s p e) (plain_case kind t arms)

pub left-now : (s : Names) (t v : Bor Expr) (e : Environment) → updates s (plain_statement (stmt.Assign t true v)) e ≡ []
unfolding plain_statement updates
left-now s t v e = refl

pub none_applied : (e : Environment) → applied [] e ≡ e
unfolding applied
none_applied e = refl

pub left-later : (s : Names) (t v : Bor Expr) (e f : Environment) → applied (updates s (plain_statement (stmt.Assign t false v)) e) f ≡ write (target_bits s e (plain t.now)) (assigned s (plain t.now) (plain v.now) e) f
unfolding plain_statement updates applied
left-later s t v e f = refl

pub ruleset statement_nodes = (
  stmt_lemmas,
  shaped-Block,
  shaped-If-test,
  shaped-If-yes,
  shaped-IfElse-test,
  shaped-IfElse-yes,
  shaped-IfElse-no,
  shaped-Case-on,
  shaped-Case-arms,
  shaped-Assign-target,
  shaped-Assign-value,
  run-Null,
  run-For,
  run-Block,
  run-If-true,
  run-If-false,
  run-IfElse-true,
  run-IfElse-false,
  run-Case,
  run-now,
  run-later,
  left-Null,
  left-For,
  left-Block,
  left-If-true,
  left-If-false,
  left-IfElse-true,
  left-IfElse-false,
  left-Case,
  left-now,
  none_applied,
  left-later,
)
