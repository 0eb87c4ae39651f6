-- The targets of statements of the arena, those in loops too, one equation for each form.
use Rattle.std.proofs.Common.{◌≡◌, sym, ap, ℕ, Bool, List, [], ◌∷◌, ◌++◌, Option, None, Some, refl, append_assoc, append-nil}
use Rattle.std.specs.Prelude.{flat_map}
use Rattle.rr_syntax.specs.declared.token.Keyword.{Keyword}
use Rattle.rr_syntax.specs.declared.tree.Arm.{Arm as Branch}
use Rattle.rr_syntax.specs.declared.tree.Expr.{Expr}
use Rattle.rr_syntax.specs.declared.tree.Head.{Head}
use Rattle.rr_syntax.specs.declared.tree.Named.{Named as Name}
use Rattle.rr_syntax.specs.declared.tree.Stmt.{Stmt, the_lemmas as stmt_lemmas}
use Rattle.rr_syntax.specs.declared.tree.Stmt.TheVariants as stmt
use Rattle.rr_syntax.specs.View.{plain, plain_statement, plain_statements, plain_arm, plain_arms}
use Rattle.rr_syntax.proofs.Rows.{plain_block, plain_case}
use Rattle.rr_flat.specs.Reads.{Assigned, assigned_parts}
use Rattle.rr_flat.specs.Targets.{target_parts}
use Rattle.rr_lint_laws.specs.Ever.{ever_assigned, ever_assigned_all, ever_assigned_arms}
use denote.Ref.{Bor}

abbrev Assigns : List Assigned → Stmt → List Assigned
Assigns acc s = acc ++ ever_assigned (plain_statement s)

pub ever-Null : (acc : List Assigned) → Assigns acc stmt.Null ≡ acc
unfolding plain_statement ever_assigned
ever-Null acc = append-nil acc

pub ever-Block : (acc : List Assigned) (label : Option Name) (body : Bor (List Stmt)) → Assigns acc (stmt.Block label body) ≡ acc ++ ever_assigned_all (plain_statements body.now)
unfolding ever_assigned
ever-Block acc label body = ap (λ p. acc ++ ever_assigned p) (plain_block label body)

pub ever-If : (acc : List Assigned) (t : Bor Expr) (y : Bor Stmt) → Assigns acc (stmt.If t y None) ≡ acc ++ ever_assigned (plain_statement y.now)
unfolding plain_statement ever_assigned
ever-If acc t y = refl

pub ever-IfElse : (acc : List Assigned) (t : Bor Expr) (y n : Bor Stmt) → Assigns acc (stmt.If t y (Some n)) ≡ (acc ++ ever_assigned (plain_statement y.now)) ++ ever_assigned (plain_statement n.now)
unfolding plain_statement ever_assigned
ever-IfElse acc t y n = sym (append_assoc acc (ever_assigned (plain_statement y.now)) (ever_assigned (plain_statement n.now)))

pub ever-Case : (acc : List Assigned) (kind : Keyword) (t : Bor Expr) (arms : Bor (List Branch)) → Assigns acc (stmt.Case kind t arms) ≡ acc ++ ever_assigned_arms (plain_arms arms.now)
unfolding ever_assigned
ever-Case acc kind t arms = ap (λ p. acc ++ ever_assigned p) (plain_case kind t arms)

pub ever-Assign : (acc : List Assigned) (t : Bor Expr) (now : Bool) (v : Bor Expr) → Assigns acc (stmt.Assign t now v) ≡ acc ++ assigned_parts now (target_parts (plain t.now))
unfolding plain_statement ever_assigned
ever-Assign acc t now v = refl

pub ever-For : (acc : List Assigned) (h : Head) (b : Bor Stmt) → Assigns acc (stmt.For h b) ≡ acc ++ ever_assigned (plain_statement b.now)
unfolding plain_statement ever_assigned
ever-For acc h b = refl

pub ruleset ever_nodes = (stmt_lemmas, ever-Null, ever-Block, ever-If, ever-IfElse, ever-Case, ever-Assign, ever-For)

pub ever_list : (xs : List Stmt) → ever_assigned_all (plain_statements xs) ≡ flat_map (λ x. ever_assigned (plain_statement x)) xs
unfolding ever_assigned plain_statements
ever_list [] = refl
ever_list (x ∷ xs) = ap (λ r. ever_assigned (plain_statement x) ++ r) (ever_list xs)

pub ever_arms : (xs : List Branch) → ever_assigned_arms (plain_arms xs) ≡ flat_map (λ x. ever_assigned (plain_statement x.body.now)) xs
unfolding ever_assigned plain_arms plain_arm
ever_arms [] = refl
ever_arms (x ∷ xs) = ap (λ r. ever_assigned (plain_statement x.body.now) ++ r) (ever_arms xs)
