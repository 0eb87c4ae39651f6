-- What is assigned by statements and clocked blocks of the arena, in loops too: one equation for each form.
use Rattle.std.proofs.Common.{◌≡◌, ap, sym, ℕ, Bool, List, [], ◌∷◌, ◌++◌, Option, None, Some, refl, append_assoc, append-nil}
use Rattle.std.specs.Prelude.{flat_map}
use Rattle.rr_syntax.specs.declared.token.Keyword.{Keyword}
use Rattle.rr_syntax.specs.declared.tree.Arm.{Arm as Branch}
use Rattle.rr_syntax.specs.declared.tree.Bounds.{Bounds}
use Rattle.rr_syntax.specs.declared.tree.Conns.{Conns}
use Rattle.rr_syntax.specs.declared.tree.Declarator.{Declarator}
use Rattle.rr_syntax.specs.declared.tree.Event.{Event}
use Rattle.rr_syntax.specs.declared.tree.Events.TheVariants as events
use Rattle.rr_syntax.specs.declared.tree.Expr.{Expr}
use Rattle.rr_syntax.specs.declared.tree.Group.{Group}
use Rattle.rr_syntax.specs.declared.tree.Head.{Head}
use Rattle.rr_syntax.specs.declared.tree.Instance.{Instance}
use Rattle.rr_syntax.specs.declared.tree.Item.TheVariants as item
use Rattle.rr_syntax.specs.declared.tree.Named.{Named}
use Rattle.rr_syntax.specs.declared.tree.Pair.{Pair}
use Rattle.rr_syntax.specs.declared.tree.Params.{Params}
use Rattle.rr_syntax.specs.declared.tree.Stmt.{Stmt, the_lemmas as stmt_lemmas}
use Rattle.rr_syntax.specs.declared.tree.Stmt.TheVariants as stmt
use Rattle.rr_syntax.specs.View.{plain, plain_events, plain_item, plain_statement, plain_statements, plain_arm, plain_arms}
use Rattle.rr_syntax.proofs.Rows.{plain_block, plain_case}
use Rattle.rr_flat.specs.Reads.{Assigned, assigned_parts}
use Rattle.rr_flat.specs.Targets.{target_parts}
use Rattle.rr_guard.specs.Anywhere.{assigned_anywhere, assigned_anywhere_by_all, assigned_anywhere_by_arms, anywhere_at_edges}
use denote.Ref.{Bor}

-- what a statement adds

abbrev Adds : List Assigned → Stmt → List Assigned
Adds acc s = acc ++ assigned_anywhere (plain_statement s)

pub adds-Null : (acc : List Assigned) → Adds acc stmt.Null ≡ acc
unfolding plain_statement assigned_anywhere
adds-Null acc = append-nil acc

pub adds-Block : (acc : List Assigned) (label : Option Named) (body : Bor (List Stmt)) → Adds acc (stmt.Block label body) ≡ acc ++ assigned_anywhere_by_all (plain_statements body.now)
unfolding assigned_anywhere
adds-Block acc label body = ap (λ p. acc ++ assigned_anywhere p) (plain_block label body)

pub adds-If : (acc : List Assigned) (t : Bor Expr) (y : Bor Stmt) → Adds acc (stmt.If t y None) ≡ acc ++ assigned_anywhere (plain_statement y.now)
unfolding plain_statement assigned_anywhere
adds-If acc t y = refl

pub adds-IfElse : (acc : List Assigned) (t : Bor Expr) (y n : Bor Stmt) → Adds acc (stmt.If t y (Some n)) ≡ (acc ++ assigned_anywhere (plain_statement y.now)) ++ assigned_anywhere (plain_statement n.now)
unfolding plain_statement assigned_anywhere
adds-IfElse acc t y n = sym (append_assoc acc (assigned_anywhere (plain_statement y.now)) (assigned_anywhere (plain_statement n.now)))

pub adds-Case : (acc : List Assigned) (kind : Keyword) (t : Bor Expr) (arms : Bor (List Branch)) → Adds acc (stmt.Case kind t arms) ≡ acc ++ assigned_anywhere_by_arms (plain_arms arms.now)
unfolding assigned_anywhere
adds-Case acc kind t arms = ap (λ p. acc ++ assigned_anywhere p) (plain_case kind t arms)

pub adds-Assign : (acc : List Assigned) (t : Bor Expr) (now : Bool) (v : Bor Expr) → Adds acc (stmt.Assign t now v) ≡ acc ++ assigned_parts now (target_parts (plain t.now))
unfolding plain_statement assigned_anywhere
adds-Assign acc t now v = refl

pub adds-For : (acc : List Assigned) (h : Head) (b : Bor Stmt) → Adds acc (stmt.For h b) ≡ acc ++ assigned_anywhere (plain_statement b.now)
unfolding plain_statement assigned_anywhere
adds-For acc h b = refl

pub ruleset statement_nodes = (stmt_lemmas, adds-Null, adds-Block, adds-If, adds-IfElse, adds-Case, adds-Assign, adds-For)

pub anywhere_list : (xs : List Stmt) → assigned_anywhere_by_all (plain_statements xs) ≡ flat_map (λ x. assigned_anywhere (plain_statement x)) xs
unfolding assigned_anywhere plain_statements
anywhere_list [] = refl
anywhere_list (x ∷ xs) = ap (λ r. assigned_anywhere (plain_statement x) ++ r) (anywhere_list xs)

pub anywhere_arms : (xs : List Branch) → assigned_anywhere_by_arms (plain_arms xs) ≡ flat_map (λ x. assigned_anywhere (plain_statement x.body.now)) xs
unfolding assigned_anywhere plain_arms plain_arm
anywhere_arms [] = refl
anywhere_arms (x ∷ xs) = ap (λ r. assigned_anywhere (plain_statement x.body.now) ++ r) (anywhere_arms xs)

-- what an item adds

pub in-Edges : (acc : List Assigned) (list : Bor (List Event)) (commas : Bor (List Bool)) (body : Bor Stmt) (token : ℕ) → acc ++ anywhere_at_edges (plain_item (item.Always (events.Edges list commas) body token)) ≡ acc ++ assigned_anywhere (plain_statement body.now)
unfolding plain_item plain_events anywhere_at_edges
in-Edges acc list commas body token = refl

pub in-Star : (acc : List Assigned) (brackets : Bool) (body : Bor Stmt) (token : ℕ) → acc ++ anywhere_at_edges (plain_item (item.Always (events.Star brackets) body token)) ≡ acc
unfolding plain_item plain_events anywhere_at_edges
in-Star acc brackets body token = append-nil acc

pub in-Levels : (acc : List Assigned) (list : Bor (List Expr)) (commas : Bor (List Bool)) (body : Bor Stmt) (token : ℕ) → acc ++ anywhere_at_edges (plain_item (item.Always (events.Levels list commas) body token)) ≡ acc
unfolding plain_item plain_events anywhere_at_edges
in-Levels acc list commas body token = append-nil acc

pub in-Ports : (acc : List Assigned) (g : Group) → acc ++ anywhere_at_edges (plain_item (item.Ports g)) ≡ acc
unfolding plain_item anywhere_at_edges
in-Ports acc g = append-nil acc

pub in-Nets : (acc : List Assigned) (signed : Bool) (range : Option Bounds) (names : Bor (List Declarator)) → acc ++ anywhere_at_edges (plain_item (item.Nets signed range names)) ≡ acc
unfolding plain_item anywhere_at_edges
in-Nets acc signed range names = append-nil acc

pub in-Variables : (acc : List Assigned) (signed : Bool) (range : Option Bounds) (names : Bor (List Declarator)) → acc ++ anywhere_at_edges (plain_item (item.Variables signed range names)) ≡ acc
unfolding plain_item anywhere_at_edges
in-Variables acc signed range names = append-nil acc

pub in-Integers : (acc : List Assigned) (names : Bor (List Named)) → acc ++ anywhere_at_edges (plain_item (item.Integers names)) ≡ acc
unfolding plain_item anywhere_at_edges
in-Integers acc names = append-nil acc

pub in-Parameters : (acc : List Assigned) (p : Params) → acc ++ anywhere_at_edges (plain_item (item.Parameters p)) ≡ acc
unfolding plain_item anywhere_at_edges
in-Parameters acc p = append-nil acc

pub in-Assigns : (acc : List Assigned) (pairs : Bor (List Pair)) → acc ++ anywhere_at_edges (plain_item (item.Assigns pairs)) ≡ acc
unfolding plain_item anywhere_at_edges
in-Assigns acc pairs = append-nil acc

pub in-Initial : (acc : List Assigned) (s : Bor Stmt) (token : ℕ) → acc ++ anywhere_at_edges (plain_item (item.Initial s token)) ≡ acc
unfolding plain_item anywhere_at_edges
in-Initial acc s token = append-nil acc

pub in-Instances : (acc : List Assigned) (m : Bor (List ℕ)) (token : ℕ) (overrides : Option Conns) (list : Bor (List Instance)) → acc ++ anywhere_at_edges (plain_item (item.Instances m token overrides list)) ≡ acc
unfolding plain_item anywhere_at_edges
in-Instances acc m token overrides list = append-nil acc

pub ruleset item_nodes = (in-Edges, in-Star, in-Levels, in-Ports, in-Nets, in-Variables, in-Integers, in-Parameters, in-Assigns, in-Initial, in-Instances)
