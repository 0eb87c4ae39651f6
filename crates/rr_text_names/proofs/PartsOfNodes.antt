-- The targets of nodes of the arena, one equation for each form.
use Rattle.std.proofs.Common.{◌≡◌, ◌∙◌, sym, ap, ℕ, Bool, List, [], ◌∷◌, ◌++◌, Option, None, Some, refl, append_assoc, append-nil}
use Rattle.std.specs.Prelude.{flat_map}
use Rattle.rr_syntax.specs.declared.token.Keyword.{Keyword}
use Rattle.rr_syntax.specs.declared.token.Mark.{Mark}
use Rattle.rr_syntax.specs.declared.token.Number.{Number}
use Rattle.rr_syntax.specs.declared.tree.Arm.{Arm as Branch}
use Rattle.rr_syntax.specs.declared.tree.Expr.{Expr, the_lemmas as expr_lemmas}
use Rattle.rr_syntax.specs.declared.tree.Expr.TheVariants as expr
use Rattle.rr_syntax.specs.declared.tree.Named.{Named as Name}
use Rattle.rr_syntax.specs.declared.tree.Head.{Head}
use Rattle.rr_syntax.specs.declared.tree.Stmt.{Stmt, the_lemmas as stmt_lemmas}
use Rattle.rr_syntax.specs.declared.tree.Stmt.TheVariants as stmt
use Rattle.rr_syntax.specs.Tree.{Tree}
use Rattle.rr_syntax.specs.View.{plain, plain_list, plain_statement, plain_statements, plain_arm, plain_arms}
use Rattle.rr_syntax.proofs.Rows.{plain_concat, plain_repeat, plain_block, plain_case}
use Rattle.rr_flat.specs.Reads.{Assigned, assigned_parts, assigned_by, assigned_by_all, assigned_by_arms}
use Rattle.rr_flat.specs.Targets.{target_parts, targets_parts}
use denote.Ref.{Bor}

pub assigned_parts_append : (now : Bool) (xs ys : List Tree) → assigned_parts now (xs ++ ys) ≡ assigned_parts now xs ++ assigned_parts now ys
unfolding assigned_parts
assigned_parts_append now [] ys = refl
assigned_parts_append now (x ∷ xs) ys = ap (λ r. record { part = x; now = now } ∷ r) (assigned_parts_append now xs ys)

-- what a target adds

abbrev Added : List Assigned → Bool → Expr → List Assigned
Added acc now e = acc ++ assigned_parts now (target_parts (plain e))

pub added-Name : (acc : List Assigned) (now : Bool) (token : ℕ) (name : Bor (List ℕ)) → Added acc now (expr.Name token name) ≡ acc ++ assigned_parts now (plain (expr.Name token name) ∷ [])
unfolding plain target_parts
added-Name acc now token name = refl

pub added-Bit : (acc : List Assigned) (now : Bool) (token : ℕ) (name : Bor (List ℕ)) (i : Bor Expr) → Added acc now (expr.Bit token name i) ≡ acc ++ assigned_parts now (plain (expr.Bit token name i) ∷ [])
unfolding plain target_parts
added-Bit acc now token name i = refl

pub added-Part : (acc : List Assigned) (now : Bool) (token : ℕ) (name : Bor (List ℕ)) (l r : Bor Expr) → Added acc now (expr.Part token name l r) ≡ acc ++ assigned_parts now (plain (expr.Part token name l r) ∷ [])
unfolding plain target_parts
added-Part acc now token name l r = refl

pub added-Indexed : (acc : List Assigned) (now : Bool) (token : ℕ) (name : Bor (List ℕ)) (f n : Bor Expr) (up : Bool) → Added acc now (expr.Indexed token name f n up) ≡ acc ++ assigned_parts now (plain (expr.Indexed token name f n up) ∷ [])
unfolding plain target_parts
added-Indexed acc now token name f n up = refl

pub added-Concat : (acc : List Assigned) (now : Bool) (ts : Bor (List Expr)) → Added acc now (expr.Concat ts) ≡ acc ++ assigned_parts now (targets_parts (plain_list ts.now))
unfolding target_parts
added-Concat acc now ts = ap (λ t. acc ++ assigned_parts now (target_parts t)) (plain_concat ts)

pub added-Literal : (acc : List Assigned) (now : Bool) (token : ℕ) (n : Number) → Added acc now (expr.Literal token n) ≡ acc
unfolding plain target_parts assigned_parts
added-Literal acc now token n = append-nil acc

pub added-Unary : (acc : List Assigned) (now : Bool) (op : Mark) (t : Bor Expr) → Added acc now (expr.Unary op t) ≡ acc
unfolding plain target_parts assigned_parts
added-Unary acc now op t = append-nil acc

pub added-Binary : (acc : List Assigned) (now : Bool) (op : Mark) (l r : Bor Expr) → Added acc now (expr.Binary op l r) ≡ acc
unfolding plain target_parts assigned_parts
added-Binary acc now op l r = append-nil acc

pub added-Cond : (acc : List Assigned) (now : Bool) (a b c : Bor Expr) → Added acc now (expr.Cond a b c) ≡ acc
unfolding plain target_parts assigned_parts
added-Cond acc now a b c = append-nil acc

pub added-Repeat : (acc : List Assigned) (now : Bool) (n : Bor Expr) (ts : Bor (List Expr)) → Added acc now (expr.Repeat n ts) ≡ acc
unfolding target_parts assigned_parts
added-Repeat acc now n ts = ap (λ t. acc ++ assigned_parts now (target_parts t)) (plain_repeat n ts) ∙ append-nil acc

pub added-Cast : (acc : List Assigned) (now : Bool) (signed : Bool) (t : Bor Expr) → Added acc now (expr.Cast signed t) ≡ acc
unfolding plain target_parts assigned_parts
added-Cast acc now signed t = append-nil acc

pub added-Paren : (acc : List Assigned) (now : Bool) (t : Bor Expr) → Added acc now (expr.Paren t) ≡ acc
unfolding plain target_parts assigned_parts
added-Paren acc now t = append-nil acc

pub ruleset part_nodes = (expr_lemmas, added-Name, added-Bit, added-Part, added-Indexed, added-Concat, added-Literal, added-Unary, added-Binary, added-Cond, added-Repeat, added-Cast, added-Paren)

pub targets_list : (now : Bool) (xs : List Expr) → assigned_parts now (targets_parts (plain_list xs)) ≡ flat_map (λ x. assigned_parts now (target_parts (plain x))) xs
unfolding targets_parts plain_list assigned_parts
targets_list now [] = refl
targets_list now (x ∷ xs) = assigned_parts_append now (target_parts (plain x)) (targets_parts (plain_list xs)) ∙ ap (λ r. assigned_parts now (target_parts (plain x)) ++ r) (targets_list now xs)

-- what a statement adds

abbrev Assigns : List Assigned → Stmt → List Assigned
Assigns acc s = acc ++ assigned_by (plain_statement s)

pub assigns-Null : (acc : List Assigned) → Assigns acc stmt.Null ≡ acc
unfolding plain_statement assigned_by
assigns-Null acc = append-nil acc

pub assigns-Block : (acc : List Assigned) (label : Option Name) (body : Bor (List Stmt)) → Assigns acc (stmt.Block label body) ≡ acc ++ assigned_by_all (plain_statements body.now)
unfolding assigned_by
assigns-Block acc label body = ap (λ p. acc ++ assigned_by p) (plain_block label body)

pub assigns-If : (acc : List Assigned) (t : Bor Expr) (y : Bor Stmt) → Assigns acc (stmt.If t y None) ≡ acc ++ assigned_by (plain_statement y.now)
unfolding plain_statement assigned_by
assigns-If acc t y = refl

pub assigns-IfElse : (acc : List Assigned) (t : Bor Expr) (y n : Bor Stmt) → Assigns acc (stmt.If t y (Some n)) ≡ (acc ++ assigned_by (plain_statement y.now)) ++ assigned_by (plain_statement n.now)
unfolding plain_statement assigned_by
assigns-IfElse acc t y n = sym (append_assoc acc (assigned_by (plain_statement y.now)) (assigned_by (plain_statement n.now)))

pub assigns-Case : (acc : List Assigned) (kind : Keyword) (t : Bor Expr) (arms : Bor (List Branch)) → Assigns acc (stmt.Case kind t arms) ≡ acc ++ assigned_by_arms (plain_arms arms.now)
unfolding assigned_by
assigns-Case acc kind t arms = ap (λ p. acc ++ assigned_by p) (plain_case kind t arms)

pub assigns-Assign : (acc : List Assigned) (t : Bor Expr) (now : Bool) (v : Bor Expr) → Assigns acc (stmt.Assign t now v) ≡ acc ++ assigned_parts now (target_parts (plain t.now))
unfolding plain_statement assigned_by
assigns-Assign acc t now v = refl

pub assigns-For : (acc : List Assigned) (h : Head) (b : Bor Stmt) → Assigns acc (stmt.For h b) ≡ acc
unfolding plain_statement assigned_by
assigns-For acc h b = append-nil acc

pub ruleset assigned_nodes = (stmt_lemmas, assigns-Null, assigns-Block, assigns-If, assigns-IfElse, assigns-Case, assigns-Assign, assigns-For)

pub assigned_list : (xs : List Stmt) → assigned_by_all (plain_statements xs) ≡ flat_map (λ x. assigned_by (plain_statement x)) xs
unfolding assigned_by plain_statements
assigned_list [] = refl
assigned_list (x ∷ xs) = ap (λ r. assigned_by (plain_statement x) ++ r) (assigned_list xs)

pub assigned_arms : (xs : List Branch) → assigned_by_arms (plain_arms xs) ≡ flat_map (λ x. assigned_by (plain_statement x.body.now)) xs
unfolding assigned_by plain_arms plain_arm
assigned_arms [] = refl
assigned_arms (x ∷ xs) = ap (λ r. assigned_by (plain_statement x.body.now) ++ r) (assigned_arms xs)
