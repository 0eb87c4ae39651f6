-- The spots of nodes of the arena, one equation for each form.
use Rattle.std.proofs.Common.{◌≡◌, ◌∙◌, sym, ap, ℕ, Bool, true, false, if◌then◌else◌, List, [], ◌∷◌, ◌++◌, get_or, Option, None, Some, refl, append_assoc, append-nil}
use Rattle.std.specs.Prelude.{flat_map}
use Rattle.rr_syntax.specs.declared.token.Keyword.{Keyword}
use Rattle.rr_syntax.specs.declared.token.Mark.{Mark}
use Rattle.rr_syntax.specs.declared.token.Number.{Number}
use Rattle.rr_syntax.specs.declared.tree.Arm.{Arm as Branch}
use Rattle.rr_syntax.specs.declared.tree.Expr.{Expr, the_lemmas as expr_lemmas}
use Rattle.rr_syntax.specs.declared.tree.Expr.TheVariants as expr
use Rattle.rr_syntax.specs.declared.tree.Head.{Head}
use Rattle.rr_syntax.specs.declared.tree.Named.{Named as Name}
use Rattle.rr_syntax.specs.declared.tree.Stmt.{Stmt, the_lemmas as stmt_lemmas}
use Rattle.rr_syntax.specs.declared.tree.Stmt.TheVariants as stmt
use Rattle.rr_syntax.specs.View.{plain, plain_list, plain_statement, plain_statements, plain_arm, plain_arms}
use Rattle.rr_syntax.proofs.Rows.{plain_concat, plain_repeat, plain_block, plain_case}
use Rattle.rr_expr.specs.declared.operators.Infix.TheVariants.{Either}
use Rattle.rr_expr.specs.Faults.{takes_constants}
use Rattle.rr_expr.specs.Operators.{infixes}
use Rattle.rr_change_places.specs.Spots.{Spot, Test, Value, spots, spots_of_parts, spots_of, spots_of_all, spots_of_arms}
use Rattle.rr_change_places.proofs.Walks.{three, four}
use denote.Ref.{Bor}

-- of an expression

pub tree-Name : (acc : List Spot) (token : ℕ) (name : Bor (List ℕ)) → acc ++ spots (plain (expr.Name token name)) ≡ acc
unfolding plain spots
tree-Name acc token name = append-nil acc

pub tree-Literal : (acc : List Spot) (token : ℕ) (n : Number) → acc ++ spots (plain (expr.Literal token n)) ≡ acc ++ Value token n ∷ []
unfolding plain spots
tree-Literal acc token n = refl

pub tree-Bit : (acc : List Spot) (token : ℕ) (name : Bor (List ℕ)) (i : Bor Expr) → acc ++ spots (plain (expr.Bit token name i)) ≡ acc
unfolding plain spots
tree-Bit acc token name i = append-nil acc

pub tree-Part : (acc : List Spot) (token : ℕ) (name : Bor (List ℕ)) (l r : Bor Expr) → acc ++ spots (plain (expr.Part token name l r)) ≡ acc
unfolding plain spots
tree-Part acc token name l r = append-nil acc

pub tree-Indexed : (acc : List Spot) (token : ℕ) (name : Bor (List ℕ)) (f n : Bor Expr) (up : Bool) → acc ++ spots (plain (expr.Indexed token name f n up)) ≡ acc
unfolding plain spots
tree-Indexed acc token name f n up = append-nil acc

pub tree-Unary : (acc : List Spot) (op : Mark) (t : Bor Expr) → acc ++ spots (plain (expr.Unary op t)) ≡ acc ++ spots (plain t.now)
unfolding plain spots
tree-Unary acc op t = refl

pub tree-constant : (acc : List Spot) (op : Mark) (l r : Bor Expr) → takes_constants (get_or infixes op.0 Either) ≡ true → acc ++ spots (plain (expr.Binary op l r)) ≡ acc
unfolding plain spots
tree-constant acc op l r e = ap (λ b. acc ++ (if b then [] else spots (plain l.now) ++ spots (plain r.now))) e ∙ append-nil acc

pub tree-Binary : (acc : List Spot) (op : Mark) (l r : Bor Expr) → takes_constants (get_or infixes op.0 Either) ≡ false → acc ++ spots (plain (expr.Binary op l r)) ≡ (acc ++ spots (plain l.now)) ++ spots (plain r.now)
unfolding plain spots
tree-Binary acc op l r e = ap (λ b. acc ++ (if b then [] else spots (plain l.now) ++ spots (plain r.now))) e ∙ sym (append_assoc acc (spots (plain l.now)) (spots (plain r.now)))

pub tree-Cond : (acc : List Spot) (a b c : Bor Expr) → acc ++ spots (plain (expr.Cond a b c)) ≡ (((acc ++ Test (plain a.now) ∷ []) ++ spots (plain a.now)) ++ spots (plain b.now)) ++ spots (plain c.now)
unfolding plain spots
tree-Cond acc a b c = four acc (Test (plain a.now) ∷ []) (spots (plain a.now)) (spots (plain b.now)) (spots (plain c.now))

pub tree-Concat : (acc : List Spot) (ts : Bor (List Expr)) → acc ++ spots (plain (expr.Concat ts)) ≡ acc ++ spots_of_parts (plain_list ts.now)
unfolding spots
tree-Concat acc ts = ap (λ t. acc ++ spots t) (plain_concat ts)

pub tree-Repeat : (acc : List Spot) (n : Bor Expr) (ts : Bor (List Expr)) → acc ++ spots (plain (expr.Repeat n ts)) ≡ acc ++ spots_of_parts (plain_list ts.now)
unfolding spots
tree-Repeat acc n ts = ap (λ t. acc ++ spots t) (plain_repeat n ts)

pub tree-Cast : (acc : List Spot) (signed : Bool) (t : Bor Expr) → acc ++ spots (plain (expr.Cast signed t)) ≡ acc ++ spots (plain t.now)
unfolding plain spots
tree-Cast acc signed t = refl

pub tree-Paren : (acc : List Spot) (t : Bor Expr) → acc ++ spots (plain (expr.Paren t)) ≡ acc ++ spots (plain t.now)
unfolding plain spots
tree-Paren acc t = refl

pub ruleset tree_nodes =
    (expr_lemmas, tree-Name, tree-Literal, tree-Bit, tree-Part, tree-Indexed, tree-Unary, tree-constant, tree-Binary, tree-Cond, tree-Concat, tree-Repeat, tree-Cast, tree-Paren)

pub parts_list : (xs : List Expr) → spots_of_parts (plain_list xs) ≡ flat_map (λ x. spots (plain x)) xs
unfolding spots plain_list
parts_list [] = refl
parts_list (x ∷ xs) = ap (λ z. spots (plain x) ++ z) (parts_list xs)

-- of a statement

pub statement-Null : (acc : List Spot) → acc ++ spots_of (plain_statement stmt.Null) ≡ acc
unfolding plain_statement spots_of
statement-Null acc = append-nil acc

pub statement-Block : (acc : List Spot) (label : Option Name) (body : Bor (List Stmt)) → acc ++ spots_of (plain_statement (stmt.Block label body)) ≡ acc ++ spots_of_all (plain_statements body.now)
unfolding spots_of
statement-Block acc label body = ap (λ p. acc ++ spots_of p) (plain_block label body)

pub statement-If : (acc : List Spot) (t : Bor Expr) (y : Bor Stmt) → acc ++ spots_of (plain_statement (stmt.If t y None)) ≡ ((acc ++ Test (plain t.now) ∷ []) ++ spots (plain t.now)) ++ spots_of (plain_statement y.now)
unfolding plain_statement spots_of
statement-If acc t y = three acc (Test (plain t.now) ∷ []) (spots (plain t.now)) (spots_of (plain_statement y.now))

pub statement-IfElse : (acc : List Spot) (t : Bor Expr) (y n : Bor Stmt) → acc ++ spots_of (plain_statement (stmt.If t y (Some n))) ≡ (((acc ++ Test (plain t.now) ∷ []) ++ spots (plain t.now)) ++ spots_of (plain_statement y.now)) ++ spots_of (plain_statement n.now)
unfolding plain_statement spots_of
statement-IfElse acc t y n = four acc (Test (plain t.now) ∷ []) (spots (plain t.now)) (spots_of (plain_statement y.now)) (spots_of (plain_statement n.now))

pub statement-Case : (acc : List Spot) (kind : Keyword) (t : Bor Expr) (arms : Bor (List Branch)) → acc ++ spots_of (plain_statement (stmt.Case kind t arms)) ≡ (acc ++ spots (plain t.now)) ++ spots_of_arms (plain_arms arms.now)
unfolding spots_of
statement-Case acc kind t arms = ap (λ p. acc ++ spots_of p) (plain_case kind t arms) ∙ sym (append_assoc acc (spots (plain t.now)) (spots_of_arms (plain_arms arms.now)))

pub statement-Assign : (acc : List Spot) (t : Bor Expr) (now : Bool) (v : Bor Expr) → acc ++ spots_of (plain_statement (stmt.Assign t now v)) ≡ acc ++ spots (plain v.now)
unfolding plain_statement spots_of
statement-Assign acc t now v = refl

pub statement-For : (acc : List Spot) (h : Head) (b : Bor Stmt) → acc ++ spots_of (plain_statement (stmt.For h b)) ≡ acc ++ spots_of (plain_statement b.now)
unfolding plain_statement spots_of
statement-For acc h b = refl

pub ruleset statement_nodes = (stmt_lemmas, statement-Null, statement-Block, statement-If, statement-IfElse, statement-Case, statement-Assign, statement-For)

pub statements_list : (xs : List Stmt) → spots_of_all (plain_statements xs) ≡ flat_map (λ x. spots_of (plain_statement x)) xs
unfolding spots_of plain_statements
statements_list [] = refl
statements_list (x ∷ xs) = ap (λ z. spots_of (plain_statement x) ++ z) (statements_list xs)

-- of an arm: its labels, then its statement
abbrev pub arm_spots : Branch → List Spot
arm_spots x = spots_of_parts (plain_list x.labels.now) ++ spots_of (plain_statement x.body.now)

pub arms_list : (xs : List Branch) → spots_of_arms (plain_arms xs) ≡ flat_map arm_spots xs
unfolding spots_of plain_arms plain_arm
arms_list [] = refl
arms_list (x ∷ xs) = ap (λ z. arm_spots x ++ z) (arms_list xs)
