-- Whether a loop stands in a statement, at each form in the arena and over slices.
use Rattle.std.proofs.Common.{◌≡◌, ◌∙◌, sym, ap, ℕ, ◌+◌, ◌<◌, ◌≤◌, Bool, true, false, ◌&&◌, List, ◌∷◌, length, get_or, drop, Option, None, Some, refl}
use Rattle.std.proofs.lemmas.List.{drop_all}
use denote.Ref.{Bor}
use Rattle.rr_syntax.specs.declared.token.Keyword.{Keyword}
use Rattle.rr_syntax.specs.declared.tree.Arm.{Arm as Branch}
use Rattle.rr_syntax.specs.declared.tree.Expr.{Expr}
use Rattle.rr_syntax.specs.declared.tree.Head.{Head}
use Rattle.rr_syntax.specs.declared.tree.Named.{Named}
use Rattle.rr_syntax.specs.declared.tree.Stmt.{Stmt, the_lemmas}
use Rattle.rr_syntax.specs.declared.tree.Stmt.TheVariants as stmt
use Rattle.rr_syntax.specs.View.{plain_statement, plain_statements, plain_arm, plain_arms}
use Rattle.rr_syntax.proofs.Rows.{plain_block, plain_case}
use Rattle.rr_flat.proofs.Lists.{rest}
use Rattle.rr_flat.specs.Loops.{is_loop_free, all_loop_free, arms_loop_free}

pub free-Null : is_loop_free (plain_statement stmt.Null) ≡ true
unfolding plain_statement is_loop_free
free-Null = refl

pub free-Block : (label : Option Named) (body : Bor (List Stmt)) → is_loop_free (plain_statement (stmt.Block label body)) ≡ all_loop_free (plain_statements body.now)
unfolding is_loop_free
free-Block label body = ap is_loop_free (plain_block label body)

pub free-If : (c : Bor Expr) (t : Bor Stmt) → is_loop_free (plain_statement (stmt.If c t None)) ≡ is_loop_free (plain_statement t.now)
unfolding plain_statement is_loop_free
free-If c t = refl

pub free-IfElse : (c : Bor Expr) (t u : Bor Stmt) → is_loop_free (plain_statement (stmt.If c t (Some u))) ≡ (is_loop_free (plain_statement t.now) && is_loop_free (plain_statement u.now))
unfolding plain_statement is_loop_free
free-IfElse c t u = refl

pub free-Case : (kind : Keyword) (on : Bor Expr) (arms : Bor (List Branch)) → is_loop_free (plain_statement (stmt.Case kind on arms)) ≡ arms_loop_free (plain_arms arms.now)
unfolding is_loop_free
free-Case kind on arms = ap is_loop_free (plain_case kind on arms)

pub free-Assign : (t : Bor Expr) (now : Bool) (e : Bor Expr) → is_loop_free (plain_statement (stmt.Assign t now e)) ≡ true
unfolding plain_statement is_loop_free
free-Assign t now e = refl

pub free-For : (h : Head) (b : Bor Stmt) → is_loop_free (plain_statement (stmt.For h b)) ≡ false
unfolding plain_statement is_loop_free
free-For h b = refl

pub ruleset free_nodes = (the_lemmas, free-Null, free-Block, free-If, free-IfElse, free-Case, free-Assign, free-For)

-- the first of those that are left

first_is : {A : Type 0} (xs : List A) (i : ℕ) (x : A) → i < length xs → x ≡ get_or xs i x → drop i xs ≡ x ∷ drop (i + 1) xs
first_is xs i x l e = rest xs i x l ∙ ap (λ y. y ∷ drop (i + 1) xs) (sym e)

pub all_first : (xs : List Stmt) (i : ℕ) (x : Stmt) → i < length xs → x ≡ get_or xs i x → all_loop_free (plain_statements (drop i xs)) ≡ (is_loop_free (plain_statement x) && all_loop_free (plain_statements (drop (i + 1) xs)))
unfolding is_loop_free plain_statements
all_first xs i x l e = ap (λ ys. all_loop_free (plain_statements ys)) (first_is xs i x l e)

pub all_next : (xs : List Stmt) (i : ℕ) (x : Stmt) → i < length xs → x ≡ get_or xs i x → is_loop_free (plain_statement x) ≡ true → all_loop_free (plain_statements (drop (i + 1) xs)) ≡ all_loop_free (plain_statements (drop i xs))
all_next xs i x l e h = sym (all_first xs i x l e ∙ ap (λ b. b && all_loop_free (plain_statements (drop (i + 1) xs))) h)

pub all_stops : (xs : List Stmt) (i : ℕ) (x : Stmt) → i < length xs → x ≡ get_or xs i x → is_loop_free (plain_statement x) ≡ false → all_loop_free (plain_statements (drop i xs)) ≡ false
all_stops xs i x l e h = all_first xs i x l e ∙ ap (λ b. b && all_loop_free (plain_statements (drop (i + 1) xs))) h

pub all_end : (xs : List Stmt) (i : ℕ) → length xs ≤ i → all_loop_free (plain_statements (drop i xs)) ≡ true
unfolding is_loop_free plain_statements
all_end xs i l = ap (λ ys. all_loop_free (plain_statements ys)) (drop_all i xs l)

pub arms_first : (xs : List Branch) (i : ℕ) (x : Branch) → i < length xs → x ≡ get_or xs i x → arms_loop_free (plain_arms (drop i xs)) ≡ (is_loop_free (plain_statement x.body.now) && arms_loop_free (plain_arms (drop (i + 1) xs)))
unfolding is_loop_free plain_arms plain_arm
arms_first xs i x l e = ap (λ ys. arms_loop_free (plain_arms ys)) (first_is xs i x l e)

pub arms_next : (xs : List Branch) (i : ℕ) (x : Branch) → i < length xs → x ≡ get_or xs i x → is_loop_free (plain_statement x.body.now) ≡ true → arms_loop_free (plain_arms (drop (i + 1) xs)) ≡ arms_loop_free (plain_arms (drop i xs))
arms_next xs i x l e h = sym (arms_first xs i x l e ∙ ap (λ b. b && arms_loop_free (plain_arms (drop (i + 1) xs))) h)

pub arms_stop : (xs : List Branch) (i : ℕ) (x : Branch) → i < length xs → x ≡ get_or xs i x → is_loop_free (plain_statement x.body.now) ≡ false → arms_loop_free (plain_arms (drop i xs)) ≡ false
arms_stop xs i x l e h = arms_first xs i x l e ∙ ap (λ b. b && arms_loop_free (plain_arms (drop (i + 1) xs))) h

pub arms_end : (xs : List Branch) (i : ℕ) → length xs ≤ i → arms_loop_free (plain_arms (drop i xs)) ≡ true
unfolding is_loop_free plain_arms
arms_end xs i l = ap (λ ys. arms_loop_free (plain_arms ys)) (drop_all i xs l)
