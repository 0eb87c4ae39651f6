-- The faults of statements at nodes of the arena, one equation for each form.
use Rattle.std.proofs.Common.{◌≡◌, ◌∙◌, sym, ap, ℕ, ◌+◌, ◌<◌, ◌≤◌, Bool, List, ◌++◌, length, map, fold, drop, get_or, Option, None, Some, refl}
use Rattle.std.proofs.lemmas.List.{drop_all}
use Rattle.std.proofs.lemmas.List.Sums.{fold-append}
use Rattle.rr_syntax.specs.declared.token.Keyword.{Keyword}
use Rattle.rr_syntax.specs.declared.tree.Arm.{Arm as Branch}
use Rattle.rr_syntax.specs.declared.tree.Event.{Event}
use Rattle.rr_syntax.specs.declared.tree.Expr.{Expr}
use Rattle.rr_syntax.specs.declared.tree.Head.{Head}
use Rattle.rr_syntax.specs.declared.tree.Named.{Named as Name}
use Rattle.rr_syntax.specs.declared.tree.Stmt.{Stmt, the_lemmas as stmt_lemmas}
use Rattle.rr_syntax.specs.declared.tree.Stmt.TheVariants as stmt
use Rattle.rr_syntax.specs.View.{plain, plain_list, plain_statement, plain_statements, plain_arm, plain_arms, plain_edge}
use Rattle.rr_syntax.proofs.Rows.{plain_block, plain_case}
use Rattle.rr_expr.specs.Scopes.{Names}
use Rattle.rr_flat.specs.Faults.{earlier, sooner}
use Rattle.rr_flat.specs.declared.fault.FlatFault.{FlatFault}
use Rattle.rr_flat.proofs.Lists.{rest}
use Rattle.rr_flat.specs.Shapes.{shape_faults, list_faults, statement_faults, statements_faults, arms_faults}
use Rattle.rr_loop_rules.specs.Rules.{LoopNames}
use Rattle.rr_flatten.specs.Walk.{edge_faults, edges_faults}
use denote.Ref.{Bor}

pub noted-Null : (f : Option FlatFault) (s : Names) → fold earlier f (statement_faults s (plain_statement stmt.Null)) ≡ f
unfolding plain_statement statement_faults
noted-Null f s = refl

pub noted-Block : (f : Option FlatFault) (s : Names) (label : Option Name) (body : Bor (List Stmt)) → fold earlier f (statement_faults s (plain_statement (stmt.Block label body))) ≡ fold earlier f (statements_faults s (plain_statements body.now))
unfolding statement_faults
noted-Block f s label body = ap (λ p. fold earlier f (statement_faults s p)) (plain_block label body)

pub noted-If : (f : Option FlatFault) (s : Names) (t : Bor Expr) (y : Bor Stmt) → fold earlier f (statement_faults s (plain_statement (stmt.If t y None))) ≡ fold earlier (fold earlier f (shape_faults s (plain t.now))) (statement_faults s (plain_statement y.now))
unfolding plain_statement statement_faults
noted-If f s t y = fold-append earlier f (shape_faults s (plain t.now)) (statement_faults s (plain_statement y.now))

pub noted-IfElse : (f : Option FlatFault) (s : Names) (t : Bor Expr) (y n : Bor Stmt) → fold earlier f (statement_faults s (plain_statement (stmt.If t y (Some n)))) ≡ fold earlier (fold earlier (fold earlier f (shape_faults s (plain t.now))) (statement_faults s (plain_statement y.now))) (statement_faults s (plain_statement n.now))
unfolding plain_statement statement_faults
noted-IfElse f s t y n =
    fold-append earlier f (shape_faults s (plain t.now)) (statement_faults s (plain_statement y.now) ++ statement_faults s (plain_statement n.now))
    ∙ fold-append earlier (fold earlier f (shape_faults s (plain t.now))) (statement_faults s (plain_statement y.now)) (statement_faults s (plain_statement n.now))

pub noted-Case : (f : Option FlatFault) (s : Names) (kind : Keyword) (t : Bor Expr) (arms : Bor (List Branch)) → fold earlier f (statement_faults s (plain_statement (stmt.Case kind t arms))) ≡ fold earlier (fold earlier f (shape_faults s (plain t.now))) (arms_faults s (plain_arms arms.now))
unfolding statement_faults
noted-Case f s kind t arms = ap (λ p. fold earlier f (statement_faults s p)) (plain_case kind t arms) ∙ fold-append earlier f (shape_faults s (plain t.now)) (arms_faults s (plain_arms arms.now))

pub noted-Assign : (f : Option FlatFault) (s : Names) (t : Bor Expr) (now : Bool) (v : Bor Expr) → fold earlier f (statement_faults s (plain_statement (stmt.Assign t now v))) ≡ fold earlier (fold earlier f (shape_faults s (plain t.now))) (shape_faults s (plain v.now))
unfolding plain_statement statement_faults
noted-Assign f s t now v = fold-append earlier f (shape_faults s (plain t.now)) (shape_faults s (plain v.now))

pub noted-For : (f : Option FlatFault) (s : Names) (h : Head) (b : Bor Stmt) → fold earlier f (statement_faults s (plain_statement (stmt.For h b))) ≡ f
unfolding plain_statement statement_faults
noted-For f s h b = refl

pub ruleset statement_notes = (stmt_lemmas, noted-Null, noted-Block, noted-If, noted-IfElse, noted-Case, noted-Assign, noted-For)

-- lists, one more element at a time, by either order of faults

pub list_more : (step : Option FlatFault → FlatFault → Option FlatFault) (f : Option FlatFault) (s : Names) (xs : List Expr) (i : ℕ) (x : Expr) → i < length xs → x ≡ get_or xs i x
    → fold step (fold step f (shape_faults s (plain x))) (list_faults s (plain_list (drop (i + 1) xs))) ≡ fold step f (list_faults s (plain_list (drop i xs)))
unfolding list_faults plain_list
list_more step f s xs i x lt is = rw (rest xs i x lt, ← is) (sym (fold-append step f (shape_faults s (plain x)) (list_faults s (plain_list (drop (i + 1) xs)))))

pub list_done : (step : Option FlatFault → FlatFault → Option FlatFault) (f : Option FlatFault) (s : Names) (xs : List Expr) (i : ℕ) → length xs ≤ i → fold step f (list_faults s (plain_list (drop i xs))) ≡ f
unfolding list_faults plain_list
list_done step f s xs i le = rw (drop_all i xs le) refl

pub statements_more : (f : Option FlatFault) (s : Names) (xs : List Stmt) (i : ℕ) (x : Stmt) → i < length xs → x ≡ get_or xs i x
    → fold earlier (fold earlier f (statement_faults s (plain_statement x))) (statements_faults s (plain_statements (drop (i + 1) xs))) ≡ fold earlier f (statements_faults s (plain_statements (drop i xs)))
unfolding statements_faults plain_statements
statements_more f s xs i x lt is = rw (rest xs i x lt, ← is) (sym (fold-append earlier f (statement_faults s (plain_statement x)) (statements_faults s (plain_statements (drop (i + 1) xs)))))

pub statements_done : (f : Option FlatFault) (s : Names) (xs : List Stmt) (i : ℕ) → length xs ≤ i → fold earlier f (statements_faults s (plain_statements (drop i xs))) ≡ f
unfolding statements_faults plain_statements
statements_done f s xs i le = rw (drop_all i xs le) refl

pub arms_more : (f : Option FlatFault) (s : Names) (xs : List Branch) (i : ℕ) (x : Branch) → i < length xs → x ≡ get_or xs i x
    → fold earlier (fold earlier (fold earlier f (list_faults s (plain_list x.labels.now))) (statement_faults s (plain_statement x.body.now))) (arms_faults s (plain_arms (drop (i + 1) xs))) ≡ fold earlier f (arms_faults s (plain_arms (drop i xs)))
unfolding arms_faults plain_arms plain_arm
arms_more f s xs i x lt is =
    rw (rest xs i x lt, ← is)
    (sym (fold-append earlier f (list_faults s (plain_list x.labels.now) ++ statement_faults s (plain_statement x.body.now)) (arms_faults s (plain_arms (drop (i + 1) xs)))
    ∙ ap (λ z. fold earlier z (arms_faults s (plain_arms (drop (i + 1) xs)))) (fold-append earlier f (list_faults s (plain_list x.labels.now)) (statement_faults s (plain_statement x.body.now)))))

pub arms_done : (f : Option FlatFault) (s : Names) (xs : List Branch) (i : ℕ) → length xs ≤ i → fold earlier f (arms_faults s (plain_arms (drop i xs))) ≡ f
unfolding arms_faults plain_arms
arms_done f s xs i le = rw (drop_all i xs le) refl

pub edges_more : (f : Option FlatFault) (l : LoopNames) (s : Names) (xs : List Event) (i : ℕ) (d : Event) → i < length xs
    → fold sooner (fold sooner f (edge_faults l s (plain_edge (get_or xs i d)))) (edges_faults l s (map plain_edge (drop (i + 1) xs))) ≡ fold sooner f (edges_faults l s (map plain_edge (drop i xs)))
unfolding edges_faults
edges_more f l s xs i d lt = rw (rest xs i d lt) (sym (fold-append sooner f (edge_faults l s (plain_edge (get_or xs i d))) (edges_faults l s (map plain_edge (drop (i + 1) xs)))))

pub edges_done : (f : Option FlatFault) (l : LoopNames) (s : Names) (xs : List Event) (i : ℕ) → length xs ≤ i → fold sooner f (edges_faults l s (map plain_edge (drop i xs))) ≡ f
unfolding edges_faults
edges_done f l s xs i le = rw (drop_all i xs le) refl
