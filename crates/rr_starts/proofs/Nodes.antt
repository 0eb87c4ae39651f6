-- `initial` items at nodes of the arena, one equation for each form.
use Rattle.std.proofs.Common.{◌≡◌, ◌∙◌, sym, ap, ℕ, ◌+◌, ◌<◌, ◌≤◌, Bool, true, false, List, ◌++◌, length, fold, drop, get_or, Option, None, Some, refl}
use Rattle.std.proofs.lemmas.List.{drop_all}
use Rattle.std.proofs.lemmas.List.Sums.{fold-append}
use Rattle.rr_syntax.specs.declared.token.Keyword.{Keyword}
use Rattle.rr_syntax.specs.declared.tree.Arm.{Arm as Branch}
use Rattle.rr_syntax.specs.declared.token.Mark.{Mark}
use Rattle.rr_syntax.specs.declared.token.Number.{Number}
use Rattle.rr_syntax.specs.declared.tree.Expr.{Expr, the_lemmas}
use Rattle.rr_syntax.specs.declared.tree.Expr.TheVariants as expr
use Rattle.rr_syntax.specs.Tree.{Tree}
use Rattle.rr_syntax.specs.declared.tree.Named.{Named as Name}
use Rattle.rr_syntax.specs.declared.tree.Head.{Head}
use Rattle.rr_syntax.specs.declared.tree.Stmt.{Stmt, the_lemmas as stmt_lemmas}
use Rattle.rr_syntax.specs.declared.tree.Stmt.TheVariants as stmt
use Rattle.rr_syntax.specs.View.{plain, plain_statement, plain_statements}
use Rattle.rr_syntax.proofs.Rows.{plain_block, plain_case, plain_concat, plain_repeat}
use Rattle.rr_expr.specs.Scopes.{Names, meant, entity_shape}
use Rattle.rr_expr.specs.declared.types.ExprFault.{ExprFault}
use Rattle.rr_expr.specs.Faults.{fault, or_else, index_fault}
use Rattle.rr_expr.specs.Selects.{integer_with}
use Rattle.rr_expr.specs.Memories.{index_shape}
use Rattle.rr_expr.specs.Values.{form, value, nowhere}
use Rattle.rr_flat.specs.Faults.{earlier, answer_of, faults_in}
use Rattle.rr_flat.specs.declared.fault.FlatFault.{FlatFault}
use Rattle.rr_flat.specs.Shapes.{shape_faults}
use Rattle.rr_flat.specs.View.{Design}
use Rattle.rr_flat.proofs.Lists.{rest}
use Rattle.rr_starts.specs.Starts.{constant_faults, initial_target_faults, initial_faults, all_initial_faults, started, all_started, set_target, set_at, start_of, whole_signal, started_word}
use denote.Ref.{Bor}

pub noted-Null : (f : Option FlatFault) (s : Names) → fold earlier f (initial_faults s (plain_statement stmt.Null)) ≡ f
unfolding plain_statement initial_faults
noted-Null f s = refl

pub noted-Block : (f : Option FlatFault) (s : Names) (label : Option Name) (body : Bor (List Stmt)) → fold earlier f (initial_faults s (plain_statement (stmt.Block label body))) ≡ fold earlier f (all_initial_faults s (plain_statements body.now))
unfolding initial_faults
noted-Block f s label body = ap (λ p. fold earlier f (initial_faults s p)) (plain_block label body)

pub noted-If : (f : Option FlatFault) (s : Names) (t : Bor Expr) (y : Bor Stmt) → fold earlier f (initial_faults s (plain_statement (stmt.If t y None))) ≡ f
unfolding plain_statement initial_faults
noted-If f s t y = refl

pub noted-IfElse : (f : Option FlatFault) (s : Names) (t : Bor Expr) (y n : Bor Stmt) → fold earlier f (initial_faults s (plain_statement (stmt.If t y (Some n)))) ≡ f
unfolding plain_statement initial_faults
noted-IfElse f s t y n = refl

pub noted-Case : (f : Option FlatFault) (s : Names) (kind : Keyword) (t : Bor Expr) (arms : Bor (List Branch)) → fold earlier f (initial_faults s (plain_statement (stmt.Case kind t arms))) ≡ f
unfolding initial_faults
noted-Case f s kind t arms = ap (λ p. fold earlier f (initial_faults s p)) (plain_case kind t arms)

pub noted-Assign : (f : Option FlatFault) (s : Names) (t : Bor Expr) (now : Bool) (v : Bor Expr) → fold earlier f (initial_faults s (plain_statement (stmt.Assign t now v))) ≡ fold earlier (fold earlier f (initial_target_faults s (plain t.now))) (constant_faults s (plain v.now))
unfolding plain_statement initial_faults
noted-Assign f s t now v = fold-append earlier f (initial_target_faults s (plain t.now)) (constant_faults s (plain v.now))

pub noted-For : (f : Option FlatFault) (s : Names) (h : Head) (b : Bor Stmt) → fold earlier f (initial_faults s (plain_statement (stmt.For h b))) ≡ f
unfolding plain_statement initial_faults
noted-For f s h b = refl

pub ruleset initial_notes = (stmt_lemmas, noted-Null, noted-Block, noted-If, noted-IfElse, noted-Case, noted-Assign, noted-For)

-- one more statement

pub all_more : (f : Option FlatFault) (s : Names) (xs : List Stmt) (i : ℕ) (x : Stmt) → i < length xs → x ≡ get_or xs i x
    → fold earlier (fold earlier f (initial_faults s (plain_statement x))) (all_initial_faults s (plain_statements (drop (i + 1) xs))) ≡ fold earlier f (all_initial_faults s (plain_statements (drop i xs)))
unfolding all_initial_faults plain_statements
all_more f s xs i x lt is = rw (rest xs i x lt, ← is) (sym (fold-append earlier f (initial_faults s (plain_statement x)) (all_initial_faults s (plain_statements (drop (i + 1) xs)))))

pub all_done : (f : Option FlatFault) (s : Names) (xs : List Stmt) (i : ℕ) → length xs ≤ i → fold earlier f (all_initial_faults s (plain_statements (drop i xs))) ≡ f
unfolding all_initial_faults plain_statements
all_done f s xs i le = rw (drop_all i xs le) refl

-- an index without a fault: what is left is the name's own

or_none : (f : Option ExprFault) → or_else f None ≡ f
or_none None = refl
or_none (Some x) = refl

pub zero_select : (s : Names) (token at value any unknown : ℕ) (signed : Bool) (name : Bor (List ℕ)) (i : Bor Expr) → i.now ≡ expr.Literal at (record { width = 1; signed = signed; value = value; any = any; unknown = unknown })
    → fault s (plain (expr.Bit token name i)) false ≡ index_fault false token (meant s name.now)
unfolding plain fault
zero_select s token at value any unknown signed name i e = rw e (or_none (index_fault false token (meant s name.now)))

-- the faults of targets

same_faults : (f : Option ExprFault) (a b : Tree) → faults_in (answer_of f a) ≡ faults_in (answer_of f b)
same_faults None a b = refl
same_faults (Some x) a b = refl

pub target-Name : (s : Names) (token : ℕ) (name : Bor (List ℕ)) → initial_target_faults s (plain (expr.Name token name)) ≡ shape_faults s (plain (expr.Name token name))
unfolding plain initial_target_faults
target-Name s token name = refl

pub target-Literal : (s : Names) (token : ℕ) (n : Number) → initial_target_faults s (plain (expr.Literal token n)) ≡ shape_faults s (plain (expr.Literal token n))
unfolding plain initial_target_faults
target-Literal s token n = refl

pub target-Bit : (s : Names) (token : ℕ) (name : Bor (List ℕ)) (i : Bor Expr) → initial_target_faults s (plain (expr.Bit token name i)) ≡ faults_in (answer_of (or_else (index_fault false token (meant s name.now)) (fault s (plain i.now) true)) (plain i.now))
unfolding plain initial_target_faults
target-Bit s token name i = same_faults (or_else (index_fault false token (meant s name.now)) (fault s (plain i.now) true)) (plain (expr.Bit token name i)) (plain i.now)

pub target-Part : (s : Names) (token : ℕ) (name : Bor (List ℕ)) (l r : Bor Expr) → initial_target_faults s (plain (expr.Part token name l r)) ≡ shape_faults s (plain (expr.Part token name l r))
unfolding plain initial_target_faults
target-Part s token name l r = refl

pub target-Indexed : (s : Names) (token : ℕ) (name : Bor (List ℕ)) (f w : Bor Expr) (up : Bool) → initial_target_faults s (plain (expr.Indexed token name f w up)) ≡ shape_faults s (plain (expr.Indexed token name f w up))
unfolding plain initial_target_faults
target-Indexed s token name f w up = refl

pub target-Unary : (s : Names) (op : Mark) (e : Bor Expr) → initial_target_faults s (plain (expr.Unary op e)) ≡ shape_faults s (plain (expr.Unary op e))
unfolding plain initial_target_faults
target-Unary s op e = refl

pub target-Binary : (s : Names) (op : Mark) (l r : Bor Expr) → initial_target_faults s (plain (expr.Binary op l r)) ≡ shape_faults s (plain (expr.Binary op l r))
unfolding plain initial_target_faults
target-Binary s op l r = refl

pub target-Cond : (s : Names) (a b c : Bor Expr) → initial_target_faults s (plain (expr.Cond a b c)) ≡ shape_faults s (plain (expr.Cond a b c))
unfolding plain initial_target_faults
target-Cond s a b c = refl

pub target-Cast : (s : Names) (signed : Bool) (e : Bor Expr) → initial_target_faults s (plain (expr.Cast signed e)) ≡ shape_faults s (plain (expr.Cast signed e))
unfolding plain initial_target_faults
target-Cast s signed e = refl

pub target-Paren : (s : Names) (e : Bor Expr) → initial_target_faults s (plain (expr.Paren e)) ≡ shape_faults s (plain (expr.Paren e))
unfolding plain initial_target_faults
target-Paren s e = refl

pub target-Concat : (s : Names) (parts : Bor (List Expr)) → initial_target_faults s (plain (expr.Concat parts)) ≡ shape_faults s (plain (expr.Concat parts))
unfolding initial_target_faults
target-Concat s parts = rw (plain_concat parts) refl

pub target-Repeat : (s : Names) (count : Bor Expr) (parts : Bor (List Expr)) → initial_target_faults s (plain (expr.Repeat count parts)) ≡ shape_faults s (plain (expr.Repeat count parts))
unfolding initial_target_faults
target-Repeat s count parts = rw (plain_repeat count parts) refl

pub ruleset initial_targets = (the_lemmas, target-Name, target-Literal, target-Bit, target-Part, target-Indexed, target-Unary, target-Binary, target-Cond, target-Concat, target-Repeat, target-Cast, target-Paren)

-- what targets set

pub set-Name : (s : Names) (token : ℕ) (name : Bor (List ℕ)) (t : Tree) (st : List ℕ) → set_target s (plain (expr.Name token name)) t st ≡ set_at (whole_signal (meant s name.now)) (start_of s (entity_shape (meant s name.now)).width t) st
unfolding plain set_target
set-Name s token name t st = refl

pub set-Literal : (s : Names) (token : ℕ) (n : Number) (t : Tree) (st : List ℕ) → set_target s (plain (expr.Literal token n)) t st ≡ st
unfolding plain set_target
set-Literal s token n t st = refl

pub set-Bit : (s : Names) (token : ℕ) (name : Bor (List ℕ)) (i : Bor Expr) (t : Tree) (st : List ℕ)
    → set_target s (plain (expr.Bit token name i)) t st ≡ set_at (started_word (meant s name.now) (integer_with (form s (plain i.now)) (value s (plain i.now) nowhere))) (start_of s (index_shape (meant s name.now)).width t) st
unfolding plain set_target
set-Bit s token name i t st = refl

pub set-Part : (s : Names) (token : ℕ) (name : Bor (List ℕ)) (l r : Bor Expr) (t : Tree) (st : List ℕ) → set_target s (plain (expr.Part token name l r)) t st ≡ st
unfolding plain set_target
set-Part s token name l r t st = refl

pub set-Indexed : (s : Names) (token : ℕ) (name : Bor (List ℕ)) (f w : Bor Expr) (up : Bool) (t : Tree) (st : List ℕ) → set_target s (plain (expr.Indexed token name f w up)) t st ≡ st
unfolding plain set_target
set-Indexed s token name f w up t st = refl

pub set-Unary : (s : Names) (op : Mark) (e : Bor Expr) (t : Tree) (st : List ℕ) → set_target s (plain (expr.Unary op e)) t st ≡ st
unfolding plain set_target
set-Unary s op e t st = refl

pub set-Binary : (s : Names) (op : Mark) (l r : Bor Expr) (t : Tree) (st : List ℕ) → set_target s (plain (expr.Binary op l r)) t st ≡ st
unfolding plain set_target
set-Binary s op l r t st = refl

pub set-Cond : (s : Names) (a b c : Bor Expr) (t : Tree) (st : List ℕ) → set_target s (plain (expr.Cond a b c)) t st ≡ st
unfolding plain set_target
set-Cond s a b c t st = refl

pub set-Cast : (s : Names) (signed : Bool) (e : Bor Expr) (t : Tree) (st : List ℕ) → set_target s (plain (expr.Cast signed e)) t st ≡ st
unfolding plain set_target
set-Cast s signed e t st = refl

pub set-Paren : (s : Names) (e : Bor Expr) (t : Tree) (st : List ℕ) → set_target s (plain (expr.Paren e)) t st ≡ st
unfolding plain set_target
set-Paren s e t st = refl

pub set-Concat : (s : Names) (parts : Bor (List Expr)) (t : Tree) (st : List ℕ) → set_target s (plain (expr.Concat parts)) t st ≡ st
unfolding set_target
set-Concat s parts t st = ap (λ a. set_target s a t st) (plain_concat parts)

pub set-Repeat : (s : Names) (count : Bor Expr) (parts : Bor (List Expr)) (t : Tree) (st : List ℕ) → set_target s (plain (expr.Repeat count parts)) t st ≡ st
unfolding set_target
set-Repeat s count parts t st = ap (λ a. set_target s a t st) (plain_repeat count parts)

pub ruleset set_targets = (the_lemmas, set-Name, set-Literal, set-Bit, set-Part, set-Indexed, set-Unary, set-Binary, set-Cond, set-Concat, set-Repeat, set-Cast, set-Paren)

-- what statements set

pub started-Null : (s : Names) (st : List ℕ) → started s (plain_statement stmt.Null) st ≡ st
unfolding plain_statement started
started-Null s st = refl

pub started-Block : (s : Names) (label : Option Name) (body : Bor (List Stmt)) (st : List ℕ) → started s (plain_statement (stmt.Block label body)) st ≡ all_started s (plain_statements body.now) st
unfolding started
started-Block s label body st = ap (λ p. started s p st) (plain_block label body)

pub started-If : (s : Names) (t : Bor Expr) (y : Bor Stmt) (st : List ℕ) → started s (plain_statement (stmt.If t y None)) st ≡ st
unfolding plain_statement started
started-If s t y st = refl

pub started-IfElse : (s : Names) (t : Bor Expr) (y n : Bor Stmt) (st : List ℕ) → started s (plain_statement (stmt.If t y (Some n))) st ≡ st
unfolding plain_statement started
started-IfElse s t y n st = refl

pub started-Case : (s : Names) (kind : Keyword) (t : Bor Expr) (arms : Bor (List Branch)) (st : List ℕ) → started s (plain_statement (stmt.Case kind t arms)) st ≡ st
unfolding started
started-Case s kind t arms st = ap (λ p. started s p st) (plain_case kind t arms)

pub started-Assign : (s : Names) (t : Bor Expr) (now : Bool) (v : Bor Expr) (st : List ℕ) → started s (plain_statement (stmt.Assign t now v)) st ≡ set_target s (plain t.now) (plain v.now) st
unfolding plain_statement started
started-Assign s t now v st = refl

pub started-For : (s : Names) (h : Head) (b : Bor Stmt) (st : List ℕ) → started s (plain_statement (stmt.For h b)) st ≡ st
unfolding plain_statement started
started-For s h b st = refl

pub block_faults : (s : Names) (label : Option Name) (body : Bor (List Stmt)) → initial_faults s (plain_statement (stmt.Block label body)) ≡ all_initial_faults s (plain_statements body.now)
unfolding initial_faults
block_faults s label body = ap (initial_faults s) (plain_block label body)

pub assign_faults : (s : Names) (t : Bor Expr) (now : Bool) (v : Bor Expr) → initial_faults s (plain_statement (stmt.Assign t now v)) ≡ initial_target_faults s (plain t.now) ++ constant_faults s (plain v.now)
unfolding plain_statement initial_faults
assign_faults s t now v = refl

pub ruleset settings = (stmt_lemmas, started-Null, started-Block, started-If, started-IfElse, started-Case, started-Assign, started-For, block_faults, assign_faults)

-- one more statement that sets

pub set_more : (s : Names) (xs : List Stmt) (i : ℕ) (x : Stmt) (st : List ℕ) → i < length xs → x ≡ get_or xs i x
    → all_started s (plain_statements (drop (i + 1) xs)) (started s (plain_statement x) st) ≡ all_started s (plain_statements (drop i xs)) st
unfolding all_started plain_statements
set_more s xs i x st lt is = rw (rest xs i x lt, ← is) refl

pub set_done : (s : Names) (xs : List Stmt) (i : ℕ) (st : List ℕ) → length xs ≤ i → all_started s (plain_statements (drop i xs)) st ≡ st
unfolding all_started plain_statements
set_done s xs i st le = rw (drop_all i xs le) refl

pub faults_left : (s : Names) (xs : List Stmt) (i : ℕ) (x : Stmt) → i < length xs → x ≡ get_or xs i x → all_initial_faults s (plain_statements (drop i xs)) ≡ initial_faults s (plain_statement x) ++ all_initial_faults s (plain_statements (drop (i + 1) xs))
unfolding all_initial_faults plain_statements
faults_left s xs i x lt is = rw (rest xs i x lt, ← is) refl

-- a design of which the starting values alone have changed, once more

pub keeps_rest : (a b c : Design) (x : List ℕ) → b ≡ record a { starts = b.starts } → c ≡ record b { starts = x } → c ≡ record a { starts = c.starts }
keeps_rest a b c x h k =
    let before : record b { starts = x } ≡ record a { starts = x } = ap (λ (f : Design). record f { starts = x }) h in
    let last : x ≡ c.starts = sym (ap (λ (f : Design). f.starts) k) in
    let after : record a { starts = x } ≡ record a { starts = c.starts } = ap (λ (v : List ℕ). record a { starts = v }) last in
    k ∙ (before ∙ after)
