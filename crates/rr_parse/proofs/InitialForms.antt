-- Which statements of the arena an `initial` item may hold.
use Rattle.std.proofs.Common.{◌≡◌, ℕ, zero, suc, ◌+◌, ◌<◌, List, [], ◌∷◌, length, take, get_or, refl, ap, ◌∙◌, sym, arith, Bool, true, false, Option, None, Some}
use Rattle.std.specs.Prelude.{◌&&◌}
use Rattle.rr_syntax.specs.declared.token.Keyword.{Keyword}
use Rattle.rr_syntax.specs.declared.token.Mark.{Mark}
use Rattle.rr_syntax.specs.declared.token.Number.{Number}
use Rattle.rr_syntax.specs.declared.tree.Arm.{Arm}
use Rattle.rr_syntax.specs.declared.tree.Expr.{Expr, the_lemmas}
use Rattle.rr_syntax.specs.declared.tree.Expr.TheVariants as expr
use Rattle.rr_syntax.specs.declared.tree.Head.{Head}
use Rattle.rr_syntax.specs.declared.tree.Named.{Named}
use Rattle.rr_syntax.specs.declared.tree.Stmt.{Stmt, the_lemmas as stmt_lemmas}
use Rattle.rr_syntax.specs.declared.tree.Stmt.TheVariants as stmt
use Rattle.rr_syntax.specs.Statements.{is_cell, is_initial, are_initial}
use Rattle.rr_syntax.specs.View.{plain, plain_statement, plain_statements}
use Rattle.rr_syntax.proofs.Rows.{plain_block, plain_case}
use denote.Ref.{Bor}

pub cell-Name : (n : ℕ) (s : Bor (List ℕ)) → is_cell (plain (expr.Name n s)) ≡ true
unfolding plain
cell-Name n s = refl

pub cell-Literal : (n : ℕ) (d : Number) → is_cell (plain (expr.Literal n d)) ≡ false
unfolding plain
cell-Literal n d = refl

pub cell-Bit : (n : ℕ) (s : Bor (List ℕ)) (i : Bor Expr) → is_cell (plain (expr.Bit n s i)) ≡ true
unfolding plain
cell-Bit n s i = refl

pub cell-Part : (n : ℕ) (s : Bor (List ℕ)) (l r : Bor Expr) → is_cell (plain (expr.Part n s l r)) ≡ false
unfolding plain
cell-Part n s l r = refl

pub cell-Indexed : (n : ℕ) (s : Bor (List ℕ)) (f w : Bor Expr) (up : Bool) → is_cell (plain (expr.Indexed n s f w up)) ≡ false
unfolding plain
cell-Indexed n s f w up = refl

pub cell-Unary : (op : Mark) (e : Bor Expr) → is_cell (plain (expr.Unary op e)) ≡ false
unfolding plain
cell-Unary op e = refl

pub cell-Binary : (op : Mark) (l r : Bor Expr) → is_cell (plain (expr.Binary op l r)) ≡ false
unfolding plain
cell-Binary op l r = refl

pub cell-Cond : (a b c : Bor Expr) → is_cell (plain (expr.Cond a b c)) ≡ false
unfolding plain
cell-Cond a b c = refl

pub cell-Concat : (parts : Bor (List Expr)) → is_cell (plain (expr.Concat parts)) ≡ false
unfolding plain
cell-Concat parts = refl

pub cell-Repeat : (count : Bor Expr) (parts : Bor (List Expr)) → is_cell (plain (expr.Repeat count parts)) ≡ false
unfolding plain
cell-Repeat count parts = refl

pub cell-Cast : (signed : Bool) (e : Bor Expr) → is_cell (plain (expr.Cast signed e)) ≡ false
unfolding plain
cell-Cast signed e = refl

pub cell-Paren : (e : Bor Expr) → is_cell (plain (expr.Paren e)) ≡ false
unfolding plain
cell-Paren e = refl

pub ruleset cells = (the_lemmas, cell-Name, cell-Literal, cell-Bit, cell-Part, cell-Indexed, cell-Unary, cell-Binary, cell-Cond, cell-Concat, cell-Repeat, cell-Cast, cell-Paren)

pub form-Null : is_initial (plain_statement stmt.Null) ≡ true
unfolding is_initial plain_statement
form-Null = refl

pub form-Block : (label : Option Named) (body : Bor (List Stmt)) → is_initial (plain_statement (stmt.Block label body)) ≡ are_initial (plain_statements body.now)
unfolding is_initial
form-Block label body = ap is_initial (plain_block label body)

pub form-If : (t : Bor Expr) (s : Bor Stmt) (other : Option (Bor Stmt)) → is_initial (plain_statement (stmt.If t s other)) ≡ false
unfolding is_initial plain_statement
form-If t s None = refl
form-If t s (Some u) = refl

pub form-Case : (kind : Keyword) (t : Bor Expr) (arms : Bor (List Arm)) → is_initial (plain_statement (stmt.Case kind t arms)) ≡ false
unfolding is_initial
form-Case kind t arms = ap is_initial (plain_case kind t arms)

pub form-Assign : (t : Bor Expr) (now : Bool) (v : Bor Expr) → is_initial (plain_statement (stmt.Assign t now v)) ≡ (now && is_cell (plain t.now))
unfolding is_initial plain_statement
form-Assign t now v = refl

pub form-For : (h : Head) (s : Bor Stmt) → is_initial (plain_statement (stmt.For h s)) ≡ is_initial (plain_statement s.now)
unfolding is_initial plain_statement
form-For h s = refl

pub ruleset forms = (stmt_lemmas, form-Null, form-Block, form-If, form-Case, form-Assign, form-For)

pub initial_start : (ss : List Stmt) → are_initial (plain_statements (take 0 ss)) ≡ true
unfolding is_initial plain_statements
initial_start [] = refl
initial_start (s ∷ ss) = refl

both : (a b : Bool) → a ≡ true → b ≡ true → (a && b) ≡ true
both a b h k = rw (h, k) refl

not_first : (a b : Bool) → a ≡ false → (a && b) ≡ false
not_first a b h = rw h refl

not_second : (a b : Bool) → b ≡ false → (a && b) ≡ false
not_second true b h = h
not_second false b h = refl

first_of : (a b : Bool) → (a && b) ≡ true → (a ≡ true) × (b ≡ true)
first_of true b h = (refl, h)
first_of false b h = absurd cc

pub initial_next : (ss : List Stmt) (i : ℕ) (s : Stmt) → i < length ss → s ≡ get_or ss i s → are_initial (plain_statements (take i ss)) ≡ true → is_initial (plain_statement s) ≡ true → are_initial (plain_statements (take (i + 1) ss)) ≡ true
unfolding is_initial plain_statements
initial_next [] i s h g a b = absurd (omega arith)
initial_next (x ∷ ss) zero s h g a b = both (is_initial (plain_statement x)) (are_initial (plain_statements (take 0 ss))) (ap (λ (y : Stmt). is_initial (plain_statement y)) (sym g) ∙ b) (initial_start ss)
initial_next (x ∷ ss) (suc i) s h g a b =
    let n : suc i + 1 ≡ suc (i + 1) = omega arith in
    let k = first_of (is_initial (plain_statement x)) (are_initial (plain_statements (take i ss))) a in
    rw n (both (is_initial (plain_statement x)) (are_initial (plain_statements (take (i + 1) ss))) k.0 (initial_next ss i s (omega arith) g k.1 b))

pub initial_not : (ss : List Stmt) (i : ℕ) (s : Stmt) → i < length ss → s ≡ get_or ss i s → is_initial (plain_statement s) ≡ false → are_initial (plain_statements ss) ≡ false
unfolding is_initial plain_statements
initial_not [] i s h g b = absurd (omega arith)
initial_not (x ∷ ss) zero s h g b = not_first (is_initial (plain_statement x)) (are_initial (plain_statements ss)) (ap (λ (y : Stmt). is_initial (plain_statement y)) (sym g) ∙ b)
initial_not (x ∷ ss) (suc i) s h g b = not_second (is_initial (plain_statement x)) (are_initial (plain_statements ss)) (initial_not ss i s (omega arith) g b)
