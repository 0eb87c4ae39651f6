-- Lengths of spellings, at nodes of the arena and over slices.
use Rattle.std.proofs.Common.{◌≡◌, ℕ, Bool, ◌+◌, ◌-◌, List, length, Option, None, Some, refl, arith, length-append}
use Rattle.rr_syntax.specs.declared.token.Keyword.{Keyword}
use Rattle.rr_syntax.specs.declared.token.Mark.{Mark}
use Rattle.rr_syntax.specs.declared.token.Number.{Number}
use Rattle.rr_syntax.specs.declared.tree.Arm.{Arm as Branch}
use Rattle.rr_syntax.specs.declared.tree.Expr.{Expr, the_lemmas}
use Rattle.rr_syntax.specs.declared.tree.Expr.TheVariants as expr
use Rattle.rr_syntax.specs.declared.tree.Head.{Head}
use Rattle.rr_syntax.specs.declared.tree.Named.{Named as Name}
use Rattle.rr_syntax.specs.declared.tree.Stmt.{Stmt, the_lemmas as stmt_lemmas}
use Rattle.rr_syntax.specs.declared.tree.Stmt.TheVariants as stmt
use Rattle.rr_syntax.specs.Tree.{Trees, End, More}
use Rattle.rr_syntax.specs.Expressions.{spell, spell_parts, spell_more}
use Rattle.rr_syntax.specs.Statements.{spell_label, spell_labels, spell_loop, spell_statement, spell_statements, spell_arms}
use Rattle.rr_syntax.specs.View.{plain, plain_list, plain_label, plain_loop, plain_statement, plain_statements, plain_arm, plain_arms}
use Rattle.rr_syntax.proofs.Equations.{spellings, loop-Head, statement_spellings}
use Rattle.rr_syntax.proofs.Rows.{plain_concat, plain_repeat, plain_block, plain_case}
use Rattle.rr_syntax.proofs.Sums.{IsSum}
use denote.Ref.{Bor}

-- commas: one before each, or one between each two
pub parts_len : (ts : Trees) → length (spell_parts ts) ≡ length (spell_more ts) - 1
parts_len End = simp spellings refl
parts_len (More t ts) = simp (spellings, length-append) (omega arith)

pub size-Name : (token : ℕ) (s : Bor (List ℕ)) → length (spell (plain (expr.Name token s))) ≡ 1
unfolding plain
size-Name token s = simp spellings refl

pub size-Literal : (token : ℕ) (n : Number) → length (spell (plain (expr.Literal token n))) ≡ 1
unfolding plain
size-Literal token n = simp spellings refl

pub size-Bit : (token : ℕ) (s : Bor (List ℕ)) (i : Bor Expr) → length (spell (plain (expr.Bit token s i))) ≡ 3 + length (spell (plain i.now))
unfolding plain
size-Bit token s i = simp (spellings, length-append) (omega arith)

pub size-Part : (token : ℕ) (s : Bor (List ℕ)) (l r : Bor Expr) → length (spell (plain (expr.Part token s l r))) ≡ 4 + length (spell (plain l.now)) + length (spell (plain r.now))
unfolding plain
size-Part token s l r = simp (spellings, length-append) (omega arith)

pub size-Indexed : (token : ℕ) (s : Bor (List ℕ)) (f w : Bor Expr) (up : Bool) → length (spell (plain (expr.Indexed token s f w up))) ≡ 4 + length (spell (plain f.now)) + length (spell (plain w.now))
unfolding plain
size-Indexed token s f w up = simp (spellings, length-append) (omega arith)

pub size-Unary : (op : Mark) (e : Bor Expr) → length (spell (plain (expr.Unary op e))) ≡ 1 + length (spell (plain e.now))
unfolding plain
size-Unary op e = simp spellings (omega arith)

pub size-Binary : (op : Mark) (l r : Bor Expr) → length (spell (plain (expr.Binary op l r))) ≡ length (spell (plain l.now)) + 1 + length (spell (plain r.now))
unfolding plain
size-Binary op l r = simp (spellings, length-append) (omega arith)

pub size-Cond : (a b c : Bor Expr) → length (spell (plain (expr.Cond a b c))) ≡ length (spell (plain a.now)) + 1 + length (spell (plain b.now)) + 1 + length (spell (plain c.now))
unfolding plain
size-Cond a b c = simp (spellings, length-append) (omega arith)

pub size-Concat : (parts : Bor (List Expr)) → length (spell (plain (expr.Concat parts))) ≡ 2 + length (spell_parts (plain_list parts.now))
size-Concat parts = rw (plain_concat parts) (simp (spellings, length-append) (omega arith))

pub size-Repeat : (count : Bor Expr) (parts : Bor (List Expr)) → length (spell (plain (expr.Repeat count parts))) ≡ 4 + length (spell (plain count.now)) + length (spell_parts (plain_list parts.now))
size-Repeat count parts = rw (plain_repeat count parts) (simp (spellings, length-append) (omega arith))

pub size-Cast : (signed : Bool) (e : Bor Expr) → length (spell (plain (expr.Cast signed e))) ≡ 3 + length (spell (plain e.now))
unfolding plain
size-Cast signed e = simp (spellings, length-append) (omega arith)

pub size-Paren : (e : Bor Expr) → length (spell (plain (expr.Paren e))) ≡ 2 + length (spell (plain e.now))
unfolding plain
size-Paren e = simp (spellings, length-append) (omega arith)

pub ruleset sizes = (the_lemmas, size-Name, size-Literal, size-Bit, size-Part, size-Indexed, size-Unary, size-Binary, size-Cond, size-Concat, size-Repeat, size-Cast, size-Paren, parts_len)

-- a list of expressions, each with a comma before it
abbrev pub more_len : List Expr → ℕ
more_len es = length (spell_more (plain_list es))

abbrev pub part_len : Expr → ℕ
part_len e = 1 + length (spell (plain e))

pub more_sum : IsSum more_len part_len
unfolding plain_list
more_sum = record {
  none = simp spellings refl;
  more = λ x xs. simp (spellings, length-append) (omega arith);
}

pub size-head : (h : Head) → length (spell_loop (plain_loop h)) ≡ 8 + length (spell (plain h.start.now)) + length (spell (plain h.test.now)) + length (spell (plain h.step.now))
unfolding plain_loop
size-head h = simp (loop-Head, length-append) (omega arith)

pub ruleset loop_sizes = size-head

pub size-Null : length (spell_statement (plain_statement stmt.Null)) ≡ 1
unfolding plain_statement
size-Null = simp statement_spellings refl

pub size-Block : (label : Option Name) (body : Bor (List Stmt)) → length (spell_statement (plain_statement (stmt.Block label body))) ≡ 2 + length (spell_label (plain_label label)) + length (spell_statements (plain_statements body.now))
size-Block label body = rw (plain_block label body) (simp (statement_spellings, length-append) (omega arith))

pub size-If : (t : Bor Expr) (s : Bor Stmt) → length (spell_statement (plain_statement (stmt.If t s None))) ≡ 3 + length (spell (plain t.now)) + length (spell_statement (plain_statement s.now))
unfolding plain_statement
size-If t s = simp (statement_spellings, length-append) (omega arith)

pub size-IfElse : (t : Bor Expr) (s u : Bor Stmt) → length (spell_statement (plain_statement (stmt.If t s (Some u)))) ≡ 4 + length (spell (plain t.now)) + length (spell_statement (plain_statement s.now)) + length (spell_statement (plain_statement u.now))
unfolding plain_statement
size-IfElse t s u = simp (statement_spellings, length-append) (omega arith)

pub size-Case : (kind : Keyword) (t : Bor Expr) (arms : Bor (List Branch)) → length (spell_statement (plain_statement (stmt.Case kind t arms))) ≡ 4 + length (spell (plain t.now)) + length (spell_arms (plain_arms arms.now))
size-Case kind t arms = rw (plain_case kind t arms) (simp (statement_spellings, length-append) (omega arith))

pub size-Assign : (t : Bor Expr) (now : Bool) (v : Bor Expr) → length (spell_statement (plain_statement (stmt.Assign t now v))) ≡ 2 + length (spell (plain t.now)) + length (spell (plain v.now))
unfolding plain_statement
size-Assign t now v = simp (statement_spellings, length-append) (omega arith)

pub size-For : (h : Head) (s : Bor Stmt) → length (spell_statement (plain_statement (stmt.For h s))) ≡ 1 + length (spell_loop (plain_loop h)) + length (spell_statement (plain_statement s.now))
unfolding plain_statement
size-For h s = simp (statement_spellings, length-append) (omega arith)

pub ruleset statement_sizes = (stmt_lemmas, size-Null, size-Block, size-If, size-IfElse, size-Case, size-Assign, size-For)

abbrev pub body_len : List Stmt → ℕ
body_len ss = length (spell_statements (plain_statements ss))

abbrev pub stmt_len : Stmt → ℕ
stmt_len s = length (spell_statement (plain_statement s))

pub body_sum : IsSum body_len stmt_len
unfolding plain_statements
body_sum = record {
  none = simp statement_spellings refl;
  more = λ x xs. simp (statement_spellings, length-append) (omega arith);
}

abbrev pub cases_len : List Branch → ℕ
cases_len arms = length (spell_arms (plain_arms arms))

abbrev pub case_len : Branch → ℕ
case_len a = length (spell_labels (plain_list a.labels.now) a.colon) + length (spell_statement (plain_statement a.body.now))

pub cases_sum : IsSum cases_len case_len
unfolding plain_arms plain_arm
cases_sum = record {
  none = simp statement_spellings refl;
  more = λ x xs. simp (statement_spellings, length-append) (omega arith);
}
