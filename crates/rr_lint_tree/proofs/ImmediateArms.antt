-- Statements by `=` alone, at each form of a statement in the arena.
use Rattle.std.proofs.Common.{◌≡◌, Bool, true, List, Option, None, Some, refl, ap}
use denote.Ref.{Bor}
use Rattle.rr_syntax.specs.declared.token.Keyword.{Keyword}
use Rattle.rr_syntax.specs.declared.tree.Arm.{Arm as Branch}
use Rattle.rr_syntax.specs.declared.tree.Expr.{Expr}
use Rattle.rr_syntax.specs.declared.tree.Head.{Head}
use Rattle.rr_syntax.specs.declared.tree.Named.{Named}
use Rattle.rr_syntax.specs.declared.tree.Stmt.{Stmt, the_lemmas}
use Rattle.rr_syntax.specs.declared.tree.Stmt.TheVariants as stmt
use Rattle.rr_syntax.specs.Tree.{Block, If, IfElse, Case, For}
use Rattle.rr_syntax.specs.View.{plain, plain_label, plain_loop, plain_statement, plain_statements, plain_arms}
use Rattle.rr_syntax.proofs.Rows.{plain_block, plain_case}
use Rattle.rr_latch.specs.Immediate.{immediate, immediate_all, immediate_arms}

pub immediate-Null : immediate (plain_statement stmt.Null) ≡ plain_statement stmt.Null
unfolding plain_statement immediate
immediate-Null = refl

pub immediate-Block : (label : Option Named) (body : Bor (List Stmt)) → immediate (plain_statement (stmt.Block label body)) ≡ Block (plain_label label) (immediate_all (plain_statements body.now))
unfolding immediate
immediate-Block label body = ap immediate (plain_block label body)

pub immediate-If : (c : Bor Expr) (t : Bor Stmt) → immediate (plain_statement (stmt.If c t None)) ≡ If (plain c.now) (immediate (plain_statement t.now))
unfolding plain_statement immediate
immediate-If c t = refl

pub immediate-IfElse : (c : Bor Expr) (t u : Bor Stmt) → immediate (plain_statement (stmt.If c t (Some u))) ≡ IfElse (plain c.now) (immediate (plain_statement t.now)) (immediate (plain_statement u.now))
unfolding plain_statement immediate
immediate-IfElse c t u = refl

pub immediate-Case : (kind : Keyword) (on : Bor Expr) (arms : Bor (List Branch)) → immediate (plain_statement (stmt.Case kind on arms)) ≡ Case kind.0 (plain on.now) (immediate_arms (plain_arms arms.now))
unfolding immediate
immediate-Case kind on arms = ap immediate (plain_case kind on arms)

pub immediate-Assign : (t : Bor Expr) (now : Bool) (e : Bor Expr) → plain_statement (stmt.Assign t true e) ≡ immediate (plain_statement (stmt.Assign t now e))
unfolding plain_statement immediate
immediate-Assign t now e = refl

pub immediate-For : (head : Head) (t : Bor Stmt) → immediate (plain_statement (stmt.For head t)) ≡ For (plain_loop head) (immediate (plain_statement t.now))
unfolding plain_statement immediate
immediate-For head t = refl

pub ruleset arms = (the_lemmas, immediate-Null, immediate-Block, immediate-If, immediate-IfElse, immediate-Case, immediate-Assign, immediate-For)
