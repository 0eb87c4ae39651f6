-- The plain trees of nodes of the arena, as the code sees these: a child behind its reference, a slice as its list.
use Rattle.std.proofs.Common.{◌≡◌, ℕ, Bool, List, Option, None, Some, refl, ap, ◌∙◌}
use Rattle.rr_syntax.specs.declared.token.Keyword.{Keyword}
use Rattle.rr_syntax.specs.declared.token.Mark.{Mark}
use Rattle.rr_syntax.specs.declared.tree.Expr.{Expr, Row_of-Expr, end_of-Expr, more_of-Expr, items-the_row-Expr, items_hidden-the_row-Expr-0}
use Rattle.rr_syntax.specs.declared.tree.Expr.TheBlock.{hidden-the_row-Expr-0}
use Rattle.rr_syntax.specs.declared.tree.Expr.TheVariants as expr
use Rattle.rr_syntax.specs.declared.tree.Head.{Head}
use Rattle.rr_syntax.specs.declared.tree.Named.{Named}
use Rattle.rr_syntax.specs.declared.tree.Stmt.{Stmt, Row_of-Stmt, end_of-Stmt, more_of-Stmt, items-the_row-Stmt, items_hidden-the_row-Stmt-0, Row_of-Arm, end_of-Arm, more_of-Arm, items-the_row-Arm, items_hidden-the_row-Arm-1}
use Rattle.rr_syntax.specs.declared.tree.Stmt.TheBlock.{hidden-the_row-Stmt-0, hidden-the_row-Arm-1}
use Rattle.rr_syntax.specs.declared.tree.Stmt.TheVariants as stmt
use Rattle.rr_syntax.specs.Tree.{Bit, Part, Indexed, Unary, Binary, Cond, Concat, Repeat, Cast, Paren, More, Block, If, IfElse, Case, For, Then, CaseItem, MoreArms}
use Rattle.rr_syntax.specs.View.{plain, plain_row, plain_list, plain_label, plain_loop, plain_statement, plain_statement_row, plain_statements, plain_arm, plain_arm_row, plain_arms}
use denote.Ref.{Bor}

pub plain_row_list : {m : _} → (k : Row_of-Expr m) → plain_row k ≡ plain_list (items-the_row-Expr m k)
unfolding plain plain_list
plain_row_list end_of-Expr = refl
plain_row_list (more_of-Expr e rest) = ap (More (plain e)) (plain_row_list rest)

plain_hidden : (parts : List Expr) → plain_row (hidden-the_row-Expr-0 parts) ≡ plain_list parts
plain_hidden parts = plain_row_list (hidden-the_row-Expr-0 parts) ∙ ap plain_list (items_hidden-the_row-Expr-0 parts)

pub plain_bit : (token : ℕ) (name : Bor (List ℕ)) (i : Bor Expr) → plain (expr.Bit token name i) ≡ Bit token name.now (plain i.now)
unfolding plain
plain_bit token name i = refl

pub plain_part : (token : ℕ) (name : Bor (List ℕ)) (l r : Bor Expr) → plain (expr.Part token name l r) ≡ Part token name.now (plain l.now) (plain r.now)
unfolding plain
plain_part token name l r = refl

pub plain_indexed : (token : ℕ) (name : Bor (List ℕ)) (f w : Bor Expr) (up : Bool) → plain (expr.Indexed token name f w up) ≡ Indexed token name.now (plain f.now) (plain w.now) up
unfolding plain
plain_indexed token name f w up = refl

pub plain_unary : (op : Mark) (e : Bor Expr) → plain (expr.Unary op e) ≡ Unary op.0 (plain e.now)
unfolding plain
plain_unary op e = refl

pub plain_binary : (op : Mark) (l r : Bor Expr) → plain (expr.Binary op l r) ≡ Binary op.0 (plain l.now) (plain r.now)
unfolding plain
plain_binary op l r = refl

pub plain_cond : (a b c : Bor Expr) → plain (expr.Cond a b c) ≡ Cond (plain a.now) (plain b.now) (plain c.now)
unfolding plain
plain_cond a b c = refl

pub plain_concat : (parts : Bor (List Expr)) → plain (expr.Concat parts) ≡ Concat (plain_list parts.now)
unfolding plain
plain_concat parts = ap Concat (plain_hidden parts.now)

pub plain_repeat : (count : Bor Expr) (parts : Bor (List Expr)) → plain (expr.Repeat count parts) ≡ Repeat (plain count.now) (plain_list parts.now)
unfolding plain
plain_repeat count parts = ap (Repeat (plain count.now)) (plain_hidden parts.now)

pub plain_cast : (signed : Bool) (e : Bor Expr) → plain (expr.Cast signed e) ≡ Cast signed (plain e.now)
unfolding plain
plain_cast signed e = refl

pub plain_paren : (e : Bor Expr) → plain (expr.Paren e) ≡ Paren (plain e.now)
unfolding plain
plain_paren e = refl

pub plain_statement_row_list : {m : _} → (k : Row_of-Stmt m) → plain_statement_row k ≡ plain_statements (items-the_row-Stmt m k)
unfolding plain_statement plain_statements
plain_statement_row_list end_of-Stmt = refl
plain_statement_row_list (more_of-Stmt s rest) = ap (Then (plain_statement s)) (plain_statement_row_list rest)

pub plain_arm_row_list : {m : _} → (k : Row_of-Arm m) → plain_arm_row k ≡ plain_arms (items-the_row-Arm m k)
unfolding plain_statement plain_arms plain_arm
plain_arm_row_list end_of-Arm = refl
plain_arm_row_list (more_of-Arm labels colon p body rest) = ap (MoreArms (CaseItem (plain_list labels.now) colon (plain_statement body))) (plain_arm_row_list rest)

pub plain_block : (label : Option Named) (body : Bor (List Stmt)) → plain_statement (stmt.Block label body) ≡ Block (plain_label label) (plain_statements body.now)
unfolding plain_statement
plain_block label body = ap (Block (plain_label label)) (plain_statement_row_list (hidden-the_row-Stmt-0 body.now) ∙ ap plain_statements (items_hidden-the_row-Stmt-0 body.now))

pub plain_if_none : (test : Bor Expr) (s : Bor Stmt) → plain_statement (stmt.If test s None) ≡ If (plain test.now) (plain_statement s.now)
unfolding plain_statement
plain_if_none test s = refl

pub plain_if_some : (test : Bor Expr) (s u : Bor Stmt) → plain_statement (stmt.If test s (Some u)) ≡ IfElse (plain test.now) (plain_statement s.now) (plain_statement u.now)
unfolding plain_statement
plain_if_some test s u = refl

pub plain_case : (kind : Keyword) (on : Bor Expr) (arms : Bor (List _)) → plain_statement (stmt.Case kind on arms) ≡ Case kind.0 (plain on.now) (plain_arms arms.now)
unfolding plain_statement
plain_case kind on arms = ap (Case kind.0 (plain on.now)) (plain_arm_row_list (hidden-the_row-Arm-1 arms.now) ∙ ap plain_arms (items_hidden-the_row-Arm-1 arms.now))

pub plain_for : (head : Head) (s : Bor Stmt) → plain_statement (stmt.For head s) ≡ For (plain_loop head) (plain_statement s.now)
unfolding plain_statement
plain_for head s = refl
