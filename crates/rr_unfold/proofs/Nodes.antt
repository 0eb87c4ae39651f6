-- Counts and statements without loops at each form of a statement in the arena.
use Rattle.std.proofs.Common.{◌≡◌, ℕ, Bool, List, Option, None, Some, Ok, refl, ap}
use denote.Ref.{Bor}
use Rattle.rr_syntax.specs.declared.token.Keyword.{Keyword}
use Rattle.rr_syntax.specs.declared.tree.Arm.{Arm as Branch}
use Rattle.rr_syntax.specs.declared.tree.Expr.{Expr}
use Rattle.rr_syntax.specs.declared.tree.Head.{Head}
use Rattle.rr_syntax.specs.declared.tree.Named.{Named}
use Rattle.rr_syntax.specs.declared.tree.Stmt.{Stmt, the_lemmas}
use Rattle.rr_syntax.specs.declared.tree.Stmt.TheVariants as stmt
use Rattle.rr_syntax.specs.Tree.{Block, If, IfElse, Case, Assign}
use Rattle.rr_syntax.specs.View.{plain, plain_label, plain_loop, plain_statement, plain_statements, plain_arms}
use Rattle.rr_syntax.proofs.Rows.{plain_block, plain_case}
use Rattle.rr_expr.specs.Scopes.{Names}
use Rattle.rr_flat.specs.Faults.{and_then}
use Rattle.rr_loop_names.specs.Turns.{Turn, put_tree, put_target}
use Rattle.rr_loop_rules.specs.Rules.{LoopNames}
use Rattle.rr_unfold.specs.Unfold.{Count, inside, values_of, loop_label, counted, counted_all, counted_arms, each_turn, unfold_statement, unfold_statements, unfold_arms}
use Rattle.rr_unfold.specs.View.{loop_counted}

module _ (limit : Option ℕ) (L : LoopNames) (s : Names) (turn : Turn) where
  pub counted-Null : (c : Count) → counted limit L s turn (plain_statement stmt.Null) c ≡ Ok c
  unfolding plain_statement counted
  counted-Null c = refl

  pub counted-Block : (label : Option Named) (body : Bor (List Stmt)) (c : Count) → counted limit L s turn (plain_statement (stmt.Block label body)) c ≡ counted_all limit L s turn (plain_statements body.now) c
  unfolding counted
  counted-Block label body c = ap (λ t. counted limit L s turn t c) (plain_block label body)

  pub counted-If : (test : Bor Expr) (t : Bor Stmt) (c : Count) → counted limit L s turn (plain_statement (stmt.If test t None)) c ≡ counted limit L s turn (plain_statement t.now) c
  unfolding plain_statement counted
  counted-If test t c = refl

  pub counted-IfElse : (test : Bor Expr) (t u : Bor Stmt) (c : Count) → counted limit L s turn (plain_statement (stmt.If test t (Some u))) c ≡ and_then (counted limit L s turn (plain_statement t.now) c) (counted limit L s turn (plain_statement u.now))
  unfolding plain_statement counted
  counted-IfElse test t u c = refl

  pub counted-Case : (kind : Keyword) (on : Bor Expr) (arms : Bor (List Branch)) (c : Count) → counted limit L s turn (plain_statement (stmt.Case kind on arms)) c ≡ counted_arms limit L s turn (plain_arms arms.now) c
  unfolding counted
  counted-Case kind on arms c = ap (λ t. counted limit L s turn t c) (plain_case kind on arms)

  pub counted-Assign : (t : Bor Expr) (now : Bool) (e : Bor Expr) (c : Count) → counted limit L s turn (plain_statement (stmt.Assign t now e)) c ≡ Ok c
  unfolding plain_statement counted
  counted-Assign t now e c = refl

  pub counted-For : (h : Head) (b : Bor Stmt) (c : Count) → counted limit L s turn (plain_statement (stmt.For h b)) c ≡ loop_counted limit L s turn (plain_loop h) (plain_statement b.now) c
  unfolding plain_statement counted
  counted-For h b c = refl

module _ (s : Names) (turn : Turn) where
  pub made-Null : unfold_statement s turn (plain_statement stmt.Null) ≡ plain_statement stmt.Null
  unfolding plain_statement unfold_statement
  made-Null = refl

  pub made-Block : (label : Option Named) (body : Bor (List Stmt)) → unfold_statement s turn (plain_statement (stmt.Block label body)) ≡ Block (plain_label label) (unfold_statements s turn (plain_statements body.now))
  unfolding unfold_statement
  made-Block label body = ap (unfold_statement s turn) (plain_block label body)

  pub made-If : (test : Bor Expr) (t : Bor Stmt) → unfold_statement s turn (plain_statement (stmt.If test t None)) ≡ If (put_tree turn (plain test.now)) (unfold_statement s turn (plain_statement t.now))
  unfolding plain_statement unfold_statement
  made-If test t = refl

  pub made-IfElse : (test : Bor Expr) (t u : Bor Stmt) → unfold_statement s turn (plain_statement (stmt.If test t (Some u))) ≡ IfElse (put_tree turn (plain test.now)) (unfold_statement s turn (plain_statement t.now)) (unfold_statement s turn (plain_statement u.now))
  unfolding plain_statement unfold_statement
  made-IfElse test t u = refl

  pub made-Case : (kind : Keyword) (on : Bor Expr) (arms : Bor (List Branch)) → unfold_statement s turn (plain_statement (stmt.Case kind on arms)) ≡ Case kind.0 (put_tree turn (plain on.now)) (unfold_arms s turn (plain_arms arms.now))
  unfolding unfold_statement
  made-Case kind on arms = ap (unfold_statement s turn) (plain_case kind on arms)

  pub made-Assign : (t : Bor Expr) (now : Bool) (e : Bor Expr) → unfold_statement s turn (plain_statement (stmt.Assign t now e)) ≡ Assign (put_target turn (plain t.now)) now (put_tree turn (plain e.now))
  unfolding plain_statement unfold_statement
  made-Assign t now e = refl

  pub made-For : (h : Head) (b : Bor Stmt) → unfold_statement s turn (plain_statement (stmt.For h b)) ≡ Block (loop_label (plain_loop h)) (each_turn (λ v. unfold_statement s (inside (plain_loop h) turn v) (plain_statement b.now)) (values_of s turn (plain_loop h)))
  unfolding plain_statement unfold_statement
  made-For h b = refl

pub ruleset nodes =
    (the_lemmas, counted-Null, counted-Block, counted-If, counted-IfElse, counted-Case, counted-Assign, counted-For, made-Null, made-Block, made-If, made-IfElse, made-Case, made-Assign, made-For)
