-- The names of the loops of statements at nodes of the arena, one equation for each form.
use Rattle.std.proofs.Common.{◌≡◌, ◌∙◌, ap, Bool, List, [], ◌∷◌, ◌++◌, fold, Option, None, Some, refl}
use Rattle.std.specs.Prelude.{flat_map}
use Rattle.std.proofs.lemmas.List.Sums.{fold-append}
use Rattle.rr_syntax.specs.declared.token.Keyword.{Keyword}
use Rattle.rr_syntax.specs.declared.tree.Arm.{Arm as Branch}
use Rattle.rr_syntax.specs.declared.tree.Expr.{Expr}
use Rattle.rr_syntax.specs.declared.tree.Head.{Head}
use Rattle.rr_syntax.specs.declared.tree.Named.{Named as Name}
use Rattle.rr_syntax.specs.declared.tree.Stmt.{Stmt, the_lemmas}
use Rattle.rr_syntax.specs.declared.tree.Stmt.TheVariants as stmt
use Rattle.rr_syntax.specs.View.{plain_loop, plain_statement, plain_statements, plain_arm, plain_arms}
use Rattle.rr_syntax.proofs.Rows.{plain_block, plain_case}
use Rattle.rr_loop_rules.specs.Rules.{LoopNames, with_new, loops_in, loops_in_all, loops_in_arms}
use denote.Ref.{Bor}

module _ (known : LoopNames) where
  pub loops-Null : fold with_new known (loops_in (plain_statement stmt.Null)) ≡ known
  unfolding plain_statement loops_in
  loops-Null = refl

  pub loops-Block : (label : Option Name) (body : Bor (List Stmt)) → fold with_new known (loops_in (plain_statement (stmt.Block label body))) ≡ fold with_new known (loops_in_all (plain_statements body.now))
  unfolding loops_in
  loops-Block label body = ap (λ p. fold with_new known (loops_in p)) (plain_block label body)

  pub loops-If : (t : Bor Expr) (y : Bor Stmt) → fold with_new known (loops_in (plain_statement (stmt.If t y None))) ≡ fold with_new known (loops_in (plain_statement y.now))
  unfolding plain_statement loops_in
  loops-If t y = refl

  pub loops-IfElse : (t : Bor Expr) (y n : Bor Stmt) → fold with_new known (loops_in (plain_statement (stmt.If t y (Some n)))) ≡ fold with_new (fold with_new known (loops_in (plain_statement y.now))) (loops_in (plain_statement n.now))
  unfolding plain_statement loops_in
  loops-IfElse t y n = fold-append with_new known (loops_in (plain_statement y.now)) (loops_in (plain_statement n.now))

  pub loops-Case : (kind : Keyword) (t : Bor Expr) (arms : Bor (List Branch)) → fold with_new known (loops_in (plain_statement (stmt.Case kind t arms))) ≡ fold with_new known (loops_in_arms (plain_arms arms.now))
  unfolding loops_in
  loops-Case kind t arms = ap (λ p. fold with_new known (loops_in p)) (plain_case kind t arms)

  pub loops-Assign : (t : Bor Expr) (now : Bool) (v : Bor Expr) → fold with_new known (loops_in (plain_statement (stmt.Assign t now v))) ≡ known
  unfolding plain_statement loops_in
  loops-Assign t now v = refl

  pub loops-For : (h : Head) (b : Bor Stmt) → fold with_new known (loops_in (plain_statement (stmt.For h b))) ≡ fold with_new (with_new known h.name.now) (loops_in (plain_statement b.now))
  unfolding plain_statement plain_loop loops_in
  loops-For h b = refl

pub ruleset statement_loops = (the_lemmas, loops-Null, loops-Block, loops-If, loops-IfElse, loops-Case, loops-Assign, loops-For)

pub statement_list : (xs : List Stmt) → loops_in_all (plain_statements xs) ≡ flat_map (λ x. loops_in (plain_statement x)) xs
unfolding loops_in plain_statements
statement_list [] = refl
statement_list (x ∷ xs) = ap (λ r. loops_in (plain_statement x) ++ r) (statement_list xs)

pub arm_list : (xs : List Branch) → loops_in_arms (plain_arms xs) ≡ flat_map (λ x. loops_in (plain_statement x.body.now)) xs
unfolding loops_in plain_arms plain_arm
arm_list [] = refl
arm_list (x ∷ xs) = ap (λ r. loops_in (plain_statement x.body.now) ++ r) (arm_list xs)
