-- The names of loops in statements at nodes of the arena, one equation for each form.
use Rattle.std.proofs.Common.{◌≡◌, ◌∙◌, sym, ap, Bool, List, [], ◌∷◌, ◌++◌, fold, Option, None, Some, refl}
use Rattle.std.specs.Prelude.{flat_map}
use Rattle.std.proofs.lemmas.List.Sums.{fold-append}
use Rattle.rr_syntax.specs.declared.token.Keyword.{Keyword}
use Rattle.rr_syntax.specs.declared.tree.Arm.{Arm as Branch}
use Rattle.rr_syntax.specs.declared.tree.Expr.{Expr}
use Rattle.rr_syntax.specs.declared.tree.Head.{Head}
use Rattle.rr_syntax.specs.declared.tree.Named.{Named as Name}
use Rattle.rr_syntax.specs.declared.tree.Stmt.{Stmt, the_lemmas}
use Rattle.rr_syntax.specs.declared.tree.Stmt.TheVariants as stmt
use Rattle.rr_syntax.specs.View.{plain, plain_list, plain_loop, plain_statement, plain_statements, plain_arm, plain_arms}
use Rattle.rr_syntax.proofs.Rows.{plain_block, plain_case}
use Rattle.rr_flat.specs.declared.fault.FlatFault.{FlatFault}
use Rattle.rr_flat.specs.Faults.{sooner}
use Rattle.rr_loop_rules.specs.Rules.{LoopNames, strays, part_strays, target_strays, head_faults, inner_faults, loop_faults, loops_faults, arms_loop_faults}
use denote.Ref.{Bor}

module _ (found : Option FlatFault) (names around : LoopNames) where
  pub noted-Null : fold sooner found (loop_faults names around (plain_statement stmt.Null)) ≡ found
  unfolding plain_statement loop_faults
  noted-Null = refl

  pub noted-Block : (label : Option Name) (body : Bor (List Stmt)) → fold sooner found (loop_faults names around (plain_statement (stmt.Block label body))) ≡ fold sooner found (loops_faults names around (plain_statements body.now))
  unfolding loop_faults
  noted-Block label body = ap (λ p. fold sooner found (loop_faults names around p)) (plain_block label body)

  pub noted-If : (t : Bor Expr) (y : Bor Stmt) → fold sooner found (loop_faults names around (plain_statement (stmt.If t y None))) ≡ fold sooner (fold sooner found (strays names around (plain t.now))) (loop_faults names around (plain_statement y.now))
  unfolding plain_statement loop_faults
  noted-If t y = fold-append sooner found (strays names around (plain t.now)) (loop_faults names around (plain_statement y.now))

  pub noted-IfElse : (t : Bor Expr) (y n : Bor Stmt) → fold sooner found (loop_faults names around (plain_statement (stmt.If t y (Some n))))
      ≡ fold sooner (fold sooner (fold sooner found (strays names around (plain t.now))) (loop_faults names around (plain_statement y.now))) (loop_faults names around (plain_statement n.now))
  unfolding plain_statement loop_faults
  noted-IfElse t y n =
      fold-append sooner found (strays names around (plain t.now)) (loop_faults names around (plain_statement y.now) ++ loop_faults names around (plain_statement n.now))
      ∙ fold-append sooner (fold sooner found (strays names around (plain t.now))) (loop_faults names around (plain_statement y.now)) (loop_faults names around (plain_statement n.now))

  pub noted-Case : (kind : Keyword) (t : Bor Expr) (arms : Bor (List Branch)) → fold sooner found (loop_faults names around (plain_statement (stmt.Case kind t arms)))
      ≡ fold sooner (fold sooner found (strays names around (plain t.now))) (arms_loop_faults names around (plain_arms arms.now))
  unfolding loop_faults
  noted-Case kind t arms = ap (λ p. fold sooner found (loop_faults names around p)) (plain_case kind t arms) ∙ fold-append sooner found (strays names around (plain t.now)) (arms_loop_faults names around (plain_arms arms.now))

  pub noted-Assign : (t : Bor Expr) (now : Bool) (v : Bor Expr) → fold sooner found (loop_faults names around (plain_statement (stmt.Assign t now v)))
      ≡ fold sooner (fold sooner found (target_strays names around (plain t.now))) (strays names around (plain v.now))
  unfolding plain_statement loop_faults
  noted-Assign t now v = fold-append sooner found (target_strays names around (plain t.now)) (strays names around (plain v.now))

  pub noted-For : (h : Head) (b : Bor Stmt) → fold sooner found (loop_faults names around (plain_statement (stmt.For h b)))
      ≡ fold sooner (fold sooner (fold sooner found (head_faults names around (plain_loop h))) (inner_faults names (h.name.now ∷ around) (plain_loop h))) (loop_faults names (h.name.now ∷ around) (plain_statement b.now))
  unfolding plain_statement plain_loop loop_faults
  noted-For h b =
      fold-append sooner found (head_faults names around (plain_loop h)) (inner_faults names (h.name.now ∷ around) (plain_loop h) ++ loop_faults names (h.name.now ∷ around) (plain_statement b.now))
      ∙ fold-append sooner (fold sooner found (head_faults names around (plain_loop h))) (inner_faults names (h.name.now ∷ around) (plain_loop h)) (loop_faults names (h.name.now ∷ around) (plain_statement b.now))

pub ruleset statement_nodes = (the_lemmas, noted-Null, noted-Block, noted-If, noted-IfElse, noted-Case, noted-Assign, noted-For)

pub statement_list : (names around : LoopNames) (xs : List Stmt) → loops_faults names around (plain_statements xs) ≡ flat_map (λ x. loop_faults names around (plain_statement x)) xs
unfolding loop_faults plain_statements
statement_list names around [] = refl
statement_list names around (x ∷ xs) = ap (λ r. loop_faults names around (plain_statement x) ++ r) (statement_list names around xs)

-- what an arm gives
abbrev pub of_arm : LoopNames → LoopNames → Branch → List FlatFault
of_arm names around a = part_strays names around (plain_list a.labels.now) ++ loop_faults names around (plain_statement a.body.now)

pub arm_list : (names around : LoopNames) (xs : List Branch) → arms_loop_faults names around (plain_arms xs) ≡ flat_map (of_arm names around) xs
unfolding loop_faults plain_arms plain_arm
arm_list names around [] = refl
arm_list names around (x ∷ xs) = ap (λ r. of_arm names around x ++ r) (arm_list names around xs)

pub arm_noted : (found : Option FlatFault) (names around : LoopNames) (a : Branch) → fold sooner found (of_arm names around a) ≡ fold sooner (fold sooner found (part_strays names around (plain_list a.labels.now))) (loop_faults names around (plain_statement a.body.now))
arm_noted found names around a = fold-append sooner found (part_strays names around (plain_list a.labels.now)) (loop_faults names around (plain_statement a.body.now))
