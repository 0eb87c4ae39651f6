-- The names of loops in expressions and targets at nodes of the arena, one equation for each form.
use Rattle.std.proofs.Common.{◌≡◌, ◌∙◌, sym, ap, ℕ, Bool, List, [], ◌∷◌, ◌++◌, fold, Option, None, Some, refl}
use Rattle.std.specs.Prelude.{flat_map}
use Rattle.std.proofs.lemmas.List.Sums.{fold-append}
use Rattle.rr_syntax.specs.declared.token.Mark.{Mark}
use Rattle.rr_syntax.specs.declared.token.Number.{Number}
use Rattle.rr_syntax.specs.declared.tree.Expr.{Expr, the_lemmas}
use Rattle.rr_syntax.specs.declared.tree.Expr.TheVariants as expr
use Rattle.rr_syntax.specs.View.{plain, plain_list}
use Rattle.rr_syntax.proofs.Rows.{plain_concat, plain_repeat}
use Rattle.rr_flat.specs.declared.fault.FlatFault.{FlatFault}
use Rattle.rr_flat.specs.Faults.{sooner}
use Rattle.rr_loop_rules.specs.Rules.{LoopNames, stray, misused, strays, part_strays, target_strays, targets_strays}
use denote.Ref.{Bor}

module _ (found : Option FlatFault) (names around : LoopNames) where
  pub noted-Name : (token : ℕ) (x : Bor (List ℕ)) → fold sooner found (strays names around (plain (expr.Name token x))) ≡ fold sooner found (stray names around token x.now)
  unfolding plain strays
  noted-Name token x = refl

  pub noted-Literal : (token : ℕ) (n : Number) → fold sooner found (strays names around (plain (expr.Literal token n))) ≡ found
  unfolding plain strays
  noted-Literal token n = refl

  pub noted-Bit : (token : ℕ) (x : Bor (List ℕ)) (i : Bor Expr) → fold sooner found (strays names around (plain (expr.Bit token x i))) ≡ fold sooner (fold sooner found (misused names token x.now)) (strays names around (plain i.now))
  unfolding plain strays
  noted-Bit token x i = fold-append sooner found (misused names token x.now) (strays names around (plain i.now))

  pub noted-Part : (token : ℕ) (x : Bor (List ℕ)) (l r : Bor Expr) → fold sooner found (strays names around (plain (expr.Part token x l r))) ≡ fold sooner (fold sooner (fold sooner found (misused names token x.now)) (strays names around (plain l.now))) (strays names around (plain r.now))
  unfolding plain strays
  noted-Part token x l r = fold-append sooner found (misused names token x.now) (strays names around (plain l.now) ++ strays names around (plain r.now)) ∙ fold-append sooner (fold sooner found (misused names token x.now)) (strays names around (plain l.now)) (strays names around (plain r.now))

  pub noted-Indexed : (token : ℕ) (x : Bor (List ℕ)) (f n : Bor Expr) (up : Bool) → fold sooner found (strays names around (plain (expr.Indexed token x f n up))) ≡ fold sooner (fold sooner (fold sooner found (misused names token x.now)) (strays names around (plain f.now))) (strays names around (plain n.now))
  unfolding plain strays
  noted-Indexed token x f n up = fold-append sooner found (misused names token x.now) (strays names around (plain f.now) ++ strays names around (plain n.now)) ∙ fold-append sooner (fold sooner found (misused names token x.now)) (strays names around (plain f.now)) (strays names around (plain n.now))

  pub noted-Unary : (op : Mark) (e : Bor Expr) → fold sooner found (strays names around (plain (expr.Unary op e))) ≡ fold sooner found (strays names around (plain e.now))
  unfolding plain strays
  noted-Unary op e = refl

  pub noted-Binary : (op : Mark) (l r : Bor Expr) → fold sooner found (strays names around (plain (expr.Binary op l r))) ≡ fold sooner (fold sooner found (strays names around (plain l.now))) (strays names around (plain r.now))
  unfolding plain strays
  noted-Binary op l r = fold-append sooner found (strays names around (plain l.now)) (strays names around (plain r.now))

  pub noted-Cond : (a b c : Bor Expr) → fold sooner found (strays names around (plain (expr.Cond a b c))) ≡ fold sooner (fold sooner (fold sooner found (strays names around (plain a.now))) (strays names around (plain b.now))) (strays names around (plain c.now))
  unfolding plain strays
  noted-Cond a b c = fold-append sooner found (strays names around (plain a.now)) (strays names around (plain b.now) ++ strays names around (plain c.now)) ∙ fold-append sooner (fold sooner found (strays names around (plain a.now))) (strays names around (plain b.now)) (strays names around (plain c.now))

  pub noted-Concat : (parts : Bor (List Expr)) → fold sooner found (strays names around (plain (expr.Concat parts))) ≡ fold sooner found (part_strays names around (plain_list parts.now))
  unfolding strays
  noted-Concat parts = ap (λ t. fold sooner found (strays names around t)) (plain_concat parts)

  pub noted-Repeat : (n : Bor Expr) (parts : Bor (List Expr)) → fold sooner found (strays names around (plain (expr.Repeat n parts))) ≡ fold sooner (fold sooner found (strays names around (plain n.now))) (part_strays names around (plain_list parts.now))
  unfolding strays
  noted-Repeat n parts = ap (λ t. fold sooner found (strays names around t)) (plain_repeat n parts) ∙ fold-append sooner found (strays names around (plain n.now)) (part_strays names around (plain_list parts.now))

  pub noted-Cast : (signed : Bool) (e : Bor Expr) → fold sooner found (strays names around (plain (expr.Cast signed e))) ≡ fold sooner found (strays names around (plain e.now))
  unfolding plain strays
  noted-Cast signed e = refl

  pub noted-Paren : (e : Bor Expr) → fold sooner found (strays names around (plain (expr.Paren e))) ≡ fold sooner found (strays names around (plain e.now))
  unfolding plain strays
  noted-Paren e = refl

  pub aimed-Name : (token : ℕ) (x : Bor (List ℕ)) → fold sooner found (target_strays names around (plain (expr.Name token x))) ≡ fold sooner found (misused names token x.now)
  unfolding plain strays target_strays
  aimed-Name token x = refl

  pub aimed-Literal : (token : ℕ) (n : Number) → fold sooner found (target_strays names around (plain (expr.Literal token n))) ≡ fold sooner found (strays names around (plain (expr.Literal token n)))
  unfolding plain strays target_strays
  aimed-Literal token n = refl

  pub aimed-Bit : (token : ℕ) (x : Bor (List ℕ)) (i : Bor Expr) → fold sooner found (target_strays names around (plain (expr.Bit token x i))) ≡ fold sooner found (strays names around (plain (expr.Bit token x i)))
  unfolding plain strays target_strays
  aimed-Bit token x i = refl

  pub aimed-Part : (token : ℕ) (x : Bor (List ℕ)) (l r : Bor Expr) → fold sooner found (target_strays names around (plain (expr.Part token x l r))) ≡ fold sooner found (strays names around (plain (expr.Part token x l r)))
  unfolding plain strays target_strays
  aimed-Part token x l r = refl

  pub aimed-Indexed : (token : ℕ) (x : Bor (List ℕ)) (f n : Bor Expr) (up : Bool) → fold sooner found (target_strays names around (plain (expr.Indexed token x f n up))) ≡ fold sooner found (strays names around (plain (expr.Indexed token x f n up)))
  unfolding plain strays target_strays
  aimed-Indexed token x f n up = refl

  pub aimed-Unary : (op : Mark) (e : Bor Expr) → fold sooner found (target_strays names around (plain (expr.Unary op e))) ≡ fold sooner found (strays names around (plain (expr.Unary op e)))
  unfolding plain strays target_strays
  aimed-Unary op e = refl

  pub aimed-Binary : (op : Mark) (l r : Bor Expr) → fold sooner found (target_strays names around (plain (expr.Binary op l r))) ≡ fold sooner found (strays names around (plain (expr.Binary op l r)))
  unfolding plain strays target_strays
  aimed-Binary op l r = refl

  pub aimed-Cond : (a b c : Bor Expr) → fold sooner found (target_strays names around (plain (expr.Cond a b c))) ≡ fold sooner found (strays names around (plain (expr.Cond a b c)))
  unfolding plain strays target_strays
  aimed-Cond a b c = refl

  pub aimed-Concat : (parts : Bor (List Expr)) → fold sooner found (target_strays names around (plain (expr.Concat parts))) ≡ fold sooner found (targets_strays names around (plain_list parts.now))
  unfolding target_strays
  aimed-Concat parts = ap (λ t. fold sooner found (target_strays names around t)) (plain_concat parts)

  pub aimed-Repeat : (n : Bor Expr) (parts : Bor (List Expr)) → fold sooner found (target_strays names around (plain (expr.Repeat n parts))) ≡ fold sooner found (strays names around (plain (expr.Repeat n parts)))
  unfolding plain strays target_strays
  aimed-Repeat n parts = refl

  pub aimed-Cast : (signed : Bool) (e : Bor Expr) → fold sooner found (target_strays names around (plain (expr.Cast signed e))) ≡ fold sooner found (strays names around (plain (expr.Cast signed e)))
  unfolding plain strays target_strays
  aimed-Cast signed e = refl

  pub aimed-Paren : (e : Bor Expr) → fold sooner found (target_strays names around (plain (expr.Paren e))) ≡ fold sooner found (strays names around (plain (expr.Paren e)))
  unfolding plain strays target_strays
  aimed-Paren e = refl

pub ruleset stray_nodes = (the_lemmas, noted-Name, noted-Literal, noted-Bit, noted-Part, noted-Indexed, noted-Unary, noted-Binary, noted-Cond, noted-Concat, noted-Repeat, noted-Cast, noted-Paren)

pub ruleset target_nodes = (the_lemmas, aimed-Name, aimed-Literal, aimed-Bit, aimed-Part, aimed-Indexed, aimed-Unary, aimed-Binary, aimed-Cond, aimed-Concat, aimed-Repeat, aimed-Cast, aimed-Paren)

pub part_list : (names around : LoopNames) (xs : List Expr) → part_strays names around (plain_list xs) ≡ flat_map (λ x. strays names around (plain x)) xs
unfolding strays plain_list
part_list names around [] = refl
part_list names around (x ∷ xs) = ap (λ r. strays names around (plain x) ++ r) (part_list names around xs)

pub target_list : (names around : LoopNames) (xs : List Expr) → targets_strays names around (plain_list xs) ≡ flat_map (λ x. target_strays names around (plain x)) xs
unfolding target_strays plain_list
target_list names around [] = refl
target_list names around (x ∷ xs) = ap (λ r. target_strays names around (plain x) ++ r) (target_list names around xs)
