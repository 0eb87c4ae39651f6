-- Scopes in which every name stands for the same give expressions the same faults.
use Rattle.std.proofs.Common.{◌≡◌, ◌∙◌, sym, ℕ, Bool, true, false, cond, List, [], ◌∷◌, ◌++◌, Option, Some, None, refl, is_some}
use Rattle.std.specs.List.{AllByRecursion}
use Rattle.std.specs.Str.{bytes_eq}
use Rattle.rr_syntax.specs.Tree.{Tree, Trees, End, More, Statement, Statements, Arm, Arms, Null, Block, If, IfElse, Case, Assign, For, Done, Then, CaseItem, NoArms, MoreArms, NamedConnection, Connections, Positions}
use Rattle.rr_syntax.specs.Tree.{Names as Named}
use Rattle.rr_expr.specs.Scopes.{Names, lookup, meant, or_instance}
use Rattle.rr_expr.specs.Faults.{fault}
use Rattle.rr_expr.specs.Values.{form}
use Rattle.rr_expr.specs.declared.types.Entity.TheVariants as entity
use Rattle.rr_expr.specs.declared.types.ExprFault.{ExprFault}
use Rattle.rr_expr.specs.declared.types.Shape.{Shape}
use Rattle.rr_expr.proofs.NamesAlone.{fault_by_names}
use Rattle.rr_flat.specs.Faults.{answer_of, faults_in}
use Rattle.rr_flat.specs.Signals.{with_name}
use Rattle.rr_flat.specs.Sound.{IsExpression, IsStatement, AreExpressions, IsValue, IsConnection, AreConnected}
use Rattle.rr_flat.specs.Shapes.{shape, shape_faults, list_faults, statement_faults, statements_faults, arms_faults, arm_faults}

abbrev pub Alike : Names → Names → Type 0
Alike a b = (n : List ℕ) → meant a n ≡ meant b n

-- a name of an instance changes nothing that an expression may use

last_instance : (b : Bool) → or_instance (cond b (Some entity.Instance) None) ≡ entity.Instance
last_instance true = refl
last_instance false = refl

named_last : (names : Names) (m n : List ℕ) → or_instance (lookup n (names ++ (m, entity.Instance) ∷ [])) ≡ or_instance (lookup n names)
unfolding lookup
named_last [] m n = last_instance (bytes_eq n m)
named_last (e ∷ es) m n = go (bytes_eq n e.0) (named_last es m n)
  where
    go : (b : Bool) → or_instance (lookup n (es ++ (m, entity.Instance) ∷ [])) ≡ or_instance (lookup n es) → or_instance (cond b (Some e.1) (lookup n (es ++ (m, entity.Instance) ∷ []))) ≡ or_instance (cond b (Some e.1) (lookup n es))
    go true h = refl
    go false h = h

pub alike_named : (names : Names) (m : List ℕ) → Alike (with_name names m entity.Instance) names
unfolding meant
alike_named names m n = go (is_some (lookup m names))
  where
    go : (b : Bool) → or_instance (lookup n (cond b names (names ++ (m, entity.Instance) ∷ []))) ≡ or_instance (lookup n names)
    go true = refl
    go false = named_last names m n

-- the faults of expressions

fault_alike : (a b : Names) (t : Tree) → Alike a b → fault a t false ≡ fault b t false
fault_alike a b t h = fault_by_names a b t (λ n o. h n) false

pub expression_alike : (a b : Names) (t : Tree) → Alike a b → IsExpression a t → IsExpression b t
expression_alike a b t h e = record { formed = e.formed; fit = e.fit; shaped = sym (fault_alike a b t h) ∙ e.shaped }

answers_alike : (f g : Option ExprFault) (r s : Shape) → f ≡ g → faults_in (answer_of f r) ≡ faults_in (answer_of g s)
answers_alike None g r s e = rw (← e) refl
answers_alike (Some f) g r s e = rw (← e) refl

shape_alike : (a b : Names) (t : Tree) → Alike a b → shape_faults a t ≡ shape_faults b t
unfolding shape
shape_alike a b t h = answers_alike (fault a t false) (fault b t false) (form a t) (form b t) (fault_alike a b t h)

list_alike : (a b : Names) (ts : Trees) → Alike a b → list_faults a ts ≡ list_faults b ts
unfolding list_faults
list_alike a b End h = refl
list_alike a b (More t ts) h = λ k. shape_alike a b t h k ++ list_alike a b ts h k

mutual
  unfolding statement_faults

  one_alike : (a b : Names) (s : Statement) → Alike a b → statement_faults a s ≡ statement_faults b s
  one_alike a b Null h = refl
  one_alike a b (Block label ss) h = all_alike a b ss h
  one_alike a b (If t s) h = λ k. shape_alike a b t h k ++ one_alike a b s h k
  one_alike a b (IfElse t s u) h = λ k. shape_alike a b t h k ++ (one_alike a b s h k ++ one_alike a b u h k)
  one_alike a b (Case kind t arms) h = λ k. shape_alike a b t h k ++ arms_alike a b arms h k
  one_alike a b (Assign t now v) h = λ k. shape_alike a b t h k ++ shape_alike a b v h k
  one_alike a b (For head s) h = refl

  all_alike : (a b : Names) (ss : Statements) → Alike a b → statements_faults a ss ≡ statements_faults b ss
  all_alike a b Done h = refl
  all_alike a b (Then s ss) h = λ k. one_alike a b s h k ++ all_alike a b ss h k

  arms_alike : (a b : Names) (arms : Arms) → Alike a b → arms_faults a arms ≡ arms_faults b arms
  arms_alike a b NoArms h = refl
  arms_alike a b (MoreArms x rest) h = λ k. arm_alike a b x h k ++ arms_alike a b rest h k

  arm_alike : (a b : Names) (x : Arm) → Alike a b → arm_faults a x ≡ arm_faults b x
  arm_alike a b (CaseItem labels colon s) h = λ k. list_alike a b labels h k ++ one_alike a b s h k

pub statement_alike : (a b : Names) (s : Statement) → Alike a b → IsStatement a s → IsStatement b s
statement_alike a b s h e = record { formed = e.formed; fit = e.fit; shaped = sym (one_alike a b s h) ∙ e.shaped; loops = e.loops }

-- and what is connected

expressions_alike : (a b : Names) (ts : Trees) → Alike a b → AreExpressions a ts → AreExpressions b ts
unfolding AreExpressions
expressions_alike a b End h e = tt
expressions_alike a b (More t ts) h e = (expression_alike a b t h e.0, expressions_alike a b ts h e.1)

value_alike : (a b : Names) (v : Option Tree) → Alike a b → IsValue a v → IsValue b v
value_alike a b None h e = tt
value_alike a b (Some t) h e = expression_alike a b t h e

named_alike : (a b : Names) (cs : List NamedConnection) → Alike a b → AllByRecursion (IsConnection a) cs → AllByRecursion (IsConnection b) cs
named_alike a b [] h e = tt
named_alike a b (c ∷ cs) h e = (value_alike a b c.value h e.0, named_alike a b cs h e.1)

pub connected_alike : (a b : Names) (c : Connections) → Alike a b → AreConnected a c → AreConnected b c
unfolding AreConnected
connected_alike a b (Positions ts) h e = expressions_alike a b ts h e
connected_alike a b (Named cs) h e = named_alike a b cs h e
