-- The turns of a loop, one at a time.
use Rattle.std.proofs.Common.{◌≡◌, ◌∙◌, sym, ap, subst, ℕ, zero, suc, ◌+◌, ◌-◌, ◌<◌, List, [], ◌∷◌, ◌++◌, Option, None, Some, Result, Ok, Err, inl, inr, refl, arith}
use Rattle.rr_syntax.specs.declared.tree.Stmt.{Stmt}
use Rattle.rr_syntax.specs.Tree.{LoopHead, Statement, Statements, Done, Then}
use Rattle.rr_syntax.specs.View.{plain_statement, plain_statements}
use Rattle.rr_expr.specs.Scopes.{Names}
use Rattle.rr_flat.specs.declared.fault.FlatFault.{FlatFault}
use Rattle.rr_flat.specs.declared.fault.FlatFault.TheVariants.{TooMany}
use Rattle.rr_flat.specs.declared.fault.Limit.TheVariants.{Turns}
use Rattle.rr_flat.specs.Faults.{and_then, Refuses}
use Rattle.rr_loop_names.specs.Turns.{Turn}
use Rattle.rr_unfold.specs.Unfold.{Count, inside, ok_or, following, one_more, turn_then, turns_from, values_then, values_from, each_turn}
use Rattle.rr_unfold.proofs.Growing.{with_last, statements_snoc}
use Rattle.rr_unfold.proofs.Openings.{refuses_then, refuses_next}

-- one list of statements behind another
pub beside : Statements → Statements → Statements
beside Done ys = ys
beside (Then x xs) ys = Then x (beside xs ys)

beside_last : (xs : Statements) (t : Statement) (ys : Statements) → beside (with_last xs t) ys ≡ beside xs (Then t ys)
unfolding beside with_last
beside_last Done t ys = refl
beside_last (Then x xs) t ys = ap (Then x) (beside_last xs t ys)

beside_none : (xs : Statements) → beside xs Done ≡ xs
unfolding beside
beside_none Done = refl
beside_none (Then x xs) = ap (Then x) (beside_none xs)

pub beside_start : (xs : List Stmt) (ys : Statements) → xs ≡ [] → beside (plain_statements xs) ys ≡ ys
unfolding beside plain_statements
beside_start xs ys e = ap (λ zs. beside (plain_statements zs) ys) e

module _ (limit : Option ℕ) (s : Names) (turn : Turn) (h : LoopHead) (n : ℕ) (body : Turn → Count → Result Count FlatFault) where
  turns_first : (left v : ℕ) (c : Count) (o : Option ℕ) → following s (inside h turn v) h ≡ Ok o
      → turns_from (suc left) limit s turn h n body v c ≡ turn_then limit n (body (inside h turn v)) (turns_from left limit s turn h n body) c o
  unfolding turns_from
  turns_first left v c o f = ap (λ r. and_then r (turn_then limit n (body (inside h turn v)) (turns_from left limit s turn h n body) c)) f

  less_one : (m : ℕ) → suc m - 1 ≡ m
  less_one m = omega arith

  pub turns_step : (left v next : ℕ) (c d : Count) (inner : Turn) → inner ≡ inside h turn v → 0 < left → following s inner h ≡ Ok (Some next) → and_then (one_more limit n c) (body inner) ≡ Ok d
      → turns_from (left - 1) limit s turn h n body next d ≡ turns_from left limit s turn h n body v c
  turns_step zero v next c d inner is l f b = absurd (omega arith)
  turns_step (suc left) v next c d inner is l f b =
      let g : following s (inside h turn v) h ≡ Ok (Some next) = subst (λ t. following s t h ≡ Ok (Some next)) is f in
      let k : and_then (one_more limit n c) (body (inside h turn v)) ≡ Ok d = subst (λ t. and_then (one_more limit n c) (body t) ≡ Ok d) is b in
      ap (λ m. turns_from m limit s turn h n body next d) (less_one left) ∙ sym (turns_first left v c (Some next) g ∙ ap (λ r. and_then r (turns_from left limit s turn h n body next)) k)

  pub turns_end : (left v : ℕ) (c : Count) (inner : Turn) → inner ≡ inside h turn v → 0 < left → following s inner h ≡ Ok None → turns_from left limit s turn h n body v c ≡ Ok c
  turns_end zero v c inner is l f = absurd (omega arith)
  turns_end (suc left) v c inner is l f = turns_first left v c None (subst (λ t. following s t h ≡ Ok None) is f)

  pub turns_refuse : (left v : ℕ) (c : Count) (inner : Turn) (fault : FlatFault) → inner ≡ inside h turn v → 0 < left → Refuses (following s inner h) fault → Refuses (turns_from left limit s turn h n body v c) fault
  unfolding turns_from
  turns_refuse zero v c inner fault is l r = absurd (omega arith)
  turns_refuse (suc left) v c inner fault is l r =
      refuses_then (following s (inside h turn v) h) (turn_then limit n (body (inside h turn v)) (turns_from left limit s turn h n body) c) fault (subst (λ t. Refuses (following s t h) fault) is r)

  pub turns_fail : (left v next : ℕ) (c : Count) (inner : Turn) (fault : FlatFault) → inner ≡ inside h turn v → 0 < left → following s inner h ≡ Ok (Some next) → Refuses (and_then (one_more limit n c) (body inner)) fault
      → Refuses (turns_from left limit s turn h n body v c) fault
  unfolding turns_from
  turns_fail zero v next c inner fault is l f r = absurd (omega arith)
  turns_fail (suc left) v next c inner fault is l f r =
      refuses_next (following s (inside h turn v) h) (turn_then limit n (body (inside h turn v)) (turns_from left limit s turn h n body) c) (Some next) fault
      (subst (λ t. following s t h ≡ Ok (Some next)) is f)
      (refuses_then (and_then (one_more limit n c) (body (inside h turn v))) (turns_from left limit s turn h n body next) fault (subst (λ t. Refuses (and_then (one_more limit n c) (body t)) fault) is r))

  pub turns_spent : (left v : ℕ) (c : Count) → left ≡ 0 → turns_from left limit s turn h n body v c ≡ Err (TooMany Turns 65537)
  unfolding turns_from
  turns_spent left v c e = ap (λ m. turns_from m limit s turn h n body v c) e

module _ (s : Names) (turn : Turn) (h : LoopHead) (made : ℕ → Statement) where
  values_first : (left v : ℕ) (o : Option ℕ) → following s (inside h turn v) h ≡ Ok o → values_from (suc left) s turn h v ≡ values_then v (values_from left s turn h) o
  unfolding values_from
  values_first left v o f = ap (λ r. values_then v (values_from left s turn h) (ok_or r None)) f

  made_first : (left v next : ℕ) → following s (inside h turn v) h ≡ Ok (Some next) → each_turn made (values_from (suc left) s turn h v) ≡ Then (made v) (each_turn made (values_from left s turn h next))
  unfolding each_turn
  made_first left v next f = ap (each_turn made) (values_first left v (Some next) f)

  made_none : (left v : ℕ) → following s (inside h turn v) h ≡ Ok None → each_turn made (values_from (suc left) s turn h v) ≡ Done
  unfolding each_turn
  made_none left v f = ap (each_turn made) (values_first left v None f)

  less_again : (m : ℕ) → suc m - 1 ≡ m
  less_again m = omega arith

  pub made_step : (left v next : ℕ) (inner : Turn) (xs zs : List Stmt) (new : Stmt) (due : Statements) → inner ≡ inside h turn v → 0 < left → following s inner h ≡ Ok (Some next)
      → plain_statement new ≡ made v → zs ≡ xs ++ new ∷ [] → beside (plain_statements xs) (each_turn made (values_from left s turn h v)) ≡ due
      → beside (plain_statements zs) (each_turn made (values_from (left - 1) s turn h next)) ≡ due
  made_step zero v next inner xs zs new due is l f m z b = absurd (omega arith)
  made_step (suc left) v next inner xs zs new due is l f m z b =
      let g : following s (inside h turn v) h ≡ Ok (Some next) = subst (λ t. following s t h ≡ Ok (Some next)) is f in
      let more : Statements = each_turn made (values_from left s turn h next) in
      ap (λ j. beside (plain_statements zs) (each_turn made (values_from j s turn h next))) (less_again left)
      ∙ (ap (λ ts. beside ts more) (ap plain_statements z ∙ statements_snoc xs new ∙ ap (with_last (plain_statements xs)) m)
      ∙ (beside_last (plain_statements xs) (made v) more ∙ (sym (ap (beside (plain_statements xs)) (made_first left v next g)) ∙ b)))

  pub made_end : (left v : ℕ) (inner : Turn) (xs : List Stmt) (due : Statements) → inner ≡ inside h turn v → 0 < left → following s inner h ≡ Ok None
      → beside (plain_statements xs) (each_turn made (values_from left s turn h v)) ≡ due → plain_statements xs ≡ due
  made_end zero v inner xs due is l f b = absurd (omega arith)
  made_end (suc left) v inner xs due is l f b =
      sym (beside_none (plain_statements xs)) ∙ (sym (ap (beside (plain_statements xs)) (made_none left v (subst (λ t. following s t h ≡ Ok None) is f))) ∙ b)
