-- The spots of a tree stand among its tokens.
use Rattle.std.proofs.Common.{ℕ, ◌+◌, ◌<◌, ◌≤◌, Bool, true, false, if◌then◌else◌, List, [], ◌++◌, length, get_or, arith}
use Rattle.std.specs.List.{AllByRecursion}
use Rattle.rr_syntax.specs.Expressions.{spell, spell_more, WellFormed, WellFormedMore, Numbered, NumberedMore}
use Rattle.rr_syntax.specs.Statements.{spell_label, spell_labels, spell_loop, spell_statement, spell_statements, spell_arm, spell_arms, WellFormedStatement, WellFormedStatements, WellFormedArm, WellFormedArms, NumberedLabels, NumberedStatement, NumberedStatements, NumberedArm, NumberedArms}
use Rattle.rr_syntax.specs.Tree.{Tree, Trees, Name, Literal, Bit, Part, Indexed, Unary, Binary, Cond, Concat, Repeat, Cast, Paren, End, More, Statement, Statements, Arm, Arms, Null, Block, If, IfElse, Case, Assign, For, Done, Then, CaseItem, NoArms, MoreArms}
use Rattle.rr_syntax.proofs.Nonempty.{spell-some}
use Rattle.rr_expr.specs.declared.operators.Infix.TheVariants.{Either}
use Rattle.rr_expr.specs.Faults.{first, takes_constants}
use Rattle.rr_expr.specs.Operators.{infixes}
use Rattle.rr_instance_laws.proofs.FirstLaws.{first_is}
use Rattle.rr_flat_instance.proofs.Spans as span
use Rattle.rr_lawful_instance.proofs.Lists.{both}
use Rattle.rr_change_places.specs.Spots.{Spot, Body, Test, Value, spots, spots_of_parts, spots_of, spots_of_all, spots_of_arm, spots_of_arms}

-- a condition begins in a window of tokens; inside an item no `always` stands
abbrev pub Stands : ℕ → ℕ → Spot → Type 0
Stands low high (Body s) = ⊥
Stands low high (Test t) = (low ≤ first t) × (first t < high)
Stands low high (Value token n) = Unit {0}

module _ (low high : ℕ) where
  abbrev pub All : List Spot → Type 0
  All ss = AllByRecursion (Stands low high) ss

  joined : (xs ys : List Spot) → All xs → All ys → All (xs ++ ys)
  joined xs ys a b = both (Stands low high) xs ys a b

  test_stands : (t : Tree) (at : ℕ) → WellFormed t → Numbered t at → low ≤ at → at + length (spell t) ≤ high → Stands low high (Test t)
  test_stands t at w n l h = let f = first_is t at w n in let s = spell-some t in (omega (arith, f, l), omega (arith, f, h, s))

  unless : (c : Bool) (xs : List Spot) → All xs → All (if c then [] else xs)
  unless true xs h = tt
  unless false xs h = h

  mutual
    unfolding spots WellFormed Numbered

    pub tree_stands : (t : Tree) (at : ℕ) → WellFormed t → Numbered t at → low ≤ at → at + length (spell t) ≤ high → All (spots t)
    tree_stands (Name token x) at w n l h = tt
    tree_stands (Literal token d) at w n l h = (tt, tt)
    tree_stands (Bit token x i) at w n l h = tt
    tree_stands (Part token x k r) at w n l h = tt
    tree_stands (Indexed token x f k up) at w n l h = tt
    tree_stands (Unary op t) at w n l h = let e = span.long-Unary op t in tree_stands t (at + 1) w.1 n (omega arith) (omega (arith, e, h))
    tree_stands (Binary op k r) at w n l h =
        let e = span.long-Binary op k r in
        unless (takes_constants (get_or infixes op Either)) (spots k ++ spots r)
        (joined (spots k) (spots r) (tree_stands k at w.1 n.0 l (omega (arith, e, h))) (tree_stands r (at + length (spell k) + 1) w.2 n.1 (omega arith) (omega (arith, e, h))))
    tree_stands (Cond a c d) at w n l h =
        let e = span.long-Cond a c d in (
          test_stands a at w.0 n.0 l (omega (arith, e, h)),
          joined (spots a) (spots c ++ spots d) (tree_stands a at w.0 n.0 l (omega (arith, e, h)))
              (joined (spots c) (spots d) (tree_stands c (at + length (spell a) + 1) w.1 n.1 (omega arith) (omega (arith, e, h)))
              (tree_stands d (at + length (spell a) + 1 + length (spell c) + 1) w.2 n.2 (omega arith) (omega (arith, e, h)))),
        )
    tree_stands (Concat End) at w n l h = tt
    tree_stands (Concat (More t ts)) at w n l h =
        let e = span.long-Concat (More t ts) in let f = span.long-parts t ts in let k = span.long-More t ts in parts_stand (More t ts) at (w.0, w.1) n l (omega (arith, e, f, k, h))
    tree_stands (Repeat m End) at w n l h = tt
    tree_stands (Repeat m (More t ts)) at w n l h =
        let e = span.long-Repeat m (More t ts) in let f = span.long-parts t ts in let k = span.long-More t ts in
        parts_stand (More t ts) (at + 1 + length (spell m)) (w.1.0, w.1.1) n.1 (omega arith) (omega (arith, e, f, k, h))
    tree_stands (Cast signed t) at w n l h = let e = span.long-Cast signed t in tree_stands t (at + 2) w n (omega arith) (omega (arith, e, h))
    tree_stands (Paren t) at w n l h = let e = span.long-Paren t in tree_stands t (at + 1) w n (omega arith) (omega (arith, e, h))

    -- `at` is the number of the mark before the first
    pub parts_stand : (ts : Trees) (at : ℕ) → WellFormedMore ts → NumberedMore ts at → low ≤ at → at + length (spell_more ts) ≤ high → All (spots_of_parts ts)
    parts_stand End at w n l h = tt
    parts_stand (More t ts) at w n l h =
        let e = span.long-More t ts in
        joined (spots t) (spots_of_parts ts) (tree_stands t (at + 1) w.0 n.0 (omega arith) (omega (arith, e, h))) (parts_stand ts (at + 1 + length (spell t)) w.1 n.1 (omega arith) (omega (arith, e, h)))

  labels_stand : (ts : Trees) (colon : Bool) (at : ℕ) → WellFormedMore ts → NumberedLabels ts at → low ≤ at → at + length (spell_labels ts colon) ≤ high → All (spots_of_parts ts)
  unfolding spots WellFormed NumberedLabels
  labels_stand End colon at w n l h = tt
  labels_stand (More t ts) colon at w n l h =
      let e = span.long-labels t ts colon in
      joined (spots t) (spots_of_parts ts) (tree_stands t at w.0 n.0 l (omega (arith, e, h))) (parts_stand ts (at + length (spell t)) w.1 n.1 (omega arith) (omega (arith, e, h)))

  mutual
    unfolding spots_of WellFormedStatement NumberedStatement

    pub statement_stands : (t : Statement) (at : ℕ) → WellFormedStatement t → NumberedStatement t at → low ≤ at → at + length (spell_statement t) ≤ high → All (spots_of t)
    statement_stands Null at w n l h = tt
    statement_stands (Block label ts) at w n l h =
        let e = span.long-Block label ts in statements_stand ts (at + 1 + length (spell_label label)) w n.1 (omega arith) (omega (arith, e, h))
    statement_stands (If c t) at w n l h =
        let e = span.long-If c t in (
          test_stands c (at + 2) w.0 n.0 (omega arith) (omega (arith, e, h)),
          joined (spots c) (spots_of t) (tree_stands c (at + 2) w.0 n.0 (omega arith) (omega (arith, e, h))) (statement_stands t (at + 2 + length (spell c) + 1) w.1 n.1 (omega arith) (omega (arith, e, h))),
        )
    statement_stands (IfElse c t u) at w n l h =
        let e = span.long-IfElse c t u in (
          test_stands c (at + 2) w.0 n.0 (omega arith) (omega (arith, e, h)),
          joined (spots c) (spots_of t ++ spots_of u) (tree_stands c (at + 2) w.0 n.0 (omega arith) (omega (arith, e, h)))
              (joined (spots_of t) (spots_of u) (statement_stands t (at + 2 + length (spell c) + 1) w.1 n.1 (omega arith) (omega (arith, e, h)))
              (statement_stands u (at + 2 + length (spell c) + 1 + length (spell_statement t) + 1) w.3 n.2 (omega arith) (omega (arith, e, h)))),
        )
    statement_stands (Case kind on arms) at w n l h =
        let e = span.long-Case kind on arms in
        joined (spots on) (spots_of_arms arms) (tree_stands on (at + 2) w.1 n.0 (omega arith) (omega (arith, e, h))) (arms_stand arms (at + 2 + length (spell on) + 1) w.3 n.1 (omega arith) (omega (arith, e, h)))
    statement_stands (Assign t now v) at w n l h = let e = span.long-Assign t now v in tree_stands v (at + length (spell t) + 1) w.2 n.1 (omega arith) (omega (arith, e, h))
    statement_stands (For head t) at w n l h = let e = span.long-For head t in statement_stands t (at + 1 + length (spell_loop head)) w.1 n.1 (omega arith) (omega (arith, e, h))

    statements_stand : (ts : Statements) (at : ℕ) → WellFormedStatements ts → NumberedStatements ts at → low ≤ at → at + length (spell_statements ts) ≤ high → All (spots_of_all ts)
    statements_stand Done at w n l h = tt
    statements_stand (Then t ts) at w n l h =
        let e = span.long-Then t ts in
        joined (spots_of t) (spots_of_all ts) (statement_stands t at w.0 n.0 l (omega (arith, e, h))) (statements_stand ts (at + length (spell_statement t)) w.1 n.1 (omega arith) (omega (arith, e, h)))

    arm_stands : (a : Arm) (at : ℕ) → WellFormedArm a → NumberedArm a at → low ≤ at → at + length (spell_arm a) ≤ high → All (spots_of_arm a)
    arm_stands (CaseItem labels colon t) at w n l h =
        let e = span.long-CaseItem labels colon t in
        joined (spots_of_parts labels) (spots_of t) (labels_stand labels colon at w.0 n.0 l (omega (arith, e, h))) (statement_stands t (at + length (spell_labels labels colon)) w.2 n.1 (omega arith) (omega (arith, e, h)))

    arms_stand : (arms : Arms) (at : ℕ) → WellFormedArms arms → NumberedArms arms at → low ≤ at → at + length (spell_arms arms) ≤ high → All (spots_of_arms arms)
    arms_stand NoArms at w n l h = tt
    arms_stand (MoreArms a rest) at w n l h =
        let e = span.long-MoreArms a rest in
        joined (spots_of_arm a) (spots_of_arms rest) (arm_stands a at w.0 n.0 l (omega (arith, e, h))) (arms_stand rest (at + length (spell_arm a)) w.1 n.1 (omega arith) (omega (arith, e, h)))
