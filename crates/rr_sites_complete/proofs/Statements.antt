-- The spots of a statement are the literals and the conditions that stand in it.
use Rattle.std.proofs.Common.{◌⊎◌, inl, inr, ℕ, ◌∷◌, ◌++◌, Contains}
use Rattle.std.specs.List.{AllByRecursion}
use Rattle.std.proofs.lemmas.List.Elements.{Contains-append_left, Contains-append_right}
use Rattle.rr_syntax.specs.Tree.{Tree, Literal, Cond, Statement, Statements, Arm, Arms, Null, Block, If, IfElse, Case, Assign, For, Done, Then, CaseItem, NoArms, MoreArms}
use Rattle.rr_change_places.specs.Spots.{Spot, Body, Test, Value, spots, spots_of_parts, spots_of, spots_of_all, spots_of_arm, spots_of_arms}
use Rattle.rr_sites_complete.specs.Inside.{IsOneOf, first_statement, later_statement, IsArm, first_arm, later_arm, IsInside, StandsIn, itself_whole, in_block, in_if, in_true, in_false, in_case, in_loop}
use Rattle.rr_sites_complete.specs.Places.{IsCondition, of_if, of_if_else, StandsAt, as_condition, as_selector, as_label, as_right_side}
use Rattle.rr_sites_complete.proofs.Lists.{tail_in}
use Rattle.rr_sites_complete.proofs.Expressions.{all_weaken, all_both, IsSpotIn, IsSpotInPart, spots_inside, spots_inside_parts, part_in}

-- Each spot is there

-- an expression at a place of the statement
pub record StandsThere (e : Tree) (body : Statement) : Type 0 where
  pub place : Tree
  pub at : StandsAt place body
  pub inside : IsInside e place

abbrev pub IsTestOf : Tree → Statement → Type 0
IsTestOf c body = IsCondition c body ⊎ ((a : Tree) × (b : Tree) × StandsThere (Cond c a b) body)

abbrev pub IsSpotOf : Statement → Spot → Type 0
IsSpotOf body (Body s) = ⊥
IsSpotOf body (Test c) = IsTestOf c body
IsSpotOf body (Value token n) = StandsThere (Literal token n) body

-- at one place
at_place : (e : Tree) (body : Statement) → StandsAt e body → (s : Spot) → IsSpotIn e s → IsSpotOf body s
at_place e body h (Body s) i = i
at_place e body h (Test c) (a, b, i) = inr (a, b, record { place = e; at = h; inside = i })
at_place e body h (Value token n) i = record { place = e; at = h; inside = i }

at_places : (e : Tree) (body : Statement) → StandsAt e body → AllByRecursion (IsSpotOf body) (spots e)
at_places e body h = all_weaken (IsSpotIn e) (IsSpotOf body) (spots e) (at_place e body h) (spots_inside e)

-- in a statement that stands in another
module _ (t body : Statement) (k : (s : Statement) → StandsIn s t → StandsIn s body) where
  condition_there : (e : Tree) → IsCondition e t → IsCondition e body
  condition_there e (of_if {t = u} h) = of_if (k (If e u) h)
  condition_there e (of_if_else {t = u} {u = v} h) = of_if_else (k (IfElse e u v) h)

  there : (e : Tree) → StandsAt e t → StandsAt e body
  there e (as_condition h) = as_condition (condition_there e h)
  there e (as_selector {kind} {arms} h) = as_selector (k (Case kind e arms) h)
  there e (as_label {kind} {on} {arms} h a p) = as_label (k (Case kind on arms) h) a p
  there e (as_right_side {target} {now} h) = as_right_side (k (Assign target now e) h)

  lifted : (s : Spot) → IsSpotOf t s → IsSpotOf body s
  lifted (Body s) h = h
  lifted (Test c) (inl h) = inl (condition_there c h)
  lifted (Test c) (inr (a, b, h)) = inr (a, b, record { place = h.place; at = there h.place h.at; inside = h.inside })
  lifted (Value token n) h = record { place = h.place; at = there h.place h.at; inside = h.inside }

  wider : AllByRecursion (IsSpotOf t) (spots_of t) → AllByRecursion (IsSpotOf body) (spots_of t)
  wider h = all_weaken (IsSpotOf t) (IsSpotOf body) (spots_of t) lifted h

-- of one of a list
abbrev IsSpotOfOne : Statements → Spot → Type 0
IsSpotOfOne ts s = (t : Statement) × IsOneOf t ts × IsSpotOf t s

-- of a label or of the statement of an arm
abbrev IsSpotOfItem : Arm → Spot → Type 0
IsSpotOfItem (CaseItem labels colon t) s = IsSpotInPart labels s ⊎ IsSpotOf t s

abbrev IsSpotOfArm : Arms → Spot → Type 0
IsSpotOfArm arms s = (a : Arm) × IsArm a arms × IsSpotOfItem a s

item_there : (kind : ℕ) (on : Tree) (arms : Arms) (a : Arm) → IsArm a arms → (s : Spot) → IsSpotOfItem a s → IsSpotOf (Case kind on arms) s
item_there kind on arms (CaseItem labels colon t) i s (inl p) = at_place p.0 (Case kind on arms) (as_label itself_whole i p.1) s p.2
item_there kind on arms (CaseItem labels colon t) i s (inr h) = lifted t (Case kind on arms) (λ u d. in_case i d) s h

mutual
  unfolding spots_of

  pub spots_there : (t : Statement) → AllByRecursion (IsSpotOf t) (spots_of t)
  spots_there Null = tt
  spots_there (Block label ts) =
      all_weaken (IsSpotOfOne ts) (IsSpotOf (Block label ts)) (spots_of_all ts) (λ s p. lifted p.0 (Block label ts) (λ u d. in_block p.1 d) s p.2) (spots_there_all ts)
  spots_there (If c t) = (
    inl (of_if itself_whole),
    all_both (IsSpotOf (If c t)) (spots c) (spots_of t) (at_places c (If c t) (as_condition (of_if itself_whole))) (wider t (If c t) (λ u d. in_if d) (spots_there t)),
  )
  spots_there (IfElse c t u) = (
    inl (of_if_else itself_whole),
    all_both (IsSpotOf (IfElse c t u)) (spots c) (spots_of t ++ spots_of u) (at_places c (IfElse c t u) (as_condition (of_if_else itself_whole)))
        (all_both (IsSpotOf (IfElse c t u)) (spots_of t) (spots_of u) (wider t (IfElse c t u) (λ v d. in_true d) (spots_there t)) (wider u (IfElse c t u) (λ v d. in_false d) (spots_there u))),
  )
  spots_there (Case kind on arms) =
      all_both (IsSpotOf (Case kind on arms)) (spots on) (spots_of_arms arms) (at_places on (Case kind on arms) (as_selector itself_whole))
      (all_weaken (IsSpotOfArm arms) (IsSpotOf (Case kind on arms)) (spots_of_arms arms) (λ s p. item_there kind on arms p.0 p.1 s p.2) (spots_there_arms arms))
  spots_there (Assign target now e) = at_places e (Assign target now e) (as_right_side itself_whole)
  spots_there (For head t) = wider t (For head t) (λ u d. in_loop d) (spots_there t)

  spots_there_all : (ts : Statements) → AllByRecursion (IsSpotOfOne ts) (spots_of_all ts)
  spots_there_all Done = tt
  spots_there_all (Then t ts) =
      all_both (IsSpotOfOne (Then t ts)) (spots_of t) (spots_of_all ts) (all_weaken (IsSpotOf t) (IsSpotOfOne (Then t ts)) (spots_of t) (λ s h. (t, first_statement, h)) (spots_there t))
      (all_weaken (IsSpotOfOne ts) (IsSpotOfOne (Then t ts)) (spots_of_all ts) (λ s p. (p.0, later_statement p.1, p.2)) (spots_there_all ts))

  spots_there_arm : (a : Arm) → AllByRecursion (IsSpotOfItem a) (spots_of_arm a)
  spots_there_arm (CaseItem labels colon t) =
      all_both (IsSpotOfItem (CaseItem labels colon t)) (spots_of_parts labels) (spots_of t)
      (all_weaken (IsSpotInPart labels) (IsSpotOfItem (CaseItem labels colon t)) (spots_of_parts labels) (λ s h. inl h) (spots_inside_parts labels))
      (all_weaken (IsSpotOf t) (IsSpotOfItem (CaseItem labels colon t)) (spots_of t) (λ s h. inr h) (spots_there t))

  spots_there_arms : (arms : Arms) → AllByRecursion (IsSpotOfArm arms) (spots_of_arms arms)
  spots_there_arms NoArms = tt
  spots_there_arms (MoreArms a rest) =
      all_both (IsSpotOfArm (MoreArms a rest)) (spots_of_arm a) (spots_of_arms rest) (all_weaken (IsSpotOfItem a) (IsSpotOfArm (MoreArms a rest)) (spots_of_arm a) (λ s h. (a, first_arm, h)) (spots_there_arm a))
      (all_weaken (IsSpotOfArm rest) (IsSpotOfArm (MoreArms a rest)) (spots_of_arms rest) (λ s p. (p.0, later_arm p.1, p.2)) (spots_there_arms rest))

-- What stands there has its spot

one_in : {t : Statement} {ts : Statements} → IsOneOf t ts → (s : Spot) → Contains (spots_of t) s → Contains (spots_of_all ts) s
unfolding spots_of
one_in {t} (first_statement {ts}) s c = Contains-append_left (spots_of t) (spots_of_all ts) s c
one_in {t} (later_statement {u} {ts} p) s c = Contains-append_right (spots_of u) (spots_of_all ts) s (one_in p s c)

arm_in : {a : Arm} {arms : Arms} → IsArm a arms → (s : Spot) → Contains (spots_of_arm a) s → Contains (spots_of_arms arms) s
unfolding spots_of
arm_in {a} (first_arm {rest}) s c = Contains-append_left (spots_of_arm a) (spots_of_arms rest) s c
arm_in {a} (later_arm {b} {rest} p) s c = Contains-append_right (spots_of_arm b) (spots_of_arms rest) s (arm_in p s c)

pub stands_in : {t body : Statement} → StandsIn t body → (s : Spot) → Contains (spots_of t) s → Contains (spots_of body) s
unfolding spots_of
stands_in itself_whole s h = h
stands_in (in_block p d) s h = one_in p s (stands_in d s h)
stands_in (in_if {c} {t} d) s h = tail_in (Test c) (spots c ++ spots_of t) s (Contains-append_right (spots c) (spots_of t) s (stands_in d s h))
stands_in (in_true {c} {t} {u} d) s h =
    tail_in (Test c) (spots c ++ (spots_of t ++ spots_of u)) s (Contains-append_right (spots c) (spots_of t ++ spots_of u) s (Contains-append_left (spots_of t) (spots_of u) s (stands_in d s h)))
stands_in (in_false {c} {t} {u} d) s h =
    tail_in (Test c) (spots c ++ (spots_of t ++ spots_of u)) s (Contains-append_right (spots c) (spots_of t ++ spots_of u) s (Contains-append_right (spots_of t) (spots_of u) s (stands_in d s h)))
stands_in (in_case {kind} {on} {labels} {colon} {t} {arms} a d) s h =
    Contains-append_right (spots on) (spots_of_arms arms) s (arm_in a s (Contains-append_right (spots_of_parts labels) (spots_of t) s (stands_in d s h)))
stands_in (in_loop d) s h = stands_in d s h

-- the spots of a condition, with itself
pub condition_in : (c : Tree) (body : Statement) → IsCondition c body → (s : Spot) → Contains (Test c ∷ spots c) s → Contains (spots_of body) s
unfolding spots_of
condition_in c body (of_if {t} h) s k = stands_in h s (Contains-append_left (Test c ∷ spots c) (spots_of t) s k)
condition_in c body (of_if_else {t} {u} h) s k = stands_in h s (Contains-append_left (Test c ∷ spots c) (spots_of t ++ spots_of u) s k)

pub place_in : (e : Tree) (body : Statement) → StandsAt e body → (s : Spot) → Contains (spots e) s → Contains (spots_of body) s
unfolding spots_of
place_in e body (as_condition h) s k = condition_in e body h s (tail_in (Test e) (spots e) s k)
place_in e body (as_selector {kind} {arms} h) s k = stands_in h s (Contains-append_left (spots e) (spots_of_arms arms) s k)
place_in e body (as_label {kind} {on} {arms} {labels} {colon} {t} h a p) s k =
    stands_in h s (Contains-append_right (spots on) (spots_of_arms arms) s (arm_in a s (Contains-append_left (spots_of_parts labels) (spots_of t) s (part_in p s k))))
place_in e body (as_right_side {target} {now} h) s k = stands_in h s k
