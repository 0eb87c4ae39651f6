-- What is listed as assigned by a statement is what stands in it as a target outside its loops.
use Rattle.std.proofs.Common.{◌≡◌, ◌⊎◌, inl, inr, ℕ, Bool, List, [], ◌∷◌, Contains, refl, sym, subst}
use Rattle.std.proofs.lemmas.List.Elements.{Contains-append_left, Contains-append_right, Contains-append_cases}
use Rattle.rr_syntax.specs.Tree.{Tree, Trees, Name, Literal, Bit, Part, Indexed, Unary, Binary, Cond, Concat, Repeat, Cast, Paren, End, More, Statement, Statements, Arm, Arms, Null, Block, If, IfElse, Case, Assign, For, Done, Then, CaseItem, NoArms, MoreArms}
use Rattle.rr_flat.specs.Reads.{Assigned, assigned_parts, assigned_by, assigned_by_all, assigned_by_arm, assigned_by_arms}
use Rattle.rr_flat.specs.Targets.{target_parts, targets_parts}
use Rattle.rr_sites_complete.specs.Inside.{IsPart, first_part, later_part, IsOneOf, first_statement, later_statement, IsArm, first_arm, later_arm, StandsOutside, outside_itself, outside_in_block, outside_in_if, outside_in_true, outside_in_false, outside_in_case}
use Rattle.rr_sites_complete.specs.Targets.{IsTarget, whole_target, in_braces, IsAssigned}
use Rattle.rr_sites_complete.proofs.Lists.{head_in, tail_in, none_in, cases_in}

-- a name, or a bit or part of one
abbrev pub IsLeaf : Tree → Type 0
IsLeaf (Name token x) = Unit {0}
IsLeaf (Literal token n) = ⊥
IsLeaf (Bit token x i) = Unit {0}
IsLeaf (Part token x l r) = Unit {0}
IsLeaf (Indexed token x f n up) = Unit {0}
IsLeaf (Unary op t) = ⊥
IsLeaf (Binary op l r) = ⊥
IsLeaf (Cond a b c) = ⊥
IsLeaf (Concat ts) = ⊥
IsLeaf (Repeat n ts) = ⊥
IsLeaf (Cast signed t) = ⊥
IsLeaf (Paren t) = ⊥

-- Parts of a target

abbrev IsLeafOf : Tree → Tree → Type 0
IsLeafOf t p = IsTarget p t × IsLeaf p

abbrev IsLeafOfOne : Trees → Tree → Type 0
IsLeafOfOne ts p = (t : Tree) × IsPart t ts × IsTarget p t × IsLeaf p

itself_alone : (t p : Tree) → IsLeaf t → Contains (t ∷ []) p → IsLeafOf t p
itself_alone t p l c = elim (cases_in t [] p c) [
  | inl e ↦ subst (IsLeafOf t) e (whole_target, l)
  | inr d ↦ absurd (none_in p d)
]

joined : (t : Tree) (ts : Trees) (p : Tree) → (Contains (target_parts t) p → IsLeafOf t p) → (Contains (targets_parts ts) p → IsLeafOfOne ts p) → Contains (target_parts t) p ⊎ Contains (targets_parts ts) p →
    IsLeafOfOne (More t ts) p
joined t ts p h k (inl c) = let r = h c in (t, first_part, r.0, r.1)
joined t ts p h k (inr c) = let r = k c in (r.0, later_part r.1, r.2, r.3)

mutual
  unfolding target_parts

  pub parts_from : (t p : Tree) → Contains (target_parts t) p → IsLeafOf t p
  parts_from (Name token x) p c = itself_alone (Name token x) p tt c
  parts_from (Literal token n) p c = absurd (none_in p c)
  parts_from (Bit token x i) p c = itself_alone (Bit token x i) p tt c
  parts_from (Part token x l r) p c = itself_alone (Part token x l r) p tt c
  parts_from (Indexed token x f n up) p c = itself_alone (Indexed token x f n up) p tt c
  parts_from (Unary op t) p c = absurd (none_in p c)
  parts_from (Binary op l r) p c = absurd (none_in p c)
  parts_from (Cond a b d) p c = absurd (none_in p c)
  parts_from (Concat ts) p c = let r = parts_from_all ts p c in (in_braces r.1 r.2, r.3)
  parts_from (Repeat n ts) p c = absurd (none_in p c)
  parts_from (Cast signed t) p c = absurd (none_in p c)
  parts_from (Paren t) p c = absurd (none_in p c)

  parts_from_all : (ts : Trees) (p : Tree) → Contains (targets_parts ts) p → IsLeafOfOne ts p
  parts_from_all End p c = absurd (none_in p c)
  parts_from_all (More t ts) p c = joined t ts p (λ k. parts_from t p k) (λ k. parts_from_all ts p k) (Contains-append_cases (target_parts t) (targets_parts ts) p c)

braced_in : {t : Tree} {ts : Trees} → IsPart t ts → (p : Tree) → Contains (target_parts t) p → Contains (targets_parts ts) p
unfolding target_parts
braced_in {t} (first_part {ts}) p c = Contains-append_left (target_parts t) (targets_parts ts) p c
braced_in {t} (later_part {u} {ts} i) p c = Contains-append_right (target_parts u) (targets_parts ts) p (braced_in i p c)

leaf_in : (p : Tree) → IsLeaf p → Contains (target_parts p) p
unfolding target_parts
leaf_in (Name token x) h = head_in (Name token x) []
leaf_in (Literal token n) h = absurd h
leaf_in (Bit token x i) h = head_in (Bit token x i) []
leaf_in (Part token x l r) h = head_in (Part token x l r) []
leaf_in (Indexed token x f n up) h = head_in (Indexed token x f n up) []
leaf_in (Unary op t) h = absurd h
leaf_in (Binary op l r) h = absurd h
leaf_in (Cond a b c) h = absurd h
leaf_in (Concat ts) h = absurd h
leaf_in (Repeat n ts) h = absurd h
leaf_in (Cast signed t) h = absurd h
leaf_in (Paren t) h = absurd h

pub target_in : {p t : Tree} → IsTarget p t → IsLeaf p → Contains (target_parts t) p
unfolding target_parts
target_in {p} whole_target l = leaf_in p l
target_in {p} (in_braces i h) l = braced_in i p (target_in h l)

-- Assignments

abbrev pub one : Tree → Bool → Assigned
one p now = record { part = p; now = now }

pub parts_now : (now : Bool) (ts : List Tree) (a : Assigned) → Contains (assigned_parts now ts) a → Contains ts a.part × (a.now ≡ now)
unfolding assigned_parts
parts_now now [] a c = absurd (none_in a c)
parts_now now (t ∷ ts) a c = elim (cases_in (one t now) (assigned_parts now ts) a c) [
  | inl e ↦ subst (λ b. Contains (t ∷ ts) b.part × (b.now ≡ now)) e (head_in t ts, refl)
  | inr d ↦ let r = parts_now now ts a d in (tail_in t ts a.part r.0, r.1)
]

pub now_parts : (now : Bool) (ts : List Tree) (p : Tree) → Contains ts p → Contains (assigned_parts now ts) (one p now)
unfolding assigned_parts
now_parts now [] p c = absurd (none_in p c)
now_parts now (t ∷ ts) p c = elim (cases_in t ts p c) [
  | inl e ↦ subst (λ q. Contains (one t now ∷ assigned_parts now ts) (one q now)) e (head_in (one t now) (assigned_parts now ts))
  | inr d ↦ tail_in (one t now) (assigned_parts now ts) (one p now) (now_parts now ts p d)
]

-- an assigned part that stands there
abbrev pub IsAssignedIn : Statement → Assigned → Type 0
IsAssignedIn body a = IsAssigned body a.part a.now × IsLeaf a.part

deeper : (t body : Statement) (a : Assigned) → ((s : Statement) → StandsOutside s t → StandsOutside s body) → IsAssignedIn t a → IsAssignedIn body a
deeper t body a k (h, l) = (record { target = h.target; value = h.value; stands = k (Assign h.target a.now h.value) h.stands; is = h.is }, l)

by_assignment : (t : Tree) (now : Bool) (v : Tree) (a : Assigned) → Contains (assigned_parts now (target_parts t)) a → IsAssignedIn (Assign t now v) a
by_assignment t now v a c =
    let r = parts_now now (target_parts t) a c in
    let q = parts_from t a.part r.0 in
    (record { target = t; value = v; stands = subst (λ n. StandsOutside (Assign t n v) (Assign t now v)) (sym r.1) outside_itself; is = q.0 }, q.1)

branches : (e : Tree) (t u : Statement) (a : Assigned) → (Contains (assigned_by t) a → IsAssignedIn t a) → (Contains (assigned_by u) a → IsAssignedIn u a) → Contains (assigned_by t) a ⊎ Contains (assigned_by u) a →
    IsAssignedIn (IfElse e t u) a
branches e t u a h k (inl c) = deeper t (IfElse e t u) a (λ s d. outside_in_true d) (h c)
branches e t u a h k (inr c) = deeper u (IfElse e t u) a (λ s d. outside_in_false d) (k c)

either : (t : Statement) (ts : Statements) (a : Assigned) → (Contains (assigned_by t) a → IsAssignedIn t a) → (Contains (assigned_by_all ts) a → (u : Statement) × IsOneOf u ts × IsAssignedIn u a) →
    Contains (assigned_by t) a ⊎ Contains (assigned_by_all ts) a → (u : Statement) × IsOneOf u (Then t ts) × IsAssignedIn u a
either t ts a h k (inl c) = (t, first_statement, h c)
either t ts a h k (inr c) = let r = k c in (r.0, later_statement r.1, r.2)

abbrev IsAssignedByArm : Arm → Assigned → Type 0
IsAssignedByArm (CaseItem labels colon t) a = IsAssignedIn t a

in_arm : (kind : ℕ) (on : Tree) (arms : Arms) (b : Arm) (a : Assigned) → IsArm b arms → IsAssignedByArm b a → IsAssignedIn (Case kind on arms) a
in_arm kind on arms (CaseItem labels colon t) a i h = deeper t (Case kind on arms) a (λ s d. outside_in_case i d) h

other : (b : Arm) (rest : Arms) (a : Assigned) → (Contains (assigned_by_arm b) a → IsAssignedByArm b a) → (Contains (assigned_by_arms rest) a → (d : Arm) × IsArm d rest × IsAssignedByArm d a) →
    Contains (assigned_by_arm b) a ⊎ Contains (assigned_by_arms rest) a → (d : Arm) × IsArm d (MoreArms b rest) × IsAssignedByArm d a
other b rest a h k (inl c) = (b, first_arm, h c)
other b rest a h k (inr c) = let r = k c in (r.0, later_arm r.1, r.2)

mutual
  unfolding assigned_by

  pub assigned_from : (t : Statement) (a : Assigned) → Contains (assigned_by t) a → IsAssignedIn t a
  assigned_from Null a c = absurd (none_in a c)
  assigned_from (Block label ts) a c = let r = assigned_from_all ts a c in deeper r.0 (Block label ts) a (λ s d. outside_in_block r.1 d) r.2
  assigned_from (If e t) a c = deeper t (If e t) a (λ s d. outside_in_if d) (assigned_from t a c)
  assigned_from (IfElse e t u) a c = branches e t u a (assigned_from t a) (assigned_from u a) (Contains-append_cases (assigned_by t) (assigned_by u) a c)
  assigned_from (Case kind on arms) a c = let r = assigned_from_arms arms a c in in_arm kind on arms r.0 a r.1 r.2
  assigned_from (Assign t now v) a c = by_assignment t now v a c
  assigned_from (For head t) a c = absurd (none_in a c)

  assigned_from_all : (ts : Statements) (a : Assigned) → Contains (assigned_by_all ts) a → (t : Statement) × IsOneOf t ts × IsAssignedIn t a
  assigned_from_all Done a c = absurd (none_in a c)
  assigned_from_all (Then t ts) a c = either t ts a (assigned_from t a) (assigned_from_all ts a) (Contains-append_cases (assigned_by t) (assigned_by_all ts) a c)

  assigned_from_arm : (b : Arm) (a : Assigned) → Contains (assigned_by_arm b) a → IsAssignedByArm b a
  assigned_from_arm (CaseItem labels colon t) a c = assigned_from t a c

  assigned_from_arms : (arms : Arms) (a : Assigned) → Contains (assigned_by_arms arms) a → (b : Arm) × IsArm b arms × IsAssignedByArm b a
  assigned_from_arms NoArms a c = absurd (none_in a c)
  assigned_from_arms (MoreArms b rest) a c = other b rest a (assigned_from_arm b a) (assigned_from_arms rest a) (Contains-append_cases (assigned_by_arm b) (assigned_by_arms rest) a c)

one_in : {t : Statement} {ts : Statements} → IsOneOf t ts → (a : Assigned) → Contains (assigned_by t) a → Contains (assigned_by_all ts) a
unfolding assigned_by
one_in {t} (first_statement {ts}) a c = Contains-append_left (assigned_by t) (assigned_by_all ts) a c
one_in {t} (later_statement {u} {ts} p) a c = Contains-append_right (assigned_by u) (assigned_by_all ts) a (one_in p a c)

arm_in : {b : Arm} {arms : Arms} → IsArm b arms → (a : Assigned) → Contains (assigned_by_arm b) a → Contains (assigned_by_arms arms) a
unfolding assigned_by
arm_in {b} (first_arm {rest}) a c = Contains-append_left (assigned_by_arm b) (assigned_by_arms rest) a c
arm_in (later_arm {b = d} {rest} p) a c = Contains-append_right (assigned_by_arm d) (assigned_by_arms rest) a (arm_in p a c)

standing_in : {t body : Statement} → StandsOutside t body → (a : Assigned) → Contains (assigned_by t) a → Contains (assigned_by body) a
unfolding assigned_by
standing_in outside_itself a c = c
standing_in (outside_in_block p d) a c = one_in p a (standing_in d a c)
standing_in (outside_in_if d) a c = standing_in d a c
standing_in (outside_in_true {t} {u} d) a c = Contains-append_left (assigned_by t) (assigned_by u) a (standing_in d a c)
standing_in (outside_in_false {t} {u} d) a c = Contains-append_right (assigned_by t) (assigned_by u) a (standing_in d a c)
standing_in (outside_in_case b d) a c = arm_in b a (standing_in d a c)

pub assigned_in : (body : Statement) (p : Tree) (now : Bool) → IsAssigned body p now → IsLeaf p → Contains (assigned_by body) (one p now)
unfolding assigned_by
assigned_in body p now h l = standing_in h.stands (one p now) (now_parts now (target_parts h.target) p (target_in h.is l))
