-- What is listed as assigned anywhere by a statement is what stands in it as a target, in its loops too.
use Rattle.std.proofs.Common.{◌⊎◌, inl, inr, ℕ, Bool, Contains, sym, subst}
use Rattle.std.proofs.lemmas.List.Elements.{Contains-append_left, Contains-append_right, Contains-append_cases}
use Rattle.rr_syntax.specs.Tree.{Tree, Statement, Statements, Arm, Arms, Null, Block, If, IfElse, Case, Assign, For, Done, Then, CaseItem, NoArms, MoreArms}
use Rattle.rr_flat.specs.Reads.{Assigned, assigned_parts}
use Rattle.rr_flat.specs.Targets.{target_parts}
use Rattle.rr_guard.specs.Anywhere.{assigned_anywhere, assigned_anywhere_by_all, assigned_anywhere_by_arm, assigned_anywhere_by_arms}
use Rattle.rr_sites_complete.specs.Inside.{IsOneOf, first_statement, later_statement, IsArm, first_arm, later_arm, StandsIn, itself_whole, in_block, in_if, in_true, in_false, in_case, in_loop}
use Rattle.rr_sites_complete.specs.Targets.{IsAssignedAnywhere}
use Rattle.rr_sites_complete.proofs.Assigned.{IsLeaf, one, parts_from, target_in, parts_now, now_parts}
use Rattle.rr_sites_complete.proofs.Lists.{none_in}

-- an assigned part that stands there
abbrev pub IsAnywhereIn : Statement → Assigned → Type 0
IsAnywhereIn body a = IsAssignedAnywhere body a.part a.now × IsLeaf a.part

deeper : (t body : Statement) (a : Assigned) → ((s : Statement) → StandsIn s t → StandsIn s body) → IsAnywhereIn t a → IsAnywhereIn body a
deeper t body a k (h, l) = (record { target = h.target; value = h.value; stands = k (Assign h.target a.now h.value) h.stands; is = h.is }, l)

by_assignment : (t : Tree) (now : Bool) (v : Tree) (a : Assigned) → Contains (assigned_parts now (target_parts t)) a → IsAnywhereIn (Assign t now v) a
by_assignment t now v a c =
    let r = parts_now now (target_parts t) a c in
    let q = parts_from t a.part r.0 in
    (record { target = t; value = v; stands = subst (λ n. StandsIn (Assign t n v) (Assign t now v)) (sym r.1) itself_whole; is = q.0 }, q.1)

branches : (e : Tree) (t u : Statement) (a : Assigned) → (Contains (assigned_anywhere t) a → IsAnywhereIn t a) → (Contains (assigned_anywhere u) a → IsAnywhereIn u a) → Contains (assigned_anywhere t) a ⊎ Contains (assigned_anywhere u) a →
    IsAnywhereIn (IfElse e t u) a
branches e t u a h k (inl c) = deeper t (IfElse e t u) a (λ s d. in_true d) (h c)
branches e t u a h k (inr c) = deeper u (IfElse e t u) a (λ s d. in_false d) (k c)

either : (t : Statement) (ts : Statements) (a : Assigned) → (Contains (assigned_anywhere t) a → IsAnywhereIn t a) → (Contains (assigned_anywhere_by_all ts) a → (u : Statement) × IsOneOf u ts × IsAnywhereIn u a) →
    Contains (assigned_anywhere t) a ⊎ Contains (assigned_anywhere_by_all ts) a → (u : Statement) × IsOneOf u (Then t ts) × IsAnywhereIn u a
either t ts a h k (inl c) = (t, first_statement, h c)
either t ts a h k (inr c) = let r = k c in (r.0, later_statement r.1, r.2)

abbrev IsAnywhereByArm : Arm → Assigned → Type 0
IsAnywhereByArm (CaseItem labels colon t) a = IsAnywhereIn t a

in_arm : (kind : ℕ) (on : Tree) (arms : Arms) (b : Arm) (a : Assigned) → IsArm b arms → IsAnywhereByArm b a → IsAnywhereIn (Case kind on arms) a
in_arm kind on arms (CaseItem labels colon t) a i h = deeper t (Case kind on arms) a (λ s d. in_case i d) h

other : (b : Arm) (rest : Arms) (a : Assigned) → (Contains (assigned_anywhere_by_arm b) a → IsAnywhereByArm b a) → (Contains (assigned_anywhere_by_arms rest) a → (d : Arm) × IsArm d rest × IsAnywhereByArm d a) →
    Contains (assigned_anywhere_by_arm b) a ⊎ Contains (assigned_anywhere_by_arms rest) a → (d : Arm) × IsArm d (MoreArms b rest) × IsAnywhereByArm d a
other b rest a h k (inl c) = (b, first_arm, h c)
other b rest a h k (inr c) = let r = k c in (r.0, later_arm r.1, r.2)

mutual
  unfolding assigned_anywhere

  pub anywhere_from : (t : Statement) (a : Assigned) → Contains (assigned_anywhere t) a → IsAnywhereIn t a
  anywhere_from Null a c = absurd (none_in a c)
  anywhere_from (Block label ts) a c = let r = anywhere_from_all ts a c in deeper r.0 (Block label ts) a (λ s d. in_block r.1 d) r.2
  anywhere_from (If e t) a c = deeper t (If e t) a (λ s d. in_if d) (anywhere_from t a c)
  anywhere_from (IfElse e t u) a c = branches e t u a (anywhere_from t a) (anywhere_from u a) (Contains-append_cases (assigned_anywhere t) (assigned_anywhere u) a c)
  anywhere_from (Case kind on arms) a c = let r = anywhere_from_arms arms a c in in_arm kind on arms r.0 a r.1 r.2
  anywhere_from (Assign t now v) a c = by_assignment t now v a c
  anywhere_from (For head t) a c = deeper t (For head t) a (λ s d. in_loop d) (anywhere_from t a c)

  anywhere_from_all : (ts : Statements) (a : Assigned) → Contains (assigned_anywhere_by_all ts) a → (t : Statement) × IsOneOf t ts × IsAnywhereIn t a
  anywhere_from_all Done a c = absurd (none_in a c)
  anywhere_from_all (Then t ts) a c = either t ts a (anywhere_from t a) (anywhere_from_all ts a) (Contains-append_cases (assigned_anywhere t) (assigned_anywhere_by_all ts) a c)

  anywhere_from_arm : (b : Arm) (a : Assigned) → Contains (assigned_anywhere_by_arm b) a → IsAnywhereByArm b a
  anywhere_from_arm (CaseItem labels colon t) a c = anywhere_from t a c

  anywhere_from_arms : (arms : Arms) (a : Assigned) → Contains (assigned_anywhere_by_arms arms) a → (b : Arm) × IsArm b arms × IsAnywhereByArm b a
  anywhere_from_arms NoArms a c = absurd (none_in a c)
  anywhere_from_arms (MoreArms b rest) a c = other b rest a (anywhere_from_arm b a) (anywhere_from_arms rest a) (Contains-append_cases (assigned_anywhere_by_arm b) (assigned_anywhere_by_arms rest) a c)

one_in : {t : Statement} {ts : Statements} → IsOneOf t ts → (a : Assigned) → Contains (assigned_anywhere t) a → Contains (assigned_anywhere_by_all ts) a
unfolding assigned_anywhere
one_in {t} (first_statement {ts}) a c = Contains-append_left (assigned_anywhere t) (assigned_anywhere_by_all ts) a c
one_in {t} (later_statement {u} {ts} p) a c = Contains-append_right (assigned_anywhere u) (assigned_anywhere_by_all ts) a (one_in p a c)

arm_in : {b : Arm} {arms : Arms} → IsArm b arms → (a : Assigned) → Contains (assigned_anywhere_by_arm b) a → Contains (assigned_anywhere_by_arms arms) a
unfolding assigned_anywhere
arm_in {b} (first_arm {rest}) a c = Contains-append_left (assigned_anywhere_by_arm b) (assigned_anywhere_by_arms rest) a c
arm_in (later_arm {b = d} {rest} p) a c = Contains-append_right (assigned_anywhere_by_arm d) (assigned_anywhere_by_arms rest) a (arm_in p a c)

standing_in : {t body : Statement} → StandsIn t body → (a : Assigned) → Contains (assigned_anywhere t) a → Contains (assigned_anywhere body) a
unfolding assigned_anywhere
standing_in itself_whole a c = c
standing_in (in_block p d) a c = one_in p a (standing_in d a c)
standing_in (in_if d) a c = standing_in d a c
standing_in (in_true {t} {u} d) a c = Contains-append_left (assigned_anywhere t) (assigned_anywhere u) a (standing_in d a c)
standing_in (in_false {t} {u} d) a c = Contains-append_right (assigned_anywhere t) (assigned_anywhere u) a (standing_in d a c)
standing_in (in_case b d) a c = arm_in b a (standing_in d a c)
standing_in (in_loop d) a c = standing_in d a c

pub anywhere_in : (body : Statement) (p : Tree) (now : Bool) → IsAssignedAnywhere body p now → IsLeaf p → Contains (assigned_anywhere body) (one p now)
unfolding assigned_anywhere
anywhere_in body p now h l = standing_in h.stands (one p now) (now_parts now (target_parts h.target) p (target_in h.is l))
