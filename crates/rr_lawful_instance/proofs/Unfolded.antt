-- The body of a block, in which loops are unfolded, begins where the body of its item does; it brings no other names, and what
-- stands as a target outside loops still does.
use Rattle.std.proofs.Common.{◌≡◌, ◌∙◌, sym, ap, subst, ℕ, ◌<◌, Bool, true, false, List, [], ◌++◌, length, Option, Some, None, Ok, unwrap_or, refl}
use Rattle.std.specs.List.{All, AllByRecursion, Contains}
use Rattle.std.proofs.lemmas.List.Elements.{All-weaker}
use Rattle.rr_syntax.specs.Tree.{Tree, Name, Statement, Statements, Arm, Arms, Null, Block as Sequence, If, IfElse, Case, Assign, For, Done, Then, CaseItem, NoArms, MoreArms, SourceText}
use Rattle.rr_expr.specs.Scopes.{Names}
use Rattle.rr_expr.specs.declared.types.Entity.TheVariants as entity
use Rattle.rr_flat.specs.Plain.{Flat}
use Rattle.rr_flat.specs.Reads.{Assigned, assigned_parts, assigned_by, assigned_by_all, assigned_by_arm, assigned_by_arms}
use Rattle.rr_flat.specs.Signals.{Text}
use Rattle.rr_flat.specs.Targets.{target_parts}
use Rattle.rr_flat.specs.Writers.{scope_at}
use Rattle.rr_flatten.specs.Walk.{module_at, flat_of}
use Rattle.rr_instance.specs.Firsts.{first_token}
use Rattle.rr_choice.specs.Places.{is_overwrite_at}
use Rattle.rr_choice.specs.Sites as sites
use Rattle.rr_choice.specs.Sites.{SiteKind, Site}
use Rattle.rr_instance_laws.specs.Tests.{IsBodyName}
use Rattle.rr_instance_laws.specs.Truth.{IsScalar}
use Rattle.rr_loop_names.proofs.Staying.{put_stays}
use Rattle.rr_loop_rules.specs.Rules.{contains, loop_names}
use Rattle.rr_unfold.specs.Unfold.{unfold_statement, unfold_statements, unfold_arm, unfold_arms}
use Rattle.rr_unfold_instance.proofs.Bodies.{body_names, body_begins}
use Rattle.rr_unfold_instance.proofs.LastAssignments.{target_alone}
use Rattle.rr_declared_ranges.proofs.Vectors.{loops_of_source}
use Rattle.rr_flat_instance.specs.Owned.{IsFree}
use Rattle.rr_flat_instance.specs.Places.{owner_at}
use Rattle.rr_lawful_instance.specs.AreSites.{IsTargetOf, TargetStands}
use Rattle.rr_lawful_instance.proofs.Lists.{both, parts, holds_of, by_element}
use Rattle.rr_lawful_instance.proofs.Origins.{IsUnfolded}

pub begins_same : (s body : Statement) → IsUnfolded s body → first_token body ≡ first_token s
begins_same s body u = ap first_token u.1 ∙ ap (λ (o : Option ℕ). unwrap_or o 0) (body_begins u.0 s)

pub brings_same : (ss : List Site) (s body : Statement) → IsUnfolded s body → (name : Text) → IsBodyName ss (first_token body) body name → IsBodyName ss (first_token s) s name
brings_same ss s body u name h =
    body_names ss u.0 (first_token s) s name
    (subst (λ (b : Statement). IsBodyName ss (first_token s) b name) u.1 (subst (λ (k : ℕ). IsBodyName ss k body name) (begins_same s body u) h))

-- what holds of all targets of the unfolded statement holds of those that stand outside loops
module _ (names : Names) (P : Assigned → Type 0) where
  mutual
    unfolding assigned_by unfold_statement

    pub outside : (t : Statement) → AllByRecursion P (assigned_by (unfold_statement names [] t)) → AllByRecursion P (assigned_by t)
    outside Null h = h
    outside (Sequence label ts) h = outside_all ts h
    outside (If c t) h = outside t h
    outside (IfElse c t u) h =
        let p = parts P (assigned_by (unfold_statement names [] t)) (assigned_by (unfold_statement names [] u)) h in
        both P (assigned_by t) (assigned_by u) (outside t p.0) (outside u p.1)
    outside (Case kind on arms) h = outside_arms arms h
    outside (Assign t now e) h = subst (λ (x : Tree). AllByRecursion P (assigned_parts now (target_parts x))) (target_alone put_stays t) h
    outside (For head t) h = tt

    outside_all : (ts : Statements) → AllByRecursion P (assigned_by_all (unfold_statements names [] ts)) → AllByRecursion P (assigned_by_all ts)
    outside_all Done h = h
    outside_all (Then t ts) h =
        let p = parts P (assigned_by (unfold_statement names [] t)) (assigned_by_all (unfold_statements names [] ts)) h in
        both P (assigned_by t) (assigned_by_all ts) (outside t p.0) (outside_all ts p.1)

    outside_arm : (a : Arm) → AllByRecursion P (assigned_by_arm (unfold_arm names [] a)) → AllByRecursion P (assigned_by_arm a)
    outside_arm (CaseItem labels colon t) h = outside t h

    outside_arms : (arms : Arms) → AllByRecursion P (assigned_by_arms (unfold_arms names [] arms)) → AllByRecursion P (assigned_by_arms arms)
    outside_arms NoArms h = h
    outside_arms (MoreArms a rest) h =
        let p = parts P (assigned_by_arm (unfold_arm names [] a)) (assigned_by_arms (unfold_arms names [] rest)) h in
        both P (assigned_by_arm a) (assigned_by_arms rest) (outside_arm a p.0) (outside_arms rest p.1)

still_assigned : (names : Names) (t : Statement) (a : Assigned) → Contains (assigned_by t) a → Contains (assigned_by (unfold_statement names [] t)) a
still_assigned names t a c =
    let all : List Assigned = assigned_by (unfold_statement names [] t) in
    holds_of (λ (x : Assigned). Contains all x) (assigned_by t) a (outside names (λ (x : Assigned). Contains all x) t (by_element (λ (x : Assigned). Contains all x) all (λ x k. k))) c

still_stands : (s body : Statement) → IsUnfolded s body → (kind : SiteKind) → TargetStands s kind → TargetStands body kind
still_stands s body u (sites.Literal width signed) h = tt
still_stands s body u (sites.Guard owner extent names) h = tt
still_stands s body u (sites.Overwrite owner target width now names) h =
    subst (λ (b : Statement). IsTargetOf b target now) (sym u.1) (h.0, still_assigned u.0 s (record { part = Name h.0 target; now = now }) h.1)

pub all_still_stand : (ss : List Site) (s body : Statement) → IsUnfolded s body → All (λ x. is_overwrite_at (first_token s) x ≡ true → TargetStands s x.kind) ss
    → All (λ x. is_overwrite_at (first_token body) x ≡ true → TargetStands body x.kind) ss
all_still_stand ss s body u h =
    All-weaker (λ x. is_overwrite_at (first_token s) x ≡ true → TargetStands s x.kind) (λ x. is_overwrite_at (first_token body) x ≡ true → TargetStands body x.kind)
    (λ x k e. still_stands s body u x.kind (k (subst (λ (n : ℕ). is_overwrite_at n x ≡ true) (begins_same s body u) e))) ss h

-- A scalar names no loop of its module, since that is an integer

no_range : (id k : ℕ) (signed other : Bool) (range : ℕ × ℕ) → entity.Signal id (Some range) signed ≡ entity.Signal k None other → ⊥
no_range id k signed other range e = cc

pub scalar_is_free : (source : SourceText) (top : Option Text) (flat : Flat) → flat_of source top ≡ Ok flat → (i : ℕ) → i < length flat.scopes → (name : Text) → IsScalar (scope_at flat i) name
    → IsFree source.modules (owner_at flat i) name
scalar_is_free source top flat e i l name s = by (contains (loop_names (module_at source.modules (owner_at flat i))) name) refl
  where
    by : (b : Bool) → contains (loop_names (module_at source.modules (owner_at flat i))) name ≡ b → b ≡ false
    by true h = let v = loops_of_source source top flat e i l name h in absurd (no_range v.id s.0 v.signed s.1.0 (31, 0) (sym v.means ∙ s.1.1))
    by false h = refl
