-- No fault comes into an expression or a statement.
use Rattle.std.proofs.Common.{◌≡◌, sym, subst, inl, inr, ℕ, ◌==◌, Bool, true, false, ◌&&◌, if◌then◌else◌, List, [], ◌∷◌, ◌++◌, Option, Some, None, Ok, refl, fold}
use Rattle.std.specs.List.{Contains}
use Rattle.std.proofs.lemmas.Bool.{both_ways}
use Rattle.rr_syntax.specs.Tree.{Tree, Trees, End, More, Statement, Statements, Arm, Arms, Null, Block, If, IfElse, Case, Assign, For, Done, Then, CaseItem, NoArms, MoreArms, Literal}
use Rattle.rr_expr.specs.declared.types.ExprFault.{ExprFault}
use Rattle.rr_expr.specs.declared.types.Entity.{Entity}
use Rattle.rr_expr.specs.declared.types.Entity.TheVariants as entity
use Rattle.rr_expr.specs.declared.types.Shape.{Shape}
use Rattle.rr_expr.specs.Faults.{fault, is_width, name_fault}
use Rattle.rr_expr.specs.Scopes.{Names, meant, entity_shape}
use Rattle.rr_expr.specs.Values.{form}
use Rattle.rr_flat.specs.declared.fault.FlatFault.{FlatFault}
use Rattle.rr_flat.specs.Faults.{sooner, fault_or, first_of, first_fault_or, answer_of, faults_in}
use Rattle.rr_flat.specs.Targets.{is_memory}
use Rattle.rr_flat.specs.Shapes.{shape, shape_faults, list_faults, statement_faults, statements_faults, arm_faults, arms_faults}
use Rattle.rr_choice.specs.declared.pick.Pick.{Pick}
use Rattle.rr_choice.specs.Sites as sites
use Rattle.rr_choice.specs.Sites.{SiteKind, Site, guard_names}
use Rattle.rr_choice.specs.Choices.{picked_form, picked_name}
use Rattle.rr_choice.specs.Places.{is_overwrite_at}
use Rattle.rr_instance.specs.Instances.{fresh, named, negated, instance_tree, instance_parts, instance_test, instance_statement, instance_statements, instance_arm, instance_arms, gate, followed, overwritten, new_body, all_overwritten, instance_body, unsigned_number}
use Rattle.rr_instance_laws.specs.Tests.{IsNameAt, IsGuardName, IsGuardNameIn, IsTestName, IsGuardNameOf, IsGuardNameOfAll, IsGuardNameOfArm, IsGuardNameOfArms, IsBodyName}
use Rattle.rr_instance_laws.specs.Truth.{IsScalar}
use Rattle.rr_instance_laws.proofs.FormLaws.{no_faults_by_scalars, no_faults_in_tests}
use Rattle.rr_instance_laws.proofs.Rounds.{picked_is_one}
use Rattle.rr_token_numbers.proofs.Folds.{some_stays}
use Rattle.rr_loop_rules.specs.Rules.{LoopNames, contains, strays}
use Rattle.rr_flatten.specs.Walk.{expression_faults}
use Rattle.rr_unfold_instance.specs.Laws.{IsFreeAim, AimsAreFree}
use Rattle.rr_unfold_instance.proofs.Rules.{instance_strays}
use Rattle.rr_flat_instance.specs.Places.{HasWidth, IsAim, IsAimAt}

-- lists without elements

nil_parts : {X : Type 0} (xs ys : List X) → xs ++ ys ≡ [] → (xs ≡ []) × (ys ≡ [])
nil_parts [] ys e = (refl, e)
nil_parts (x ∷ xs) ys e = absurd (cc)

pub nil_left : {X : Type 0} (xs ys : List X) → xs ++ ys ≡ [] → xs ≡ []
nil_left xs ys e = (nil_parts xs ys e).0

pub nil_right : {X : Type 0} (xs ys : List X) → xs ++ ys ≡ [] → ys ≡ []
nil_right xs ys e = (nil_parts xs ys e).1

pub nil_both : {X : Type 0} (xs ys : List X) → xs ≡ [] → ys ≡ [] → xs ++ ys ≡ []
nil_both xs ys e h = rw (e, h) refl

pub record Unfound (found : Option FlatFault) (faults : List FlatFault) : Type 0 where
  pub before : found ≡ None
  pub more : faults ≡ []

pub unfound : (found : Option FlatFault) (faults : List FlatFault) → fold sooner found faults ≡ None → Unfound found faults
unfolding sooner
unfound None [] e = record { before = refl; more = refl }
unfound None (f ∷ fs) e = let s = (some_stays f fs).1 in absurd (cc)
unfound (Some f) fs e = let s = (some_stays f fs).1 in absurd (cc)

-- an item that gives what it gives has no fault

pub record Settled {A : Type 0} (faults : List FlatFault) (a b : A) : Type 0 where
  pub none : faults ≡ []
  pub is : a ≡ b

pub settled : {A : Type 0} (faults : List FlatFault) (a b : A) → first_fault_or faults a ≡ Ok b → Settled faults a b
settled faults a b e = go (first_of faults) refl e
  where
    go : (o : Option FlatFault) → first_of faults ≡ o → fault_or o a ≡ Ok b → Settled faults a b
    go None q h = record { none = (unfound None faults q).more; is = cc }
    go (Some f) q h = absurd (cc)

pub settle_none : {A : Type 0} (faults : List FlatFault) (a : A) → faults ≡ [] → first_fault_or faults a ≡ Ok a
settle_none faults a e = rw e refl

-- expressions

no_faults : (o : Option ExprFault) (r : Shape) → faults_in (answer_of o r) ≡ [] → o ≡ None
no_faults None r e = refl
no_faults (Some f) r e = absurd (cc)

fault_none : (names : Names) (t : Tree) → shape_faults names t ≡ [] → fault names t false ≡ None
unfolding shape
fault_none names t e = no_faults (fault names t false) (form names t) e

shape_none : (names : Names) (t : Tree) → fault names t false ≡ None → shape_faults names t ≡ []
unfolding shape
shape_none names t e = rw e refl

-- a name of a width
aim_none : (names : Names) (target : List ℕ) (w : ℕ) → HasWidth names target w → fault names (named target) false ≡ None
unfolding fault
aim_none names target w h = by_entity (meant names target) h.shape h.single
  where
    by_entity : (e : Entity) → (entity_shape e).width ≡ w → is_memory e ≡ false → name_fault false fresh e ≡ None
    by_entity (entity.Constant bits signed) q m = rw (q, h.width) refl
    by_entity (entity.Signal id range signed) q m = rw (q, h.width) refl
    by_entity (entity.Memory first low words range signed) q m = absurd (both_ways true m refl)
    by_entity entity.Instance q m = let bad : false ≡ true = subst (λ (k : ℕ). is_width k ≡ true) (sym q) h.width in absurd (cc)

literal_none : (names : Names) (w value : ℕ) → is_width w ≡ true → fault names (Literal fresh (unsigned_number w value)) false ≡ None
unfolding fault
literal_none names w value h = rw h refl

scalar_none : (names : Names) (name : List ℕ) → IsScalar names name → fault names (named name) false ≡ None
unfolding fault
scalar_none names name h = rw h.1.1 refl

gate_none : (names : Names) (k : ℕ) (name : List ℕ) → ((k == 0) ≡ false → IsScalar names name) → fault names (gate k name) false ≡ None
unfolding fault
gate_none names k name h = by_form (k == 0) (k == 1) h
  where
    by_form : (a b : Bool) → (a ≡ false → IsScalar names name) →
        fault names (if a then Literal fresh (unsigned_number 1 1) else if b then named name else negated (named name)) false ≡ None
    by_form true b h = literal_none names 1 1 refl
    by_form false true h = scalar_none names name (h refl)
    by_form false false h = scalar_none names name (h refl)

module _ (ss : List Site) (ps : List Pick) (names : Names) where
  pub tree_stays : (t : Tree) → ((name : List ℕ) → IsGuardName ss t name → IsScalar names name) → shape_faults names t ≡ [] → shape_faults names (instance_tree ss ps t) ≡ []
  tree_stays t n h = shape_none names (instance_tree ss ps t) (no_faults_by_scalars ss ps names t n (fault_none names t h))

  -- and no name of a loop
  pub expression_stays : (loops : LoopNames) (t : Tree) → ((name : List ℕ) → IsGuardName ss t name → IsScalar names name) → ((name : List ℕ) → IsGuardName ss t name → contains loops name ≡ false)
      → expression_faults loops names t ≡ [] → expression_faults loops names (instance_tree ss ps t) ≡ []
  expression_stays loops t n f h =
      nil_both (strays loops [] (instance_tree ss ps t)) (shape_faults names (instance_tree ss ps t))
      (instance_strays ss ps loops t f (nil_left (strays loops [] t) (shape_faults names t) h)) (tree_stays t n (nil_right (strays loops [] t) (shape_faults names t) h))

  test_stays : (t : Tree) → ((name : List ℕ) → IsTestName ss t name → IsScalar names name) → shape_faults names t ≡ [] → shape_faults names (instance_test ss ps t) ≡ []
  test_stays t n h = shape_none names (instance_test ss ps t) (no_faults_in_tests ss ps names t n (fault_none names t h))

  list_stays : (ts : Trees) → ((name : List ℕ) → IsGuardNameIn ss ts name → IsScalar names name) → list_faults names ts ≡ [] → list_faults names (instance_parts ss ps ts) ≡ []
  unfolding list_faults instance_tree IsGuardName
  list_stays End n h = refl
  list_stays (More t ts) n h =
      nil_both _ _ (tree_stays t (λ x k. n x (inl k)) (nil_left (shape_faults names t) (list_faults names ts) h))
      (list_stays ts (λ x k. n x (inr k)) (nil_right (shape_faults names t) (list_faults names ts) h))

  mutual
    unfolding statement_faults instance_statement IsGuardNameOf

    statement_stays : (t : Statement) → ((name : List ℕ) → IsGuardNameOf ss t name → IsScalar names name) → statement_faults names t ≡ [] → statement_faults names (instance_statement ss ps t) ≡ []
    statement_stays Null n h = refl
    statement_stays (Block label ts) n h = statements_stay ts n h
    statement_stays (If c t) n h =
        nil_both _ _ (test_stays c (λ x k. n x (inl k)) (nil_left (shape_faults names c) (statement_faults names t) h))
        (statement_stays t (λ x k. n x (inr k)) (nil_right (shape_faults names c) (statement_faults names t) h))
    statement_stays (IfElse c t u) n h =
        let r : statement_faults names t ++ statement_faults names u ≡ [] = nil_right (shape_faults names c) (statement_faults names t ++ statement_faults names u) h in
        nil_both _ _ (test_stays c (λ x k. n x (inl k)) (nil_left (shape_faults names c) (statement_faults names t ++ statement_faults names u) h))
        (nil_both _ _ (statement_stays t (λ x k. n x (inr (inl k))) (nil_left (statement_faults names t) (statement_faults names u) r))
        (statement_stays u (λ x k. n x (inr (inr k))) (nil_right (statement_faults names t) (statement_faults names u) r)))
    statement_stays (Case kind on arms) n h =
        nil_both _ _ (tree_stays on (λ x k. n x (inl k)) (nil_left (shape_faults names on) (arms_faults names arms) h))
        (arms_stay arms (λ x k. n x (inr k)) (nil_right (shape_faults names on) (arms_faults names arms) h))
    statement_stays (Assign t now e) n h =
        nil_both _ _ (nil_left (shape_faults names t) (shape_faults names e) h) (tree_stays e n (nil_right (shape_faults names t) (shape_faults names e) h))
    statement_stays (For head t) n h = refl

    statements_stay : (ts : Statements) → ((name : List ℕ) → IsGuardNameOfAll ss ts name → IsScalar names name) → statements_faults names ts ≡ [] → statements_faults names (instance_statements ss ps ts) ≡ []
    statements_stay Done n h = refl
    statements_stay (Then t ts) n h =
        nil_both _ _ (statement_stays t (λ x k. n x (inl k)) (nil_left (statement_faults names t) (statements_faults names ts) h))
        (statements_stay ts (λ x k. n x (inr k)) (nil_right (statement_faults names t) (statements_faults names ts) h))

    arm_stays : (a : Arm) → ((name : List ℕ) → IsGuardNameOfArm ss a name → IsScalar names name) → arm_faults names a ≡ [] → arm_faults names (instance_arm ss ps a) ≡ []
    arm_stays (CaseItem labels colon t) n h =
        nil_both _ _ (list_stays labels (λ x k. n x (inl k)) (nil_left (list_faults names labels) (statement_faults names t) h))
        (statement_stays t (λ x k. n x (inr k)) (nil_right (list_faults names labels) (statement_faults names t) h))

    arms_stay : (arms : Arms) → ((name : List ℕ) → IsGuardNameOfArms ss arms name → IsScalar names name) → arms_faults names arms ≡ [] → arms_faults names (instance_arms ss ps arms) ≡ []
    arms_stay NoArms n h = refl
    arms_stay (MoreArms a rest) n h =
        nil_both _ _ (arm_stays a (λ x k. n x (inl k)) (nil_left (arm_faults names a) (arms_faults names rest) h))
        (arms_stay rest (λ x k. n x (inr k)) (nil_right (arm_faults names a) (arms_faults names rest) h))

-- last assignments

module _ (names : Names) where
  followed_stays : (test : Tree) (target : List ℕ) (now : Bool) (w value : ℕ) (body : Statement) → fault names test false ≡ None → HasWidth names target w
      → statement_faults names body ≡ [] → statement_faults names (followed test target now (unsigned_number w value) body) ≡ []
  unfolding statement_faults
  followed_stays test target now w value body t a h =
      nil_both _ _ h (nil_both _ _ (nil_both _ _ (shape_none names test t)
      (nil_both _ _ (shape_none names (named target) (aim_none names target w a)) (shape_none names (Literal fresh (unsigned_number w value)) (literal_none names w value a.width)))) refl)

  overwritten_stays : (k : SiteKind) (p : Pick) (body : Statement) → ((name : List ℕ) → Contains (guard_names k) name → IsScalar names name)
      → ((target : List ℕ) (w : ℕ) → IsAim k target w → HasWidth names target w) → statement_faults names body ≡ [] → statement_faults names (overwritten k p body) ≡ []
  overwritten_stays (sites.Literal width signed) p body n a h = h
  overwritten_stays (sites.Guard owner extent list) p body n a h = h
  overwritten_stays (sites.Overwrite owner target width now list) p body n a h =
      followed_stays (gate (picked_form list p.form) (picked_name list p.name)) target now width p.value body
      (gate_none names (picked_form list p.form) (picked_name list p.name) (λ e. n (picked_name list p.name) (picked_is_one list p.form p.name e)))
      (a target width (refl, refl)) h

  new_body_stays : (token : ℕ) (s : Site) (p : Pick) (body : Statement) → (is_overwrite_at token s ≡ true → (name : List ℕ) → Contains (guard_names s.kind) name → IsScalar names name)
      → (is_overwrite_at token s ≡ true → (target : List ℕ) (w : ℕ) → IsAim s.kind target w → HasWidth names target w) → statement_faults names body ≡ [] → statement_faults names (new_body token s p body) ≡ []
  new_body_stays token s p body n a h = by_test (is_overwrite_at token s) p.on n a
    where
      by_test : (b on : Bool) → (b ≡ true → (name : List ℕ) → Contains (guard_names s.kind) name → IsScalar names name)
          → (b ≡ true → (target : List ℕ) (w : ℕ) → IsAim s.kind target w → HasWidth names target w)
          → statement_faults names (if b && on then overwritten s.kind p body else body) ≡ []
      by_test true true n a = overwritten_stays s.kind p body (n refl) (a refl) h
      by_test true false n a = h
      by_test false on n a = h

  all_overwritten_stays : (token : ℕ) (ss : List Site) (ps : List Pick) (body : Statement) → ((name : List ℕ) → IsNameAt ss (is_overwrite_at token) name → IsScalar names name)
      → ((target : List ℕ) (w : ℕ) → IsAimAt ss token target w → HasWidth names target w) → statement_faults names body ≡ [] → statement_faults names (all_overwritten token ss ps body) ≡ []
  unfolding all_overwritten IsNameAt IsAimAt
  all_overwritten_stays token [] ps body n a h = h
  all_overwritten_stays token (s ∷ ss) [] body n a h = h
  all_overwritten_stays token (s ∷ ss) (p ∷ ps) body n a h =
      all_overwritten_stays token ss ps (new_body token s p body) (λ x k. n x (inr k)) (λ x w k. a x w (inr k))
      (new_body_stays token s p body (λ e x k. n x (inl (e, k))) (λ e x w k. a x w (inl (e, k))) h)

-- what they assign is no name of a loop

aim_free : (names : LoopNames) (k : SiteKind) → ((target : List ℕ) (w : ℕ) → IsAim k target w → contains names target ≡ false) → IsFreeAim names k
aim_free names (sites.Literal width signed) h = tt
aim_free names (sites.Guard owner extent list) h = tt
aim_free names (sites.Overwrite owner target width now list) h = h target width (refl, refl)

pub aims_free : (names : LoopNames) (token : ℕ) (ss : List Site) → ((target : List ℕ) (w : ℕ) → IsAimAt ss token target w → contains names target ≡ false) → AimsAreFree ss names token
unfolding IsAimAt
aims_free names token [] h = tt
aims_free names token (s ∷ ss) h = ((λ e. aim_free names s.kind (λ t w a. h t w (inl (e, a)))), aims_free names token ss (λ t w a. h t w (inr a)))

pub body_stays : (ss : List Site) (ps : List Pick) (names : Names) (token : ℕ) (body : Statement) → ((name : List ℕ) → IsBodyName ss token body name → IsScalar names name)
    → ((target : List ℕ) (w : ℕ) → IsAimAt ss token target w → HasWidth names target w) → statement_faults names body ≡ [] → statement_faults names (instance_body ss ps token body) ≡ []
body_stays ss ps names token body n a h =
    all_overwritten_stays names token ss ps (instance_statement ss ps body) (λ x k. n x (inl k)) a (statement_stays ss ps names body (λ x k. n x (inr k)) h)
