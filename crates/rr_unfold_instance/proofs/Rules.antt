-- An instance keeps the rules on names of loops where it brings no such name.
use Rattle.std.proofs.Common.{◌≡◌, inl, inr, ℕ, ◌==◌, Bool, true, false, ◌&&◌, if◌then◌else◌, List, [], ◌∷◌, ◌++◌, refl, ap}
use Rattle.std.specs.List.{Contains}
use Rattle.rr_syntax.specs.declared.token.Number.{Number}
use Rattle.rr_syntax.specs.Tree.{Tree, Literal, Statement, Statements, Arm, Arms, Null, Block, If, IfElse, Case, Assign, For, Done, Then, CaseItem, NoArms, MoreArms}
use Rattle.rr_choice.specs.declared.pick.Pick.{Pick}
use Rattle.rr_choice.specs.Sites as sites
use Rattle.rr_choice.specs.Sites.{SiteKind, Site, guard_names}
use Rattle.rr_choice.specs.Choices.{picked_form, picked_name}
use Rattle.rr_choice.specs.Places.{is_overwrite_at}
use Rattle.rr_instance.specs.Instances.{fresh, unsigned_number, named, negated, gate, followed, overwritten, new_body, all_overwritten, instance_tree, instance_parts, instance_test, instance_statement, instance_statements, instance_arm, instance_arms}
use Rattle.rr_instance_laws.specs.Tests.{IsNameAt, IsGuardNameOf, IsGuardNameOfAll, IsGuardNameOfArm, IsGuardNameOfArms}
use Rattle.rr_instance_laws.proofs.Rounds.{picked_is_one}
use Rattle.rr_flat.specs.declared.fault.FlatFault.TheVariants.{BadLoop}
use Rattle.rr_flat.specs.Faults.{fault_if}
use Rattle.rr_loop_rules.specs.Rules.{LoopNames, contains, strays, part_strays, target_strays, head_faults, turn_faults, loop_faults, loops_faults, arm_loop_faults, arms_loop_faults}
use Rattle.rr_unfold_instance.specs.Laws.{IsFreeAim, AimsAreFree, StraysOfInstances, RulesOfInstances, LoopsOfInstances}
use Rattle.rr_unfold_instance.proofs.Empty.{nil_left, nil_right, nil_both}
use Rattle.rr_unfold_instance.proofs.Strays.{free_none, strays_stay, part_strays_stay, test_strays_stay}
use Rattle.rr_unfold_instance.proofs.LoopLists.{module_loops}

-- Statements

module _ (ss : List Site) (ps : List Pick) (names : LoopNames) where
  mutual
    unfolding loop_faults instance_statement IsGuardNameOf

    rules_stay : (t : Statement) (outer : LoopNames) → ((name : List ℕ) → IsGuardNameOf ss t name → contains names name ≡ false) → loop_faults names outer t ≡ [] → loop_faults names outer (instance_statement ss ps t) ≡ []
    rules_stay Null outer n h = refl
    rules_stay (Block label ts) outer n h = all_rules_stay ts outer n h
    rules_stay (If c t) outer n h =
        nil_both (strays names outer (instance_test ss ps c)) (loop_faults names outer (instance_statement ss ps t))
        (test_strays_stay ss ps names outer c (λ x k. n x (inl k)) (nil_left (strays names outer c) (loop_faults names outer t) h))
        (rules_stay t outer (λ x k. n x (inr k)) (nil_right (strays names outer c) (loop_faults names outer t) h))
    rules_stay (IfElse c t u) outer n h =
        let rest = nil_right (strays names outer c) (loop_faults names outer t ++ loop_faults names outer u) h in
        nil_both (strays names outer (instance_test ss ps c)) (loop_faults names outer (instance_statement ss ps t) ++ loop_faults names outer (instance_statement ss ps u))
        (test_strays_stay ss ps names outer c (λ x k. n x (inl k)) (nil_left (strays names outer c) (loop_faults names outer t ++ loop_faults names outer u) h))
        (nil_both (loop_faults names outer (instance_statement ss ps t)) (loop_faults names outer (instance_statement ss ps u))
        (rules_stay t outer (λ x k. n x (inr (inl k))) (nil_left (loop_faults names outer t) (loop_faults names outer u) rest))
        (rules_stay u outer (λ x k. n x (inr (inr k))) (nil_right (loop_faults names outer t) (loop_faults names outer u) rest)))
    rules_stay (Case kind on arms) outer n h =
        nil_both (strays names outer (instance_tree ss ps on)) (arms_loop_faults names outer (instance_arms ss ps arms))
        (strays_stay ss ps names outer on (λ x k. n x (inl k)) (nil_left (strays names outer on) (arms_loop_faults names outer arms) h))
        (arms_rules_stay arms outer (λ x k. n x (inr k)) (nil_right (strays names outer on) (arms_loop_faults names outer arms) h))
    rules_stay (Assign t now e) outer n h =
        nil_both (target_strays names outer t) (strays names outer (instance_tree ss ps e)) (nil_left (target_strays names outer t) (strays names outer e) h)
        (strays_stay ss ps names outer e n (nil_right (target_strays names outer t) (strays names outer e) h))
    rules_stay (For head t) outer n h =
        let inner : LoopNames = head.text ∷ outer in
        let rest = nil_right (head_faults names outer head) (turn_faults names outer head ++ loop_faults names inner t) h in
        nil_both (head_faults names outer head) (turn_faults names outer head ++ loop_faults names inner (instance_statement ss ps t))
        (nil_left (head_faults names outer head) (turn_faults names outer head ++ loop_faults names inner t) h)
        (nil_both (turn_faults names outer head) (loop_faults names inner (instance_statement ss ps t))
        (nil_left (turn_faults names outer head) (loop_faults names inner t) rest)
        (rules_stay t inner n (nil_right (turn_faults names outer head) (loop_faults names inner t) rest)))

    all_rules_stay : (ts : Statements) (outer : LoopNames) → ((name : List ℕ) → IsGuardNameOfAll ss ts name → contains names name ≡ false) → loops_faults names outer ts ≡ [] → loops_faults names outer (instance_statements ss ps ts) ≡ []
    all_rules_stay Done outer n h = refl
    all_rules_stay (Then t ts) outer n h =
        nil_both (loop_faults names outer (instance_statement ss ps t)) (loops_faults names outer (instance_statements ss ps ts))
        (rules_stay t outer (λ x k. n x (inl k)) (nil_left (loop_faults names outer t) (loops_faults names outer ts) h))
        (all_rules_stay ts outer (λ x k. n x (inr k)) (nil_right (loop_faults names outer t) (loops_faults names outer ts) h))

    arm_rules_stay : (a : Arm) (outer : LoopNames) → ((name : List ℕ) → IsGuardNameOfArm ss a name → contains names name ≡ false) → arm_loop_faults names outer a ≡ [] → arm_loop_faults names outer (instance_arm ss ps a) ≡ []
    arm_rules_stay (CaseItem labels colon t) outer n h =
        nil_both (part_strays names outer (instance_parts ss ps labels)) (loop_faults names outer (instance_statement ss ps t))
        (part_strays_stay ss ps names outer labels (λ x k. n x (inl k)) (nil_left (part_strays names outer labels) (loop_faults names outer t) h))
        (rules_stay t outer (λ x k. n x (inr k)) (nil_right (part_strays names outer labels) (loop_faults names outer t) h))

    arms_rules_stay : (arms : Arms) (outer : LoopNames) → ((name : List ℕ) → IsGuardNameOfArms ss arms name → contains names name ≡ false) → arms_loop_faults names outer arms ≡ [] → arms_loop_faults names outer (instance_arms ss ps arms) ≡ []
    arms_rules_stay NoArms outer n h = refl
    arms_rules_stay (MoreArms a rest) outer n h =
        nil_both (arm_loop_faults names outer (instance_arm ss ps a)) (arms_loop_faults names outer (instance_arms ss ps rest))
        (arm_rules_stay a outer (λ x k. n x (inl k)) (nil_left (arm_loop_faults names outer a) (arms_loop_faults names outer rest) h))
        (arms_rules_stay rest outer (λ x k. n x (inr k)) (nil_right (arm_loop_faults names outer a) (arms_loop_faults names outer rest) h))

-- Last assignments

module _ (names outer : LoopNames) where
  gate_none : (k : ℕ) (name : List ℕ) → ((k == 0) ≡ false → contains names name ≡ false) → strays names outer (gate k name) ≡ []
  unfolding strays
  gate_none k name h = by_form (k == 0) (k == 1) h
    where
      by_form : (a b : Bool) → (a ≡ false → contains names name ≡ false) → strays names outer (if a then Literal fresh (unsigned_number 1 1) else if b then named name else negated (named name)) ≡ []
      by_form true b h = refl
      by_form false true h = free_none names outer name (h refl)
      by_form false false h = free_none names outer name (h refl)

  aim_none : (target : List ℕ) → contains names target ≡ false → target_strays names outer (named target) ≡ []
  unfolding target_strays
  aim_none target e = ap (λ (b : Bool). fault_if b (BadLoop fresh)) e

  value_none : (n : Number) → strays names outer (Literal fresh n) ≡ []
  unfolding strays
  value_none n = refl

  followed_rules : (test : Tree) (target : List ℕ) (now : Bool) (n : Number) (body : Statement) → strays names outer test ≡ [] → contains names target ≡ false → loop_faults names outer body ≡ []
      → loop_faults names outer (followed test target now n body) ≡ []
  unfolding loop_faults
  followed_rules test target now n body t a h =
      nil_both _ _ h (nil_both _ _ (nil_both _ _ t (nil_both _ _ (aim_none target a) (value_none n))) refl)

  overwritten_rules : (k : SiteKind) (p : Pick) (body : Statement) → ((name : List ℕ) → Contains (guard_names k) name → contains names name ≡ false) → IsFreeAim names k
      → loop_faults names outer body ≡ [] → loop_faults names outer (overwritten k p body) ≡ []
  overwritten_rules (sites.Literal width signed) p body n a h = h
  overwritten_rules (sites.Guard owner extent list) p body n a h = h
  overwritten_rules (sites.Overwrite owner target width now list) p body n a h =
      followed_rules (gate (picked_form list p.form) (picked_name list p.name)) target now (unsigned_number width p.value) body
      (gate_none (picked_form list p.form) (picked_name list p.name) (λ e. n (picked_name list p.name) (picked_is_one list p.form p.name e))) a h

  new_body_rules : (token : ℕ) (s : Site) (p : Pick) (body : Statement) → (is_overwrite_at token s ≡ true → (name : List ℕ) → Contains (guard_names s.kind) name → contains names name ≡ false)
      → (is_overwrite_at token s ≡ true → IsFreeAim names s.kind) → loop_faults names outer body ≡ [] → loop_faults names outer (new_body token s p body) ≡ []
  new_body_rules token s p body n a h = by_test (is_overwrite_at token s) p.on n a
    where
      by_test : (b on : Bool) → (b ≡ true → (name : List ℕ) → Contains (guard_names s.kind) name → contains names name ≡ false) → (b ≡ true → IsFreeAim names s.kind)
          → loop_faults names outer (if b && on then overwritten s.kind p body else body) ≡ []
      by_test true true n a = overwritten_rules s.kind p body (n refl) (a refl) h
      by_test true false n a = h
      by_test false on n a = h

  overwritten_stay : (token : ℕ) (ss : List Site) (ps : List Pick) (body : Statement) → ((name : List ℕ) → IsNameAt ss (is_overwrite_at token) name → contains names name ≡ false) → AimsAreFree ss names token
      → loop_faults names outer body ≡ [] → loop_faults names outer (all_overwritten token ss ps body) ≡ []
  unfolding all_overwritten IsNameAt
  overwritten_stay token [] ps body n a h = h
  overwritten_stay token (s ∷ ss) [] body n a h = h
  overwritten_stay token (s ∷ ss) (p ∷ ps) body n a h =
      overwritten_stay token ss ps (new_body token s p body) (λ x k. n x (inr k)) a.1 (new_body_rules token s p body (λ e x k. n x (inl (e, k))) a.0 h)

-- The laws

pub instance_strays : StraysOfInstances
instance_strays ss ps names t n h = strays_stay ss ps names [] t n h

pub instance_rules : RulesOfInstances
instance_rules ss ps names token body n a h =
    overwritten_stay names [] token ss ps (instance_statement ss ps body) (λ x k. n x (inl k)) a (rules_stay ss ps names body [] (λ x k. n x (inr k)) h)

pub instance_loops : LoopsOfInstances
instance_loops ss ps m = module_loops ss ps m

pub ruleset rule_laws = (instance_strays, instance_rules, instance_loops)
