-- A statement in which a choice is made unfolds to the unfolded statement in which it is made: the values of a loop's name come
-- from its head alone, in which nothing is changed.
use Rattle.std.proofs.Common.{◌≡◌, inl, inr, ℕ, true, false, not, List, [], ◌∷◌, ◌++◌, Some, refl, ap, ap₂}
use Rattle.rr_syntax.specs.Tree.{Trees, LoopHead, Statement, Statements, Arm, Arms, Null, Block, If, IfElse, Case, Assign, For, Done, Then, CaseItem, NoArms, MoreArms}
use Rattle.rr_expr.specs.Scopes.{Names}
use Rattle.rr_choice.specs.declared.pick.Pick.{Pick}
use Rattle.rr_choice.specs.Sites.{Site}
use Rattle.rr_instance.specs.Instances.{instance_statement, instance_statements, instance_arm, instance_arms}
use Rattle.rr_instance_laws.specs.Tests.{IsGuardNameOf, IsGuardNameOfAll, IsGuardNameOfArm, IsGuardNameOfArms}
use Rattle.rr_flat.specs.declared.fault.FlatFault.TheVariants.{BadLoop}
use Rattle.rr_flat.specs.Faults.{fault_if}
use Rattle.rr_loop_names.specs.Turns.{Turn, put_target}
use Rattle.rr_loop_rules.specs.Rules.{LoopNames, contains, strays, part_strays, head_faults, turn_faults, loop_faults, loops_faults, arm_loop_faults, arms_loop_faults}
use Rattle.rr_unfold.specs.Unfold.{inside, values_of, each_turn, unfold_statement, unfold_statements, unfold_arm, unfold_arms}
use Rattle.rr_unfold_instance.specs.Apart.{NamesStayOf, NamesStayOfAll, NamesStayOfArm, NamesStayOfArms}
use Rattle.rr_unfold_instance.proofs.Empty.{nil_left, nil_right, unless_faulty}
use Rattle.rr_unfold_instance.proofs.Trees.{AreNames, free_of_turn, three, put_instance, put_instance_parts, put_instance_test}

-- the name of a head without a fault is one of the names
named_loop : (names outer : LoopNames) (h : LoopHead) → head_faults names outer h ≡ [] → contains names h.text ≡ true
unfolding head_faults
named_loop names outer h e =
    unless_faulty (contains names h.text) (BadLoop h.token)
    (nil_left (fault_if (not (contains names h.text)) (BadLoop h.token)) (fault_if (contains outer h.text) (BadLoop h.token) ++ strays names outer h.start) e)

each_instance : (ss : List Site) (ps : List Pick) (f g : ℕ → Statement) → ((v : ℕ) → f v ≡ instance_statement ss ps (g v)) → (vs : List ℕ) → each_turn f vs ≡ instance_statements ss ps (each_turn g vs)
unfolding each_turn instance_statement
each_instance ss ps f g h [] = refl
each_instance ss ps f g h (v ∷ vs) = ap₂ Then (h v) (each_instance ss ps f g h vs)

module _ (ss : List Site) (ps : List Pick) (names : LoopNames) (s : Names) where
  mutual
    unfolding instance_statement unfold_statement NamesStayOf IsGuardNameOf loop_faults

    pub statement_unfolds : (turn : Turn) (outer : LoopNames) (t : Statement) → AreNames names turn → NamesStayOf ss t → ((name : List ℕ) → IsGuardNameOf ss t name → contains names name ≡ false)
        → loop_faults names outer t ≡ [] → unfold_statement s turn (instance_statement ss ps t) ≡ instance_statement ss ps (unfold_statement s turn t)
    statement_unfolds turn outer Null a h n f = refl
    statement_unfolds turn outer (Block label ts) a h n f = ap (Block label) (statements_unfold turn outer ts a h n f)
    statement_unfolds turn outer (If c t) a h n f =
        ap₂ If (put_instance_test ss ps turn c h.0 (λ x k. free_of_turn names turn x a (n x (inl k))))
        (statement_unfolds turn outer t a h.1 (λ x k. n x (inr k)) (nil_right (strays names outer c) (loop_faults names outer t) f))
    statement_unfolds turn outer (IfElse c t u) a h n f =
        let g = nil_right (strays names outer c) (loop_faults names outer t ++ loop_faults names outer u) f in
        three IfElse (put_instance_test ss ps turn c h.0 (λ x k. free_of_turn names turn x a (n x (inl k))))
        (statement_unfolds turn outer t a h.1 (λ x k. n x (inr (inl k))) (nil_left (loop_faults names outer t) (loop_faults names outer u) g))
        (statement_unfolds turn outer u a h.2 (λ x k. n x (inr (inr k))) (nil_right (loop_faults names outer t) (loop_faults names outer u) g))
    statement_unfolds turn outer (Case kind on arms) a h n f =
        ap₂ (Case kind) (put_instance ss ps turn on h.0 (λ x k. free_of_turn names turn x a (n x (inl k))))
        (arms_unfold turn outer arms a h.1 (λ x k. n x (inr k)) (nil_right (strays names outer on) (arms_loop_faults names outer arms) f))
    statement_unfolds turn outer (Assign t now e) a h n f = ap (Assign (put_target turn t) now) (put_instance ss ps turn e h (λ x k. free_of_turn names turn x a (n x k)))
    statement_unfolds turn outer (For head t) a h n f =
        let known = named_loop names outer head (nil_left (head_faults names outer head) (turn_faults names outer head ++ loop_faults names (head.text ∷ outer) t) f) in
        let rest = nil_right (head_faults names outer head) (turn_faults names outer head ++ loop_faults names (head.text ∷ outer) t) f in
        let body = nil_right (turn_faults names outer head) (loop_faults names (head.text ∷ outer) t) rest in
        ap (Block (Some (record { token = head.token; text = head.text })))
        (each_instance ss ps (λ v. unfold_statement s (inside head turn v) (instance_statement ss ps t)) (λ v. unfold_statement s (inside head turn v) t)
        (λ v. statement_unfolds (inside head turn v) (head.text ∷ outer) t (known, a) h n body) (values_of s turn head))

    statements_unfold : (turn : Turn) (outer : LoopNames) (ts : Statements) → AreNames names turn → NamesStayOfAll ss ts → ((name : List ℕ) → IsGuardNameOfAll ss ts name → contains names name ≡ false)
        → loops_faults names outer ts ≡ [] → unfold_statements s turn (instance_statements ss ps ts) ≡ instance_statements ss ps (unfold_statements s turn ts)
    statements_unfold turn outer Done a h n f = refl
    statements_unfold turn outer (Then t ts) a h n f =
        ap₂ Then (statement_unfolds turn outer t a h.0 (λ x k. n x (inl k)) (nil_left (loop_faults names outer t) (loops_faults names outer ts) f))
        (statements_unfold turn outer ts a h.1 (λ x k. n x (inr k)) (nil_right (loop_faults names outer t) (loops_faults names outer ts) f))

    arm_unfolds : (turn : Turn) (outer : LoopNames) (arm : Arm) → AreNames names turn → NamesStayOfArm ss arm → ((name : List ℕ) → IsGuardNameOfArm ss arm name → contains names name ≡ false)
        → arm_loop_faults names outer arm ≡ [] → unfold_arm s turn (instance_arm ss ps arm) ≡ instance_arm ss ps (unfold_arm s turn arm)
    arm_unfolds turn outer (CaseItem labels colon t) a h n f =
        ap₂ (λ (list : Trees) (u : Statement). CaseItem list colon u) (put_instance_parts ss ps turn labels h.0 (λ x k. free_of_turn names turn x a (n x (inl k))))
        (statement_unfolds turn outer t a h.1 (λ x k. n x (inr k)) (nil_right (part_strays names outer labels) (loop_faults names outer t) f))

    arms_unfold : (turn : Turn) (outer : LoopNames) (arms : Arms) → AreNames names turn → NamesStayOfArms ss arms → ((name : List ℕ) → IsGuardNameOfArms ss arms name → contains names name ≡ false)
        → arms_loop_faults names outer arms ≡ [] → unfold_arms s turn (instance_arms ss ps arms) ≡ instance_arms ss ps (unfold_arms s turn arms)
    arms_unfold turn outer NoArms a h n f = refl
    arms_unfold turn outer (MoreArms arm rest) a h n f =
        ap₂ MoreArms (arm_unfolds turn outer arm a h.0 (λ x k. n x (inl k)) (nil_left (arm_loop_faults names outer arm) (arms_loop_faults names outer rest) f))
        (arms_unfold turn outer rest a h.1 (λ x k. n x (inr k)) (nil_right (arm_loop_faults names outer arm) (arms_loop_faults names outer rest) f))
