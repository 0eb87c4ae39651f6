-- Each expression of a mended body has a shape where those of the body have theirs and each name that is cleared has one, and no name of a
-- loop stands outside its loops.
use Rattle.std.proofs.Common.{◌≡◌, ◌∙◌, sym, ap, ℕ, Bool, true, false, List, [], ◌∷◌, ◌++◌, map, Option, Some, None, refl, if◌then◌else◌, not}
use Rattle.std.specs.List.{AllByRecursion, filter}
use Rattle.std.specs.Str.{bytes_eq}
use Rattle.rr_lex.specs.Numbers.{plain_literal}
use Rattle.rr_syntax.specs.Tree.{Tree, Trees, Name, Literal, Bit, Part, Indexed, Concat, End, More, LoopHead, Statement, Statements, Arm, Arms, Null, Block, If, IfElse, Case, Assign, For, Done, Then, CaseItem, NoArms, MoreArms, SourceText}
use Rattle.rr_expr.specs.Faults.{fault}
use Rattle.rr_expr.specs.Scopes.{Names}
use Rattle.rr_flat.specs.declared.fault.FlatFault.{FlatFault}
use Rattle.rr_flat.specs.declared.fault.FlatFault.TheVariants.{BadLoop}
use Rattle.rr_flat.specs.Faults.{fault_if}
use Rattle.rr_flat.specs.Plain.{Flat}
use Rattle.rr_flat.specs.Reads.{Assigned, assigned_parts}
use Rattle.rr_flat.specs.Shapes.{shape, shape_faults, list_faults, statement_faults, statements_faults, arm_faults, arms_faults}
use Rattle.rr_flat.specs.Targets.{part_name, target_parts, targets_parts}
use Rattle.rr_loop_rules.specs.Rules.{LoopNames, contains, strays, part_strays, target_strays, targets_strays, head_faults, turn_faults, loop_faults, loops_faults, arm_loop_faults, arms_loop_faults}
use Rattle.rr_unfold.specs.Unfold.{unfold_statement}
use Rattle.rr_instance.specs.Instances.{fresh}
use Rattle.rr_latch.specs.Immediate.{immediate, immediate_all, immediate_arm, immediate_arms}
use Rattle.rr_flatten.proofs.HeadOf.{all_append}
use Rattle.rr_flat_instance.proofs.Shapes.{nil_both, nil_left, nil_right}
use Rattle.rr_body_laws.specs.Bodies.{Bodies, KeepsBody, KeepsBodies}
use Rattle.rr_lint_laws.specs.Ever.{ever_assigned, ever_assigned_all, ever_assigned_arm, ever_assigned_arms, ever_names}
use Rattle.rr_lint_laws.specs.Mended.{Marks, all_cleared, cleared_by, each_once, mended_body, with_defaults}
use Rattle.rr_lint_laws.proofs.Unfolds.{counted_immediate, counted_mended, immediate_loops, mended_loops, unfold_immediate, unfold_mended}

-- a name that may stand alone as an expression
abbrev pub HasShape : Names → List ℕ → Type 0
HasShape names name = fault names (Name fresh name) false ≡ None

-- a part of a list keeps what holds of each element

filter_keeps : {X : Type 0} (P : X → Type 0) (test : X → Bool) (xs : List X) → AllByRecursion P xs → AllByRecursion P (filter test xs)
filter_keeps P test [] h = tt
filter_keeps {X} P test (x ∷ xs) h = by_test (test x) (filter_keeps P test xs h.1)
  where
    by_test : (b : Bool) → AllByRecursion P (filter test xs) → AllByRecursion P (if b then x ∷ filter test xs else filter test xs)
    by_test true r = (h.0, r)
    by_test false r = r

once_keeps : (P : List ℕ → Type 0) (xs : List (List ℕ)) → AllByRecursion P xs → AllByRecursion P (each_once xs)
unfolding each_once
once_keeps P [] h = tt
once_keeps P (x ∷ xs) h = (h.0, filter_keeps P (λ other. not (bytes_eq other x)) (each_once xs) (once_keeps P xs h.1))

-- and has what each element has that passes
pub filter_passes : {X : Type 0} (P : X → Type 0) (test : X → Bool) → ((x : X) → test x ≡ true → P x) → (xs : List X) → AllByRecursion P (filter test xs)
filter_passes P test h [] = tt
filter_passes {X} P test h (x ∷ xs) = by_test (test x) refl (filter_passes P test h xs)
  where
    by_test : (b : Bool) → test x ≡ b → AllByRecursion P (filter test xs) → AllByRecursion P (if b then x ∷ filter test xs else filter test xs)
    by_test true e r = (h x e, r)
    by_test false e r = r

-- `=` in the place of `<=` changes no expression

module _ (names : Names) where
  mutual
    unfolding statement_faults immediate

    immediate_faults : (t : Statement) → statement_faults names (immediate t) ≡ statement_faults names t
    immediate_faults Null = refl
    immediate_faults (Block label ts) = all_immediate_faults ts
    immediate_faults (If c t) = ap (λ z. shape_faults names c ++ z) (immediate_faults t)
    immediate_faults (IfElse c t u) = λ k. shape_faults names c ++ (immediate_faults t k ++ immediate_faults u k)
    immediate_faults (Case kind on arms) = ap (λ z. shape_faults names on ++ z) (arms_immediate_faults arms)
    immediate_faults (Assign t now e) = refl
    immediate_faults (For h t) = refl

    all_immediate_faults : (ts : Statements) → statements_faults names (immediate_all ts) ≡ statements_faults names ts
    all_immediate_faults Done = refl
    all_immediate_faults (Then t ts) = λ k. immediate_faults t k ++ all_immediate_faults ts k

    arm_immediate_faults : (a : Arm) → arm_faults names (immediate_arm a) ≡ arm_faults names a
    arm_immediate_faults (CaseItem labels colon t) = ap (λ z. list_faults names labels ++ z) (immediate_faults t)

    arms_immediate_faults : (arms : Arms) → arms_faults names (immediate_arms arms) ≡ arms_faults names arms
    arms_immediate_faults NoArms = refl
    arms_immediate_faults (MoreArms a rest) = λ k. arm_immediate_faults a k ++ arms_immediate_faults rest k

  -- `v = 0;`

  no_fault : (t : Tree) → fault names t false ≡ None → shape_faults names t ≡ []
  unfolding shape
  no_fault t e = rw e refl

  zero_shaped : shape_faults names (Literal fresh (plain_literal (48 ∷ []))) ≡ []
  unfolding fault plain_literal
  zero_shaped = no_fault (Literal fresh (plain_literal (48 ∷ []))) refl

  clears_shaped : (list : List (List ℕ)) (t : Statement) → AllByRecursion (HasShape names) list → statement_faults names t ≡ [] → statements_faults names (all_cleared list t) ≡ []
  unfolding statement_faults all_cleared
  clears_shaped [] t a h = nil_both _ _ h refl
  clears_shaped (name ∷ list) t a h = nil_both _ _ (nil_both _ _ (no_fault (Name fresh name) a.0) zero_shaped) (clears_shaped list t a.1 h)

  defaults_shaped : (list : List (List ℕ)) (t : Statement) → AllByRecursion (HasShape names) list → statement_faults names t ≡ [] → statement_faults names (with_defaults list t) ≡ []
  unfolding statement_faults
  defaults_shaped [] t a h = h
  defaults_shaped (name ∷ list) t a h = clears_shaped (name ∷ list) t a h

-- Names of loops

module _ (L : LoopNames) where
  mutual
    unfolding loop_faults immediate

    immediate_strays : (around : LoopNames) (t : Statement) → loop_faults L around (immediate t) ≡ loop_faults L around t
    immediate_strays around Null = refl
    immediate_strays around (Block label ts) = all_immediate_strays around ts
    immediate_strays around (If c t) = ap (λ z. strays L around c ++ z) (immediate_strays around t)
    immediate_strays around (IfElse c t u) = λ k. strays L around c ++ (immediate_strays around t k ++ immediate_strays around u k)
    immediate_strays around (Case kind on arms) = ap (λ z. strays L around on ++ z) (arms_immediate_strays around arms)
    immediate_strays around (Assign t now e) = refl
    immediate_strays around (For h t) = ap (λ z. head_faults L around h ++ (turn_faults L around h ++ z)) (immediate_strays (h.text ∷ around) t)

    all_immediate_strays : (around : LoopNames) (ts : Statements) → loops_faults L around (immediate_all ts) ≡ loops_faults L around ts
    all_immediate_strays around Done = refl
    all_immediate_strays around (Then t ts) = λ k. immediate_strays around t k ++ all_immediate_strays around ts k

    arm_immediate_strays : (around : LoopNames) (a : Arm) → arm_loop_faults L around (immediate_arm a) ≡ arm_loop_faults L around a
    arm_immediate_strays around (CaseItem labels colon t) = ap (λ z. part_strays L around labels ++ z) (immediate_strays around t)

    arms_immediate_strays : (around : LoopNames) (arms : Arms) → arms_loop_faults L around (immediate_arms arms) ≡ arms_loop_faults L around arms
    arms_immediate_strays around NoArms = refl
    arms_immediate_strays around (MoreArms a rest) = λ k. arm_immediate_strays around a k ++ arms_immediate_strays around rest k

  -- what is assigned is no loop's

  abbrev IsFree : List ℕ → Type 0
  IsFree name = contains L name ≡ false

  abbrev OfPart : Tree → Type 0
  OfPart p = IsFree (part_name p)

  abbrev OfAssigned : Assigned → Type 0
  OfAssigned a = IsFree (part_name a.part)

  only_fault : (b : Bool) (f : FlatFault) → fault_if b f ≡ [] → b ≡ false
  only_fault true f e = absurd (cc)
  only_fault false f e = refl

  mutual
    unfolding target_strays target_parts

    target_free : (around : LoopNames) (t : Tree) → target_strays L around t ≡ [] → AllByRecursion OfPart (target_parts t)
    target_free around (Name token name) h = (only_fault (contains L name) (BadLoop token) h, tt)
    target_free around (Bit token name i) h = (only_fault (contains L name) (BadLoop token) (nil_left (fault_if (contains L name) (BadLoop token)) _ h), tt)
    target_free around (Part token name l r) h = (only_fault (contains L name) (BadLoop token) (nil_left (fault_if (contains L name) (BadLoop token)) _ h), tt)
    target_free around (Indexed token name f n up) h = (only_fault (contains L name) (BadLoop token) (nil_left (fault_if (contains L name) (BadLoop token)) _ h), tt)
    target_free around (Concat ts) h = targets_free around ts h
    target_free around t h = tt

    targets_free : (around : LoopNames) (ts : Trees) → targets_strays L around ts ≡ [] → AllByRecursion OfPart (targets_parts ts)
    targets_free around End h = tt
    targets_free around (More t ts) h =
        all_append OfPart (target_parts t) (targets_parts ts) (target_free around t (nil_left (target_strays L around t) (targets_strays L around ts) h)) (targets_free around ts (nil_right (target_strays L around t) (targets_strays L around ts) h))

  parts_free : (now : Bool) (ts : List Tree) → AllByRecursion OfPart ts → AllByRecursion OfAssigned (assigned_parts now ts)
  unfolding assigned_parts
  parts_free now [] h = tt
  parts_free now (t ∷ ts) h = (h.0, parts_free now ts h.1)

  mutual
    unfolding loop_faults ever_assigned

    assigned_free : (around : LoopNames) (t : Statement) → loop_faults L around t ≡ [] → AllByRecursion OfAssigned (ever_assigned t)
    assigned_free around Null h = tt
    assigned_free around (Block label ts) h = all_free around ts h
    assigned_free around (If c t) h = assigned_free around t (nil_right (strays L around c) (loop_faults L around t) h)
    assigned_free around (IfElse c t u) h =
        let r = nil_right (strays L around c) (loop_faults L around t ++ loop_faults L around u) h in
        all_append OfAssigned (ever_assigned t) (ever_assigned u) (assigned_free around t (nil_left (loop_faults L around t) (loop_faults L around u) r)) (assigned_free around u (nil_right (loop_faults L around t) (loop_faults L around u) r))
    assigned_free around (Case kind on arms) h = arms_free around arms (nil_right (strays L around on) (arms_loop_faults L around arms) h)
    assigned_free around (Assign t now e) h = parts_free now (target_parts t) (target_free around t (nil_left (target_strays L around t) (strays L around e) h))
    assigned_free around (For head t) h =
        assigned_free (head.text ∷ around) t (nil_right (turn_faults L around head) (loop_faults L (head.text ∷ around) t) (nil_right (head_faults L around head) (turn_faults L around head ++ loop_faults L (head.text ∷ around) t) h))

    all_free : (around : LoopNames) (ts : Statements) → loops_faults L around ts ≡ [] → AllByRecursion OfAssigned (ever_assigned_all ts)
    all_free around Done h = tt
    all_free around (Then t ts) h =
        all_append OfAssigned (ever_assigned t) (ever_assigned_all ts) (assigned_free around t (nil_left (loop_faults L around t) (loops_faults L around ts) h)) (all_free around ts (nil_right (loop_faults L around t) (loops_faults L around ts) h))

    arm_free : (around : LoopNames) (a : Arm) → arm_loop_faults L around a ≡ [] → AllByRecursion OfAssigned (ever_assigned_arm a)
    arm_free around (CaseItem labels colon t) h = assigned_free around t (nil_right (part_strays L around labels) (loop_faults L around t) h)

    arms_free : (around : LoopNames) (arms : Arms) → arms_loop_faults L around arms ≡ [] → AllByRecursion OfAssigned (ever_assigned_arms arms)
    arms_free around NoArms h = tt
    arms_free around (MoreArms a rest) h =
        all_append OfAssigned (ever_assigned_arm a) (ever_assigned_arms rest) (arm_free around a (nil_left (arm_loop_faults L around a) (arms_loop_faults L around rest) h)) (arms_free around rest (nil_right (arm_loop_faults L around a) (arms_loop_faults L around rest) h))

  names_free : (xs : List Assigned) → AllByRecursion OfAssigned xs → AllByRecursion IsFree (map (λ a. part_name a.part) xs)
  names_free [] h = tt
  names_free (x ∷ xs) h = (h.0, names_free xs h.1)

  cleared_free : (marks : Marks) (token : ℕ) (t : Statement) → loop_faults L [] t ≡ [] → AllByRecursion IsFree (cleared_by marks token t)
  cleared_free marks token t h =
      filter_keeps IsFree (marks token) (each_once (ever_names t)) (once_keeps IsFree (ever_names t) (names_free (ever_assigned t) (assigned_free [] t h)))

  clears_free : (list : List (List ℕ)) (t : Statement) → AllByRecursion IsFree list → loop_faults L [] t ≡ [] → loops_faults L [] (all_cleared list t) ≡ []
  unfolding loop_faults target_strays strays all_cleared
  clears_free [] t a h = nil_both _ _ h refl
  clears_free (name ∷ list) t a h = nil_both _ _ (nil_both _ _ (ap (λ (b : Bool). fault_if b (BadLoop fresh)) a.0) refl) (clears_free list t a.1 h)

  defaults_free : (list : List (List ℕ)) (t : Statement) → AllByRecursion IsFree list → loop_faults L [] t ≡ [] → loop_faults L [] (with_defaults list t) ≡ []
  unfolding loop_faults
  defaults_free [] t a h = h
  defaults_free (name ∷ list) t a h = clears_free (name ∷ list) t a h

-- What the bodies keep

abbrev pub same_body : Bodies
same_body token t = t

pub same_keeps : (source : SourceText) (flat : Flat) → KeepsBodies same_body source flat
same_keeps source flat = record { loops = λ token t. refl; bodies = λ i names events t token there among alike L. record { counts = λ limit c d e. e; loops = λ h. h; shapes = λ h. h } }

abbrev pub all_now : Bodies
all_now token body = immediate body

pub immediate_keeps : (source : SourceText) (flat : Flat) → KeepsBodies all_now source flat
immediate_keeps source flat = record {
  loops = λ token t. immediate_loops t;
  bodies = λ i names events t token there among alike L. record {
    counts = λ limit c d e. counted_immediate limit L names [] t c ∙ e;
    loops = λ h. immediate_strays L [] t ∙ h;
    shapes = λ h. ap (statement_faults names) (sym (unfold_immediate names [] t)) ∙ (immediate_faults names (unfold_statement names [] t) ∙ h);
  };
}

-- where each name that is marked has a shape
pub mended_keeps : (L : LoopNames) (names : Names) (marks : Marks) (token : ℕ) (t : Statement) → ((name : List ℕ) → marks token name ≡ true → HasShape names name) → KeepsBody L names t (mended_body marks token t)
mended_keeps L names marks token t shaped = record {
  counts = λ limit c d e. counted_mended limit L names marks token t c d e;
  loops = λ h. defaults_free L (cleared_by marks token t) (immediate t) (cleared_free L marks token t h) (immediate_strays L [] t ∙ h);
  shapes = λ h.
      ap (statement_faults names) (unfold_mended names marks token t)
      ∙ defaults_shaped names (cleared_by marks token t) (immediate (unfold_statement names [] t)) (filter_passes (HasShape names) (marks token) shaped (each_once (ever_names t))) (immediate_faults names (unfold_statement names [] t) ∙ h);
}
