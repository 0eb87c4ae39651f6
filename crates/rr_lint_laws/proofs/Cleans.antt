-- A mended source has neither of the two faults.
use Rattle.std.proofs.Common.{◌≡◌, ◌∙◌, sym, ap, subst, inl, inr, ◌⊎◌, ℕ, ◌+◌, ◌<◌, Bool, true, false, not, cond, ◌&&◌, ◌||◌, List, [], ◌∷◌, ◌++◌, length, map, Option, None, Ok, refl, nat_eq, if◌then◌else◌, arith}
use Rattle.std.specs.List.{AllByRecursion, filter, list_any}
use Rattle.std.specs.Str.{bytes_eq}
use Rattle.std.proofs.lemmas.Bool.{and_from, both_ways, or_cases, or_left, or_right}
use Rattle.std.proofs.lemmas.List.Elements.{All-from_recursion}
use Rattle.std.proofs.lemmas.List.Folds.{list_any-append}
use Rattle.std.proofs.lemmas.Slice.Eq.{bytes_eq-Decides}
use Rattle.rr_syntax.specs.Tree.{Tree, Trees, Name, Bit as BitSelect, Part, Indexed, Concat, End, More, Statement, Statements, Arm, Arms, Null, Block, If, IfElse, Case, Assign, For, Done, Then, CaseItem, NoArms, MoreArms, EventControl, Star, Edges, Levels, ModuleItem, Always, ModuleDeclaration, SourceText}
use Rattle.rr_syntax.specs.Items.{NumberedSource}
use Rattle.rr_expr.specs.declared.types.Bit.{Bit}
use Rattle.rr_expr.specs.Scopes.{Names, meant}
use Rattle.rr_flat.specs.Latches.{NoLatch}
use Rattle.rr_flat.specs.Lawful.{NoLatches}
use Rattle.rr_flat.specs.Plain as plain
use Rattle.rr_flat.specs.Plain.{Flat}
use Rattle.rr_flat.specs.Reads.{Assigned, assigned_parts, assigned_by, assigned_by_all, assigned_by_arm, assigned_by_arms, writes, write_any, arm_writes, arms_write}
use Rattle.rr_flat.specs.Signals.{Text}
use Rattle.rr_flat.specs.Targets.{is_bit_of, is_constant, may_write, part_name, target_bits, target_parts, targets_parts}
use Rattle.rr_flat.specs.Writers.{block_at, no_block, scope_at}
use Rattle.rr_flat.proofs.Bits.{bits_of_name, index_of_name}
use Rattle.rr_unfold.specs.Unfold.{unfold_statement}
use Rattle.rr_latch.specs.Immediate.{immediate, immediate_all, immediate_arm, immediate_arms}
use Rattle.rr_latch.specs.Unassigned.{KeepsBit}
use Rattle.rr_flatten.specs.Walk.{flat_of, module_at}
use Rattle.rr_flatten.proofs.HeadOf.{all_append}
use Rattle.rr_body_laws.specs.Bodies.{IsFlatWith, body_with, item_with, module_with, source_with}
use Rattle.rr_body_laws.proofs.Blocks.{changed_at, changed_length}
use Rattle.rr_body_laws.proofs.Tables.{module_changed}
use Rattle.rr_body_laws.proofs.Whole.{bodies_elaborate}
use Rattle.rr_lint_laws.specs.Clean.{AllImmediate, HasImmediate, IsClean, IsImmediate, IsImmediateAt}
use Rattle.rr_lint_laws.specs.Ever.{ever_assigned, ever_assigned_all, ever_assigned_arm, ever_assigned_arms, ever_names}
use Rattle.rr_lint_laws.specs.Mended.{IsLint, MarkLatched, Marks, NoWordLatches, all_cleared, cleared_by, each_once, mended_body, target_names, with_defaults}
use Rattle.rr_lint_laws.proofs.Clearing.{IsWhole, is_of_any, no_latch_after}
use Rattle.rr_lint_laws.proofs.Declaring.{latched_no_memory, marked_keeps}
use Rattle.rr_lint_laws.proofs.EverNames.{unfolded_names}
use Rattle.rr_lint_laws.proofs.Shapes.{filter_passes}
use Rattle.rr_lint_laws.proofs.Unfolds.{unfold_mended}

-- each assignment of a mended body is `=`

abbrev IsNow : Assigned → Type 0
IsNow a = a.now ≡ true

parts_now : (ts : List Tree) → AllByRecursion IsNow (assigned_parts true ts)
unfolding assigned_parts
parts_now [] = tt
parts_now (t ∷ ts) = (refl, parts_now ts)

mutual
  unfolding ever_assigned immediate

  now_alone : (t : Statement) → AllByRecursion IsNow (ever_assigned (immediate t))
  now_alone Null = tt
  now_alone (Block label ts) = all_now_alone ts
  now_alone (If c t) = now_alone t
  now_alone (IfElse c t u) = all_append IsNow (ever_assigned (immediate t)) (ever_assigned (immediate u)) (now_alone t) (now_alone u)
  now_alone (Case kind on arms) = arms_now_alone arms
  now_alone (Assign t now e) = parts_now (target_parts t)
  now_alone (For h t) = now_alone t

  all_now_alone : (ts : Statements) → AllByRecursion IsNow (ever_assigned_all (immediate_all ts))
  all_now_alone Done = tt
  all_now_alone (Then t ts) = all_append IsNow (ever_assigned (immediate t)) (ever_assigned_all (immediate_all ts)) (now_alone t) (all_now_alone ts)

  arm_now_alone : (a : Arm) → AllByRecursion IsNow (ever_assigned_arm (immediate_arm a))
  arm_now_alone (CaseItem labels colon t) = now_alone t

  arms_now_alone : (arms : Arms) → AllByRecursion IsNow (ever_assigned_arms (immediate_arms arms))
  arms_now_alone NoArms = tt
  arms_now_alone (MoreArms a rest) = all_append IsNow (ever_assigned_arm (immediate_arm a)) (ever_assigned_arms (immediate_arms rest)) (arm_now_alone a) (arms_now_alone rest)

clears_now : (names : List (List ℕ)) (t : Statement) → AllByRecursion IsNow (ever_assigned t) → AllByRecursion IsNow (ever_assigned_all (all_cleared names t))
unfolding ever_assigned assigned_parts all_cleared target_parts
clears_now [] t h = all_append IsNow (ever_assigned t) [] h tt
clears_now (name ∷ names) t h = (refl, clears_now names t h)

defaults_now : (names : List (List ℕ)) (t : Statement) → AllByRecursion IsNow (ever_assigned t) → AllByRecursion IsNow (ever_assigned (with_defaults names t))
unfolding ever_assigned
defaults_now [] t h = h
defaults_now (name ∷ names) t h = clears_now (name ∷ names) t h

mended_now : (marks : Marks) (token : ℕ) (t : Statement) → IsImmediate (mended_body marks token t)
mended_now marks token t = All-from_recursion IsNow (ever_assigned (mended_body marks token t)) (defaults_now (cleared_by marks token t) (immediate t) (now_alone t))

body_now : (marks : Marks) (events : EventControl) (t : Statement) (token : ℕ) → IsImmediateAt events (body_with (mended_body marks) events t token)
body_now marks (Star brackets) t token = mended_now marks token t
body_now marks (Edges list commas) t token = tt
body_now marks (Levels list commas) t token = mended_now marks token t

item_now : (marks : Marks) (i : ModuleItem) → HasImmediate (item_with (mended_body marks) i)
unfolding item_with
item_now marks (Always events t token) = body_now marks events t token
item_now marks i = tt

items_now : (marks : Marks) (items : List ModuleItem) → AllByRecursion HasImmediate (map (item_with (mended_body marks)) items)
items_now marks [] = tt
items_now marks (i ∷ items) = (item_now marks i, items_now marks items)

source_now : (source : SourceText) (numbers : List ℕ) (marks : Marks) → AllImmediate numbers (source_with numbers (mended_body marks) source)
unfolding source_with module_with
source_now source numbers marks k l q =
    let e : k ≡ 0 + k = omega arith in
    let is = module_changed (mended_body marks) numbers 0 source.modules k (λ below. subst (λ (n : ℕ). list_any (nat_eq n) numbers ≡ true) e q) in
    subst (λ (m : ModuleDeclaration). AllByRecursion HasImmediate m.items) (sym is) (items_now marks (module_at source.modules k).items)

-- a bit that a body writes is one of a name that it assigns

by_cond : (c x y : Bool) → (x ≡ true → y ≡ true) → cond c x y ≡ true → y ≡ true
by_cond true x y h e = h e
by_cond false x y h e = e

alone : (x y : Bool) → (x ≡ true → y ≡ true) → (x || false) ≡ true → (y || false) ≡ true
alone true y h e = or_left y false (h refl)
alone false y h e = absurd (cc)

may_both : (s : Names) (xs ys : List Tree) (b : Bit) → may_write s (xs ++ ys) b ≡ true → (may_write s xs b ≡ true) ⊎ (may_write s ys b ≡ true)
unfolding may_write
may_both s [] ys b e = inr e
may_both s (x ∷ xs) ys b e = elim (or_cases _ (may_write s (xs ++ ys) b) e) [
  | inl h ↦ inl (or_left _ (may_write s xs b) h)
  | inr h ↦ elim (may_both s xs ys b h) [ inl k ↦ inl (or_right _ (may_write s xs b) k) | inr k ↦ inr k ]
]

any_both : {X : Type 0} (p : X → Bool) (xs ys : List X) → (list_any p xs ≡ true) ⊎ (list_any p ys ≡ true) → list_any p (xs ++ ys) ≡ true
any_both p xs ys (inl h) = list_any-append p xs ys ∙ or_left (list_any p xs) (list_any p ys) h
any_both p xs ys (inr h) = list_any-append p xs ys ∙ or_right (list_any p xs) (list_any p ys) h

module _ (s : Names) (b : Bit) where
  abbrev of_part : Tree → Bool
  of_part p = is_bit_of (meant s (part_name p)) b

  abbrev of_assigned : Assigned → Bool
  of_assigned a = is_bit_of (meant s (part_name a.part)) b

  mutual
    unfolding may_write target_bits target_parts

    target_named : (t : Tree) → may_write s (target_parts t) b ≡ true → list_any of_part (target_parts t) ≡ true
    target_named (Name token name) e = alone _ _ (bits_of_name (meant s name) _ _ b) e
    target_named (BitSelect token name i) e = alone _ _ (by_cond (is_constant s i) _ _ (index_of_name (meant s name) _ b)) e
    target_named (Part token name l r) e = alone _ _ (bits_of_name (meant s name) _ _ b) e
    target_named (Indexed token name f n up) e = alone _ _ (by_cond (is_constant s f) _ _ (bits_of_name (meant s name) _ _ b)) e
    target_named (Concat ts) e = targets_named ts e
    target_named t e = absurd (cc)

    targets_named : (ts : Trees) → may_write s (targets_parts ts) b ≡ true → list_any of_part (targets_parts ts) ≡ true
    targets_named End e = absurd (cc)
    targets_named (More t ts) e = any_both of_part (target_parts t) (targets_parts ts) (elim (may_both s (target_parts t) (targets_parts ts) b e) [
      | inl h ↦ inl (target_named t h)
      | inr h ↦ inr (targets_named ts h)
    ])

  parts_named : (now : Bool) (ts : List Tree) → list_any of_part ts ≡ true → list_any of_assigned (assigned_parts now ts) ≡ true
  unfolding assigned_parts
  parts_named now [] e = e
  parts_named now (t ∷ ts) e = elim (or_cases (of_part t) (list_any of_part ts) e) [
    | inl h ↦ or_left (of_part t) _ h
    | inr h ↦ or_right (of_part t) _ (parts_named now ts h)
  ]

  mutual
    unfolding writes immediate assigned_by

    written_named : (t : Statement) → writes true s (immediate t) b ≡ true → list_any of_assigned (assigned_by t) ≡ true
    written_named Null e = absurd (cc)
    written_named (Block label ts) e = all_written_named ts e
    written_named (If c t) e = written_named t e
    written_named (IfElse c t u) e = any_both of_assigned (assigned_by t) (assigned_by u) (elim (or_cases (writes true s (immediate t) b) (writes true s (immediate u) b) e) [
      | inl h ↦ inl (written_named t h)
      | inr h ↦ inr (written_named u h)
    ])
    written_named (Case kind on arms) e = arms_written_named arms e
    written_named (Assign t now x) e = parts_named now (target_parts t) (target_named t e)
    written_named (For h t) e = absurd (cc)

    all_written_named : (ts : Statements) → write_any true s (immediate_all ts) b ≡ true → list_any of_assigned (assigned_by_all ts) ≡ true
    all_written_named Done e = absurd (cc)
    all_written_named (Then t ts) e = any_both of_assigned (assigned_by t) (assigned_by_all ts) (elim (or_cases (writes true s (immediate t) b) (write_any true s (immediate_all ts) b) e) [
      | inl h ↦ inl (written_named t h)
      | inr h ↦ inr (all_written_named ts h)
    ])

    arm_written_named : (a : Arm) → arm_writes true s (immediate_arm a) b ≡ true → list_any of_assigned (assigned_by_arm a) ≡ true
    arm_written_named (CaseItem labels colon t) e = written_named t e

    arms_written_named : (arms : Arms) → arms_write true s (immediate_arms arms) b ≡ true → list_any of_assigned (assigned_by_arms arms) ≡ true
    arms_written_named NoArms e = absurd (cc)
    arms_written_named (MoreArms a rest) e = any_both of_assigned (assigned_by_arm a) (assigned_by_arms rest) (elim (or_cases (arm_writes true s (immediate_arm a) b) (arms_write true s (immediate_arms rest) b) e) [
      | inl h ↦ inl (arm_written_named a h)
      | inr h ↦ inr (arms_written_named rest h)
    ])

  names_named : (xs : List Assigned) → list_any of_assigned xs ≡ true → is_of_any s (map (λ a. part_name a.part) xs) b ≡ true
  names_named [] e = e
  names_named (x ∷ xs) e = elim (or_cases (of_assigned x) (list_any of_assigned xs) e) [
    | inl h ↦ or_left (of_assigned x) _ h
    | inr h ↦ or_right (of_assigned x) _ (names_named xs h)
  ]

-- a name that passes a test is among those that are left

any_stronger : (test goal : List ℕ → Bool) (xs : List (List ℕ)) → ((x : List ℕ) → list_any (bytes_eq x) xs ≡ true → test x ≡ true → goal x ≡ true)
    → list_any test xs ≡ true → list_any (λ x. goal x && test x) xs ≡ true
any_stronger test goal [] h e = e
any_stronger test goal (x ∷ xs) h e = elim (or_cases (test x) (list_any test xs) e) [
  | inl q ↦ or_left (goal x && test x) _ (and_from (goal x) (test x) (h x (or_left (bytes_eq x x) _ ((bytes_eq-Decides x x).1 refl)) q) q)
  | inr q ↦ or_right (goal x && test x) _ (any_stronger test goal xs (λ y k. h y (or_right (bytes_eq y x) _ k)) q)
]

any_filter : (test goal : List ℕ → Bool) (xs : List (List ℕ)) → list_any (λ x. goal x && test x) xs ≡ true → list_any test (filter goal xs) ≡ true
any_filter test goal [] e = e
any_filter test goal (x ∷ xs) e = by_goal (goal x) e (any_filter test goal xs)
  where
    by_goal : (g : Bool) → ((g && test x) || list_any (λ y. goal y && test y) xs) ≡ true → (list_any (λ y. goal y && test y) xs ≡ true → list_any test (filter goal xs) ≡ true)
        → list_any test (if g then x ∷ filter goal xs else filter goal xs) ≡ true
    by_goal true e r = elim (or_cases (test x) (list_any (λ y. goal y && test y) xs) e) [ inl q ↦ or_left (test x) _ q | inr q ↦ or_right (test x) _ (r q) ]
    by_goal false e r = r e

other_or_same : (test : List ℕ → Bool) (x : List ℕ) (xs : List (List ℕ)) → list_any test xs ≡ true → (test x || list_any test (filter (λ other. not (bytes_eq other x)) xs)) ≡ true
other_or_same test x xs e = by_test (test x) refl
  where
    differs : test x ≡ false → (y : List ℕ) → test y ≡ true → not (bytes_eq y x) ≡ true
    differs n y h = go (bytes_eq y x) refl
      where
        go : (b : Bool) → bytes_eq y x ≡ b → not b ≡ true
        go true q = absurd (both_ways (test x) n (subst (λ z. test z ≡ true) ((bytes_eq-Decides y x).0 q) h))
        go false q = refl

    by_test : (b : Bool) → test x ≡ b → (b || list_any test (filter (λ other. not (bytes_eq other x)) xs)) ≡ true
    by_test true q = refl
    by_test false q = any_filter test (λ other. not (bytes_eq other x)) xs (any_stronger test (λ other. not (bytes_eq other x)) xs (λ y k. differs q y) e)

any_once : (test : List ℕ → Bool) (xs : List (List ℕ)) → list_any test xs ≡ true → list_any test (each_once xs) ≡ true
unfolding each_once
any_once test [] e = e
any_once test (x ∷ xs) e = elim (or_cases (test x) (list_any test xs) e) [
  | inl q ↦ or_left (test x) _ q
  | inr q ↦ other_or_same test x (each_once xs) (any_once test xs q)
]

-- each kept bit is one of a name that is cleared

covered : (s : Names) (marks : Marks) (token : ℕ) (names : Names) (body flat_body : Statement) (b : Bit) → flat_body ≡ unfold_statement names [] body
    → ((name : List ℕ) → list_any (bytes_eq name) (target_names flat_body) ≡ true → is_bit_of (meant s name) b ≡ true → marks token name ≡ true)
    → KeepsBit s (immediate flat_body) b → is_of_any s (cleared_by marks token body) b ≡ true
covered s marks token names body flat_body b is h k =
    let test : List ℕ → Bool = λ name. is_bit_of (meant s name) b in
    let marked : List ℕ → Bool = λ name. marks token name && test name in
    let unfolded : list_any marked (target_names flat_body) ≡ true =
    any_stronger test (marks token) (target_names flat_body) h (names_named s b (assigned_by flat_body) (written_named s b flat_body k.written)) in
    let written : list_any marked (ever_names body) ≡ true = unfolded_names marked names body (subst (λ (t : Statement). list_any marked (target_names t) ≡ true) is unfolded) in
    any_filter test (marks token) (each_once (ever_names body)) (any_once marked (ever_names body) written)

blocks_clean : (source : SourceText) (top : Option Text) (flat new : Flat) (marks : Marks) → NumberedSource source → flat_of source top ≡ Ok flat → MarkLatched flat marks → NoWordLatches flat → IsFlatWith (mended_body marks) source flat new → NoLatches new
blocks_clean source top flat new marks numbered e m words w k l =
    let f = mended_body marks in
    let long = changed_length f source flat flat.combinational new.combinational w.blocks in
    let inside : k < length flat.combinational = omega (arith, l, long) in
    let c = changed_at f source flat flat.combinational new.combinational w.blocks k no_block inside in
    let block : plain.Block = block_at flat.combinational k in
    let s : Names = scope_at flat block.scope in
    let list : List (List ℕ) = cleared_by marks block.token c.body in
    let body : unfold_statement c.names [] (f block.token c.body) ≡ with_defaults list (immediate block.body) =
    unfold_mended c.names marks block.token c.body ∙ ap (λ (t : Statement). with_defaults list (immediate t)) (sym c.was) in
    let same : scope_at new block.scope ≡ s = ap (λ (x : Flat). scope_at x block.scope) w.others in
    let whole : AllByRecursion (IsWhole s) list =
    filter_passes (IsWhole s) (marks block.token) (λ name q. latched_no_memory source top flat e numbered words block.scope c.events c.body block.token c.there c.among name (m.right block.token name q)) (each_once (ever_names c.body)) in
    let clean : NoLatch s (with_defaults list (immediate block.body)) = no_latch_after s (immediate block.body) list whole (λ b kept.
    covered s marks block.token c.names c.body block.body b c.was (λ name target named.
    m.all block.token name (record { block = k; inside = inside; is = refl; target = target; bit = b; named = named; keeps = kept })) kept) in
    subst (λ (x : plain.Block). NoLatch (scope_at new x.scope) x.body) (sym c.is)
    (subst (λ (z : Names). NoLatch z (unfold_statement c.names [] (f block.token c.body))) (sym same) (subst (λ (t : Statement). NoLatch s t) (sym body) clean))

pub lint_cleans : (source mended : SourceText) (top : Option Text) (flat : Flat) → NumberedSource source → flat_of source top ≡ Ok flat → IsLint source flat mended → IsClean mended top
lint_cleans source mended top flat numbered e l =
    let f = mended_body l.marks in
    let r = bodies_elaborate None f source top flat e (marked_keeps source top flat e numbered l.marks l.latched l.words) in
    let new : Flat = r.0 in
    let w : IsFlatWith f source flat new = r.1.1 in
    let reached : new.reached ≡ flat.reached = ap (λ (x : Flat). x.reached) w.others in
    subst (λ (x : SourceText). IsClean x top) (sym l.is)
    (record {
      flat = new;
      design = r.1.0;
      immediate = subst (λ (numbers : List ℕ). AllImmediate numbers (source_with flat.reached f source)) (sym reached) (source_now source flat.reached l.marks);
      no_latches = blocks_clean source top flat new l.marks numbered e l.latched l.words w;
    })
