-- A source without the two faults stays as it is.
use Rattle.std.proofs.Common.{◌≡◌, ◌∙◌, sym, ap, ap₂, subst, ℕ, suc, ◌+◌, ◌<◌, Bool, true, false, List, [], ◌∷◌, ◌++◌, length, map, Option, None, Ok, refl, nat_eq, if◌then◌else◌, arith}
use Rattle.std.specs.List.{AllByRecursion, filter, list_any}
use Rattle.std.proofs.lemmas.Bool.{and_parts, false_from_ne_true}
use Rattle.std.proofs.lemmas.List.Elements.{recursion_from_All}
use Rattle.rr_syntax.specs.Tree.{Tree, Trees, Name, Literal, Bit as BitSelect, Part, Indexed, Unary, Binary, Cond, Concat, Repeat, Cast, Paren, End, More, Statement, Statements, Arm, Arms, Null, Block, If, IfElse, Case, Assign, For, Done, Then, CaseItem, NoArms, MoreArms, EventControl, Star, Edges, Levels, ModuleItem, Always, ModuleDeclaration, SourceText}
use Rattle.rr_syntax.specs.Expressions.{WellFormed, WellFormedParts, are_targets, is_target}
use Rattle.rr_syntax.specs.Statements.{WellFormedStatement, WellFormedStatements, WellFormedArm, WellFormedArms}
use Rattle.rr_syntax.specs.Items.{WellFormedItem, WellFormedModule, WellFormedSource}
use Rattle.rr_flat.specs.Lawful.{NoLatches}
use Rattle.rr_flat.specs.Plain as plain
use Rattle.rr_flat.specs.Plain.{Flat}
use Rattle.rr_flat.specs.Reads.{Assigned, assigned_parts}
use Rattle.rr_flat.specs.Signals.{Text}
use Rattle.rr_flat.specs.Targets.{target_parts, targets_parts}
use Rattle.rr_flat.specs.Writers.{block_at, no_block, scope_at}
use Rattle.rr_unfold.specs.Unfold.{unfold_statement}
use Rattle.rr_latch.specs.Immediate.{immediate, immediate_all, immediate_arm, immediate_arms}
use Rattle.rr_latch.specs.Unassigned.{KeepsBit}
use Rattle.rr_latch.proofs.Knowing.{keeps_latch}
use Rattle.rr_flatten.specs.Walk.{flat_of, module_at}
use Rattle.rr_flatten.proofs.HeadOf.{ok_is}
use Rattle.rr_body_laws.specs.Bodies.{Bodies, IsChanged, body_with, item_with, module_with, modules_with, source_with}
use Rattle.rr_body_laws.proofs.Blocks.{changed_at}
use Rattle.rr_body_laws.proofs.Whole.{bodies_elaborate}
use Rattle.rr_lint_laws.specs.Clean.{AllImmediate, HasImmediate, IsClean, IsImmediateAt}
use Rattle.rr_lint_laws.specs.Ever.{ever_assigned, ever_assigned_all, ever_assigned_arm, ever_assigned_arms, ever_names}
use Rattle.rr_lint_laws.specs.Mended.{IsLatched, IsLint, MarkLatched, Marks, each_once, mended_body}
use Rattle.rr_lint_laws.proofs.Shapes.{all_now, immediate_keeps}
use Rattle.rr_lint_laws.proofs.Unfolds.{unfold_immediate}

-- parts of lists

pub all_left : {X : Type 0} (P : X → Type 0) (xs ys : List X) → AllByRecursion P (xs ++ ys) → AllByRecursion P xs
all_left P [] ys h = tt
all_left P (x ∷ xs) ys h = (h.0, all_left P xs ys h.1)

pub all_right : {X : Type 0} (P : X → Type 0) (xs ys : List X) → AllByRecursion P (xs ++ ys) → AllByRecursion P ys
all_right P [] ys h = h
all_right P (x ∷ xs) ys h = all_right P xs ys h.1

-- a target has a part, so that its assignment is told by what is assigned

record Begun (xs : List Tree) : Type 0 where
  head : Tree
  rest : List Tree
  is : xs ≡ head ∷ rest

mutual
  unfolding is_target WellFormed target_parts

  has_part : (t : Tree) → is_target t ≡ true → WellFormed t → Begun (target_parts t)
  has_part (Name token name) h f = record { head = Name token name; rest = []; is = refl }
  has_part (Literal token n) h f = absurd (cc)
  has_part (BitSelect token name i) h f = record { head = BitSelect token name i; rest = []; is = refl }
  has_part (Part token name l r) h f = record { head = Part token name l r; rest = []; is = refl }
  has_part (Indexed token name x n up) h f = record { head = Indexed token name x n up; rest = []; is = refl }
  has_part (Unary op t) h f = absurd (cc)
  has_part (Binary op l r) h f = absurd (cc)
  has_part (Cond a b c) h f = absurd (cc)
  has_part (Concat ts) h f = has_parts ts h f
  has_part (Repeat n ts) h f = absurd (cc)
  has_part (Cast signed t) h f = absurd (cc)
  has_part (Paren t) h f = absurd (cc)

  has_parts : (ts : Trees) → are_targets ts ≡ true → WellFormedParts ts → Begun (targets_parts ts)
  has_parts End h f = absurd f
  has_parts (More t ts) h f =
      let b = has_part t (and_parts (is_target t) (are_targets ts) h).0 f.0 in
      record { head = b.head; rest = b.rest ++ targets_parts ts; is = ap (λ z. z ++ targets_parts ts) b.is }

abbrev IsNow : Assigned → Type 0
IsNow a = a.now ≡ true

assigned_now : (now : Bool) (t : Tree) → is_target t ≡ true → WellFormed t → AllByRecursion IsNow (assigned_parts now (target_parts t)) → now ≡ true
unfolding assigned_parts
assigned_now now t h f a = let b = has_part t h f in (subst (λ ps. AllByRecursion IsNow (assigned_parts now ps)) b.is a).0

-- a body that assigns by `=` alone

mutual
  unfolding WellFormedStatement ever_assigned immediate

  stays : (t : Statement) → WellFormedStatement t → AllByRecursion IsNow (ever_assigned t) → immediate t ≡ t
  stays Null f a = refl
  stays (Block label ts) f a = ap (Block label) (all_stay ts f a)
  stays (If c t) f a = ap (If c) (stays t f.1 a)
  stays (IfElse c t u) f a = ap₂ (IfElse c) (stays t f.1 (all_left IsNow (ever_assigned t) (ever_assigned u) a)) (stays u f.3 (all_right IsNow (ever_assigned t) (ever_assigned u) a))
  stays (Case kind on arms) f a = ap (Case kind on) (arms_stay arms f.3 a)
  stays (Assign t now e) f a = ap (λ z. Assign t z e) (sym (assigned_now now t f.0 f.1 a))
  stays (For h t) f a = ap (For h) (stays t f.1 a)

  all_stay : (ts : Statements) → WellFormedStatements ts → AllByRecursion IsNow (ever_assigned_all ts) → immediate_all ts ≡ ts
  all_stay Done f a = refl
  all_stay (Then t ts) f a = ap₂ Then (stays t f.0 (all_left IsNow (ever_assigned t) (ever_assigned_all ts) a)) (all_stay ts f.1 (all_right IsNow (ever_assigned t) (ever_assigned_all ts) a))

  arm_stays : (x : Arm) → WellFormedArm x → AllByRecursion IsNow (ever_assigned_arm x) → immediate_arm x ≡ x
  arm_stays (CaseItem labels colon t) f a = ap (CaseItem labels colon) (stays t f.2 a)

  arms_stay : (arms : Arms) → WellFormedArms arms → AllByRecursion IsNow (ever_assigned_arms arms) → immediate_arms arms ≡ arms
  arms_stay NoArms f a = refl
  arms_stay (MoreArms x rest) f a =
      ap₂ MoreArms (arm_stays x f.0 (all_left IsNow (ever_assigned_arm x) (ever_assigned_arms rest) a)) (arms_stay rest f.1 (all_right IsNow (ever_assigned_arm x) (ever_assigned_arms rest) a))

body_stays : (events : EventControl) (t : Statement) (token : ℕ) → WellFormedStatement t → IsImmediateAt events t → body_with all_now events t token ≡ t
body_stays (Star brackets) t token f h = stays t f (recursion_from_All IsNow (ever_assigned t) h)
body_stays (Edges list commas) t token f h = refl
body_stays (Levels list commas) t token f h = stays t f (recursion_from_All IsNow (ever_assigned t) h)

item_stays : (i : ModuleItem) → WellFormedItem i → HasImmediate i → item_with all_now i ≡ i
unfolding WellFormedItem item_with
item_stays (Always events t token) f h = ap (λ z. Always events z token) (body_stays events t token f.1 h)
item_stays i f h = refl

items_stay : (items : List ModuleItem) → AllByRecursion WellFormedItem items → AllByRecursion HasImmediate items → map (item_with all_now) items ≡ items
items_stay [] f h = refl
items_stay (i ∷ items) f h = ap₂ (λ x xs. x ∷ xs) (item_stays i f.0 h.0) (items_stay items f.1 h.1)

module_stays : (m : ModuleDeclaration) → WellFormedModule m → AllByRecursion HasImmediate m.items → module_with all_now m ≡ m
unfolding WellFormedModule module_with
module_stays m f h = ap (λ (items : List ModuleItem). record m { items = items }) (items_stay m.items f.3 h)

either_stays : (b : Bool) (m : ModuleDeclaration) → (b ≡ true → module_with all_now m ≡ m) → (if b then module_with all_now m else m) ≡ m
either_stays true m h = h refl
either_stays false m h = refl

modules_stay : (numbers : List ℕ) (j : ℕ) (ms : List ModuleDeclaration) → AllByRecursion WellFormedModule ms
    → ((k : ℕ) → k < length ms → list_any (nat_eq (j + k)) numbers ≡ true → AllByRecursion HasImmediate (module_at ms k).items) → modules_with numbers all_now j ms ≡ ms
unfolding modules_with
modules_stay numbers j [] f h = refl
modules_stay numbers j (m ∷ ms) f h =
    let e : j ≡ j + 0 = omega arith in
    let first : list_any (nat_eq j) numbers ≡ true → module_with all_now m ≡ m =
    λ q. module_stays m f.0 (h 0 (omega arith) (subst (λ (n : ℕ). list_any (nat_eq n) numbers ≡ true) e q)) in
    ap₂ (λ x xs. x ∷ xs) (either_stays (list_any (nat_eq j) numbers) m first)
    (modules_stay numbers (j + 1) ms f.1 (λ k l q. let d : j + 1 + k ≡ j + suc k = omega arith in h (suc k) (omega (arith, l)) (subst (λ (n : ℕ). list_any (nat_eq n) numbers ≡ true) d q)))

source_stays : (source : SourceText) (numbers : List ℕ) → WellFormedSource source → AllImmediate numbers source → source_with numbers all_now source ≡ source
unfolding WellFormedSource source_with
source_stays source numbers f h =
    ap (λ (ms : List ModuleDeclaration). record source { modules = ms })
    (modules_stay numbers 0 source.modules f (λ k l q. let e : 0 + k ≡ k = omega arith in h k l (subst (λ (n : ℕ). list_any (nat_eq n) numbers ≡ true) e q)))

-- so its flat design has such bodies alone

-- which bodies are such is told where they are unfolded, too
held_stays : (source : SourceText) (flat : Flat) (old : plain.Block) → IsChanged all_now source flat old old → immediate old.body ≡ old.body
held_stays source flat old c =
    let new : old.body ≡ unfold_statement c.names [] (immediate c.body) = ap (λ (x : plain.Block). x.body) c.is in
    ap immediate c.was ∙ (unfold_immediate c.names [] c.body ∙ sym new)

block_stays : (source : SourceText) (top : Option Text) (flat : Flat) → flat_of source top ≡ Ok flat → source_with flat.reached all_now source ≡ source
    → (k : ℕ) → k < length flat.combinational → immediate (block_at flat.combinational k).body ≡ (block_at flat.combinational k).body
block_stays source top flat e s k l =
    let r = bodies_elaborate None all_now source top flat e (immediate_keeps source flat) in
    let same : r.0 ≡ flat = ok_is r.0 flat (sym r.1.0 ∙ (ap (λ (x : SourceText). flat_of x top) s ∙ e)) in
    let c = changed_at all_now source flat flat.combinational r.0.combinational r.1.1.blocks k no_block l in
    held_stays source flat (block_at flat.combinational k) (subst (λ (x : Flat). IsChanged all_now source flat (block_at flat.combinational k) (block_at x.combinational k)) same c)

-- no name is marked

-- each block assigns by `=` alone
abbrev BlocksStay : Flat → Type 0
BlocksStay flat = (k : ℕ) → k < length flat.combinational → immediate (block_at flat.combinational k).body ≡ (block_at flat.combinational k).body

unlatched : (flat : Flat) → NoLatches flat → BlocksStay flat → (token : ℕ) (name : List ℕ) → IsLatched flat token name → ⊥
unlatched flat n e token name h =
    let block : plain.Block = block_at flat.combinational h.block in
    keeps_latch (scope_at flat block.scope) block.body h.bit (subst (λ (t : Statement). KeepsBit (scope_at flat block.scope) t h.bit) (e h.block h.inside) h.keeps)
    (n h.block h.inside)

abbrev no_marks : Marks
no_marks token name = false

unmarked : (flat : Flat) (marks : Marks) → MarkLatched flat marks → NoLatches flat → BlocksStay flat → marks ≡ no_marks
unmarked flat marks m n e = λ i token name. false_from_ne_true (marks token name) (λ q. unlatched flat n e token name (m.right token name q)) i

filter_none : (xs : List (List ℕ)) → filter (λ name. false) xs ≡ []
filter_none [] = refl
filter_none (x ∷ xs) = filter_none xs

nothing_cleared : mended_body no_marks ≡ all_now
nothing_cleared = λ i token t. without token t i
  where
    without : (token : ℕ) (t : Statement) → mended_body no_marks token t ≡ immediate t
    without token t = rw (filter_none (each_once (ever_names t))) refl

pub clean_stays : (source mended : SourceText) (top : Option Text) (flat : Flat) → WellFormedSource source → flat_of source top ≡ Ok flat → IsClean source top → IsLint source flat mended → mended ≡ source
clean_stays source mended top flat f e c l =
    let is : c.flat ≡ flat = ok_is c.flat flat (sym c.design ∙ e) in
    let immediate : AllImmediate flat.reached source = subst (λ (x : Flat). AllImmediate x.reached source) is c.immediate in
    let still = source_stays source flat.reached f immediate in
    let none = unmarked flat l.marks l.latched (subst NoLatches is c.no_latches) (block_stays source top flat e still) in
    l.is ∙ (ap (λ (marks : Marks). source_with flat.reached (mended_body marks) source) none ∙ (ap (λ (g : Bodies). source_with flat.reached g source) nothing_cleared ∙ still))
