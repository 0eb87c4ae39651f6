-- A mended source keeps the rules of the syntax.
use Rattle.std.proofs.Common.{◌≡◌, ◌∙◌, ap, subst, sym, ℕ, suc, ◌+◌, ◌≤◌, Bool, true, false, List, [], ◌∷◌, map, refl, nat_eq, if◌then◌else◌}
use Rattle.std.specs.List.{AllByRecursion, list_any}
use Rattle.rr_syntax.specs.Tree.{End, More, Statement, Statements, Arm, Arms, Null, Block, If, IfElse, Case, Assign, For, Done, Then, CaseItem, NoArms, MoreArms, EventControl, Star, Edges, Levels, ModuleItem, Always, ModuleDeclaration, SourceText}
use Rattle.rr_syntax.specs.Expressions.{WellFormed, is_target}
use Rattle.rr_syntax.specs.Statements.{is_open, defaults, HasArms, WellFormedStatement, WellFormedStatements, WellFormedArm, WellFormedArms}
use Rattle.rr_syntax.specs.Items.{WellFormedItem, WellFormedModule, WellFormedSource}
use Rattle.rr_latch.specs.Immediate.{immediate, immediate_all, immediate_arm, immediate_arms}
use Rattle.rr_body_laws.specs.Bodies.{body_with, item_with, module_with, modules_with, source_with}
use Rattle.rr_lint_laws.specs.Mended.{Marks, all_cleared, with_defaults, cleared_by, mended_body}

-- an `else` belongs to the same `if` as before
open_stays : (t : Statement) → is_open (immediate t) ≡ is_open t
unfolding is_open immediate
open_stays Null = refl
open_stays (Block label ss) = refl
open_stays (If c t) = refl
open_stays (IfElse c t u) = open_stays u
open_stays (Case kind on arms) = refl
open_stays (Assign t now e) = refl
open_stays (For h t) = open_stays t

-- arms keep their labels
defaults_stay : (arms : Arms) → defaults (immediate_arms arms) ≡ defaults arms
unfolding defaults immediate
defaults_stay NoArms = refl
defaults_stay (MoreArms (CaseItem End colon t) rest) = ap suc (defaults_stay rest)
defaults_stay (MoreArms (CaseItem (More l ls) colon t) rest) = defaults_stay rest

arms_stay : (arms : Arms) → HasArms arms → HasArms (immediate_arms arms)
unfolding immediate
arms_stay NoArms h = h
arms_stay (MoreArms a rest) h = subst (λ n. n ≤ 1) (sym (defaults_stay (MoreArms a rest))) h

mutual
  unfolding WellFormedStatement immediate

  statement_formed : (t : Statement) → WellFormedStatement t → WellFormedStatement (immediate t)
  statement_formed Null h = tt
  statement_formed (Block label ss) h = statements_formed ss h
  statement_formed (If c t) h = (h.0, statement_formed t h.1)
  statement_formed (IfElse c t u) h = (h.0, statement_formed t h.1, open_stays t ∙ h.2, statement_formed u h.3)
  statement_formed (Case kind on arms) h = (h.0, h.1, arms_stay arms h.2, arms_formed arms h.3)
  statement_formed (Assign t now e) h = h
  statement_formed (For head t) h = (h.0, statement_formed t h.1)

  statements_formed : (ts : Statements) → WellFormedStatements ts → WellFormedStatements (immediate_all ts)
  statements_formed Done h = tt
  statements_formed (Then t ts) h = (statement_formed t h.0, statements_formed ts h.1)

  arm_formed : (a : Arm) → WellFormedArm a → WellFormedArm (immediate_arm a)
  arm_formed (CaseItem labels colon t) h = (h.0, h.1, statement_formed t h.2)

  arms_formed : (arms : Arms) → WellFormedArms arms → WellFormedArms (immediate_arms arms)
  arms_formed NoArms h = tt
  arms_formed (MoreArms a rest) h = (arm_formed a h.0, arms_formed rest h.1)

-- `v = 0;` is a statement

cleared_formed : (names : List (List ℕ)) (t : Statement) → WellFormedStatement t → WellFormedStatements (all_cleared names t)
unfolding WellFormedStatement all_cleared WellFormed is_target
cleared_formed [] t h = (h, tt)
cleared_formed (name ∷ names) t h = ((refl, tt, tt), cleared_formed names t h)

defaults_formed : (names : List (List ℕ)) (t : Statement) → WellFormedStatement t → WellFormedStatement (with_defaults names t)
unfolding WellFormedStatement
defaults_formed [] t h = h
defaults_formed (name ∷ names) t h = cleared_formed (name ∷ names) t h

mended_formed : (marks : Marks) (token : ℕ) (t : Statement) → WellFormedStatement t → WellFormedStatement (mended_body marks token t)
mended_formed marks token t h = defaults_formed (cleared_by marks token t) (immediate t) (statement_formed t h)

body_formed : (marks : Marks) (events : EventControl) (t : Statement) (token : ℕ) → WellFormedStatement t → WellFormedStatement (body_with (mended_body marks) events t token)
body_formed marks (Star brackets) t token h = mended_formed marks token t h
body_formed marks (Edges list commas) t token h = h
body_formed marks (Levels list commas) t token h = mended_formed marks token t h

item_formed : (marks : Marks) (i : ModuleItem) → WellFormedItem i → WellFormedItem (item_with (mended_body marks) i)
unfolding WellFormedItem item_with
item_formed marks (Always events t token) h = (h.0, body_formed marks events t token h.1)
item_formed marks i h = h

items_formed : (marks : Marks) (items : List ModuleItem) → AllByRecursion WellFormedItem items → AllByRecursion WellFormedItem (map (item_with (mended_body marks)) items)
items_formed marks [] h = tt
items_formed marks (i ∷ items) h = (item_formed marks i h.0, items_formed marks items h.1)

module_formed : (marks : Marks) (b : Bool) (m : ModuleDeclaration) → WellFormedModule m → WellFormedModule (if b then module_with (mended_body marks) m else m)
unfolding WellFormedModule module_with
module_formed marks true m h = (h.0, h.1, h.2, items_formed marks m.items h.3)
module_formed marks false m h = h

modules_formed : (numbers : List ℕ) (marks : Marks) (k : ℕ) (ms : List ModuleDeclaration) → AllByRecursion WellFormedModule ms → AllByRecursion WellFormedModule (modules_with numbers (mended_body marks) k ms)
unfolding modules_with
modules_formed numbers marks k [] h = tt
modules_formed numbers marks k (m ∷ ms) h = (module_formed marks (list_any (nat_eq k) numbers) m h.0, modules_formed numbers marks (k + 1) ms h.1)

pub lint_stays_formed : (source : SourceText) (numbers : List ℕ) (marks : Marks) → WellFormedSource source → WellFormedSource (source_with numbers (mended_body marks) source)
unfolding WellFormedSource source_with
lint_stays_formed source numbers marks h = modules_formed numbers marks 0 source.modules h
