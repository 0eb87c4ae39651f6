-- Unfolding commutes with what is mended, which leaves the loops as they are: their turns, their names and the tokens of their bodies.
use Rattle.std.proofs.Common.{◌≡◌, ◌∙◌, sym, ap, ap₂, ℕ, suc, ◌+◌, List, [], ◌∷◌, ◌++◌, length, min, length-append, append-nil, Bool, true, false, Option, None, Result, Ok, refl}
use Rattle.rr_syntax.specs.Words.{Word, Reserved, keyword_end, keyword_endcase}
use Rattle.rr_syntax.specs.Tree.{Statement, Statements, Arm, Arms, Null, Block, If, IfElse, Case, Assign, For, Done, Then, CaseItem, NoArms, MoreArms}
use Rattle.rr_syntax.specs.Expressions.{spell}
use Rattle.rr_syntax.specs.Statements.{spell_label, spell_labels, spell_loop, spell_statement, spell_statements, spell_arm, spell_arms}
use Rattle.rr_expr.specs.Scopes.{Names}
use Rattle.rr_flat.specs.declared.fault.FlatFault.{FlatFault}
use Rattle.rr_flat.specs.Faults.{and_then}
use Rattle.rr_flat.specs.Signals.{Text}
use Rattle.rr_loop_names.specs.Turns.{Turn, put_tree, put_parts, put_target}
use Rattle.rr_loop_rules.specs.Rules.{LoopNames, loops_in, loops_in_all, loops_in_arm, loops_in_arms}
use Rattle.rr_unfold.specs.Unfold.{Count, counted, counted_all, counted_arm, counted_arms, each_turn, inside, loop_label, opening, turns_from, unfold_statement, unfold_statements, unfold_arm, unfold_arms, values_of}
use Rattle.rr_latch.specs.Immediate.{immediate, immediate_all, immediate_arm, immediate_arms}
use Rattle.rr_flat_instance.proofs.Lists.{and_then_ok, and_then_same}
use Rattle.rr_lint_laws.specs.Mended.{Marks, all_cleared, cleared, cleared_by, mended_body, with_defaults}

-- Unfolding

turns_immediate : (body new : ℕ → Statement) → ((v : ℕ) → immediate (body v) ≡ new v) → (vs : List ℕ) → immediate_all (each_turn body vs) ≡ each_turn new vs
unfolding each_turn immediate
turns_immediate body new h [] = refl
turns_immediate body new h (v ∷ vs) = ap₂ Then (h v) (turns_immediate body new h vs)

mutual
  unfolding unfold_statement immediate

  pub unfold_immediate : (s : Names) (turn : Turn) (t : Statement) → immediate (unfold_statement s turn t) ≡ unfold_statement s turn (immediate t)
  unfold_immediate s turn Null = refl
  unfold_immediate s turn (Block label ts) = ap (Block label) (all_unfold_immediate s turn ts)
  unfold_immediate s turn (If c t) = ap (If (put_tree turn c)) (unfold_immediate s turn t)
  unfold_immediate s turn (IfElse c t u) = ap₂ (IfElse (put_tree turn c)) (unfold_immediate s turn t) (unfold_immediate s turn u)
  unfold_immediate s turn (Case kind on arms) = ap (Case kind (put_tree turn on)) (arms_unfold_immediate s turn arms)
  unfold_immediate s turn (Assign t now e) = refl
  unfold_immediate s turn (For h t) =
      ap (Block (loop_label h)) (turns_immediate (λ v. unfold_statement s (inside h turn v) t) (λ v. unfold_statement s (inside h turn v) (immediate t)) (λ v. unfold_immediate s (inside h turn v) t) (values_of s turn h))

  all_unfold_immediate : (s : Names) (turn : Turn) (ts : Statements) → immediate_all (unfold_statements s turn ts) ≡ unfold_statements s turn (immediate_all ts)
  all_unfold_immediate s turn Done = refl
  all_unfold_immediate s turn (Then t ts) = ap₂ Then (unfold_immediate s turn t) (all_unfold_immediate s turn ts)

  arm_unfold_immediate : (s : Names) (turn : Turn) (a : Arm) → immediate_arm (unfold_arm s turn a) ≡ unfold_arm s turn (immediate_arm a)
  arm_unfold_immediate s turn (CaseItem labels colon t) = ap (CaseItem (put_parts turn labels) colon) (unfold_immediate s turn t)

  arms_unfold_immediate : (s : Names) (turn : Turn) (arms : Arms) → immediate_arms (unfold_arms s turn arms) ≡ unfold_arms s turn (immediate_arms arms)
  arms_unfold_immediate s turn NoArms = refl
  arms_unfold_immediate s turn (MoreArms a rest) = ap₂ MoreArms (arm_unfold_immediate s turn a) (arms_unfold_immediate s turn rest)

unfold_cleared : (s : Names) (names : List (List ℕ)) (t : Statement) → unfold_statements s [] (all_cleared names t) ≡ all_cleared names (unfold_statement s [] t)
unfolding unfold_statement all_cleared put_target put_tree
unfold_cleared s [] t = refl
unfold_cleared s (name ∷ names) t = ap (Then (cleared name)) (unfold_cleared s names t)

pub unfold_defaults : (s : Names) (names : List (List ℕ)) (t : Statement) → unfold_statement s [] (with_defaults names t) ≡ with_defaults names (unfold_statement s [] t)
unfolding unfold_statement
unfold_defaults s [] t = refl
unfold_defaults s (name ∷ names) t = ap (Block None) (unfold_cleared s (name ∷ names) t)

pub unfold_mended : (s : Names) (marks : Marks) (token : ℕ) (t : Statement) → unfold_statement s [] (mended_body marks token t) ≡ with_defaults (cleared_by marks token t) (immediate (unfold_statement s [] t))
unfold_mended s marks token t = unfold_defaults s (cleared_by marks token t) (immediate t) ∙ ap (with_defaults (cleared_by marks token t)) (sym (unfold_immediate s [] t))

-- Tokens

long_join : (a b c d : List Word) → length a ≡ length b → length c ≡ length d → length (a ++ c) ≡ length (b ++ d)
long_join a b c d e f = length-append a c ∙ (ap₂ (λ (m n : ℕ). m + n) e f ∙ sym (length-append b d))

mutual
  unfolding spell_statement immediate

  same_long : (t : Statement) → length (spell_statement (immediate t)) ≡ length (spell_statement t)
  same_long Null = refl
  same_long (Block label ts) =
      ap suc (long_join (spell_label label) (spell_label label) _ _ refl (long_join (spell_statements (immediate_all ts)) (spell_statements ts) (Reserved keyword_end ∷ []) (Reserved keyword_end ∷ []) (all_same_long ts) refl))
  same_long (If c t) = ap (λ (n : ℕ). suc (suc n)) (long_join (spell c) (spell c) _ _ refl (ap suc (same_long t)))
  same_long (IfElse c t u) =
      ap (λ (n : ℕ). suc (suc n)) (long_join (spell c) (spell c) _ _ refl (ap suc (long_join (spell_statement (immediate t)) (spell_statement t) _ _ (same_long t) (ap suc (same_long u)))))
  same_long (Case kind on arms) =
      ap (λ (n : ℕ). suc (suc n)) (long_join (spell on) (spell on) _ _ refl
      (ap suc (long_join (spell_arms (immediate_arms arms)) (spell_arms arms) (Reserved keyword_endcase ∷ []) (Reserved keyword_endcase ∷ []) (arms_same_long arms) refl)))
  same_long (Assign t true e) = refl
  same_long (Assign t false e) = long_join (spell t) (spell t) _ _ refl refl
  same_long (For h t) = ap suc (long_join (spell_loop h) (spell_loop h) _ _ refl (same_long t))

  all_same_long : (ts : Statements) → length (spell_statements (immediate_all ts)) ≡ length (spell_statements ts)
  all_same_long Done = refl
  all_same_long (Then t ts) = long_join (spell_statement (immediate t)) (spell_statement t) _ _ (same_long t) (all_same_long ts)

  arm_same_long : (a : Arm) → length (spell_arm (immediate_arm a)) ≡ length (spell_arm a)
  arm_same_long (CaseItem labels colon t) = long_join (spell_labels labels colon) (spell_labels labels colon) _ _ refl (same_long t)

  arms_same_long : (arms : Arms) → length (spell_arms (immediate_arms arms)) ≡ length (spell_arms arms)
  arms_same_long NoArms = refl
  arms_same_long (MoreArms a rest) = long_join (spell_arm (immediate_arm a)) (spell_arm a) _ _ (arm_same_long a) (arms_same_long rest)

-- Turns

module _ (limit : Option ℕ) (L : LoopNames) (s : Names) where
  mutual
    unfolding counted immediate

    pub counted_immediate : (turn : Turn) (t : Statement) (c : Count) → counted limit L s turn (immediate t) c ≡ counted limit L s turn t c
    counted_immediate turn Null c = refl
    counted_immediate turn (Block label ts) c = all_counted_immediate turn ts c
    counted_immediate turn (If test t) c = counted_immediate turn t c
    counted_immediate turn (IfElse test t u) c =
        and_then_same (counted limit L s turn (immediate t) c) (counted limit L s turn t c) (counted limit L s turn (immediate u)) (counted limit L s turn u) (counted_immediate turn t c) (counted_immediate turn u)
    counted_immediate turn (Case kind on arms) c = arms_counted_immediate turn arms c
    counted_immediate turn (Assign t now e) c = refl
    counted_immediate turn (For h t) c =
        ap₂ (λ (n : ℕ) (body : Turn → Count → Result Count FlatFault). and_then (opening L s turn h) (λ v. turns_from 65537 limit s turn h n body v c)) (ap (λ (n : ℕ). min n 18446744073709551615) (same_long t)) (λ k inner d. counted_immediate inner t d k)

    all_counted_immediate : (turn : Turn) (ts : Statements) (c : Count) → counted_all limit L s turn (immediate_all ts) c ≡ counted_all limit L s turn ts c
    all_counted_immediate turn Done c = refl
    all_counted_immediate turn (Then t ts) c =
        and_then_same (counted limit L s turn (immediate t) c) (counted limit L s turn t c) (counted_all limit L s turn (immediate_all ts)) (counted_all limit L s turn ts) (counted_immediate turn t c) (all_counted_immediate turn ts)

    arm_counted_immediate : (turn : Turn) (a : Arm) (c : Count) → counted_arm limit L s turn (immediate_arm a) c ≡ counted_arm limit L s turn a c
    arm_counted_immediate turn (CaseItem labels colon t) c = counted_immediate turn t c

    arms_counted_immediate : (turn : Turn) (arms : Arms) (c : Count) → counted_arms limit L s turn (immediate_arms arms) c ≡ counted_arms limit L s turn arms c
    arms_counted_immediate turn NoArms c = refl
    arms_counted_immediate turn (MoreArms a rest) c =
        and_then_same (counted_arm limit L s turn (immediate_arm a) c) (counted_arm limit L s turn a c) (counted_arms limit L s turn (immediate_arms rest)) (counted_arms limit L s turn rest) (arm_counted_immediate turn a c)
        (arms_counted_immediate turn rest)

  counted_cleared : (names : List (List ℕ)) (t : Statement) (c d : Count) → counted limit L s [] t c ≡ Ok d → counted_all limit L s [] (all_cleared names t) c ≡ Ok d
  unfolding counted all_cleared
  counted_cleared [] t c d e = and_then_ok (counted limit L s [] t c) (counted_all limit L s [] Done) d e
  counted_cleared (name ∷ names) t c d e = counted_cleared names t c d e

  counted_defaults : (names : List (List ℕ)) (t : Statement) (c d : Count) → counted limit L s [] t c ≡ Ok d → counted limit L s [] (with_defaults names t) c ≡ Ok d
  unfolding counted
  counted_defaults [] t c d e = e
  counted_defaults (name ∷ names) t c d e = counted_cleared (name ∷ names) t c d e

  pub counted_mended : (marks : Marks) (token : ℕ) (t : Statement) (c d : Count) → counted limit L s [] t c ≡ Ok d → counted limit L s [] (mended_body marks token t) c ≡ Ok d
  counted_mended marks token t c d e = counted_defaults (cleared_by marks token t) (immediate t) c d (counted_immediate [] t c ∙ e)

-- The names of loops

mutual
  unfolding loops_in immediate

  pub immediate_loops : (t : Statement) → loops_in (immediate t) ≡ loops_in t
  immediate_loops Null = refl
  immediate_loops (Block label ts) = all_immediate_loops ts
  immediate_loops (If c t) = immediate_loops t
  immediate_loops (IfElse c t u) = ap₂ (λ (xs ys : List Text). xs ++ ys) (immediate_loops t) (immediate_loops u)
  immediate_loops (Case kind on arms) = arms_immediate_loops arms
  immediate_loops (Assign t now e) = refl
  immediate_loops (For h t) = ap (λ (xs : List Text). h.text ∷ xs) (immediate_loops t)

  all_immediate_loops : (ts : Statements) → loops_in_all (immediate_all ts) ≡ loops_in_all ts
  all_immediate_loops Done = refl
  all_immediate_loops (Then t ts) = ap₂ (λ (xs ys : List Text). xs ++ ys) (immediate_loops t) (all_immediate_loops ts)

  arm_immediate_loops : (a : Arm) → loops_in_arm (immediate_arm a) ≡ loops_in_arm a
  arm_immediate_loops (CaseItem labels colon t) = immediate_loops t

  arms_immediate_loops : (arms : Arms) → loops_in_arms (immediate_arms arms) ≡ loops_in_arms arms
  arms_immediate_loops NoArms = refl
  arms_immediate_loops (MoreArms a rest) = ap₂ (λ (xs ys : List Text). xs ++ ys) (arm_immediate_loops a) (arms_immediate_loops rest)

cleared_loops : (names : List (List ℕ)) (t : Statement) → loops_in_all (all_cleared names t) ≡ loops_in t
unfolding loops_in all_cleared
cleared_loops [] t = append-nil (loops_in t)
cleared_loops (name ∷ names) t = cleared_loops names t

defaults_loops : (names : List (List ℕ)) (t : Statement) → loops_in (with_defaults names t) ≡ loops_in t
unfolding loops_in
defaults_loops [] t = refl
defaults_loops (name ∷ names) t = cleared_loops (name ∷ names) t

pub mended_loops : (marks : Marks) (token : ℕ) (t : Statement) → loops_in (mended_body marks token t) ≡ loops_in t
mended_loops marks token t = defaults_loops (cleared_by marks token t) (immediate t) ∙ immediate_loops t
