-- What a body assigns with its loops unfolded it assigns in its text.
use Rattle.std.proofs.Common.{◌≡◌, ◌∙◌, sym, ap, ap₂, inl, inr, ◌⊎◌, ℕ, Bool, true, false, ◌||◌, List, [], ◌∷◌, ◌++◌, map, refl}
use Rattle.std.specs.List.{list_any}
use Rattle.std.proofs.lemmas.Bool.{or_cases, or_left, or_right}
use Rattle.std.proofs.lemmas.List.Folds.{list_any-append}
use Rattle.rr_syntax.specs.Tree.{Tree, Trees, Name, Literal, Bit, Part, Indexed, Unary, Binary, Cond, Concat, Repeat, Cast, Paren, End, More, Statement, Statements, Arm, Arms, Null, Block, If, IfElse, Case, Assign, For, Done, Then, CaseItem, NoArms, MoreArms}
use Rattle.rr_expr.specs.Scopes.{Names}
use Rattle.rr_flat.specs.Reads.{Assigned, assigned_parts, assigned_by, assigned_by_all, assigned_by_arm, assigned_by_arms}
use Rattle.rr_flat.specs.Targets.{part_name, target_parts, targets_parts}
use Rattle.rr_loop_names.specs.Turns.{Turn, put_target, put_targets}
use Rattle.rr_unfold.specs.Unfold.{each_turn, inside, unfold_statement, unfold_statements, unfold_arm, unfold_arms, values_of}
use Rattle.rr_lint_laws.specs.Ever.{ever_assigned, ever_assigned_all, ever_assigned_arm, ever_assigned_arms, ever_names}
use Rattle.rr_lint_laws.specs.Mended.{target_names}

module _ (p : List ℕ → Bool) where
  abbrev of_part : Tree → Bool
  of_part t = p (part_name t)

  abbrev of_assigned : Assigned → Bool
  of_assigned a = p (part_name a.part)

  -- a target with the values of a turn has its names

  mutual
    unfolding put_target target_parts

    put_named : (turn : Turn) (t : Tree) → list_any of_part (target_parts (put_target turn t)) ≡ list_any of_part (target_parts t)
    put_named turn (Name token name) = refl
    put_named turn (Literal token n) = refl
    put_named turn (Bit token name i) = refl
    put_named turn (Part token name l r) = refl
    put_named turn (Indexed token name f n up) = refl
    put_named turn (Unary op t) = refl
    put_named turn (Binary op l r) = refl
    put_named turn (Cond a b c) = refl
    put_named turn (Concat ts) = all_put_named turn ts
    put_named turn (Repeat n ts) = refl
    put_named turn (Cast signed t) = refl
    put_named turn (Paren t) = refl

    all_put_named : (turn : Turn) (ts : Trees) → list_any of_part (targets_parts (put_targets turn ts)) ≡ list_any of_part (targets_parts ts)
    all_put_named turn End = refl
    all_put_named turn (More t ts) =
        list_any-append of_part (target_parts (put_target turn t)) (targets_parts (put_targets turn ts))
        ∙ (ap₂ (λ (x y : Bool). x || y) (put_named turn t) (all_put_named turn ts) ∙ sym (list_any-append of_part (target_parts t) (targets_parts ts)))

  parts_any : (now : Bool) (ts : List Tree) → list_any of_assigned (assigned_parts now ts) ≡ list_any of_part ts
  unfolding assigned_parts
  parts_any now [] = refl
  parts_any now (t ∷ ts) = ap (λ (b : Bool). of_part t || b) (parts_any now ts)

  any_cases : (xs ys : List Assigned) → list_any of_assigned (xs ++ ys) ≡ true → (list_any of_assigned xs ≡ true) ⊎ (list_any of_assigned ys ≡ true)
  any_cases xs ys e = or_cases (list_any of_assigned xs) (list_any of_assigned ys) (sym (list_any-append of_assigned xs ys) ∙ e)

  any_both : (xs ys : List Assigned) → (list_any of_assigned xs ≡ true) ⊎ (list_any of_assigned ys ≡ true) → list_any of_assigned (xs ++ ys) ≡ true
  any_both xs ys (inl h) = list_any-append of_assigned xs ys ∙ or_left (list_any of_assigned xs) (list_any of_assigned ys) h
  any_both xs ys (inr h) = list_any-append of_assigned xs ys ∙ or_right (list_any of_assigned xs) (list_any of_assigned ys) h

  turns_within : (body : ℕ → Statement) (xs : List Assigned) → ((v : ℕ) → list_any of_assigned (assigned_by (body v)) ≡ true → list_any of_assigned xs ≡ true) → (vs : List ℕ) → list_any of_assigned (assigned_by_all (each_turn body vs)) ≡ true
      → list_any of_assigned xs ≡ true
  unfolding each_turn assigned_by
  turns_within body xs h [] e = absurd (cc)
  turns_within body xs h (v ∷ vs) e = elim (any_cases (assigned_by (body v)) (assigned_by_all (each_turn body vs)) e) [
    | inl k ↦ h v k
    | inr k ↦ turns_within body xs h vs k
  ]

  mutual
    unfolding unfold_statement assigned_by ever_assigned

    within : (s : Names) (turn : Turn) (t : Statement) → list_any of_assigned (assigned_by (unfold_statement s turn t)) ≡ true → list_any of_assigned (ever_assigned t) ≡ true
    within s turn Null e = absurd (cc)
    within s turn (Block label ts) e = all_within s turn ts e
    within s turn (If c t) e = within s turn t e
    within s turn (IfElse c t u) e = any_both (ever_assigned t) (ever_assigned u) (elim (any_cases (assigned_by (unfold_statement s turn t)) (assigned_by (unfold_statement s turn u)) e) [
      | inl h ↦ inl (within s turn t h)
      | inr h ↦ inr (within s turn u h)
    ])
    within s turn (Case kind on arms) e = arms_within s turn arms e
    within s turn (Assign t now x) e =
        parts_any now (target_parts t) ∙ (sym (put_named turn t) ∙ (sym (parts_any now (target_parts (put_target turn t))) ∙ e))
    within s turn (For h t) e = turns_within (λ v. unfold_statement s (inside h turn v) t) (ever_assigned t) (λ v k. within s (inside h turn v) t k) (values_of s turn h) e

    all_within : (s : Names) (turn : Turn) (ts : Statements) → list_any of_assigned (assigned_by_all (unfold_statements s turn ts)) ≡ true → list_any of_assigned (ever_assigned_all ts) ≡ true
    all_within s turn Done e = absurd (cc)
    all_within s turn (Then t ts) e = any_both (ever_assigned t) (ever_assigned_all ts) (elim (any_cases (assigned_by (unfold_statement s turn t)) (assigned_by_all (unfold_statements s turn ts)) e) [
      | inl h ↦ inl (within s turn t h)
      | inr h ↦ inr (all_within s turn ts h)
    ])

    arm_within : (s : Names) (turn : Turn) (a : Arm) → list_any of_assigned (assigned_by_arm (unfold_arm s turn a)) ≡ true → list_any of_assigned (ever_assigned_arm a) ≡ true
    arm_within s turn (CaseItem labels colon t) e = within s turn t e

    arms_within : (s : Names) (turn : Turn) (arms : Arms) → list_any of_assigned (assigned_by_arms (unfold_arms s turn arms)) ≡ true → list_any of_assigned (ever_assigned_arms arms) ≡ true
    arms_within s turn NoArms e = absurd (cc)
    arms_within s turn (MoreArms a rest) e = any_both (ever_assigned_arm a) (ever_assigned_arms rest) (elim (any_cases (assigned_by_arm (unfold_arm s turn a)) (assigned_by_arms (unfold_arms s turn rest)) e) [
      | inl h ↦ inl (arm_within s turn a h)
      | inr h ↦ inr (arms_within s turn rest h)
    ])

  names_any : (xs : List Assigned) → list_any p (map (λ a. part_name a.part) xs) ≡ list_any of_assigned xs
  names_any [] = refl
  names_any (x ∷ xs) = ap (λ (b : Bool). of_assigned x || b) (names_any xs)

  pub unfolded_names : (s : Names) (t : Statement) → list_any p (target_names (unfold_statement s [] t)) ≡ true → list_any p (ever_names t) ≡ true
  unfolded_names s t e = names_any (ever_assigned t) ∙ within s [] t (sym (names_any (assigned_by (unfold_statement s [] t))) ∙ e)
