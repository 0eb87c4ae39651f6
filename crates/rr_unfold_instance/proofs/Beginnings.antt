-- An unfolded statement begins where the statement begins: the block of a loop's turns is labelled with the loop's name, and a
-- statement of which no leaf tells has no loop and stays.
use Rattle.std.proofs.Common.{◌≡◌, ℕ, ◌-◌, length, [], Option, Some, None, refl, sym, ◌∙◌, ap, ap₂}
use Rattle.rr_syntax.specs.Tree.{Tree, Statement, Statements, Null, Block, If, IfElse, Case, Assign, For, Done, Then}
use Rattle.rr_syntax.specs.Statements.{spell_statement}
use Rattle.rr_expr.specs.Faults.{first}
use Rattle.rr_expr.specs.Scopes.{Names}
use Rattle.rr_instance.specs.Firsts.{before, or_later, told, told_of}
use Rattle.rr_loop_names.proofs.Staying.{put_stays}
use Rattle.rr_unfold.specs.Unfold.{unfold_statement, unfold_statements}
use Rattle.rr_unfold_instance.proofs.LastAssignments.{alone, target_alone}

before_none : (n : ℕ) (o : Option ℕ) → before n o ≡ None → o ≡ None
before_none n None e = refl
before_none n (Some at) e = absurd (cc)

later_none : (o : Option ℕ) (n : ℕ) (later : Option ℕ) → or_later o n later ≡ None → (o ≡ None) × (later ≡ None)
later_none None n later e = (refl, before_none n later e)
later_none (Some at) n later e = absurd (cc)

-- the first of two beginnings
first_stays : (t u : Statement) (later other : Option ℕ) → told u ≡ told t → (told t ≡ None → u ≡ t) → other ≡ later →
    or_later (told u) (length (spell_statement u)) other ≡ or_later (told t) (length (spell_statement t)) later
first_stays t u later other same silent e = by_told (told t) refl
  where
    by_told : (o : Option ℕ) → told t ≡ o → or_later (told u) (length (spell_statement u)) other ≡ or_later (told t) (length (spell_statement t)) later
    by_told None q = ap₂ (λ (x : Statement) (l : Option ℕ). or_later (told x) (length (spell_statement x)) l) (silent q) e
    by_told (Some at) q =
        ap (λ (o : Option ℕ). or_later o (length (spell_statement u)) other) (same ∙ q) ∙ sym (ap (λ (o : Option ℕ). or_later o (length (spell_statement t)) later) q)

-- what tells of a token is not silent
some_none : (n : ℕ) (t u : Statement) → Some n ≡ None → t ≡ u
some_none n t u e = absurd (cc)

module _ (s : Names) where
  mutual
    unfolding told unfold_statement

    silent_stays : (t : Statement) → told t ≡ None → unfold_statement s [] t ≡ t
    silent_stays Null e = refl
    silent_stays (Block None ts) e = ap (Block None) (silent_stay ts (before_none 1 (told_of ts) e))
    silent_stays (Block (Some label) ts) e = some_none (label.token - 2) _ _ e
    silent_stays (If c t) e = some_none (first c - 2) _ _ e
    silent_stays (IfElse c t u) e = some_none (first c - 2) _ _ e
    silent_stays (Case kind on arms) e = some_none (first on - 2) _ _ e
    silent_stays (Assign t now v) e = some_none (first t) _ _ e
    silent_stays (For h t) e = some_none (h.token - 2) _ _ e

    silent_stay : (ts : Statements) → told_of ts ≡ None → unfold_statements s [] ts ≡ ts
    silent_stay Done e = refl
    silent_stay (Then t ts) e =
        let parts = later_none (told t) (length (spell_statement t)) (told_of ts) e in
        ap₂ Then (silent_stays t parts.0) (silent_stay ts parts.1)

  mutual
    unfolding told unfold_statement

    pub told_stays : (t : Statement) → told (unfold_statement s [] t) ≡ told t
    told_stays Null = refl
    told_stays (Block None ts) = ap (before 1) (told_stay ts)
    told_stays (Block (Some label) ts) = refl
    told_stays (If c t) = ap (λ (u : Tree). Some (first u - 2)) (alone put_stays c)
    told_stays (IfElse c t u) = ap (λ (x : Tree). Some (first x - 2)) (alone put_stays c)
    told_stays (Case kind on arms) = ap (λ (u : Tree). Some (first u - 2)) (alone put_stays on)
    told_stays (Assign t now e) = ap (λ (u : Tree). Some (first u)) (target_alone put_stays t)
    told_stays (For h t) = refl

    told_stay : (ts : Statements) → told_of (unfold_statements s [] ts) ≡ told_of ts
    told_stay Done = refl
    told_stay (Then t ts) = first_stays t (unfold_statement s [] t) (told_of ts) (told_of (unfold_statements s [] ts)) (told_stays t) (silent_stays t) (told_stay ts)
