-- verdicts on whole proofs
use Rattle.std.proofs.Common.{◌≡◌, ◌⊎◌, inl, inr, ℕ, ◌-◌, ◌<◌, ◌≤◌, List, [], length, slice_index_or, refl, ◌∙◌, ap, subst, arith}
use Rattle.std.specs.Prelude.{Contains, Result, Ok, Err, IfOk}
use Rattle.std.specs.declared.alloc.AllocError.{AllocError}
use Rattle.std.proofs.lemmas.List.{get_or_default}
use Rattle.std.proofs.lemmas.Bool.{cases_lt}
use Rattle.rr_cnf.specs.Clauses.{Literal, IsUnsatisfiable}
use Rattle.rr_derive.specs.Derive.{Step, Derives}
use Rattle.rr_derive.proofs.Soundness.{unsatisfiable}
use Rattle.rr_check.specs.declared.verdict.Verdict.{Verdict}
use Rattle.rr_check.specs.declared.verdict.Verdict.TheVariants.{Accepted, Line, NoEmptyClause}
use Rattle.rr_check.specs.Verdicts.{IsLeastFailing, NoneIsEmpty, VerdictIs}
use Rattle.rr_check.specs.Parts.{PassIn, HasEmptyIn, NoneEmptyIn, VerdictOn}

module _ (cs : List (List Literal)) (lines : List Step) where
  no_step : Step
  no_step = record { id = 0; clause = []; hints = [] }

  derives : PassIn cs lines 0 (length lines) → Derives cs lines
  derives p k h = p k (omega arith) h

  has_empty : HasEmptyIn lines 0 (length lines) → (s : Step) × (Contains lines s × (s.clause ≡ []))
  has_empty e = (slice_index_or lines e.place no_step, ((e.place, e.high, get_or_default lines e.place (slice_index_or lines e.place no_step) no_step e.high), e.empty no_step))

  none_empty : NoneEmptyIn lines 0 (length lines) → NoneIsEmpty lines
  none_empty f s k z = f k.0 s (omega arith) k.1 (ap (λ x. x.clause) k.2 ∙ z)

  pub whole : (v : Verdict) → VerdictOn cs lines 0 (length lines) v → VerdictIs cs lines v
  whole Accepted on = (derives on.0, has_empty on.1)
  whole (Line n) on = let l = on.low in record { low = omega arith; high = on.high; before = λ k r. on.before k (omega arith) r; fails = on.fails }
  whole NoEmptyClause on = (derives on.0, none_empty on.1)

  -- a line that fails is below the lines that pass
  fails_once : {X : Type 0} (n : ℕ) → IsLeastFailing cs lines n → Derives cs lines → X
  fails_once n f d = let l = f.low in let h = f.high in absurd (f.fails (n - 1) (omega arith) (d (n - 1) (omega arith)))

  not_before : (n m : ℕ) → IsLeastFailing cs lines n → IsLeastFailing cs lines m → n < m → ⊥
  not_before n m f g less = let l = f.low in f.fails (n - 1) (omega arith) (g.before (n - 1) (omega arith))

  same_line : (n m : ℕ) → IsLeastFailing cs lines n → IsLeastFailing cs lines m → n ≡ m
  same_line n m f g = by_cases (cases_lt n m) (cases_lt m n)
    where
      by_cases : ((n < m) ⊎ (m ≤ n)) → ((m < n) ⊎ (n ≤ m)) → n ≡ m
      by_cases (inl l) r = absurd (not_before n m f g l)
      by_cases (inr l) (inl r) = absurd (not_before m n g f r)
      by_cases (inr l) (inr r) = omega arith

  pub one : (v w : Verdict) → VerdictIs cs lines v → VerdictIs cs lines w → v ≡ w
  one Accepted Accepted p q = refl
  one Accepted (Line m) p q = fails_once m q p.0
  one Accepted NoEmptyClause p q = absurd (q.1 p.1.0 p.1.1.0 p.1.1.1)
  one (Line n) Accepted p q = fails_once n p q.0
  one (Line n) (Line m) p q = ap (λ k. Line k) (same_line n m p q)
  one (Line n) NoEmptyClause p q = fails_once n p q.0
  one NoEmptyClause Accepted p q = absurd (p.1 q.1.0 q.1.1.0 q.1.1.1)
  one NoEmptyClause (Line m) p q = fails_once m q p.0
  one NoEmptyClause NoEmptyClause p q = refl

  pub sound : (v : Verdict) → VerdictIs cs lines v → v ≡ Accepted → IsUnsatisfiable cs
  sound v is e = let refutes : VerdictIs cs lines Accepted = subst (VerdictIs cs lines) e is in unsatisfiable cs lines refutes

  -- what the answer of a check says
  pub verdict_where : (r : Result Verdict AllocError) → IfOk r (VerdictOn cs lines 0 (length lines)) → IfOk r (VerdictIs cs lines)
  verdict_where (Ok v) on = whole v on
  verdict_where (Err e) on = tt

  pub exact_where : (r : Result Verdict AllocError) (v : Verdict) → VerdictIs cs lines v → IfOk r (VerdictIs cs lines) → IfOk r (λ w. w ≡ v)
  exact_where (Ok w) v is on = one w v on is
  exact_where (Err e) v is on = tt

  pub sound_where : (r : Result Verdict AllocError) → IfOk r (VerdictIs cs lines) → IfOk r (λ v. v ≡ Accepted → IsUnsatisfiable cs)
  sound_where (Ok v) on = sound v on
  sound_where (Err e) on = tt
