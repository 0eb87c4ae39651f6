-- a check of the lines in order
use Rattle.std.proofs.Common.{◌≡◌, ◌⊎◌, inl, inr, ℕ, ◌+◌, ◌<◌, ◌≤◌, Bool, true, false, List, [], length, slice_index_or, sym, ◌∙◌, ap, subst, arith}
use Rattle.std.specs.Prelude.{MatchBool}
use Rattle.std.proofs.lemmas.List.{get_or_default}
use Rattle.std.proofs.lemmas.Bool.{cases_lt}
use Rattle.rr_cnf.specs.Clauses.{Literal}
use Rattle.rr_derive.specs.Derive.{Step, PassesAt}
use Rattle.rr_check.specs.Parts.{PassIn, HasEmptyIn, NoneEmptyIn, FailsIn}

-- the lines from start on and below n pass, and an empty clause among them has been seen
pub record Checked (cs : List (List Literal)) (lines : List Step) (start n : ℕ) (has_empty : Bool) : Type 0 where
  pub passed : PassIn cs lines start n
  pub empty : MatchBool has_empty (HasEmptyIn lines start n) (NoneEmptyIn lines start n)

module _ (cs : List (List Literal)) (lines : List Step) (start : ℕ) where
  pub Checked-none : Checked cs lines start start false
  Checked-none = record { passed = λ k l h. absurd (omega arith); empty = λ k d l h. absurd (omega arith) }

  pub Checked-bad : (n : ℕ) (b : Bool) (end : ℕ) → Checked cs lines start n b → start ≤ n → n < end → (PassesAt cs lines n → ⊥) → FailsIn cs lines start end (n + 1)
  Checked-bad n b end c l h f = record {
    low = omega arith;
    high = omega arith;
    before = λ k m r. c.passed k m (omega arith);
    fails = λ k e p. f (subst (PassesAt cs lines) (let q : k ≡ n = omega arith in q) p);
  }

  passed-more : (n : ℕ) → PassIn cs lines start n → PassesAt cs lines n → PassIn cs lines start (n + 1)
  passed-more n before here k m h = by_cases (cases_lt k n)
    where
      by_cases : ((k < n) ⊎ (n ≤ k)) → PassesAt cs lines k
      by_cases (inl l) = before k m l
      by_cases (inr l) = subst (PassesAt cs lines) (let q : n ≡ k = omega arith in q) here

  pub Checked-empty : (n : ℕ) (b : Bool) (s : Step) → Checked cs lines start n b → start ≤ n → n < length lines → s ≡ slice_index_or lines n s → PassesAt cs lines n → s.clause ≡ [] → Checked cs lines start (n + 1) true
  Checked-empty n b s c l h e p z = record {
    passed = passed-more n c.passed p;
    empty = record { place = n; low = l; high = omega arith; empty = λ d. ap (λ x. x.clause) (sym (e ∙ get_or_default lines n s d h)) ∙ z };
  }

  pub Checked-other : (n : ℕ) (b : Bool) (s : Step) → Checked cs lines start n b → n < length lines → s ≡ slice_index_or lines n s → PassesAt cs lines n → (s.clause ≡ [] → ⊥) → Checked cs lines start (n + 1) b
  Checked-other n b s c h e p z = record { passed = passed-more n c.passed p; empty = go b c.empty }
    where
      some : HasEmptyIn lines start n → HasEmptyIn lines start (n + 1)
      some f = let l = f.high in record { place = f.place; low = f.low; high = omega arith; empty = f.empty }

      none : NoneEmptyIn lines start n → NoneEmptyIn lines start (n + 1)
      none f k d m l q = by_cases (cases_lt k n)
        where
          by_cases : ((k < n) ⊎ (n ≤ k)) → ⊥
          by_cases (inl r) = f k d m r q
          by_cases (inr r) =
              let i : k ≡ n = omega arith in
              z (ap (λ x. x.clause) (e ∙ get_or_default lines n s d h) ∙ ap (λ j. (slice_index_or lines j d).clause) (sym i) ∙ q)

      go : (v : Bool) → MatchBool v (HasEmptyIn lines start n) (NoneEmptyIn lines start n) → MatchBool v (HasEmptyIn lines start (n + 1)) (NoneEmptyIn lines start (n + 1))
      go true f = some f
      go false f = none f

  pub Checked-accepted : (n : ℕ) (b : Bool) (end : ℕ) → Checked cs lines start n b → end ≡ n → b ≡ true → PassIn cs lines start end × HasEmptyIn lines start end
  Checked-accepted n b end c h e = (λ k m l. c.passed k m (omega arith), some (subst (λ v. MatchBool v (HasEmptyIn lines start n) (NoneEmptyIn lines start n)) e c.empty))
    where
      some : HasEmptyIn lines start n → HasEmptyIn lines start end
      some f = let l = f.high in record { place = f.place; low = f.low; high = omega arith; empty = f.empty }

  pub Checked-without : (n : ℕ) (b : Bool) (end : ℕ) → Checked cs lines start n b → end ≡ n → b ≡ false → PassIn cs lines start end × NoneEmptyIn lines start end
  Checked-without n b end c h e =
      let f : NoneEmptyIn lines start n = subst (λ v. MatchBool v (HasEmptyIn lines start n) (NoneEmptyIn lines start n)) e c.empty in
      (λ k m l. c.passed k m (omega arith), λ k d m l. f k d m (omega arith))
