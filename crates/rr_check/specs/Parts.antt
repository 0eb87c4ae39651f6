-- parts of a proof, and the verdicts on them
use Rattle.std.specs.Prelude.{◌≡◌, ℕ, ◌+◌, ◌<◌, ◌≤◌, List, [], ◌∷◌, length, slice_index_or, Result, Ok, Err}
use Rattle.std.specs.declared.alloc.AllocError.{AllocError}
use Rattle.rr_cnf.specs.Clauses.{Literal}
use Rattle.rr_derive.specs.Derive.{Step, PassesAt}
use Rattle.rr_check.specs.declared.part.Part.{Part}
use Rattle.rr_check.specs.declared.verdict.Verdict.{Verdict}
use Rattle.rr_check.specs.declared.verdict.Verdict.TheVariants.{Accepted, Line, NoEmptyClause}

-- these are lines of the proof
abbrev pub IsPartOf : List Step → Part → Type 0
IsPartOf lines p = (p.start ≤ p.end) × (p.end ≤ length lines)

-- the parts follow one another, from one line up to another
abbrev pub Covers : ℕ → ℕ → List Part → Type 0
Covers start end [] = start ≡ end
Covers start end (p ∷ parts) = (p.start ≡ start) × (p.start ≤ p.end) × Covers p.end end parts

abbrev pub PassIn : List (List Literal) → List Step → ℕ → ℕ → Type 0
PassIn clauses lines start end = (k : ℕ) → start ≤ k → k < end → PassesAt clauses lines k

-- one of these lines has the empty clause
pub record HasEmptyIn (lines : List Step) (start end : ℕ) : Type 0 where
  pub place : ℕ
  pub low : start ≤ place
  pub high : place < end
  pub empty : (d : Step) → (slice_index_or lines place d).clause ≡ []

abbrev pub NoneEmptyIn : List Step → ℕ → ℕ → Type 0
NoneEmptyIn lines start end = (k : ℕ) (d : Step) → start ≤ k → k < end → (slice_index_or lines k d).clause ≡ [] → ⊥

-- the n-th line, counted from 1, is the first of these that fails
pub record FailsIn (clauses : List (List Literal)) (lines : List Step) (start end n : ℕ) : Type 0 where
  pub low : start < n
  pub high : n ≤ end
  pub before : (k : ℕ) → start ≤ k → k + 1 < n → PassesAt clauses lines k
  pub fails : (k : ℕ) → k + 1 ≡ n → PassesAt clauses lines k → ⊥

-- the verdict on the lines from one up to another
abbrev pub VerdictOn : List (List Literal) → List Step → ℕ → ℕ → Verdict → Type 0
VerdictOn clauses lines start end Accepted = PassIn clauses lines start end × HasEmptyIn lines start end
VerdictOn clauses lines start end (Line n) = FailsIn clauses lines start end n
VerdictOn clauses lines start end NoEmptyClause = PassIn clauses lines start end × NoneEmptyIn lines start end

-- the verdict on two parts, one behind the other
abbrev pub and_then : Verdict → Verdict → Verdict
and_then (Line n) w = Line n
and_then Accepted (Line n) = Line n
and_then Accepted Accepted = Accepted
and_then Accepted NoEmptyClause = Accepted
and_then NoEmptyClause w = w

-- what is found on part after part; where memory ran out nothing is known
abbrev pub AreFound : List (List Literal) → List Step → ℕ → ℕ → List (Result Verdict AllocError) → Type 0
AreFound clauses lines start end [] = start ≡ end
AreFound clauses lines start end (Ok v ∷ found) =
    (middle : ℕ) × (start ≤ middle) × VerdictOn clauses lines start middle v × AreFound clauses lines middle end found
AreFound clauses lines start end (Err e ∷ found) =
    (middle : ℕ) × (start ≤ middle) × AreFound clauses lines middle end found
