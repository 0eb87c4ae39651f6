-- the verdict on a proof (LRAT without RAT lines: L. Cruz-Filipe, M. J. H. Heule, W. A. Hunt,
-- M. Kaufmann, P. Schneider-Kamp, "Efficient certified RAT verification", 2017)
use Rattle.std.specs.Prelude.{◌≡◌, ℕ, ◌+◌, ◌<◌, ◌≤◌, List, [], length, Contains}
use Rattle.rr_cnf.specs.Clauses.{Literal}
use Rattle.rr_derive.specs.Derive.{Step, PassesAt, Derives, Refutes}
use Rattle.rr_check.specs.declared.verdict.Verdict.{Verdict}
use Rattle.rr_check.specs.declared.verdict.Verdict.TheVariants.{Accepted, Line, NoEmptyClause}

-- the n-th addition, counted from 1, fails the hint check, and none before it does
pub record IsLeastFailing (clauses : List (List Literal)) (lines : List Step) (n : ℕ) : Type 0 where
  pub low : 1 ≤ n
  pub high : n ≤ length lines
  pub before : (k : ℕ) → k + 1 < n → PassesAt clauses lines k
  pub fails : (k : ℕ) → k + 1 ≡ n → PassesAt clauses lines k → ⊥

abbrev pub NoneIsEmpty : List Step → Type 0
NoneIsEmpty lines = (s : Step) → Contains lines s → s.clause ≡ [] → ⊥

-- every addition passes and one is empty; or one is the least that fails; or every one passes and
-- none is empty
abbrev pub VerdictIs : List (List Literal) → List Step → Verdict → Type 0
VerdictIs clauses lines Accepted = Refutes clauses lines
VerdictIs clauses lines (Line n) = IsLeastFailing clauses lines n
VerdictIs clauses lines NoEmptyClause = Derives clauses lines × NoneIsEmpty lines
