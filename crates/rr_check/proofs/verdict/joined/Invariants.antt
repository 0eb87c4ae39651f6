use Rattle.std.proofs.Common.{ℕ, List, drop}
use Rattle.rr_cnf.specs.Clauses.{Literal}
use Rattle.rr_derive.specs.Derive.{Step}
use Rattle.rr_check.specs.Parts.{AreFound}
use Rattle.rr_check.proofs.Joins.{Joined}
use Rattle.rr_check.proofs.verdict.joined.Given as goal

abbrev pub invariant-loop-one : goal.invariant-loop-one
invariant-loop-one l = (cs : List (List Literal)) (lines : List Step) (start end : ℕ) → AreFound cs lines start end l.found
    → Joined cs lines start end l.verdict (drop l.one-index l.found)
