-- what a free search finds is an end of the whole search
use Rattle.std.proofs.Common.{ℕ, inr, refl}
use Rattle.rr_cnf.specs.Clauses.{Clauses}
use Rattle.rr_solver.specs.declared.outcome.Outcome.{Outcome}
use Rattle.rr_solver.specs.declared.outcome.Outcome.TheVariants.{Model as Solved, Refuted as Unsolvable, Spent}
use Rattle.rr_members.specs.Searched.{EndsInBudget, IsFreeEnd, SearchedIs}

pub both : (f : Clauses) (inputs count budget : ℕ) (o : Outcome) → IsFreeEnd f budget o → SearchedIs f inputs count budget o × EndsInBudget f inputs count budget o
both f inputs count budget (Solved bits) e = (e, record {})
both f inputs count budget (Unsolvable j) e = ((e.0, e.1), inr e.2)
both f inputs count budget (Spent j) e = absurd e
