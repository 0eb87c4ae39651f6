-- how a search ends
use Rattle.std.specs.Prelude.{◌≡◌, ℕ, ◌*◌, ◌^◌, ◌<◌, ◌≤◌, List, [], length, map, All}
use Rattle.rr_cnf.specs.Clauses.{Clauses, IsWithin}
use Rattle.rr_derive.specs.Derive.{Step, Derives, Refutes}
use Rattle.rr_derive.specs.Fresh.{Fresh, Handed}
use Rattle.rr_solver.specs.Searches.{IsModel}
use Rattle.rr_solver.specs.declared.outcome.Outcome.{Outcome}
use Rattle.rr_solver.specs.declared.outcome.Outcome.TheVariants.{Model as Solved, Refuted as Unsolvable, Spent}

-- nothing was handed over before any of the lines
abbrev pub nothing_handed : List Step → List (List Handed)
nothing_handed lines = map (λ s. []) lines

-- the lines have ids above the formula's, and its variables
pub record AreLines (f : Clauses) (lines : List Step) : Type 0 where
  pub above : All (λ s. length f.clauses < s.id) lines
  pub within : All (λ s. All (IsWithin f.vars) s.clause) lines

-- a satisfying assignment, a refutation, or as many fresh lines as were to be learned
abbrev pub OutcomeIs : Clauses → ℕ → ℕ → Outcome → Type 0
OutcomeIs f inputs budget (Solved bits) = IsModel f bits.items
OutcomeIs f inputs budget (Unsolvable j) = Refutes f.clauses j.lines × AreLines f j.lines
OutcomeIs f inputs budget (Spent j) =
    (length j.lines ≡ budget)
    × Derives f.clauses j.lines
    × Fresh f.clauses inputs (nothing_handed j.lines) j.lines
    × (budget ≤ inputs * 3 ^ inputs)
    × AreLines f j.lines
