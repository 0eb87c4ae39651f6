-- What the made input of a seed comes to: how many rows and sites it has and the least number of changes with which its design
-- matches its table, told by a summary, or that no changes do; and what an answer tells of it. No search stands in it.
use Rattle.std.specs.Prelude.{◌≡◌, ◌⊎◌, ℕ, List, [], ◌++◌, None, codes, decimal}
use Rattle.rr_made_input.specs.Made.{made_design, made_table}
use Rattle.rr_run.specs.declared.rows.TableKind.TheVariants.{Csv}
use Rattle.rr_endings.specs.Found.{Answer}
use Rattle.rr_endings.specs.Refusals.{Refusal}
use Rattle.rr_repair.specs.Repairs.{AreCounts, Counts, RefusesRepair, PlainRequest}
use Rattle.rr_outcomes.specs.Outcomes.{IsDespaired, IsLeftOpen, IsMended, IsUnmendable}

-- what is asked: a table of comma-separated values, the top and the clock that the design tells, and 4 members of 20,000 lines
abbrev pub made_request : List ℕ → PlainRequest
made_request cert = record { kind = Csv; top = None; clock = None; cert = cert; budget = 20000; members = 4 }

-- the summary of so many rows, sites and changes, each line ended by LF
abbrev pub summary : ℕ → Counts → List ℕ
summary seed counts =
    codes "seed " ++ (decimal seed ++ (codes "\nrows " ++ (decimal counts.rows ++ (codes "\nsites " ++ (decimal counts.sites ++ (codes "\nchanges " ++ (decimal counts.changes ++ codes "\n")))))))

-- ---- of a seed
-- so many rows has the made table, so many sites the made design, and so many changes are the least with which it matches
abbrev pub AreMadeCounts : ℕ → List ℕ → Counts → Type 0
AreMadeCounts seed cert counts = AreCounts (made_request cert) (made_design seed) (made_table seed) counts

-- .. and this text tells them
abbrev pub IsSummary : ℕ → List ℕ → List ℕ → Type 0
IsSummary seed cert text = (counts : Counts) × ((text ≡ summary seed counts) × AreMadeCounts seed cert counts)

-- no changes do
abbrev pub IsNeverMade : ℕ → List ℕ → Type 0
IsNeverMade seed cert = IsUnmendable (made_request cert) (made_design seed) (made_table seed)

-- ---- of an answer
-- it prints the summary and reports nothing, and its files are those of a repair that the summary counts
pub record IsMade (seed : ℕ) (cert : List ℕ) (answer : Answer) : Type 0 where
  pub repair : Answer
  pub mended : IsMended (made_request cert) (made_design seed) (made_table seed) repair
  pub counts : Counts
  pub are : AreMadeCounts seed cert counts
  pub files : answer.files ≡ repair.files
  pub printed : answer.out ≡ summary seed counts
  pub notes : answer.notes ≡ []
  pub status : answer.status ≡ 0

-- it is a repair's that tells that no changes match
abbrev pub IsUnmade : ℕ → List ℕ → Answer → Type 0
IsUnmade seed cert answer = IsDespaired (made_request cert) (made_design seed) (made_table seed) answer

-- it prints nothing, and its report and its files are those of a repair that leaves open whether so many changes match
pub record IsMadeOpen (seed : ℕ) (cert : List ℕ) (answer : Answer) : Type 0 where
  pub repair : Answer
  pub left : IsLeftOpen (made_request cert) (made_design seed) (made_table seed) repair
  pub files : answer.files ≡ repair.files
  pub printed : answer.out ≡ []
  pub notes : answer.notes ≡ repair.notes
  pub status : answer.status ≡ 2

abbrev pub AnswersMake : ℕ → List ℕ → Answer → Type 0
AnswersMake seed cert answer = IsMade seed cert answer ⊎ (IsUnmade seed cert answer ⊎ IsMadeOpen seed cert answer)

-- why it is refused: as a repair of the two texts is
abbrev pub RefusesMake : ℕ → List ℕ → Refusal → Type 0
RefusesMake seed cert refusal = RefusesRepair (made_request cert) (made_design seed) (made_table seed) refusal

-- ---- laws
abbrev pub OneSummary : Type 0
OneSummary = (seed : ℕ) (cert text other : List ℕ) → IsSummary seed cert text → IsSummary seed cert other → text ≡ other

abbrev pub SummaryOrNone : Type 0
SummaryOrNone = (seed : ℕ) (cert text : List ℕ) → IsSummary seed cert text → IsNeverMade seed cert → ⊥

-- an answer with its status, and what it tells of the seed
abbrev pub TellsMake : ℕ → List ℕ → Answer → Type 0
TellsMake seed cert answer = (IsMade seed cert answer × (IsSummary seed cert answer.out × (answer.status ≡ 0)))
    ⊎ ((IsUnmade seed cert answer × (IsNeverMade seed cert × (answer.status ≡ 1))) ⊎ (IsMadeOpen seed cert answer × (answer.status ≡ 2)))

abbrev pub EachMake : Type 0
EachMake = (seed : ℕ) (cert : List ℕ) (answer : Answer) → AnswersMake seed cert answer → TellsMake seed cert answer
