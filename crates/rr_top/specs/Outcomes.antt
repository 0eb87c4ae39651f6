-- What a command comes to that is done: with its status, and with the texts that this decides.
use Rattle.std.specs.Prelude.{◌≡◌, ⊤, ℕ, List, []}
use Rattle.rr_check_certificate.specs.Texts.{verdict_text}
use Rattle.rr_check.specs.declared.verdict.Verdict.{Verdict}
use Rattle.rr_check.specs.declared.verdict.Verdict.TheVariants as found
use Rattle.rr_endings.specs.Found.{Answer}

-- a repair, or that there is none; the text of a run; the lines of a list of sites; the verdict on a certificate; the summary
-- of a made input; a file with mended blocks
pub data Outcome : Type 0 where
  mended : Outcome
  unmendable : Outcome
  ran : List ℕ → Outcome
  listed : List ℕ → Outcome
  checked : Verdict → Outcome
  made : List ℕ → Outcome
  linted : List ℕ → Outcome

abbrev pub verdict_status : Verdict → ℕ
verdict_status found.Accepted = 0
verdict_status (found.Line n) = 1
verdict_status found.NoEmptyClause = 1

abbrev pub outcome_status : Outcome → ℕ
outcome_status mended = 0
outcome_status unmendable = 1
outcome_status (ran text) = 0
outcome_status (listed text) = 0
outcome_status (checked verdict) = verdict_status verdict
outcome_status (made text) = 0
outcome_status (linted text) = 0

-- what the outcome decides of an answer's texts; which repair of least cost is printed is free
abbrev pub Tells : Outcome → Answer → Type 0
Tells mended answer = ⊤
Tells unmendable answer = answer.out ≡ []
Tells (ran text) answer = (answer.out ≡ text) × (answer.notes ≡ [])
Tells (listed text) answer = (answer.out ≡ text) × (answer.notes ≡ [])
Tells (checked verdict) answer = (answer.out ≡ verdict_text verdict) × (answer.notes ≡ [])
Tells (made text) answer = (answer.out ≡ text) × (answer.notes ≡ [])
Tells (linted text) answer = (answer.out ≡ text) × (answer.notes ≡ [])

-- the answer has this outcome
pub record IsToldBy (outcome : Outcome) (answer : Answer) : Type 0 where
  pub status : answer.status ≡ outcome_status outcome
  pub tells : Tells outcome answer
