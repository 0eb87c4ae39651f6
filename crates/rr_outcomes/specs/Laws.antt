-- Laws of repairs: two files come to one outcome or have one refusal, and each answer tells that outcome or leaves it open.
use Rattle.std.specs.Prelude.{◌≡◌, ◌⊎◌, ℕ, ◌+◌, ◌<◌, List, [], length}
use Rattle.rr_choice.specs.Sites.{Site}
use Rattle.rr_trace.specs.Tables.{Table}
use Rattle.rr_kept.specs.Read.{SourceFile}
use Rattle.rr_run.specs.Refusals.{Refusal as RunRefusal}
use Rattle.rr_run.specs.Runs.{IsSameRefusal}
use Rattle.rr_endings.specs.Found.{Answer}
use Rattle.rr_repair.specs.Repairs.{AnswersRepair, Counts, CountsRepair, IsLeastCount, IsTaken, Refuses, PlainRequest}
use Rattle.rr_outcomes.specs.Outcomes.{IsAmple, IsAsItWas, IsDespaired, IsLeftOpen, IsMatching, IsMatchingSource, IsMendable, IsMended, IsUnmendable}

-- two ways to take the files are one
pub record IsOneTaking (a b : SourceFile) (ss rs : List Site) (x y : Table) : Type 0 where
  pub file : a ≡ b
  pub sites : ss ≡ rs
  pub rows : x ≡ y

abbrev pub OneTaking : Type 0
OneTaking = (w : PlainRequest) (design table : List ℕ) (a b : SourceFile) (ss rs : List Site) (x y : Table) →
    IsTaken w design table a ss x → IsTaken w design table b rs y → IsOneTaking a b ss rs x y

-- two refusals are one, but for the byte that is told of a text without a tree
abbrev pub OneRefusal : Type 0
OneRefusal = (w : PlainRequest) (design table : List ℕ) (r s : RunRefusal) → Refuses w design table r → Refuses w design table s → IsSameRefusal r s

-- files that are taken are not refused
abbrev pub TakenOrRefused : Type 0
TakenOrRefused = (w : PlainRequest) (design table : List ℕ) (a : SourceFile) (ss : List Site) (x : Table) (r : RunRefusal) →
    IsTaken w design table a ss x → Refuses w design table r → ⊥

abbrev pub MendableOrNot : Type 0
MendableOrNot = (w : PlainRequest) (design table : List ℕ) → IsMendable w design table → IsUnmendable w design table → ⊥

-- a design that matches as it is has a choice that matches: the one that changes nothing
abbrev pub MatchingIsMendable : Type 0
MatchingIsMendable = (w : PlainRequest) (design table : List ℕ) → IsMatching w design table → IsMendable w design table

-- of an answer: what the files come to, and the status
abbrev pub TellsOutcome : PlainRequest → List ℕ → List ℕ → Answer → Type 0
TellsOutcome w design table answer = (IsMended w design table answer × (IsMendable w design table × (answer.status ≡ 0)))
    ⊎ ((IsDespaired w design table answer × (IsUnmendable w design table × (answer.status ≡ 1))) ⊎ (IsLeftOpen w design table answer × (answer.status ≡ 2)))

abbrev pub EachAnswer : Type 0
EachAnswer = (w : PlainRequest) (design table : List ℕ) (answer : Answer) → AnswersRepair w design table answer → TellsOutcome w design table answer

-- an answer that leaves changes of all sites open prints nothing; one that leaves fewer open prints the source with one change
-- more, which match
abbrev pub PrintsFound : Type 0
PrintsFound = (w : PlainRequest) (design table : List ℕ) (answer : Answer) (left : IsLeftOpen w design table answer) →
    ((left.is.bound ≡ length left.sites) × (answer.out ≡ [])) ⊎ ((left.is.bound < length left.sites) × IsMatchingSource w design table (left.is.bound + 1) answer.out)

-- so it prints nothing where no choice matches
abbrev pub PrintedIsMendable : Type 0
PrintedIsMendable = (w : PlainRequest) (design table : List ℕ) (answer : Answer) → IsLeftOpen w design table answer → (answer.out ≡ []) ⊎ IsMendable w design table

-- no answer leaves a repair open where the budget is ample
abbrev pub AmpleSettles : Type 0
AmpleSettles = (w : PlainRequest) (design table : List ℕ) (answer : Answer) → IsAmple w design table → AnswersRepair w design table answer → answer.status ≡ 2 → ⊥

-- where the design matches as it is, each answer prints it so
abbrev pub MatchingStays : Type 0
MatchingStays = (w : PlainRequest) (design table : List ℕ) (answer : Answer) → IsMatching w design table → AnswersRepair w design table answer → IsAsItWas design answer

-- two requests that read the files in one way: the budget, the members and the name of the certificate may differ
pub record AreAlike (v w : PlainRequest) : Type 0 where
  pub kind : v.kind ≡ w.kind
  pub top : v.top ≡ w.top
  pub clock : v.clock ≡ w.clock

-- by both the files have one least number of changes
abbrev pub OneCount : Type 0
OneCount = (v w : PlainRequest) (design table : List ℕ) (k n : ℕ) → AreAlike v w → IsLeastCount v design table k → IsLeastCount w design table n → k ≡ n

-- and not by one some changes match, and none by the other
abbrev pub OneVerdict : Type 0
OneVerdict = (v w : PlainRequest) (design table : List ℕ) → AreAlike v w → IsMendable v design table → IsUnmendable w design table → ⊥

-- so answers of status 0 have the same counts, of changes too, and none has status 1 beside them
abbrev pub CountsAgree : Type 0
CountsAgree = (v w : PlainRequest) (design table : List ℕ) (a b : Answer) (k n : Counts) → AreAlike v w → CountsRepair v design table a k → CountsRepair w design table b n → a.status ≡ 0 →
    (b.status ≡ 0 → k ≡ n) × (b.status ≡ 1 → ⊥)
