-- A file that is its own expansion runs as the text that it is.
use Rattle.std.specs.Prelude.{ℕ, ◌≢◌, ◌≤◌, List, length, Option}
use Rattle.std.specs.List.{All}
use Rattle.rr_directive.specs.declared.origin.Origin.{Origin}
use Rattle.rr_directive.specs.Expand.{IsTaken}
use Rattle.rr_directive.specs.Laws.{AreOwn}
use Rattle.rr_flat.specs.Signals.{Text}
use Rattle.rr_run.specs.declared.rows.TableKind.{TableKind}
use Rattle.rr_run.specs.Refusals.{Refusal}
use Rattle.rr_run.specs.Runs.{IsRun, IsSameRefusal, Refuses}
use Rattle.rr_run.specs.Files.{IsFileRun, RefusesFile}

-- the same runs
abbrev pub HasSameRuns : List ℕ → Type 0
HasSameRuns file = (kind : TableKind) (table : List ℕ) (top word : Option Text) (printed : List ℕ) →
    (IsRun kind file table top word printed → IsFileRun kind file table top word printed) × (IsFileRun kind file table top word printed → IsRun kind file table top word printed)

-- the same refusals, but for the byte that is told of a text without a tree
abbrev pub IsRefusedAlike : List ℕ → Type 0
IsRefusedAlike file = (kind : TableKind) (table : List ℕ) (top word : Option Text) (refusal : Refusal) →
    (Refuses kind file table top word refusal → (other : Refusal) × (RefusesFile kind file table top word other × IsSameRefusal refusal other)) ×
    (RefusesFile kind file table top word refusal → (other : Refusal) × (Refuses kind file table top word other × IsSameRefusal refusal other))

abbrev pub OwnRun : Type 0
OwnRun = (file : List ℕ) (origins : List Origin) → IsTaken file file origins → HasSameRuns file

-- where each byte has its own place
abbrev pub OwnRefusal : Type 0
OwnRefusal = (file : List ℕ) (origins : List Origin) → IsTaken file file origins → AreOwn origins → IsRefusedAlike file

-- so it is with files of at most 1,048,576 bytes without a backtick
abbrev pub PlainRun : Type 0
PlainRun = (file : List ℕ) → All (λ b. b ≢ 96) file → length file ≤ 1048576 → HasSameRuns file × IsRefusedAlike file
