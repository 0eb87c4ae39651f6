-- What holds of lifted edits.
use Rattle.std.specs.Prelude.{ℕ, ◌≡◌, ◌<◌, List, [], length, get_or, true}
use Rattle.std.specs.List.{All}
use Rattle.rr_directive.specs.declared.origin.Origin.{Origin}
use Rattle.rr_directive.specs.Expand.{IsExpansion, IsTaken}
use Rattle.rr_directive.specs.Laws.{AreOwn}
use Rattle.rr_directive.specs.Places.{offset_at}
use Rattle.rr_edit.specs.Edits.{Edit, edited, AreEdits}
use Rattle.rr_edit.specs.Lifted.{exact_at, lifted, lifts}

-- where edits lift, the lifted file expands to the expansion with the edits made
abbrev pub LiftExpands : Type 0
LiftExpands = (file text : List ℕ) (origins : List Origin) (es : List Edit) → IsExpansion file text origins → AreEdits text es → All (λ e. lifts origins e ≡ true) es →
    (more : List Origin) × IsExpansion (lifted origins es 0 file) (edited 0 text es) more

-- without edits the file stays as it is
abbrev pub NothingLifts : Type 0
NothingLifts = (file : List ℕ) (origins : List Origin) → lifted origins [] 0 file ≡ file

-- the exact bytes of an expansion stand in the file in the order of the text, each once
abbrev pub ExactRise : Type 0
ExactRise = (file text : List ℕ) (origins : List Origin) → IsExpansion file text origins →
    (j k : ℕ) → j < k → exact_at origins j ≡ true → exact_at origins k ≡ true → offset_at origins j < offset_at origins k

-- and each is the byte of the file at its place
abbrev pub ExactAre : Type 0
ExactAre = (file text : List ℕ) (origins : List Origin) → IsExpansion file text origins →
    (k : ℕ) → exact_at origins k ≡ true → (offset_at origins k < length file) × (get_or file (offset_at origins k) 0 ≡ get_or text k 0)

-- in a file that is its own expansion, edits that lift are made as in a text
abbrev pub OwnLifted : Type 0
OwnLifted = (file : List ℕ) (origins : List Origin) (es : List Edit) → IsTaken file file origins → AreOwn origins → AreEdits file es → All (λ e. lifts origins e ≡ true) es →
    lifted origins es 0 file ≡ edited 0 file es
