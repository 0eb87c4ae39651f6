-- What a put on a sink leaves.
use Rattle.std.specs.Prelude.{◌≡◌, ℕ, ◌+◌, ◌-◌, ◌^◌, ◌<◌, min, length, List, Option, take, Result, Ok, Err}
use Rattle.std.specs.Io.KnownBytes.{Appends}
use Rattle.rr_edge.specs.declared.SinkFault.{SinkFault}
use Rattle.rr_edge.specs.Faults.{Faulted}

-- known bytes grow by a front of the piece
abbrev pub AppendsFront : Option (List ℕ) → Option (List ℕ) → List ℕ → Type 0
AppendsFront old new piece = (n : ℕ) × Appends old new (take n piece)

-- after Ok the piece stands at the end, and after a fault a front of it
abbrev pub Puts : {T : Type 0} → Option (List ℕ) → Option (List ℕ) → List ℕ → Result T SinkFault → Type 0
Puts old new piece (Ok t) = Appends old new piece
Puts old new piece (Err e) = AppendsFront old new piece

-- the count rises at a fault, or stands at its type's end, and stays at Ok
abbrev pub CountsPut : {T : Type 0} → ℕ → ℕ → Result T SinkFault → Type 0
CountsPut before now (Ok t) = now ≡ before
CountsPut before now (Err e) = Faulted before now

-- known bytes grow by a front of the piece that is not the whole
abbrev pub AppendsShort : Option (List ℕ) → Option (List ℕ) → List ℕ → Type 0
AppendsShort old new piece = (n : ℕ) × (n < length piece) × Appends old new (take n piece)

-- the count after an answer: one more at a fault, where it is not at its type's end
abbrev pub count_after_put : {T : Type 0} → ℕ → Result T SinkFault → ℕ
count_after_put before (Ok t) = before
count_after_put before (Err e) = min (before + 1) (2 ^ 64 - 1)
