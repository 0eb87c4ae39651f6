-- What the calls of a shelf answer, and what they leave.
use Rattle.std.specs.Prelude.{◌≡◌, ◌⊎◌, ℕ, ◌+◌, ◌-◌, ◌^◌, min, take, ◌<◌, ◌≤◌, List, Option, Some, None, ⊤, length, Result, Ok, Err, IfSome, IsSomeAnd, Vec}
use Rattle.std.specs.declared.alloc.Global.{Global}
use Rattle.rr_edge.specs.declared.ShelfFault.{ShelfFault}
use Rattle.rr_edge.specs.declared.ShelfFault.TheVariants.{Failed, Absent, TooLong, Memory}
use Rattle.rr_edge.specs.Faults.{Faulted}
use Rattle.std.specs.Option.{option_map}
use Rattle.rr_edge.specs.Held.{Held, put}

-- What a read of a name answers. Where the map is told and the call neither failed nor ran out of memory, the map decides it.
abbrev pub Reads : Option Held → List ℕ → ℕ → Result (Vec ℕ Global) ShelfFault → Type 0
Reads told name limit (Ok bytes) = (length bytes.items ≤ limit) × IfSome told (λ held. held name ≡ Some bytes.items)
Reads told name limit (Err (TooLong n)) = (limit < n) × IfSome told (λ held. (bytes : List ℕ) × (held name ≡ Some bytes) × (length bytes ≡ n))
Reads told name limit (Err Absent) = IsSomeAnd told (λ held. held name ≡ None)
Reads told name limit (Err Failed) = ⊤
Reads told name limit (Err Memory) = ⊤

-- What a write leaves: the name has the bytes; after a fault it has what it had or a front of the bytes. It answers neither `Absent` nor `TooLong`.
abbrev pub Writes : {T : Type 0} → Option Held → Option Held → List ℕ → List ℕ → Result T ShelfFault → Type 0
Writes old new name bytes (Ok t) = new ≡ option_map (λ held. put held name bytes) old
Writes old new name bytes (Err Failed) = (new ≡ old) ⊎ ((n : ℕ) × (new ≡ option_map (λ held. put held name (take n bytes)) old))
Writes old new name bytes (Err Memory) = new ≡ old
Writes old new name bytes (Err Absent) = ⊥
Writes old new name bytes (Err (TooLong n)) = ⊥

-- the count rises at `Failed`, or stands at its type's end, and stays at every other answer
abbrev pub Counts : {T : Type 0} → ℕ → ℕ → Result T ShelfFault → Type 0
Counts before now (Ok t) = now ≡ before
Counts before now (Err Failed) = Faulted before now
Counts before now (Err Absent) = now ≡ before
Counts before now (Err (TooLong n)) = now ≡ before
Counts before now (Err Memory) = now ≡ before

-- the count after an answer: one more at `Failed`, where it is not at its type's end
abbrev pub count_after : {T : Type 0} → ℕ → Result T ShelfFault → ℕ
count_after before (Ok t) = before
count_after before (Err Failed) = min (before + 1) (2 ^ 64 - 1)
count_after before (Err Absent) = before
count_after before (Err (TooLong n)) = before
count_after before (Err Memory) = before
