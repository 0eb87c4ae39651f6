-- What a shelf of files answers, in terms of the open files that it read and wrote. `F` is the type of an open file, whose bytes the system may leave unknown.
use Rattle.std.specs.Prelude.{◌≡◌, ℕ, ◌+◌, List, Option, Result, Ok, Err, ⊤, length, Vec}
use Rattle.std.specs.declared.alloc.Global.{Global}
use Rattle.std.specs.Io.KnownBytes.{Appends, Consumes, IsAtEnd}
use Rattle.rr_edge.specs.declared.ShelfFault.{ShelfFault}
use Rattle.rr_edge.specs.declared.ShelfFault.TheVariants.{Failed, Absent, TooLong, Memory}
use Rattle.rr_edge.specs.declared.file.FileShelf.{FileShelf}

-- how often the shelf has failed
abbrev pub file_fault_count : {R : Type 0} → FileShelf R → ℕ
file_fault_count shelf = shelf.faults

-- a file that was opened gave these bytes, one after the other, and nothing else
pub record Gave {F : Type 0} (remaining : F → Option (List ℕ)) (bytes : List ℕ) : Type 0 where
  pub opened : F
  pub left : F
  pub read : Consumes (remaining opened) (remaining left) bytes

-- a file that was opened gave these bytes to its end
pub record GaveAll {F : Type 0} (remaining : F → Option (List ℕ)) (bytes : List ℕ) : Type 0 where
  pub opened : F
  pub left : F
  pub read : Consumes (remaining opened) (remaining left) bytes
  pub end : IsAtEnd (remaining left)

-- a file that was opened took these bytes, one after the other, and nothing else
pub record Took {F : Type 0} (contents : F → Option (List ℕ)) (bytes : List ℕ) : Type 0 where
  pub opened : F
  pub closed : F
  pub written : Appends (contents opened) (contents closed) bytes

-- a read answers all bytes of a file, or that it gave one byte above the limit; no file is `Absent`
abbrev pub ReadsFile : {F : Type 0} → (F → Option (List ℕ)) → ℕ → Result (Vec ℕ Global) ShelfFault → Type 0
ReadsFile remaining limit (Ok bytes) = GaveAll remaining bytes.items
ReadsFile remaining limit (Err (TooLong n)) = (n ≡ limit + 1) × ((bytes : List ℕ) × (length bytes ≡ n) × Gave remaining bytes)
ReadsFile remaining limit (Err Absent) = ⊥
ReadsFile remaining limit (Err Failed) = ⊤
ReadsFile remaining limit (Err Memory) = ⊤

-- a write that succeeds has given all bytes to a file; it takes no memory
abbrev pub WritesFile : {T F : Type 0} → (F → Option (List ℕ)) → List ℕ → Result T ShelfFault → Type 0
WritesFile contents bytes (Ok t) = Took contents bytes
WritesFile contents bytes (Err (TooLong n)) = ⊥
WritesFile contents bytes (Err Absent) = ⊥
WritesFile contents bytes (Err Failed) = ⊤
WritesFile contents bytes (Err Memory) = ⊥
