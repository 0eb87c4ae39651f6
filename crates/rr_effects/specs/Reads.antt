-- What reads of names in order give. A read is a name with the most bytes that it may have.
use Rattle.std.specs.Prelude.{◌≡◌, ◌⊎◌, ⊤, ℕ, ◌<◌, ◌≤◌, List, [], ◌∷◌, Option, Some, None, length, IfSome, IsSomeAnd}
use Rattle.rr_edge.specs.Faults.{Faulted}
use Rattle.rr_edge.specs.Held.{Held}
use Rattle.rr_endings.specs.declared.ending.Ending.{Ending}
use Rattle.rr_endings.specs.declared.ending.Ending.TheVariants.{Usage, NoMemory, Absent, ReadFault, WriteFault, OutFault, Refused, Done}
use Rattle.rr_endings.specs.Refusals.{Refusal, TooManyBytes, Input, Flawed, plain_refusal}
use Rattle.rr_endings.specs.Texts.{absent_text, read_fault_text, memory_text, refused_text}

-- a read of the name gave these bytes
pub record Gave (told : Option Held) (name : List ℕ) (limit : ℕ) (bytes : List ℕ) : Type 0 where
  pub held : IfSome told (λ held. held name ≡ Some bytes)
  pub short : length bytes ≤ limit

-- the reads gave these files, in order
abbrev pub Given : Option Held → List (List ℕ × ℕ) → List (List ℕ) → Type 0
Given told [] [] = ⊤
Given told [] (file ∷ files) = ⊥
Given told (read ∷ reads) [] = ⊥
Given told (read ∷ reads) (file ∷ files) = Gave told read.0 read.1 file × Given told reads files

-- the first of these names that a told shelf does not hold, where those before it are held and short enough
abbrev pub AbsentAt : Option Held → List (List ℕ × ℕ) → List ℕ → Type 0
AbsentAt told [] name = ⊥
AbsentAt told (read ∷ reads) name = (IsSomeAnd told (λ held. held read.0 ≡ None) × (name ≡ read.0)) ⊎ (((bytes : List ℕ) × Gave told read.0 read.1 bytes) × AbsentAt told reads name)

-- the first of these names that has more bytes than its limit, and how many
abbrev pub TooLongAt : Option Held → List (List ℕ × ℕ) → ℕ → Type 0
TooLongAt told [] count = ⊥
TooLongAt told (read ∷ reads) count = ((read.1 < count) × IfSome told (λ held. (bytes : List ℕ) × (held read.0 ≡ Some bytes) × (length bytes ≡ count)))
    ⊎ (((bytes : List ℕ) × Gave told read.0 read.1 bytes) × TooLongAt told reads count)

-- a name whose read failed, where those before it are held and short enough
abbrev pub FaultAt : Option Held → List (List ℕ × ℕ) → List ℕ → Type 0
FaultAt told [] name = ⊥
FaultAt told (read ∷ reads) name = (name ≡ read.0) ⊎ (((bytes : List ℕ) × Gave told read.0 read.1 bytes) × FaultAt told reads name)

-- the refusal that is due by the reads alone: a file has too many bytes
abbrev pub RefusesReads : Option Held → List (List ℕ × ℕ) → Refusal → Type 0
RefusesReads told reads (TooManyBytes count) = TooLongAt told reads count
RefusesReads told reads (Input refusal) = ⊥
RefusesReads told reads (Flawed flaw line) = ⊥

-- how reads end that do not give all files: the count of faults, and the text that reports the ending
abbrev pub StopsReading : Option Held → List (List ℕ × ℕ) → ℕ → ℕ → Ending → List ℕ → Type 0
StopsReading told reads before now (NoMemory written) text = (written ≡ 0) × (now ≡ before) × (text ≡ memory_text)
StopsReading told reads before now (Absent name) text = (now ≡ before) × AbsentAt told reads name.now × (text ≡ absent_text name.now)
StopsReading told reads before now (ReadFault name) text = Faulted before now × FaultAt told reads name.now × (text ≡ read_fault_text name.now)
StopsReading told reads before now (Refused refusal) text = (now ≡ before) × RefusesReads told reads (plain_refusal refusal) × (text ≡ refused_text (plain_refusal refusal))
StopsReading told reads before now (WriteFault written) text = ⊥
StopsReading told reads before now Usage text = ⊥
StopsReading told reads before now OutFault text = ⊥
StopsReading told reads before now (Done status) text = ⊥
