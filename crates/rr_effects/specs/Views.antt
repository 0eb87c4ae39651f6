-- What contracts see of reads and of what they give.
use Rattle.std.specs.Prelude.{◌≡◌, ℕ, ◌<◌, List, Option, Some, None, length, map, take, IfSome, IsSomeAnd, Result, Ok, Err, Vec}
use Rattle.std.specs.declared.alloc.Global.{Global}
use Rattle.rr_edge.specs.Faults.{Faulted}
use Rattle.rr_edge.specs.Held.{Held}
use Rattle.rr_endings.specs.declared.ending.Ending.{Ending}
use Rattle.rr_endings.specs.declared.ending.Ending.TheVariants.{Usage, NoMemory, Absent, ReadFault, WriteFault, OutFault, Refused, Done}
use Rattle.rr_endings.specs.declared.ending.Report.{Report}
use Rattle.rr_endings.specs.Found.{File}
use Rattle.rr_endings.specs.Refusals.{Refusal, TooManyBytes, Input, Flawed, plain_refusal}
use Rattle.rr_endings.specs.Texts.{absent_text, read_fault_text, memory_text, refused_text}
use Rattle.rr_endings.specs.Views.{report_text}
use Rattle.rr_effects.specs.declared.reads.Read.{Read}
use Rattle.rr_effects.specs.declared.delivery.WriteStop.{WriteStop}
use Rattle.rr_effects.specs.declared.delivery.WriteStop.TheVariants as stop
use Rattle.rr_effects.specs.Delivery.{with_files, StopsAtWrite}
use Rattle.rr_effects.specs.Reads.{Gave, Given, StopsReading}

-- the name and the limit
abbrev pub read_of : Read → List ℕ × ℕ
read_of read = (read.name.now, read.limit)

-- the bytes of each file
abbrev pub contents : List (Vec ℕ Global) → List (List ℕ)
contents = map (λ file. file.items)

-- the name has more bytes than the limit: so many
abbrev pub IsTooLong : Option Held → List ℕ → ℕ → Refusal → Type 0
IsTooLong told name limit (TooManyBytes count) = (limit < count) × IfSome told (λ held. (bytes : List ℕ) × (held name ≡ Some bytes) × (length bytes ≡ count))
IsTooLong told name limit (Input refusal) = ⊥
IsTooLong told name limit (Flawed flaw line) = ⊥

-- how a read of one name ends that gives no bytes
abbrev pub StopsRead : Option Held → List ℕ → ℕ → ℕ → ℕ → Ending → List ℕ → Type 0
StopsRead told name limit before now (NoMemory written) text = (written ≡ 0) × (now ≡ before) × (text ≡ memory_text)
StopsRead told name limit before now (Absent asked) text = (asked.now ≡ name) × (now ≡ before) × IsSomeAnd told (λ held. held name ≡ None) × (text ≡ absent_text name)
StopsRead told name limit before now (ReadFault asked) text = (asked.now ≡ name) × Faulted before now × (text ≡ read_fault_text name)
StopsRead told name limit before now (Refused refusal) text = (now ≡ before) × IsTooLong told name limit (plain_refusal refusal) × (text ≡ refused_text (plain_refusal refusal))
StopsRead told name limit before now (WriteFault written) text = ⊥
StopsRead told name limit before now Usage text = ⊥
StopsRead told name limit before now OutFault text = ⊥
StopsRead told name limit before now (Done status) text = ⊥

-- what a read of one name answers
abbrev pub FetchesOne : Option Held → List ℕ → ℕ → ℕ → ℕ → Result (Vec ℕ Global) Report → Type 0
FetchesOne told name limit before now (Ok bytes) = Gave told name limit bytes.items × (now ≡ before)
FetchesOne told name limit before now (Err report) = StopsRead told name limit before now report.ending (report_text report)

-- what reads in order answer: all files, or the first that stops them
abbrev pub Fetches : Option Held → List (List ℕ × ℕ) → ℕ → ℕ → Result (Vec (Vec ℕ Global) Global) Report → Type 0
Fetches told reads before now (Ok files) = Given told reads (contents files.items) × (now ≡ before)
Fetches told reads before now (Err report) = StopsReading told reads before now report.ending (report_text report)

-- what writes in order leave: all files; or the files before the one at which they stop
abbrev pub Written : {T : Type 0} → Option Held → Option Held → ℕ → ℕ → List File → Result T WriteStop → Type 0
Written old new before now files (Ok t) = (new ≡ with_files old files) × (now ≡ before)
Written old new before now files (Err (stop.Memory k)) = (k < length files) × (new ≡ with_files old (take k files)) × (now ≡ before)
Written old new before now files (Err (stop.Failed k)) = (k < length files) × StopsAtWrite old new files k × Faulted before now
