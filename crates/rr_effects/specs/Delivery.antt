-- What carrying an answer out leaves: the files in order, then the piece on standard output, then the report.
use Rattle.std.specs.Prelude.{◌≡◌, ◌⊎◌, ℕ, ◌<◌, List, [], ◌∷◌, Option, length, take, get_or}
use Rattle.std.specs.Option.{option_map}
use Rattle.std.specs.Io.KnownBytes.{Appends}
use Rattle.rr_edge.specs.Faults.{Faulted}
use Rattle.rr_edge.specs.Held.{Held, put}
use Rattle.rr_edge.specs.Sink.{AppendsFront}
use Rattle.rr_endings.specs.declared.ending.Ending.{Ending}
use Rattle.rr_endings.specs.declared.ending.Ending.TheVariants.{Usage, NoMemory, Absent, ReadFault, WriteFault, OutFault, Refused, Done}
use Rattle.rr_endings.specs.Found.{File, Answer}
use Rattle.rr_endings.specs.Texts.{memory_text, out_fault_text, write_fault_text}
use Rattle.rr_effects.specs.Outside.{Outside, KeepsOut}

-- the map with one file more: its name has its bytes, and each other name what it had
abbrev pub with_file : Option Held → File → Option Held
with_file told file = option_map (λ held. put held file.0 file.1) told

-- .. with these files, the first one first
abbrev pub with_files : Option Held → List File → Option Held
with_files told [] = told
with_files told (file ∷ files) = with_files (with_file told file) files

abbrev pub no_file : File
no_file = ([], [])

-- the file with this number
abbrev pub file_at : List File → ℕ → File
file_at files k = get_or files k no_file

-- the files before the one with this number are whole, and that one has what it had or a front of its bytes
abbrev pub StopsAtWrite : Option Held → Option Held → List File → ℕ → Type 0
StopsAtWrite old new files k = (new ≡ with_files old (take k files)) ⊎ ((n : ℕ) × (new ≡ with_file (with_files old (take k files)) ((file_at files k).0, take n (file_at files k).1)))

-- How an answer is carried out, before its report. All files are written and the piece stands at the end of the output; or
-- the put failed, and a front of the piece stands there; or the write of a file failed, or memory ran out at it, and
-- nothing is put on the output.
abbrev pub Delivers : Answer → Outside → Outside → Ending → List ℕ → Type 0
Delivers answer before after (Done status) text = (after.held ≡ with_files before.held answer.files) × (after.faults ≡ before.faults) × Appends before.out after.out answer.out
    × (after.out_faults ≡ before.out_faults) × (status ≡ answer.status) × (text ≡ answer.notes)
Delivers answer before after OutFault text = (after.held ≡ with_files before.held answer.files) × (after.faults ≡ before.faults) × AppendsFront before.out after.out answer.out
    × Faulted before.out_faults after.out_faults × (text ≡ out_fault_text)
Delivers answer before after (WriteFault k) text = (k < length answer.files) × StopsAtWrite before.held after.held answer.files k × Faulted before.faults after.faults
    × KeepsOut before after × (text ≡ write_fault_text (file_at answer.files k).0)
Delivers answer before after (NoMemory k) text = (k < length answer.files) × (after.held ≡ with_files before.held (take k answer.files)) × (after.faults ≡ before.faults)
    × KeepsOut before after × (text ≡ memory_text)
Delivers answer before after Usage text = ⊥
Delivers answer before after (Absent name) text = ⊥
Delivers answer before after (ReadFault name) text = ⊥
Delivers answer before after (Refused refusal) text = ⊥

-- The text stands at the end of the notes and the status is the one due; or the put failed, a front of the text stands there and the status is 4.
abbrev pub Reports : Option (List ℕ) → Option (List ℕ) → ℕ → ℕ → List ℕ → ℕ → ℕ → Type 0
Reports old new faults_old faults_new text due status =
    (Appends old new text × (faults_new ≡ faults_old) × (status ≡ due)) ⊎ (AppendsFront old new text × Faulted faults_old faults_new × (status ≡ 4))
