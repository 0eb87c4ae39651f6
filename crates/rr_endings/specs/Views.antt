-- What contracts see of texts, reports and answers.
use Rattle.std.specs.Prelude.{◌≡◌, ◌⊎◌, ⊤, ℕ, List, [], map, string_bytes}
use Rattle.rr_run.specs.declared.fault.RunFault.{RunFault}
use Rattle.rr_run.specs.declared.fault.RunFault.TheVariants as run_fault
use Rattle.rr_endings.specs.declared.text.Text.{Text}
use Rattle.rr_endings.specs.declared.text.Text.TheVariants.{Fixed, Made}
use Rattle.rr_endings.specs.declared.ending.Ending.{Ending}
use Rattle.rr_endings.specs.declared.ending.Ending.TheVariants.{NoMemory, Refused}
use Rattle.rr_endings.specs.declared.ending.Report.{Report}
use Rattle.rr_endings.specs.declared.found.Piece.{Piece}
use Rattle.rr_endings.specs.declared.found.Piece.TheVariants as piece
use Rattle.rr_endings.specs.declared.file.File.{File as RustFile}
use Rattle.rr_endings.specs.declared.found.Found.{Found}
use Rattle.rr_endings.specs.declared.refusal.Refusal.{Refusal as RustRefusal}
use Rattle.rr_endings.specs.declared.refusal.Refusal.TheVariants.{Input as RustInput}
use Rattle.rr_endings.specs.declared.refusal.Stop.{Stop}
use Rattle.rr_endings.specs.declared.refusal.Stop.TheVariants as stop
use Rattle.rr_endings.specs.Refusals.{Refusal, plain_refusal}
use Rattle.rr_endings.specs.Texts.{memory_text, refused_text}
use Rattle.rr_endings.specs.Found.{File, Answer}

abbrev pub text_bytes : Text → List ℕ
text_bytes (Fixed text) = text.now
text_bytes (Made text) = string_bytes text

abbrev pub report_text : Report → List ℕ
report_text report = text_bytes report.text

-- how the run ends, and the text that says so
abbrev pub Says : Report → Ending → List ℕ → Type 0
Says report ending text = (report.ending ≡ ending) × (report_text report ≡ text)

-- the name and the bytes of a file
abbrev pub file_of : RustFile → File
file_of file = (string_bytes file.name, file.bytes.items)

abbrev pub piece_bytes : Piece → List ℕ
piece_bytes piece.Nothing = []
piece_bytes (piece.Source bytes) = bytes.now
piece_bytes (piece.Made bytes) = bytes.items
piece_bytes (piece.Told text) = text_bytes text

abbrev pub plain_answer : Found → Answer
plain_answer found = record { status = found.status; files = map file_of found.files.items; out = piece_bytes found.out; notes = text_bytes found.notes }

-- a refusal with its text, or want of memory for the text
abbrev pub IsRefusedOrNoMemory : RustRefusal → Report → Type 0
IsRefusedOrNoMemory refusal report = ((report.ending ≡ Refused refusal) × (report_text report ≡ refused_text (plain_refusal refusal))) ⊎ ((report.ending ≡ NoMemory 0) × (report_text report ≡ memory_text))

-- the report of why there is no answer
abbrev pub Stops : Stop → Report → Type 0
Stops stop.Memory report = (report.ending ≡ NoMemory 0) × (report_text report ≡ memory_text)
Stops (stop.Refused refusal) report = IsRefusedOrNoMemory refusal report

-- a refusal that holds, or want of memory, which is free
abbrev pub StopsWhere : (Refusal → Type 0) → Stop → Type 0
StopsWhere P stop.Memory = ⊤
StopsWhere P (stop.Refused refusal) = P (plain_refusal refusal)

-- the refusal of a design or a table, or want of memory
abbrev pub stop_from : RunFault → Stop
stop_from (run_fault.Refused refusal) = stop.Refused (RustInput refusal)
stop_from run_fault.Memory = stop.Memory
