-- How the program ends, by its arguments as the system hands them over.
use Rattle.std.specs.Prelude.{◌≡◌, ◌≢◌, ◌⊎◌, ℕ, List, [], map, string_bytes, Result, Ok, Err}
use Rattle.std.specs.Vec.Iter.{into_iter_items}
use Rattle.std.specs.IoError.{error_kind}
use Rattle.std.specs.declared.alloc.Global.{Global}
use Rattle.std.specs.declared.io.Error.{Error}
use Rattle.std.specs.declared.io.ErrorKind.{ErrorKind}
use Rattle.std.specs.declared.io.ErrorKind.TheVariants.{OutOfMemory}
use Rattle.std.specs.declared.string.String.{String}
use Rattle.std.specs.declared.vec.IntoIter.{IntoIter}
use Rattle.rr_words.specs.Usage.{usage_text}
use Rattle.rr_endings.specs.declared.ending.Ending.{Ending}
use Rattle.rr_endings.specs.declared.ending.Ending.TheVariants.{Usage, NoMemory}
use Rattle.rr_endings.specs.Endings.{status_of}
use Rattle.rr_endings.specs.Texts.{memory_text}
use Rattle.rr_effects.specs.Delivery.{Reports}
use Rattle.rr_effects.specs.Outside.{KeepsShelf, KeepsOut}
use Rattle.rr_top.specs.Execution.{Execution}
use Rattle.rr_top.specs.Whole.{IsRightRun}

-- the arguments are not had: shelf and output stay, and this is reported
pub record IsUnbegun (r : Execution) (ending : Ending) (text : List ℕ) : Type 0 where
  pub shelf : KeepsShelf r.before r.after
  pub out : KeepsOut r.before r.after
  pub reports : Reports r.notes_before r.notes_after r.notes_faults_before r.notes_faults_after text (status_of ending) r.status

-- want of memory; or usage, whatever else it is
abbrev pub IsUnbegunBy : ErrorKind → Execution → Type 0
IsUnbegunBy kind r = ((kind ≡ OutOfMemory) × IsUnbegun r (NoMemory 0) memory_text) ⊎ ((kind ≢ OutOfMemory) × IsUnbegun r Usage usage_text)

-- A run over the arguments, each by its bytes, or want of memory for these; or an error tells why there are none.
abbrev pub IsProgram : Result (IntoIter (String Global) Global) Error → (List (List ℕ) → Execution) → Type 0
IsProgram (Ok args) run = IsRightRun (run (map string_bytes (into_iter_items args))) ⊎ IsUnbegun (run []) (NoMemory 0) memory_text
IsProgram (Err error) run = IsUnbegunBy (error_kind error) (run [])
