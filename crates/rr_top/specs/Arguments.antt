-- The program's arguments, or why they are not had.
use Rattle.std.specs.Prelude.{◌≡◌, ◌≢◌, ◌⊎◌, Result, Ok, Err, Vec}
use Rattle.std.specs.Vec.Iter.{into_iter_items}
use Rattle.std.specs.IoError.{error_kind}
use Rattle.std.specs.declared.alloc.Global.{Global}
use Rattle.std.specs.declared.io.Error.{Error}
use Rattle.std.specs.declared.io.ErrorKind.{ErrorKind}
use Rattle.std.specs.declared.io.ErrorKind.TheVariants.{OutOfMemory}
use Rattle.std.specs.declared.string.String.{String}
use Rattle.std.specs.declared.vec.IntoIter.{IntoIter}
use Rattle.rr_words.specs.Usage.{usage_text}
use Rattle.rr_endings.specs.declared.ending.Ending.TheVariants.{Usage, NoMemory}
use Rattle.rr_endings.specs.declared.ending.Report.{Report}
use Rattle.rr_endings.specs.Texts.{memory_text}
use Rattle.rr_endings.specs.Views.{Says}

-- want of memory; or usage, whatever else it is
abbrev pub SaysWhyNone : ErrorKind → Report → Type 0
SaysWhyNone kind report = ((kind ≡ OutOfMemory) × Says report (NoMemory 0) memory_text) ⊎ ((kind ≢ OutOfMemory) × Says report Usage usage_text)

-- the arguments in their order, or memory ran out; of an error, why there are none
abbrev pub Takes : Result (IntoIter (String Global) Global) Error → Result (Vec (String Global) Global) Report → Type 0
Takes (Ok args) (Ok words) = words.items ≡ into_iter_items args
Takes (Ok args) (Err report) = Says report (NoMemory 0) memory_text
Takes (Err error) (Ok words) = ⊥
Takes (Err error) (Err report) = SaysWhyNone (error_kind error) report
