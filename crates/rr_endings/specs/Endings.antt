-- The status of each ending.
use Rattle.std.specs.Prelude.{ℕ}
use Rattle.rr_endings.specs.declared.ending.Ending.{Ending}
use Rattle.rr_endings.specs.declared.ending.Ending.TheVariants.{Usage, NoMemory, Absent, ReadFault, WriteFault, OutFault, Refused, Done}

abbrev pub status_of : Ending → ℕ
status_of Usage = 6
status_of (NoMemory written) = 5
status_of (Absent name) = 4
status_of (ReadFault name) = 4
status_of (WriteFault written) = 4
status_of OutFault = 4
status_of (Refused refusal) = 3
status_of (Done status) = status
