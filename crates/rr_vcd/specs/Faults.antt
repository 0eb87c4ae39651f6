-- Why a text gives no table: it breaks the form of a dump at a line; or it has the form, and no scope has every input of the
-- top; or one has, and the rows are too many. Want of memory may come in place of any answer.
use Rattle.std.specs.Prelude.{ℕ, ◌≡◌, ◌<◌, List, length, Bool, Option}
use Rattle.rr_flat.specs.Plain.{Flat}
use Rattle.rr_flat.specs.declared.fault.Limit.TheVariants.{Rows}
use Rattle.rr_vcd_text.specs.Dump.{Declared, Told, IsDump}
use Rattle.rr_vcd_text.specs.Breaks.{IsBadAt}
use Rattle.rr_vcd_text.specs.declared.fault.DumpFault.{DumpFault}
use Rattle.rr_vcd_text.specs.declared.fault.DumpFault.TheVariants as dump
use Rattle.rr_trace.specs.Rows.{Row}
use Rattle.rr_vcd.specs.declared.fault.VcdFault.{VcdFault}
use Rattle.rr_vcd.specs.declared.fault.VcdFault.TheVariants.{BadVcd, NoScope, TooMany, Memory}
use Rattle.rr_vcd.specs.Tops.{Top, top_of}
use Rattle.rr_vcd.specs.Scopes.{has_inputs, HasNone}
use Rattle.rr_vcd.specs.Sampled.{Samples}

abbrev pub of_dump : DumpFault → VcdFault
of_dump (dump.BadVcd line) = BadVcd line
of_dump dump.Memory = Memory

pub record LacksScope (top : Top) (bytes : List ℕ) : Type 0 where
  pub declared : Declared
  pub told : List Told
  pub dump : IsDump bytes declared told
  pub none : HasNone (has_inputs top declared) declared.scopes

pub record PassesRows (top : Top) (bytes : List ℕ) : Type 0 where
  pub rows : List Row
  pub samples : Samples top bytes rows
  pub many : 65536 < length rows

abbrev pub RefusesVcd : Flat → Option ℕ → Bool → List ℕ → VcdFault → Type 0
RefusesVcd flat clock rising bytes (BadVcd line) = IsBadAt bytes line
RefusesVcd flat clock rising bytes NoScope = LacksScope (top_of flat clock rising) bytes
RefusesVcd flat clock rising bytes (TooMany limit count) = (limit ≡ Rows) × ((count ≡ 65537) × PassesRows (top_of flat clock rising) bytes)
RefusesVcd flat clock rising bytes Memory = Unit {0}
