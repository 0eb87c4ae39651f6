-- Why two texts, or a file and a table, have no run: a fault of the design at one byte, a limit that is passed, or a fault of the
-- table.
use Rattle.std.specs.Prelude.{ℕ, ⊤, List}
use Rattle.rr_flat.specs.declared.fault.Limit.{Limit}
use Rattle.rr_run.specs.declared.fault.Fault.{Fault}
use Rattle.rr_run.specs.declared.fault.Refusal.{Refusal as RustRefusal}
use Rattle.rr_run.specs.declared.fault.Refusal.TheVariants as refusal
use Rattle.rr_run.specs.declared.fault.RunFault.{RunFault}
use Rattle.rr_run.specs.declared.fault.RunFault.TheVariants as fault

pub data Refusal : Type 0 where
  At : Fault → ℕ → Refusal
  TooMany : Limit → ℕ → Refusal
  Expanded : ℕ → Refusal
  NoHeader : Refusal
  UnknownColumn : ℕ → Refusal
  ColumnTwice : ℕ → Refusal
  MissingInput : List ℕ → Refusal
  RowLength : ℕ → Refusal
  BadCell : ℕ → ℕ → Refusal
  CellTooLarge : ℕ → ℕ → Refusal
  NotUtf8 : Refusal
  BadVcd : ℕ → Refusal
  NoScope : Refusal

-- the bytes of the input's name in the place of the text
abbrev pub plain_refusal : RustRefusal → Refusal
plain_refusal (refusal.At what at) = At what at
plain_refusal (refusal.TooMany limit count) = TooMany limit count
plain_refusal (refusal.Expanded count) = Expanded count
plain_refusal refusal.NoHeader = NoHeader
plain_refusal (refusal.UnknownColumn column) = UnknownColumn column
plain_refusal (refusal.ColumnTwice column) = ColumnTwice column
plain_refusal (refusal.MissingInput name) = MissingInput name.now
plain_refusal (refusal.RowLength row) = RowLength row
plain_refusal (refusal.BadCell row column) = BadCell row column
plain_refusal (refusal.CellTooLarge row column) = CellTooLarge row column
plain_refusal refusal.NotUtf8 = NotUtf8
plain_refusal (refusal.BadVcd line) = BadVcd line
plain_refusal refusal.NoScope = NoScope

-- a refusal that holds, or want of memory, which is free
abbrev pub StopsWhere : (Refusal → Type 0) → RunFault → Type 0
StopsWhere P (fault.Refused r) = P (plain_refusal r)
StopsWhere P fault.Memory = ⊤
